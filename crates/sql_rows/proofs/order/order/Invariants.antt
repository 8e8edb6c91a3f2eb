use Rattle.std.proofs.Common.{◌≡◌, drop}
use Rattle.sql_ast.specs.Meaning.{before}
use Rattle.sql_rows.specs.Reading.{combination}
use Rattle.sql_rows.proofs.order.order.Given as goal

abbrev pub invariant-loop-key : goal.invariant-loop-key
invariant-loop-key l = before (drop l.key-index l.keys) (combination l.c) (combination l.d) ≡ before l.keys (combination l.c) (combination l.d)
