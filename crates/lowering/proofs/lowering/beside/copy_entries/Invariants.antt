use Rattle.std.proofs.Common.{◌≡◌, ◌++◌, drop, map}
use Rattle.java_ast.specs.Reading.{expression}
use Rattle.loop_text.specs.Sites.Reading.{exprs_lent}
use Rattle.lowering.proofs.lowering.beside.copy_entries.Given as goal

abbrev pub invariant-loop-e : goal.invariant-loop-e
invariant-loop-e l = map expression l.copies ++ exprs_lent (drop l.e-index l.entries) ≡ exprs_lent l.entries
