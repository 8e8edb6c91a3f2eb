use Rattle.std.proofs.Common.{◌≡◌, drop}
use Rattle.sql_ast.specs.Knowns.{knowns_of}
use Rattle.sql_ast.specs.Names.{each_of, known_part}
use Rattle.sql_parse.specs.Said.{parts_of}
use Rattle.sql_parse.proofs.Each.{after_front}
use Rattle.sql_parse.proofs.scope.each_part.Given as goal

abbrev pub invariant-loop-number : goal.invariant-loop-number
invariant-loop-number l = after_front (knowns_of l.own.items) (each_of (known_part l.schema) (parts_of (drop l.number l.parts))) ≡ each_of (known_part l.schema) (parts_of l.parts)
