use Rattle.std.specs.Prelude.{not}
use Rattle.std.specs.List.{filter}
use Rattle.std.proofs.Common.{◌≡◌, ◌++◌, drop}
use Rattle.java_ast.specs.Reading.{statement}
use Rattle.loop_text.specs.Statements.Setting.{touches}
use Rattle.java_ast.specs.Names.{names_lent}
use Rattle.loop_text.proofs.updates.starts.untouched.Given as goal

abbrev pub invariant-loop-x : goal.invariant-loop-x
invariant-loop-x l = names_lent l.left ++ filter (λ x. not (touches x (statement l.s))) (names_lent (drop l.x-index l.xs)) ≡ filter (λ x. not (touches x (statement l.s))) (names_lent l.xs)
