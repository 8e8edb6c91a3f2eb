use Rattle.std.proofs.Common.{◌≡◌, ◌++◌, ℕ, List, drop}
use Rattle.java_ast.specs.Reading.{statements}
use Rattle.loop_setting.specs.Wanted.{under}
use Rattle.loop_text.specs.Statements.Wanted.{setting}
use Rattle.loop_setting.proofs.kept.setters.setters_of.Given as goal

abbrev pub invariant-loop-s : goal.invariant-loop-s
invariant-loop-s l = (x : List ℕ) → under l.setters x ++ setting x (statements (drop l.s-index l.run)) ≡ setting x (statements l.run)
