use Rattle.std.proofs.Common.{◌≡◌, drop}
use Rattle.java_ast.specs.Reading.{statements}
use Rattle.loop_text.specs.Statements.Setting.{first_touching}
use Rattle.loop_text.proofs.statements.runs.first_touching.Given as goal

abbrev pub invariant-loop-s : goal.invariant-loop-s
invariant-loop-s l = first_touching l.x (statements (drop l.s-index l.run)) ≡ first_touching l.x (statements l.run)
