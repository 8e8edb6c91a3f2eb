use Rattle.std.proofs.Common.{◌≡◌, drop}
use Rattle.java_ast.specs.Reading.{statements}
use Rattle.loop_text.specs.Kernel.KernelConditions.{first_setting}
use Rattle.loop_text.proofs.conditions.asked.first_setting.Given as goal

abbrev pub invariant-loop-s : goal.invariant-loop-s
invariant-loop-s l = first_setting l.x (statements (drop l.s-index l.run)) ≡ first_setting l.x (statements l.run)
