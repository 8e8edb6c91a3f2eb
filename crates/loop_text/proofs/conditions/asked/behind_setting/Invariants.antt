use Rattle.std.proofs.Common.{◌≡◌, drop}
use Rattle.java_ast.specs.Reading.{statements}
use Rattle.loop_text.specs.Kernel.KernelConditions.{behind_setting}
use Rattle.loop_text.proofs.conditions.asked.behind_setting.Given as goal

abbrev pub invariant-loop-i : goal.invariant-loop-i
invariant-loop-i l = behind_setting l.x (statements (drop l.i l.run)) ≡ behind_setting l.x (statements l.run)
