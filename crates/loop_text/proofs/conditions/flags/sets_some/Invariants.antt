use Rattle.std.proofs.Common.{◌≡◌, drop}
use Rattle.java_ast.specs.Reading.{expressions, statements}
use Rattle.loop_text.specs.Kernel.KernelConditions.{sets_some}
use Rattle.java_ast.specs.Names.{names_among}
use Rattle.loop_text.proofs.conditions.flags.sets_some.Given as goal

abbrev pub invariant-loop-s : goal.invariant-loop-s
invariant-loop-s l = sets_some (names_among (expressions l.es)) (statements (drop l.s-index l.run)) ≡ sets_some (names_among (expressions l.es)) (statements l.run)
