use Rattle.std.proofs.Common.{◌≡◌, ◌++◌, drop, map}
use Rattle.loop_text.specs.Kernel.KernelConditions.{asked_for}
use Rattle.java_loops.specs.Lowering.Lowered.{numbers_of_arguments}
use Rattle.java_loops.specs.Lowering.Numbering.{arguments_asked}
use Rattle.loop_text.specs.Sites.Reading.{exprs_lent}
use Rattle.java_ast.specs.Names.{names_lent}
use Rattle.lowering.specs.InCode.Reading.{setting_in_code}
use Rattle.lowering.proofs.lowering.beside.arguments_of.Given as goal

abbrev pub invariant-loop-x : goal.invariant-loop-x
invariant-loop-x l = l.all ++ map (λ x. numbers_of_arguments (exprs_lent l.entries) (arguments_asked (asked_for (setting_in_code l.w).fragment.run x))) (names_lent (drop l.x-index l.known)) ≡ map (λ x. numbers_of_arguments (exprs_lent l.entries) (arguments_asked (asked_for (setting_in_code l.w).fragment.run x))) (names_lent l.known)
