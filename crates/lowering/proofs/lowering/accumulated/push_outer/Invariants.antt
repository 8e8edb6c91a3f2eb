use Rattle.std.proofs.Common.{◌≡◌, ◌++◌, drop, map}
use Rattle.kernel_lang.specs.Plain.{accumulator}
use Rattle.tor_terms.specs.Plain.{forms_of}
use Rattle.lowering.specs.InCode.Contexts.{numbers_given, setting_given}
use Rattle.java_loops.specs.Lowering.Lowered.{outer_accumulators}
use Rattle.java_ast.specs.Names.{names_lent}
use Rattle.lowering.proofs.lowering.accumulated.push_outer.Given as goal

abbrev pub invariant-loop-x : goal.invariant-loop-x
invariant-loop-x l = map accumulator l.accs ++ outer_accumulators (setting_given l.context) (numbers_given l.context) (forms_of l.conditions) (names_lent (drop l.x-index l.names)) ≡ map accumulator l.fn.accs ++ outer_accumulators (setting_given l.context) (numbers_given l.context) (forms_of l.conditions) (names_lent l.names)
