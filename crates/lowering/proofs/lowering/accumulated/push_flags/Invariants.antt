use Rattle.std.proofs.Common.{◌≡◌, ◌++◌, drop, map}
use Rattle.kernel_lang.specs.Plain.{accumulator}
use Rattle.tor_terms.specs.Plain.{forms_of}
use Rattle.lowering.specs.InCode.Contexts.{numbers_given, setting_given}
use Rattle.java_loops.specs.Lowering.Lowered.{flags_from}
use Rattle.loop_text.specs.Sites.Reading.{site_of}
use Rattle.lowering.proofs.lowering.accumulated.push_flags.Given as goal

abbrev pub invariant-loop-d : goal.invariant-loop-d
invariant-loop-d l = map accumulator l.accs ++ flags_from (setting_given l.context) (numbers_given l.context) (forms_of l.conditions) l.d (map site_of (drop l.d l.context.setting.now.sites.now)) ≡ map accumulator l.fn.accs ++ flags_from (setting_given l.context) (numbers_given l.context) (forms_of l.conditions) 0 (map site_of l.context.setting.now.sites.now)
