use Rattle.std.proofs.Common.{◌≡◌, ◌++◌, drop, map}
use Rattle.tor_terms.specs.Plain.{forms_of}
use Rattle.lowering.specs.InCode.Contexts.{numbers_given, setting_given}
use Rattle.java_loops.specs.Lowering.Lowered.{conditions_of, forms_from}
use Rattle.loop_text.specs.Sites.Reading.{site_of}
use Rattle.lowering.proofs.lowering.guards.conditions_of.Given as goal

abbrev pub invariant-loop-n : goal.invariant-loop-n
invariant-loop-n l = forms_of l.forms ++ forms_from (setting_given l.context) (numbers_given l.context) l.n (map site_of (drop l.n l.context.setting.now.sites.now)) ≡ conditions_of (setting_given l.context) (numbers_given l.context)
