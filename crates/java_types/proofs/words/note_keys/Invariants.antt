use Rattle.std.proofs.Common.{◌≡◌, drop, Some}
use Rattle.java_mean.specs.Rules as rules
use Rattle.java_mean.specs.WellTyped.{marked}
use Rattle.java_mean.specs.declared.rule.TypeRule.TheVariants as broken
use Rattle.java_mean.specs.Least.{least}
use Rattle.java_types.proofs.words.note_keys.Given as goal

abbrev pub invariant-loop-key : goal.invariant-loop-key
invariant-loop-key l = least l.kept (marked broken.Unknown (rules.unknown_keys l.schema (Some l.a) (drop l.key-index l.keys) l.at)) ≡ least l.initial.kept (marked broken.Unknown (rules.unknown_keys l.schema (Some l.a) l.keys l.at))
