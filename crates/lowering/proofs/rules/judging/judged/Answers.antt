use Rattle.std.specs.Option.{option_map}
use Rattle.std.proofs.Common.{sym, ap, ◌∙◌}
use Rattle.lowering.specs.Lowers.{broken_in_code}
use Rattle.lowering.specs.InCode.Reading.{setting_in_code}
use Rattle.lowering.proofs.Ruled.Judged.{first_breaks, middle_breaks}
use Rattle.lowering.proofs.rules.judging.judged.Goals as goal

pub returns-in-Some-clause-outside : goal.returns-in-Some-clause-outside
returns-in-Some-clause-outside c =
    first_breaks (setting_in_code c.args.w.now) (broken_in_code c.in-Some.outside) (sym c.broken_first.ensures ∙ ap (option_map broken_in_code) c.in-Some.is)

pub returns-in-Some-2-clause-outside : goal.returns-in-Some-2-clause-outside
returns-in-Some-2-clause-outside c =
    middle_breaks (setting_in_code c.args.w.now) (broken_in_code c.in-Some-2.outside) (sym c.broken_first.ensures ∙ ap (option_map broken_in_code) c.in-None.is) (sym c.in_ok-outside-in-None.ensures ∙ ap (option_map broken_in_code) c.in-Some-2.is)
