use Rattle.std.proofs.Common.{◌∙◌, ap}
use Rattle.words.specs.Reading.{spelled}
use Rattle.words.proofs.Exact.{flag_arm, same_arm}
use Rattle.words.proofs.read.+options.Goals as goal

pub options_of-returns-in-Flag : goal.options_of-returns-in-Flag
options_of-returns-in-Flag t c =
    flag_arm c.args.verb c.args.words.now c.first-item.result c.args.options c.in-Flag.key c.option_then.result
    c.in-len1-up.len_at_least c.first-item.is (c.in-Flag.ensures ∙ ap spelled c.as_str.ensures) c.option_then.ensures

pub options_of-returns-in-Same : goal.options_of-returns-in-Same
options_of-returns-in-Same t c =
    same_arm c.args.verb c.args.words.now c.first-item.result c.args.options c.in-Same.key c.in-Same.value.now c.option_then-in-Same.result
    c.in-len1-up.len_at_least c.first-item.is (c.in-Same.ensures ∙ ap spelled c.as_str.ensures) c.option_then-in-Same.ensures
