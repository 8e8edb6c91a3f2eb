use Rattle.std.proofs.Common.{◌∙◌}
use Rattle.cases.proofs.Lines.{number_parsed}
use Rattle.cases.proofs.split.number_of.Goals as goal

pub returns : goal.returns
returns c = c.unwrap_or.ensures ∙ number_parsed c.args.word.now c.parse.result c.parse.ensures.value.0
