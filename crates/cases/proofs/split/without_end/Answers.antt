use Rattle.cases.proofs.Lines.{end_stripped}
use Rattle.cases.proofs.split.without_end.Goals as goal

pub returns : goal.returns
returns c = end_stripped c.args.end.now c.args.text.now c.strip_suffix.result c.strip_suffix.ensures.cases
