use Rattle.std.proofs.Common.{◌∙◌}
use Rattle.verdicts.proofs.Lined.{none_lined}
use Rattle.view_reports.proofs.lines.none_of.Goals as goal

pub returns : goal.returns
returns c = c.in_ok-text.ensures.ok ∙ none_lined c.args.n
