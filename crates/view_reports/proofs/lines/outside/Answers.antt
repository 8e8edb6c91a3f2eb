use Rattle.std.proofs.Common.{◌∙◌}
use Rattle.verdicts.proofs.Lined.{outside_lined}
use Rattle.view_reports.proofs.lines.outside.Goals as goal

pub returns : goal.returns
returns c = c.in_ok-text.ensures.ok ∙ outside_lined c.args.rule c.args.at _ c.in_ok-place.ensures
