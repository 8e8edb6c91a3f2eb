use Rattle.std.proofs.Common.{◌∙◌}
use Rattle.view_reports.proofs.Lined.{unlike_lined}
use Rattle.view_reports.proofs.lines.unlike.Goals as goal

pub returns : goal.returns
returns c = c.in_ok-text.ensures.ok ∙ unlike_lined c.args.at _ c.in_ok-place.ensures
