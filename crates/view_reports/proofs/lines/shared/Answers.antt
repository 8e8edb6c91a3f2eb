use Rattle.std.proofs.Common.{◌∙◌}
use Rattle.view_reports.proofs.Lined.{shared_lined}
use Rattle.view_reports.proofs.lines.shared.Goals as goal

pub returns : goal.returns
returns c = c.in_ok-text.ensures.ok ∙ shared_lined c.args.at _ c.in_ok-place.ensures
