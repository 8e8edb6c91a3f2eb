use Rattle.std.proofs.Common.{◌∙◌}
use Rattle.view_reports.proofs.Lined.{slice_lined}
use Rattle.view_reports.proofs.lines.slice.Goals as goal

pub returns : goal.returns
returns c = c.in_ok-text.ensures.ok ∙ slice_lined c.args.k c.args.at _ c.in_ok-place.ensures
