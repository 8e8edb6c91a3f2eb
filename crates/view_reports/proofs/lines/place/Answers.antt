use Rattle.std.proofs.Common.{◌∙◌}
use Rattle.view_reports.proofs.Lined.{place_lined}
use Rattle.view_reports.proofs.lines.place.Goals as goal

pub returns : goal.returns
returns c = c.in_ok-text.ensures.ok ∙ place_lined c.args.at
