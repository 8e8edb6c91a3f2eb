use Rattle.std.proofs.Common.{◌∙◌}
use Rattle.verdicts.proofs.Lined.{verdict_lined}
use Rattle.view_reports.proofs.lines.tried.Goals as goal

pub returns : goal.returns
returns c = c.in_ok-text.ensures.ok ∙ verdict_lined c.args.v _ _ c.in_ok-place.ensures c.in_ok-said.ensures
