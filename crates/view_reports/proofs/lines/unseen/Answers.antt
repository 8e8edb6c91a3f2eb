use Rattle.std.proofs.Common.{◌∙◌}
use Rattle.view_reports.proofs.Lined.{unseen_lined}
use Rattle.view_reports.proofs.lines.unseen.Goals as goal

pub returns : goal.returns
returns c = c.in_ok-text.ensures.ok ∙ unseen_lined c.args.at c.args.rule c.args.because _ _ c.in_ok-place_of_loop.ensures c.in_ok-place_of_cause.ensures
