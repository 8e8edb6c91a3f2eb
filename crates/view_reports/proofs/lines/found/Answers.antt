use Rattle.std.proofs.Common.{◌∙◌}
use Rattle.verdicts.proofs.Lined.{found_lined}
use Rattle.view_reports.proofs.lines.found.Goals as goal

pub returns : goal.returns
returns c = c.in_ok-text.ensures.ok ∙ found_lined c.args.k
