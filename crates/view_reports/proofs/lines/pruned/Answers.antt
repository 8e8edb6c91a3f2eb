use Rattle.std.proofs.Common.{◌∙◌}
use Rattle.verdicts.proofs.Lined.{pruned_lined}
use Rattle.view_reports.proofs.lines.pruned.Goals as goal

pub returns : goal.returns
returns c = c.in_ok-text.ensures.ok ∙ pruned_lined c.args.n
