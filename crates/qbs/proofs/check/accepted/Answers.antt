use Rattle.std.proofs.Common.{◌∙◌}
use Rattle.qbs.proofs.Lined.{accepted_lined}
use Rattle.qbs.proofs.check.accepted.Goals as goal

pub returns : goal.returns
returns c = c.in_ok-text.ensures.ok ∙ accepted_lined c.args.n
