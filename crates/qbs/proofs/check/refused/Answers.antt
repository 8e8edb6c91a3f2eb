use Rattle.std.proofs.Common.{◌∙◌}
use Rattle.qbs.proofs.Lined.{refused_lined}
use Rattle.qbs.proofs.check.refused.Goals as goal

pub returns : goal.returns
returns c = c.in_ok-text.ensures.ok ∙ refused_lined c.args.ordinal
