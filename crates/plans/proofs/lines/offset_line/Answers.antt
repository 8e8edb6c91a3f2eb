use Rattle.std.proofs.Common.{◌∙◌}
use Rattle.plans.proofs.Lined.{offset_lined}
use Rattle.plans.proofs.lines.offset_line.Goals as goal

pub returns : goal.returns
returns c = c.in_ok-line.ensures.ok ∙ offset_lined c.args.fault.now
