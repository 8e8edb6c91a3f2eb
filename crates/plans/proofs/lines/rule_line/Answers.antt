use Rattle.std.proofs.Common.{◌∙◌}
use Rattle.plans.proofs.Lined.{rule_lined}
use Rattle.plans.proofs.lines.rule_line.Goals as goal

pub returns : goal.returns
returns c = c.in_ok-line.ensures.ok ∙ rule_lined c.args.text.now c.args.number c.args.name.now c.args.at
