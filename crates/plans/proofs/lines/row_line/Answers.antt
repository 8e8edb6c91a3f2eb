use Rattle.std.proofs.Common.{◌∙◌}
use Rattle.plans.proofs.Lined.{row_lined}
use Rattle.plans.proofs.lines.row_line.Goals as goal

pub returns : goal.returns
returns c = c.in_ok-line.ensures.ok ∙ row_lined c.args.table.now c.args.number c.args.name.now c.args.row
