use Rattle.std.proofs.Common.{◌∙◌}
use Rattle.verdicts.proofs.Lined.{budget_lined}
use Rattle.view_reports.proofs.lines.budget.Goals as goal

pub returns : goal.returns
returns c = c.in_ok-text.ensures.ok ∙ budget_lined c.args.b c.args.n
