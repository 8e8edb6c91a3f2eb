use Rattle.cases.proofs.calls.came_of.Goals as goal

pub returns : goal.returns
returns c = (c.qbs_main-status.result, c.code.ensures)
