use Rattle.qbs.proofs.Worded.{done_by}
use Rattle.qbs.proofs.top.carry_out.Goals as goal

pub returns-in-Ok-clause-done : goal.returns-in-Ok-clause-done
returns-in-Ok-clause-done g c = done_by _ _ c.args.words.now _ _ _ c.plan_of.result c.in-Ok.plan c.in-Ok.is c.plan_of.ensures.due c.deliver_plan.ensures
