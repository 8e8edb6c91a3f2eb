use Rattle.view_scope.proofs.Stood.{stood_over, stood_next, stood_end}
use Rattle.view_scope.specs.Standing.{stands_in}
use Rattle.view_scope.proofs.standing.add_standing.Goals as goal

pub returns-in_default : goal.returns-in_default
returns-in_default c = stood_over (stands_in c.args.block) _ _ _ _ _ _ _ c.loop.invariant c.loop-test.true c.in_default.ensures.value

pub loop-preserved : goal.loop-preserved
loop-preserved c = stood_next (stands_in c.args.block) _ _ _ _ _ _ _ _ _ c.loop.invariant c.loop-test.true c.in-Some.ensures.value c.in_ok-push.ensures.ok

pub returns : goal.returns
returns c = stood_end (stands_in c.args.block) _ _ _ _ _ _ _ c.loop.invariant c.loop-test.false
