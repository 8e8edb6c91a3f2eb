use Rattle.view_scope.proofs.Stood.{leaves_over, leaves_next, leaves_end}
use Rattle.view_scope.proofs.guards.ends_leaving.Goals as goal

pub returns-in_default : goal.returns-in_default
returns-in_default c = leaves_over _ _ _ _ _ _ _ c.loop.invariant c.loop-test.true c.in_default.ensures.value

pub loop-preserved : goal.loop-preserved
loop-preserved c = leaves_next _ _ _ _ _ _ _ _ _ c.loop.invariant c.loop-test.true c.in-Some.ensures.value c.leaves-leaving.ensures

pub returns : goal.returns
returns c = leaves_end _ _ _ _ _ _ _ c.loop.invariant c.loop-test.false
