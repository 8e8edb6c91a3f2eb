use Rattle.view_shapes.proofs.Parts.{members_over, members_next, members_end}
use Rattle.view_shapes.proofs.members.members_of.Goals as goal

pub returns-in_default : goal.returns-in_default
returns-in_default c = members_over _ _ _ _ _ _ _ c.loop.invariant c.loop-test.true c.in_default.ensures.value

pub loop-preserved : goal.loop-preserved
loop-preserved c = members_next _ _ _ _ _ _ _ _ _ c.loop.invariant c.loop-test.true c.in-Some.ensures.value c.in_ok-push.ensures.ok

pub returns : goal.returns
returns c = members_end _ _ _ _ _ _ _ c.loop.invariant c.loop-test.false
