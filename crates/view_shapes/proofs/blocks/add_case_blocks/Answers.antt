use Rattle.view_shapes.proofs.Listed.{case_over, case_last, case_next, case_end}
use Rattle.view_shapes.proofs.blocks.add_case_blocks.Goals as goal

pub returns-then-is_over : goal.returns-then-is_over
returns-then-is_over c = case_over _ _ _ _ _ _ _ c.loop.invariant c.loop-test.true c.if-is_over.ensures.value

pub returns-in_default : goal.returns-in_default
returns-in_default c = case_last _ _ _ _ _ _ _ _ c.loop.invariant c.loop-test.true c.if-is_over.ensures.value c.in_ok-add_case_block.ensures c.in_default.ensures.value

pub loop-preserved : goal.loop-preserved
loop-preserved c = case_next _ _ _ _ _ _ _ _ _ c.loop.invariant c.loop-test.true c.if-is_over.ensures.value c.in_ok-add_case_block.ensures c.in-Some.ensures.value

pub returns : goal.returns
returns c = case_end _ _ _ _ _ _ _ c.loop.invariant c.loop-test.false
