use Rattle.std.proofs.Common.{◌-◌}
use Rattle.view_shapes.proofs.Below.{no_level, begun, below_over, below_next, below_end}
use Rattle.view_shapes.specs.Blocks.{blocks_under}
use Rattle.view_shapes.proofs.blocks.+all_blocks.Goals as goal

pub add_all-returns-then-levels-eq0 : goal.add_all-returns-then-levels-eq0
add_all-returns-then-levels-eq0 limit c = no_level _ _ _ _ _ c.if-levels-eq0.true

pub add_all-loop-init : goal.add_all-loop-init
add_all-loop-init limit c = begun _ _ _ _ _ _ c.if-levels-eq0.false c.in_ok-push.ensures.ok

pub add_all-returns-in_default : goal.add_all-returns-in_default
add_all-returns-in_default limit c = below_over (blocks_under (c.args.levels - 1) c.args.items.now c.args.closings.now) _ _ _ _ _ _ _ c.loop.invariant c.loop-test.true c.in_default.ensures.value

pub add_all-loop-preserved : goal.add_all-loop-preserved
add_all-loop-preserved limit c =
    below_next (blocks_under (c.args.levels - 1) c.args.items.now c.args.closings.now) _ _ _ _ _ _ _ _ _ c.loop.invariant c.loop-test.true c.in-Some.ensures.value c.in_ok-add_below.ensures

pub add_all-returns : goal.add_all-returns
add_all-returns limit c = below_end (blocks_under (c.args.levels - 1) c.args.items.now c.args.closings.now) _ _ _ _ _ _ _ c.loop.invariant c.loop-test.false
