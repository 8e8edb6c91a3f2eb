use Rattle.std.proofs.Common.{rules, ◌<◌, ◌^◌}
use Rattle.view_shapes.proofs.Listed.{try_over, try_last, try_next, try_end}
use Rattle.view_shapes.proofs.blocks.add_try_blocks.Goals as goal

pub returns-in_default : goal.returns-in_default
returns-in_default c = try_over _ _ _ _ _ _ _ c.loop.invariant.so_far c.loop-test.true c.in_default.ensures.value

pub returns-in_default-next_clause : goal.returns-in_default-next_clause
returns-in_default-next_clause c =
    try_last _ _ _ _ _ _ _ _ _ c.loop.invariant.so_far c.loop-test.true c.in-Some.ensures.value c.in_ok-add_block.ensures c.in_default-next_clause.ensures.value

pub loop-preserved : goal.loop-preserved
loop-preserved c =
    let room : c.in-Some-next_clause.next < 2 ^ 63 = search rules in
    record {
      so_far = try_next _ _ _ _ _ _ _ _ _ _ c.loop.invariant.so_far c.loop-test.true c.in-Some.ensures.value c.in_ok-add_block.ensures c.in-Some-next_clause.ensures.value;
      room = room;
    }

pub returns : goal.returns
returns c = try_end _ _ _ _ _ _ _ c.loop.invariant.so_far c.loop-test.false
