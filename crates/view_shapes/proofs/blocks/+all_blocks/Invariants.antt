use Rattle.std.proofs.Common.{◌≡◌, ◌+◌, ◌-◌, ◌*◌, ◌++◌, drop}
use Rattle.std.specs.List.{flat_map}
use Rattle.view_shapes.specs.Blocks.{inner_blocks, statements_in, blocks_below, blocks_under}
use Rattle.view_shapes.proofs.blocks.+all_blocks.Given as goal

abbrev pub decreases-add_all : goal.decreases-add_all
decreases-add_all l = 2 * l.levels

abbrev pub decreases-add_below : goal.decreases-add_below
decreases-add_below l = 2 * l.levels + 1

abbrev pub invariant-add_all-loop : goal.invariant-add_all-loop
invariant-add_all-loop l =
    l.blocks ++ flat_map (blocks_below (blocks_under (l.levels - 1) l.items l.closings) l.items l.closings) (statements_in (l.end - l.counter) l.items l.closings l.number)
    ≡ l.fn.blocks ++ blocks_under l.levels l.items l.closings l.fn.block

abbrev pub invariant-add_below-loop-block : goal.invariant-add_below-loop-block
invariant-add_below-loop-block l =
    l.blocks ++ flat_map (blocks_under l.levels l.items l.closings) (drop l.block-index l.block-items)
    ≡ l.fn.blocks ++ flat_map (blocks_under l.levels l.items l.closings) (inner_blocks l.items l.closings l.fn.number)
