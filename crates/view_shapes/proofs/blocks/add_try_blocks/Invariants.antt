use Rattle.std.proofs.Common.{◌≡◌, ◌<◌, ◌-◌, ◌^◌, ◌++◌, length}
use Rattle.view_shapes.specs.Blocks.{try_blocks}
use Rattle.view_shapes.proofs.blocks.add_try_blocks.Given as goal

abbrev pub invariant-loop : goal.invariant-loop
invariant-loop l = record {
  so_far : l.blocks ++ try_blocks (l.end - l.counter) l.items l.closings l.number ≡ l.fn.blocks ++ try_blocks (length l.items) l.items l.closings l.first;
  room : l.number < 2 ^ 63;
}
