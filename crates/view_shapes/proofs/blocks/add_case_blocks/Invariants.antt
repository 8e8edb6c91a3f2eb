use Rattle.std.proofs.Common.{◌≡◌, ◌-◌, ◌++◌, length}
use Rattle.view_shapes.specs.Blocks.{case_blocks}
use Rattle.view_shapes.proofs.blocks.add_case_blocks.Given as goal

abbrev pub invariant-loop : goal.invariant-loop
invariant-loop l = l.blocks ++ case_blocks (l.end - l.counter) l.items l.closings l.number ≡ l.fn.blocks ++ case_blocks (length l.items) l.items l.closings l.first
