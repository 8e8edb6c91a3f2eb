use Rattle.std.proofs.Common.{◌≡◌, ◌++◌, drop}
use Rattle.std.specs.List.{flat_map}
use Rattle.view_shapes.specs.Blocks.{blocks_of}
use Rattle.view_scope.specs.Standing.{standing_in}
use Rattle.view_scope.proofs.standing.standing_of.Given as goal

abbrev pub invariant-loop-block : goal.invariant-loop-block
invariant-loop-block l = l.list ++ flat_map (standing_in l.items l.closings) (drop l.block-index l.block-items) ≡ flat_map (standing_in l.items l.closings) (blocks_of l.items l.closings l.fn.body)
