-- The statements of a method's blocks, each with its block.
use Rattle.std.specs.Prelude.{ℕ, List, map}
use Rattle.std.specs.List.{flat_map}
use Rattle.view_items.specs.declared.item.Item.{Item}
use Rattle.view_shapes.specs.declared.members.Stretch.{Stretch}
use Rattle.view_shapes.specs.Blocks.{statements_of, blocks_of}
use Rattle.view_scope.specs.declared.standing.Standing.{Standing}

abbrev pub stands_in : Stretch → Stretch → Standing
stands_in block statement = record { block = block; statement = statement }

abbrev pub standing_in : List Item → List ℕ → Stretch → List Standing
standing_in items closings block = map (stands_in block) (statements_of items closings block.from)

-- the statements of the blocks of a body
abbrev pub standing_of : List Item → List ℕ → Stretch → List Standing
standing_of items closings body = flat_map (standing_in items closings) (blocks_of items closings body)
