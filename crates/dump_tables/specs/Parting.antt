-- The first part of items.
use Rattle.std.specs.Prelude.{ℕ, ◌+◌, Bool, ◌&&◌, ◌||◌, ◌==◌, List, [], ◌∷◌, Option, Some, None, if◌then◌else◌}
use Rattle.dump_items.specs.declared.item.ItemKind.{ItemKind}
use Rattle.dump_items.specs.declared.item.Item.{Item}
use Rattle.dump_tables.specs.Words.{is_close, is_comma}
use Rattle.dump_tables.specs.Parts.{depth_after}

abbrev pub ends_part : ℕ → ItemKind → Bool
ends_part d kind = (d == 0) && (is_close kind || is_comma kind)

-- how many items it has
unfoldable pub part_len : ℕ → List Item → ℕ
part_len d [] = 0
part_len d (i ∷ is) = if ends_part d i.kind then 0 else 1 + part_len (depth_after d i.kind) is

-- what stands behind a comma
abbrev pub behind_comma : List Item → Option (List Item)
behind_comma [] = None
behind_comma (end ∷ is) = if is_comma end.kind then Some is else None
