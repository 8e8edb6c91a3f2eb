-- Where items stand among the bytes of a file.
use Rattle.std.specs.Prelude.{ℕ, Option, None, Some}
use Rattle.view_items.specs.declared.item.Item.{Item}

-- the byte at which an item begins
abbrev pub begins_at : Option Item → ℕ
begins_at None = 0
begins_at (Some i) = i.from

-- the byte behind an item
abbrev pub ends_at : Option Item → ℕ
ends_at None = 0
ends_at (Some i) = i.to
