-- The items of bytes.
use Rattle.std.specs.Prelude.{◌≡◌, ℕ, zero, suc, pred, ◌+◌, ◌-◌, ◌<◌, ◌≤◌, List, [], ◌∷◌, ◌++◌, take, drop, length}
use Rattle.std.specs.declared.option.Option.TheVariants.{Some, None}
use Rattle.view_items.specs.declared.item.Item.{Item}
use Rattle.view_items.specs.Pieces.{Piece, piece_of}

-- the item that the bytes at a place begin with, none for a gap
abbrev pub item_of : Piece → ℕ → List ℕ → List Item
item_of (None, n) at bs = []
item_of (Some kind, n) at bs = record { kind = kind; bytes = take n bs; from = at; to = at + n } ∷ []

-- the items of the bytes at a place, after so many that belong to the piece before
unfoldable pub items_from : ℕ → ℕ → List ℕ → List Item
items_from at skip [] = []
items_from at (suc skip) (b ∷ bs) = items_from (at + 1) skip bs
items_from at zero (b ∷ bs) = item_of (piece_of (b ∷ bs)) at (b ∷ bs) ++ items_from (at + 1) (pred (piece_of (b ∷ bs)).1) bs

unfoldable pub items_of : List ℕ → List Item
items_of source = items_from 0 0 source

-- an item has the bytes of its place
pub record IsOfItsPlace (source : List ℕ) (i : Item) : Type 0 where
  pub some : i.from < i.to
  pub within : i.to ≤ length source
  pub bytes : i.bytes ≡ take (i.to - i.from) (drop i.from source)

-- each item has the bytes of its place, and stands behind those before it
unfoldable pub AreOfTheirPlaces : List ℕ → ℕ → List Item → Type 0
AreOfTheirPlaces source at [] = Unit {0}
AreOfTheirPlaces source at (i ∷ is) = (at ≤ i.from) × IsOfItsPlace source i × AreOfTheirPlaces source i.to is
