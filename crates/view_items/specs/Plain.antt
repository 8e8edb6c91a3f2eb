-- Files of which items say all that Java reads.
use Rattle.std.specs.Prelude.{ℕ, Bool, true, false, ◌||◌, ◌&&◌, ◌==◌, nat_lt, not, List, [], ◌∷◌}
use Rattle.std.specs.List.{list_all}
use Rattle.std.specs.Str.{is_utf8}
use Rattle.view_items.specs.declared.item.ItemKind.{ItemKind}
use Rattle.view_items.specs.declared.item.ItemKind.TheVariants as kinds
use Rattle.view_items.specs.declared.item.Item.{Item}
use Rattle.view_items.specs.Bytes.{is_control}

-- behind a backslash
abbrev pub is_special : Bool → ℕ → Bool
is_special begun b = begun && ((b == 117) || (b == 123))

abbrev pub begins : Bool → ℕ → Bool
begins begun b = (b == 92) && not begun

-- somewhere `u` or `{` stands behind a backslash that an even number of backslashes stands directly before; such a backslash may stand
-- before the bytes
unfoldable pub has_escape : Bool → List ℕ → Bool
has_escape begun [] = false
has_escape begun (b ∷ bs) = is_special begun b || has_escape (begins begun b) bs

-- no control byte outside of texts, characters and comments, and no byte past ASCII in a name
abbrev pub is_plain_of : ItemKind → List ℕ → Bool
is_plain_of kinds.Sign bytes = list_all (λ b. not (is_control b)) bytes
is_plain_of kinds.Name bytes = list_all (λ b. nat_lt b 128) bytes
is_plain_of _ bytes = true

abbrev pub is_plain_item : Item → Bool
is_plain_item i = is_plain_of i.kind i.bytes

-- Java reads `\u` before it looks for quotes and comments, and an expression behind `\{`
unfoldable pub is_plain : List ℕ → List Item → Bool
is_plain source items = is_utf8 source && not (has_escape false source) && list_all is_plain_item items
