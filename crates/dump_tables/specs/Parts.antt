-- Items by the parentheses and commas among them.
use Rattle.std.specs.Prelude.{ℕ, ◌+◌, ◌-◌, Bool, false, ◌&&◌, ◌||◌, ◌==◌, not, List, [], ◌∷◌, drop, if◌then◌else◌}
use Rattle.std.specs.List.{prefix_len}
use Rattle.dump_items.specs.declared.item.ItemKind.{ItemKind}
use Rattle.dump_items.specs.declared.item.ItemKind.TheVariants as kinds
use Rattle.dump_items.specs.declared.item.Item.{Item}
use Rattle.dump_items.specs.Statements.{with_first}
use Rattle.dump_tables.specs.Words.{is_open, is_close, is_comma, begins}

abbrev pub depth_after : ℕ → ItemKind → ℕ
depth_after d kinds.Open = d + 1
depth_after d kinds.Close = d - 1
depth_after d _ = d

-- what stands between commas, up to a parenthesis that closes what was opened before, where so many are open
unfoldable pub parts : ℕ → List Item → List (List Item)
parts d [] = [] ∷ []
parts d (i ∷ is) =
    if (d == 0) && is_close i.kind then [] ∷ []
    else (if (d == 0) && is_comma i.kind then [] ∷ parts 0 is
    else with_first i (parts (depth_after d i.kind) is))

-- two keywords stand beside one another outside of parentheses
unfoldable pub has_pair : ℕ → List ℕ → List ℕ → List Item → Bool
has_pair d k l [] = false
has_pair d k l (i ∷ is) = ((d == 0) && begins (k ∷ l ∷ []) (i ∷ is)) || has_pair (depth_after d i.kind) k l is

-- what stands behind the first parenthesis that opens, and behind the first that closes
abbrev pub behind_open : List Item → List Item
behind_open is = drop 1 (drop (prefix_len (λ i. not (is_open i.kind)) is) is)

abbrev pub behind_close : List Item → List Item
behind_close is = drop 1 (drop (prefix_len (λ i. not (is_close i.kind)) is) is)
