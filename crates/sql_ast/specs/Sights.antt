-- FROM items in sight, with the items that they hide.
use Rattle.std.specs.Prelude.{ℕ, List, [], ◌∷◌, ◌++◌, map}
use Rattle.std.specs.Option.{option_map}
use Rattle.std.specs.declared.option.Option.{Option}
use Rattle.sql_ast.specs.declared.known.Known.{Known}
use Rattle.sql_ast.specs.declared.sight.Sighted.{Sighted}
use Rattle.sql_ast.specs.Names.{innermost}
use Rattle.sql_ast.specs.Names as names

abbrev pub items_in : List Sighted → List Known
items_in held = map (λ s. s.item) held

-- the number of the innermost item with that alias
unfoldable pub place_of : List ℕ → List names.Known → Option ℕ
place_of alias known = option_map (λ found. found.0) (innermost 1 alias known)

-- the number of the item that each hides, behind those before
unfoldable pub hidden_numbers : List names.Known → List names.Known → List (Option ℕ)
hidden_numbers before [] = []
hidden_numbers before (k ∷ ks) = place_of k.alias before ∷ hidden_numbers (before ++ k ∷ []) ks
