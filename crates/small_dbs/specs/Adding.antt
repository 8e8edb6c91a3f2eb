-- Tables that are added to a database.
use Rattle.std.specs.Prelude.{◌≡◌, ℕ, false, List, [], ◌∷◌, ◌++◌, map}
use Rattle.std.specs.List.{list_any}
use Rattle.std.specs.Str.{bytes_eq}
use Rattle.qbs_base.specs.declared.columns.Table.{Table}
use Rattle.qbs_base.specs.declared.scalar.Row.{Row}
use Rattle.qbs_base.specs.Tables.{with_row}
use Rattle.qbs_base.specs.Values.{Database}

-- the names of the tables that are there
abbrev pub names_in : Database → List (List ℕ)
names_in db = map (λ t. t.0) db

-- no table has the name of one before it
abbrev pub AreNew : List (List ℕ) → List Table → Type 0
AreNew names [] = Unit {0}
AreNew names (t ∷ rest) = (list_any (λ name. bytes_eq name t.name) names ≡ false) × AreNew (names ++ t.name ∷ []) rest

-- with these rows more in the table with that number
abbrev pub with_rows : Database → ℕ → List Row → Database
with_rows db number [] = db
with_rows db number (r ∷ rest) = with_rows (with_row db number r) number rest
