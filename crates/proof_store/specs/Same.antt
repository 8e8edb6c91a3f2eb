-- Whether two items are equal, as a test.
use Rattle.std.specs.Prelude.{Bool, true, false, ◌&&◌, List, [], ◌∷◌}
use Rattle.std.specs.Str.{bytes_eq}
use Rattle.std.specs.declared.option.Option.{Option}
use Rattle.std.specs.declared.option.Option.TheVariants.{Some, None}
use Rattle.qbs_base.specs.declared.scalar.Scalar.{Scalar}
use Rattle.qbs_base.specs.Scalar.{same_cells}
use Rattle.qbs_base.specs.Tables.{NamedRows}
use Rattle.qbs_base.specs.Values.{Database}
use Rattle.tor_terms.specs.Worlds.{same_rows}
use Rattle.small_dbs.specs.declared.small.SmallDb.{SmallDb}

abbrev pub same_lists : List (List Scalar) → List (List Scalar) → Bool
same_lists [] [] = true
same_lists (x ∷ xs) (y ∷ ys) = same_cells x y && same_lists xs ys
same_lists _ _ = false

-- by name and rows
abbrev pub same_table : NamedRows → NamedRows → Bool
same_table t u = bytes_eq t.0 u.0 && same_rows t.1 u.1

abbrev pub same_place : Option NamedRows → Option NamedRows → Bool
same_place None None = true
same_place (Some t) (Some u) = same_table t u
same_place _ _ = false

abbrev pub same_tables : Database → Database → Bool
same_tables [] [] = true
same_tables (t ∷ ts) (u ∷ us) = same_table t u && same_tables ts us
same_tables _ _ = false

abbrev pub same_item : SmallDb → SmallDb → Bool
same_item a b = same_cells a.entry.values b.entry.values && (same_lists a.entry.known b.entry.known && same_tables a.db b.db)
