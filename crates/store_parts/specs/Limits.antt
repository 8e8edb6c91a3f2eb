-- What a store may hold of tables, rows and lists of scalars. Each limit is a test.
use Rattle.std.specs.Prelude.{◌≡◌, ℕ, Bool, true, ◌&&◌, nat_le, List, [], ◌∷◌, length}
use Rattle.std.specs.List.{list_all}
use Rattle.std.specs.Str.{is_utf8}
use Rattle.qbs_base.specs.declared.scalar.Row.{Row}
use Rattle.qbs_base.specs.declared.scalar.Scalar.{Scalar}
use Rattle.qbs_base.specs.declared.scalar.Scalar.TheVariants as scalars
use Rattle.qbs_base.specs.Tables.{NamedRows}
use Rattle.qbs_base.specs.Values.{fits_long}
use Rattle.tor_terms.specs.Truth.{same_variant}

-- rows of a table, entry values, known lists, and members of a known list
abbrev pub most_members : ℕ
most_members = 64

abbrev pub are_few : {A : Type 0} → List A → Bool
are_few xs = nat_le (length xs) most_members

-- a number of 64 bits, a truth value, or a text that is UTF-8
abbrev pub is_written : Scalar → Bool
is_written (scalars.Long n) = fits_long n
is_written (scalars.Bool b) = true
is_written (scalars.Text t) = is_utf8 t

abbrev pub are_written : List Scalar → Bool
are_written xs = are_few xs && list_all is_written xs

abbrev pub are_small_rows : List Row → Bool
are_small_rows rows = are_few rows && list_all (λ r. list_all is_written r.cells) rows

abbrev pub is_small_table : NamedRows → Bool
is_small_table t = are_small_rows t.1

abbrev pub are_small_lists : List (List Scalar) → Bool
are_small_lists known = are_few known && list_all are_written known

-- the members of a list are of one type
abbrev pub are_of_one_type : List Scalar → Bool
are_of_one_type [] = true
are_of_one_type (x ∷ xs) = list_all (same_variant x) xs
