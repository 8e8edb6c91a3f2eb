-- Numbers by name.
use Rattle.std.specs.Prelude.{ℕ, List, if◌then◌else◌}
use Rattle.std.specs.BTreeMap.{get_by}
use Rattle.std.specs.Cmp.Lexicographic.{slice_cmp}
use Rattle.std.specs.Ordering.{nat_cmp}
use Rattle.std.specs.Str.{bytes_eq}
use Rattle.std.specs.declared.option.Option.{Option}
use Rattle.std.specs.declared.option.Option.TheVariants.{Some, None}
use Rattle.sql_ast.specs.declared.places.Places.{Places}

abbrev pub joined : Option (Option ℕ) → Option ℕ
joined None = None
joined (Some number) = number

abbrev pub number_of : Places → List ℕ → Option ℕ
number_of places name = joined (get_by (λ k. slice_cmp nat_cmp name k.now) places.numbers)

-- the numbers, with another one at the name
abbrev pub replaced : (List ℕ → Option ℕ) → List ℕ → Option ℕ → List ℕ → Option ℕ
replaced numbers name number other = if bytes_eq name other then number else numbers other
