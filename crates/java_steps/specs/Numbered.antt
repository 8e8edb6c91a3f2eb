-- Names by their numbers, and the numbers that are noted at the places of a source.
use Rattle.std.specs.Borrow.{Bor}
use Rattle.std.specs.Prelude.{ℕ, ◌&&◌, map, get_or, List, [], ◌∷◌, ◌++◌, nat_eq, nat_lt, bytes_eq, if◌then◌else◌}
use Rattle.std.specs.List.{list_any, position_or_len}

-- names in the order in which they came, each once, and the numbers at the first places of a source
pub record Numbers : Type 0 where
  pub names : List (List ℕ)
  pub places : List ℕ

-- nothing was noted
abbrev pub unnumbered : Numbers
unnumbered = record { names = []; places = [] }

-- the numbers that a set of names and a list of places have
abbrev pub numbers_of : List (Bor (List ℕ)) → List ℕ → Numbers
numbers_of names places = record { names = map (λ x. x.now) names; places = places }

-- the number at a place, which is 0 where none was noted
abbrev pub number_at : Numbers → ℕ → ℕ
number_at numbers place = get_or numbers.places place 0

-- no source is longer, in bytes
abbrev pub longest : ℕ
longest = 1048576

-- the number at a place, where this one was noted at another or at the same, which is one of a source
abbrev pub noted : Numbers → ℕ → ℕ → ℕ → ℕ
noted numbers start number place = if nat_lt start longest && nat_eq place start then number else number_at numbers place

-- the names, with this one at the end where it is none of them
abbrev pub with_name : List (List ℕ) → List ℕ → List (List ℕ)
with_name names x = if list_any (bytes_eq x) names then names else names ++ x ∷ []

-- the number of a name: its place among the names, or behind them
abbrev pub number_of : List (List ℕ) → List ℕ → ℕ
number_of names x = position_or_len (bytes_eq x) names
