-- Keys that were given.
use Rattle.std.specs.Prelude.{ℕ, Bool, List}
use Rattle.std.specs.Str.{bytes_eq}
use Rattle.std.specs.List.{list_any}

abbrev pub is_key : List (List ℕ) → List ℕ → Bool
is_key keys key = list_any (λ k. bytes_eq key k) keys
