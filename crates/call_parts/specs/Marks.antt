-- The marks of numbers, in which the names of a helper's variables end where its body stands in for a call.
use Rattle.std.specs.Prelude.{◌≡◌, ℕ, zero, suc, ◌+◌, ◌<◌, List, [], ◌∷◌, Bool, true, false, ◌||◌, length, map, if◌then◌else◌}
use Rattle.std.specs.Int.Digits.{digits_of}
use Rattle.std.specs.List.{list_any}
use Rattle.std.specs.Str.{bytes_eq}
use Rattle.java_ast.specs.Names.{Names}

-- `_` and the digits of a number
abbrev pub mark_of : ℕ → List ℕ
mark_of c = 95 ∷ map (λ d. 48 + d) (digits_of 10 c)

-- the name, or what is behind some of its bytes, is the mark
abbrev pub ends_in : List ℕ → List ℕ → Bool
ends_in mark [] = bytes_eq [] mark
ends_in mark (b ∷ bs) = bytes_eq (b ∷ bs) mark || ends_in mark bs

-- some name ends in the mark of this number
abbrev pub is_marked : Names → ℕ → Bool
is_marked names c = list_any (ends_in (mark_of c)) names

-- the first number from this one on in whose mark no name ends, of so many
abbrev pub unmarked_from : ℕ → Names → ℕ → ℕ
unmarked_from zero names c = c
unmarked_from (suc left) names c = if is_marked names c then unmarked_from left names (suc c) else c

-- the least number above one that was taken in whose mark no name ends: each name ends in the mark of one number at most
abbrev pub next_number : Names → ℕ → ℕ
next_number names taken = unmarked_from (length names) names (suc taken)

-- the number is the first above this one in whose mark no name ends
pub record IsNextNumber (names : Names) (taken c : ℕ) : Type 0 where
  pub above : taken < c
  pub free : is_marked names c ≡ false
  pub first : (k : ℕ) → taken < k → k < c → is_marked names k ≡ true
