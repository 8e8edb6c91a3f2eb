-- Where one of two lists of numbers has ended, and the other one hasn't.
use Rattle.std.proofs.Common.{◌≡◌, ℕ, zero, suc, ◌<◌, Bool, false, List, [], ◌∷◌, length, drop, arith}
use Rattle.view_slices.specs.Words.{same_numbers}

pub no_other_left : (ms : List ℕ) (i : ℕ) (rest : List ℕ) (t : Bool) → same_numbers (drop i ms) rest ≡ t → i < length ms → length rest < 1 → false ≡ t
no_other_left [] i rest t so_far here none = absurd (omega arith)
no_other_left (m ∷ ms) zero [] t so_far here none = so_far
no_other_left (m ∷ ms) zero (n ∷ rest) t so_far here none = absurd (omega arith)
no_other_left (m ∷ ms) (suc i) rest t so_far here none = no_other_left ms i rest t so_far (omega arith) none
