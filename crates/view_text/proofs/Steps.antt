-- The last of some bytes.
use Rattle.std.proofs.Common.{◌≡◌, ℕ, zero, suc, ◌-◌, ◌≤◌, List, [], ◌∷◌, length, get_or, refl, arith}
use Rattle.view_text.specs.Layout.{last_of}

last_by : (last d n : ℕ) (bs : List ℕ) → length bs ≡ suc n → get_or bs n d ≡ last_of last bs
last_by last d n [] e = absurd (omega arith)
last_by last d zero (b ∷ []) e = refl
last_by last d (suc n) (b ∷ []) e = absurd (omega arith)
last_by last d zero (b ∷ c ∷ bs) e = absurd (omega arith)
last_by last d (suc n) (b ∷ c ∷ bs) e = last_by b d n (c ∷ bs) (omega arith)

pub last_is : (last d : ℕ) (bs : List ℕ) → 1 ≤ length bs → get_or bs (length bs - 1) d ≡ last_of last bs
last_is last d bs some = last_by last d (length bs - 1) bs (omega arith)
