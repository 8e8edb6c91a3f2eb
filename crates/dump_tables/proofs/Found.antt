-- What stands under a name.
use Rattle.std.proofs.Common.{◌≡◌, ℕ, List, Bool, true, false, cond, refl, ◌∙◌, Option, Some, Bor}
use Rattle.std.specs.Prelude.{bytes_eq, if◌then◌else◌}
use Rattle.std.specs.Map.{lookup}

abbrev pub Entries : Type 0
Entries = List (Bor (List ℕ) × ℕ)

-- a name as it is lent
abbrev lent : List ℕ → Bor (List ℕ)
lent x = record { ref_ptr = (0, 0); now = x }

chosen : (b : Bool) (n : ℕ) (o : Option ℕ) → cond b (Some n) o ≡ (if b then Some n else o)
chosen true n o = refl
chosen false n o = refl

pub under_put : (x : List ℕ) (n : ℕ) (old new : Entries)
    → ((q : Bor (List ℕ)) → lookup (λ k. bytes_eq q.now k.now) new ≡ cond (bytes_eq x q.now) (Some n) (lookup (λ k. bytes_eq q.now k.now) old))
    → (y : List ℕ) → lookup (λ k. bytes_eq y k.now) new ≡ (if bytes_eq x y then Some n else lookup (λ k. bytes_eq y k.now) old)
under_put x n old new h y = h (lent y) ∙ chosen (bytes_eq x y) n (lookup (λ k. bytes_eq y k.now) old)
