-- What is listed under names, and numbers under numbers.
use Rattle.std.specs.Prelude.{◌≡◌, ℕ, ◌||◌, List, [], ◌∷◌, ◌++◌, nat_eq, if◌then◌else◌}
use Rattle.std.specs.Str.{bytes_eq}
use Rattle.std.specs.declared.option.Option.{Option}
use Rattle.std.specs.declared.option.Option.TheVariants.{Some, None}
use Rattle.loop_text.specs.Sites.Sites.{has_number}

abbrev pub or_none : {V : Type 0} → Option (List V) → List V
or_none (Some xs) = xs
or_none None = []

-- ---- Names

abbrev pub under_name : {V : Type 0} → List (List ℕ × List V) → List ℕ → List V
under_name [] x = []
under_name (p ∷ ps) x = if bytes_eq x p.0 then p.1 else under_name ps x

-- the lists where this one stands under a name
abbrev pub put_under_name : {V : Type 0} → List (List ℕ × List V) → List ℕ → List V → List (List ℕ × List V)
put_under_name [] y vs = (y, vs) ∷ []
put_under_name (p ∷ ps) y vs = if bytes_eq y p.0 then ((p.0, vs) ∷ ps) else (p ∷ put_under_name ps y vs)

-- the new lists have one more under this name
abbrev pub AddsUnderName : {V : Type 0} → List (List ℕ × List V) → List ℕ → V → List (List ℕ × List V) → Type 0
AddsUnderName old y v new = (x : List ℕ) → under_name new x ≡ (if bytes_eq x y then under_name old x ++ v ∷ [] else under_name old x)

-- ---- Numbers

abbrev pub under_number : List (ℕ × List ℕ) → ℕ → List ℕ
under_number [] i = []
under_number (p ∷ ps) i = if nat_eq i p.0 then p.1 else under_number ps i

-- the lists where this one stands under a number
abbrev pub put_under_number : List (ℕ × List ℕ) → ℕ → List ℕ → List (ℕ × List ℕ)
put_under_number [] j ns = (j, ns) ∷ []
put_under_number (p ∷ ps) j ns = if nat_eq j p.0 then ((p.0, ns) ∷ ps) else (p ∷ put_under_number ps j ns)

-- the new lists have one more under this number
abbrev pub AddsUnderNumber : List (ℕ × List ℕ) → ℕ → ℕ → List (ℕ × List ℕ) → Type 0
AddsUnderNumber old j n new = (i : ℕ) → under_number new i ≡ (if nat_eq i j then under_number old i ++ n ∷ [] else under_number old i)

-- the new numbers have this one too
abbrev pub HasMore : List ℕ → ℕ → List ℕ → Type 0
HasMore old n new = (m : ℕ) → has_number new m ≡ (has_number old m || nat_eq m n)
