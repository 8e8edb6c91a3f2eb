-- The last binding below a number, by halving.
use Rattle.std.specs.Prelude.{nat_lt, if◌then◌else◌}
use Rattle.std.proofs.Common.{◌≡◌, ◌≤◌, ◌<◌, ℕ, Bool, true, false, List, [], ◌∷◌, ◌++◌, length, refl, ap, ◌∙◌, subst, arith, lt-ltb, le-ltb}
use Rattle.std.proofs.lemmas.List.{length-append}
use Rattle.loop_text.specs.Sites.Sites.{Binding}
use Rattle.loop_text.specs.Sites.Bound.{number_of, last_below, IsRising}

pub below_both : (n : ℕ) (b : Binding) (xs ys : List Binding) → last_below n b (xs ++ ys) ≡ last_below n (last_below n b xs) ys
below_both n b [] ys = refl
below_both n b (x ∷ xs) ys = below_both n (if nat_lt (number_of x) n then x else b) xs ys

-- nothing from a number on is below it
pub none_below : (n k : ℕ) (b : Binding) (xs : List Binding) → n ≤ k → IsRising k xs → last_below n b xs ≡ b
none_below n k b [] h r = refl
none_below n k b (x ∷ xs) h r =
    let g = r.0 in
    let up : n ≤ number_of x = omega (arith, h, g) in
    ap (λ (t : Bool). last_below n (if t then x else b) xs) (le-ltb (number_of x) n up)
    ∙ none_below n (number_of x) b xs up r.1

pub rises_less : (k m : ℕ) (xs : List Binding) → k ≤ m → IsRising m xs → IsRising k xs
rises_less k m [] h r = tt
rises_less k m (x ∷ xs) h r = let g = r.0 in (omega (arith, h, g), r.1)

first_rises : (k : ℕ) (xs ys : List Binding) → IsRising k (xs ++ ys) → IsRising k xs
first_rises k [] ys r = tt
first_rises k (x ∷ xs) ys r = (r.0, first_rises (number_of x) xs ys r.1)

behind_rises : (k : ℕ) (xs : List Binding) (y : Binding) (ys : List Binding) → IsRising k (xs ++ y ∷ ys) → IsRising (number_of y) ys
behind_rises k [] y ys r = r.1
behind_rises k (x ∷ xs) y ys r = behind_rises (number_of x) xs y ys r.1

module _ (n : ℕ) (b : Binding) (zs xs : List Binding) (y : Binding) (ys : List Binding) (is : zs ≡ xs ++ y ∷ ys) where
  middle_taken : (t : Bool) → nat_lt (number_of y) n ≡ t → last_below n b zs ≡ last_below n (if t then y else last_below n b xs) ys
  middle_taken t e = ap (last_below n b) is ∙ below_both n b xs (y ∷ ys) ∙ ap (λ (u : Bool). last_below n (if u then y else last_below n b xs) ys) e

  -- the middle one is below: the last one is it, or behind it
  pub second_half : (m : ℕ) → m ≡ number_of y → m < n → last_below n b zs ≡ last_below n y ys
  second_half m e h = middle_taken true (lt-ltb (number_of y) n (subst (λ k. k < n) e h))

  -- the middle one isn't: the last one is before it
  pub first_half : (m : ℕ) → m ≡ number_of y → n ≤ m → IsRising 0 zs → last_below n b zs ≡ last_below n b xs
  first_half m e h r =
      let up : n ≤ number_of y = subst (λ k. n ≤ k) e h in
      middle_taken false (le-ltb (number_of y) n up) ∙ none_below n (number_of y) (last_below n b xs) ys up (behind_rises 0 xs y ys (subst (IsRising 0) is r))

  pub before_rises : IsRising 0 zs → IsRising 0 xs
  before_rises r = first_rises 0 xs (y ∷ ys) (subst (IsRising 0) is r)

  pub rest_rises : IsRising 0 zs → IsRising 0 ys
  rest_rises r = rises_less 0 (number_of y) ys (omega arith) (behind_rises 0 xs y ys (subst (IsRising 0) is r))

pub shorter_behind : (zs xs : List Binding) (y : Binding) (ys : List Binding) (t : ℕ) → zs ≡ xs ++ y ∷ ys → length zs ≡ t → length ys < t
shorter_behind zs xs y ys t is e = let h : length zs ≡ length (xs ++ y ∷ ys) = ap length is in let g = length-append xs (y ∷ ys) in omega (arith, h, g, e)

pub shorter_before : (zs xs : List Binding) (y : Binding) (ys : List Binding) (t : ℕ) → zs ≡ xs ++ y ∷ ys → length zs ≡ t → length xs < t
shorter_before zs xs y ys t is e = let h : length zs ≡ length (xs ++ y ∷ ys) = ap length is in let g = length-append xs (y ∷ ys) in omega (arith, h, g, e)
