-- Fronts of lists, and the tests of two bytes side by side.
use Rattle.std.proofs.Common.{◌≡◌, ℕ, zero, suc, ◌+◌, ◌≤◌, ◌<◌, Bool, true, false, cond, ◌&&◌, List, [], ◌∷◌, ◌++◌, length, take, drop, refl, ap, subst, arith}
use Rattle.std.proofs.lemmas.Bool.{eqb-true}
use Rattle.std.specs.Prelude.{◌||◌, ◌==◌}
use Rattle.std.specs.List.{prefix_len}
use Rattle.qbs_base.specs.Bytes.{is_digit, is_name_start, is_name_part}
use Rattle.java_lex.specs.Bytes.{long_mark, begins_with}
use Rattle.view_text.specs.Layout.{last_of}

-- ---- tests

pub neither : (p q : Bool) → p || q ≡ false → (p ≡ false) × (q ≡ false)
neither true q e = absurd cc
neither false q e = (refl, e)

pub second_fails : (p q : Bool) → p && q ≡ false → p ≡ true → q ≡ false
second_fails true q e h = e
second_fails false q e h = absurd cc

pub and_false : (p : Bool) → p && false ≡ false
and_false true = refl
and_false false = refl

-- ---- fronts

pub take_within : (n : ℕ) (x y : List ℕ) → n ≤ length x → take n (x ++ y) ≡ take n x
take_within zero x y h = refl
take_within (suc n) [] y h = absurd (omega arith)
take_within (suc n) (b ∷ x) y h = ap (λ (bs : List ℕ). b ∷ bs) (take_within n x y (omega arith))

pub begins_within : (s n : ℕ) (x y : List ℕ) → n < length x → begins_with s (drop n (x ++ y)) ≡ begins_with s (drop n x)
begins_within s n [] y h = absurd (omega arith)
begins_within s zero (b ∷ x) y h = refl
begins_within s (suc n) (b ∷ x) y h = begins_within s n x y (omega arith)

-- a run of such bytes that ends before its bytes do goes no further where others follow
pub run_within : (p : ℕ → Bool) (x y : List ℕ) → prefix_len p x < length x → prefix_len p (x ++ y) ≡ prefix_len p x
run_within p [] y h = absurd (omega arith)
run_within p (b ∷ x) y h = by (p b) h (run_within p x y)
  where
    by : (v : Bool) → cond v (1 + prefix_len p x) 0 < suc (length x) → (prefix_len p x < length x → prefix_len p (x ++ y) ≡ prefix_len p x) → cond v (1 + prefix_len p (x ++ y)) 0 ≡ cond v (1 + prefix_len p x) 0
    by true h again = ap (λ (n : ℕ). 1 + n) (again (omega arith))
    by false h again = refl

-- nor does one of all of them, where the byte behind is none
pub run_ends : (p : ℕ → Bool) (x : List ℕ) (c : ℕ) (z : List ℕ) → prefix_len p x ≡ length x → p c ≡ false → prefix_len p (x ++ c ∷ z) ≡ length x
run_ends p [] c z h e = ap (λ (v : Bool). cond v (1 + prefix_len p z) 0) e
run_ends p (b ∷ x) c z h e = by (p b) h (λ k. run_ends p x c z k e)
  where
    by : (v : Bool) → cond v (1 + prefix_len p x) 0 ≡ suc (length x) → (prefix_len p x ≡ length x → prefix_len p (x ++ c ∷ z) ≡ length x) → cond v (1 + prefix_len p (x ++ c ∷ z)) 0 ≡ suc (length x)
    by true h again = omega (arith, again (omega arith))
    by false h again = absurd (omega arith)

-- the last of them is one
pub last_is_in : (p : ℕ → Bool) (b : ℕ) (x : List ℕ) → prefix_len p (b ∷ x) ≡ suc (length x) → p (last_of b x) ≡ true
last_is_in p b [] h = by (p b) h
  where
    by : (v : Bool) → cond v (1 + 0) 0 ≡ 1 → v ≡ true
    by true h = refl
    by false h = absurd (omega arith)
last_is_in p b (d ∷ x) h = by (p b) h (last_is_in p d x)
  where
    by : (v : Bool) → cond v (1 + prefix_len p (d ∷ x)) 0 ≡ suc (suc (length x)) → (prefix_len p (d ∷ x) ≡ suc (length x) → p (last_of d x) ≡ true) → p (last_of d x) ≡ true
    by true h again = again (omega arith)
    by false h again = absurd (omega arith)

-- ---- bytes

pub digit_is_part : (b : ℕ) → is_digit b ≡ true → is_name_part b ≡ true
digit_is_part b h = by (is_name_start b)
  where
    by : (v : Bool) → v || is_digit b ≡ true
    by true = refl
    by false = h

pub no_digit : (c : ℕ) → is_name_part c ≡ false → is_digit c ≡ false
no_digit c h = (neither (is_name_start c) (is_digit c) h).1

pub no_mark : (c : ℕ) → is_name_part c ≡ false → (c == long_mark) ≡ false
no_mark c h = by (c == long_mark) refl
  where
    mark : is_name_part long_mark ≡ true
    mark = refl

    by : (v : Bool) → (c == long_mark) ≡ v → v ≡ false
    by true e = let same : is_name_part long_mark ≡ false = subst (λ (d : ℕ). is_name_part d ≡ false) (eqb-true c long_mark e) h in absurd cc
    by false e = refl
