-- A name ends in a mark where its last `_` and what is behind it are the mark.
use Rattle.std.proofs.Common.{◌≡◌, ℕ, ◌+◌, ◌<◌, Bool, true, false, ◌&&◌, ◌||◌, List, [], ◌∷◌, map, refl, sym, ap, ◌∙◌, nat_eq, arith}
use Rattle.std.specs.Prelude.{bytes_eq, if◌then◌else◌, ◌==◌}
use Rattle.std.specs.Int.Digits.{digits_of}
use Rattle.std.specs.List.{AllByRecursion}
use Rattle.std.proofs.lemmas.Bool.Decides.{nat_tests}
use Rattle.std.proofs.lemmas.Int.Digits.{all_below_base_digits_of}
use Rattle.std.proofs.lemmas.Slice.Eq.{bytes_eq-Decides}
use Rattle.call_parts.specs.Marks.{mark_of, ends_in}
use Rattle.inlining.specs.Endings.{tail_from, tail_of}

abbrev has_line : List ℕ → Bool
has_line [] = false
has_line (b ∷ bs) = (b == 95) || has_line bs

digits_have_none : (ds : List ℕ) → AllByRecursion (λ d. d < 10) ds → has_line (map (λ d. 48 + d) ds) ≡ false
digits_have_none [] h = refl
digits_have_none (d ∷ ds) h =
    let low : d < 10 = h.0 in
    let no : nat_eq (48 + d) 95 ≡ false = grind (arith, nat_tests) in
    ap (λ b. b || has_line (map (λ d. 48 + d) ds)) no ∙ digits_have_none ds h.1

differs : (x y : List ℕ) → has_line x ≡ true → has_line y ≡ false → (b : Bool) → bytes_eq x y ≡ b → b ≡ false
differs x y h k true e = let same : x ≡ y = (bytes_eq-Decides x y).0 e in let no : has_line x ≡ false = ap has_line same ∙ k in absurd cc
differs x y h k false e = refl

abbrev pick : {A : Type 0} → Bool → A → A → A
pick true a b = a
pick false a b = b

same_pick : (t h : Bool) (x y f : List ℕ) → pick h x (pick t y f) ≡ pick (t || h) (pick h x (pick t y [])) f
same_pick true true x y f = refl
same_pick true false x y f = refl
same_pick false true x y f = refl
same_pick false false x y f = refl

if_pick : (t : Bool) (x f : List ℕ) → (if t then x else f) ≡ pick t x f
if_pick true x f = refl
if_pick false x f = refl

differs_by : (a b : Bool) → b ≡ false → a && b ≡ false
differs_by true b e = e
differs_by false b e = refl

-- what is found is the last one, or what was found before
found_or : (found bs : List ℕ) → tail_from found bs ≡ pick (has_line bs) (tail_from [] bs) found
found_or found [] = refl
found_or found (b ∷ bs) =
    ap (λ f. tail_from f bs) (if_pick (b == 95) (b ∷ bs) found)
    ∙ found_or (pick (b == 95) (b ∷ bs) found) bs
    ∙ same_pick (b == 95) (has_line bs) (tail_from [] bs) (b ∷ bs) found
    ∙ ap (λ z. pick ((b == 95) || has_line bs) z found) (sym (ap (λ f. tail_from f bs) (if_pick (b == 95) (b ∷ bs) []) ∙ found_or (pick (b == 95) (b ∷ bs) []) bs))

or_false : (b : Bool) → b || false ≡ b
or_false true = refl
or_false false = refl

ends_by : (t h e : Bool) (x y m : List ℕ) → e ≡ bytes_eq y m → (h ≡ true → e ≡ false) → (t ≡ false → e ≡ false) → e || pick h (bytes_eq x m) false ≡ pick (t || h) (bytes_eq (pick h x (pick t y [])) m) false
ends_by true true e x y m is high low = ap (λ b. b || bytes_eq x m) (high refl)
ends_by false true e x y m is high low = ap (λ b. b || bytes_eq x m) (high refl)
ends_by true false e x y m is high low = or_false e ∙ is
ends_by false false e x y m is high low = or_false e ∙ low refl

ends_with : (ds : List ℕ) → has_line ds ≡ false → (bs : List ℕ) → ends_in (95 ∷ ds) bs ≡ pick (has_line bs) (bytes_eq (tail_from [] bs) (95 ∷ ds)) false
ends_with ds none [] = refl
ends_with ds none (b ∷ bs) =
    ap (λ o. bytes_eq (b ∷ bs) (95 ∷ ds) || o) (ends_with ds none bs)
    ∙ ends_by (b == 95) (has_line bs) (bytes_eq (b ∷ bs) (95 ∷ ds)) (tail_from [] bs) (b ∷ bs) (95 ∷ ds) refl high low
    ∙ ap (λ z. pick ((b == 95) || has_line bs) (bytes_eq z (95 ∷ ds)) false) (sym (ap (λ f. tail_from f bs) (if_pick (b == 95) (b ∷ bs) []) ∙ found_or (pick (b == 95) (b ∷ bs) []) bs))
  where
    high : has_line bs ≡ true → bytes_eq (b ∷ bs) (95 ∷ ds) ≡ false
    high h = differs_by (nat_eq b 95) (bytes_eq bs ds) (differs bs ds h none (bytes_eq bs ds) refl)

    low : (b == 95) ≡ false → bytes_eq (b ∷ bs) (95 ∷ ds) ≡ false
    low h = ap (λ t. t && bytes_eq bs ds) h

ends_so : (ds : List ℕ) → has_line ds ≡ false → (h : Bool) (x : List ℕ) → has_line x ≡ h → ends_in (95 ∷ ds) x ≡ bytes_eq (tail_of x) (95 ∷ ds)
ends_so ds none true x e = ends_with ds none x ∙ ap (λ h. pick h (bytes_eq (tail_of x) (95 ∷ ds)) false) e
ends_so ds none false x e =
    ends_with ds none x ∙ ap (λ h. pick h (bytes_eq (tail_of x) (95 ∷ ds)) false) e
    ∙ sym (ap (λ z. bytes_eq z (95 ∷ ds)) (found_or [] x ∙ ap (λ h. pick h (tail_from [] x) []) e))

pub ends_in_mark : (c : ℕ) (x : List ℕ) → ends_in (mark_of c) x ≡ bytes_eq (tail_of x) (mark_of c)
ends_in_mark c x = ends_so (map (λ d. 48 + d) (digits_of 10 c)) (digits_have_none (digits_of 10 c) (all_below_base_digits_of 10 c (omega arith))) (has_line x) x refl
