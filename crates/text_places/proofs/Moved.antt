-- What is behind bytes and then others, and how far lines and columns grow.
use Rattle.std.proofs.Common.{◌≡◌, ◌⊎◌, inl, inr, ℕ, zero, suc, ◌+◌, ◌-◌, ◌*◌, ◌≤◌, ◌<◌, ◌==◌, Bool, true, false, List, [], ◌∷◌, ◌++◌, length, take, drop, get_or, slice_get, Some, refl, sym, ap, subst, ◌∙◌, arith, if◌then◌else◌}
use Rattle.std.proofs.Math.Seq.{take-add}
use Rattle.std.proofs.lemmas.List.{length-append, length-take-le}
use Rattle.text_places.specs.declared.places.Place.{Place}
use Rattle.text_places.specs.Places.{behind, moved, first, place_in, AreMarks}

moved_append : (p : Place) (xs ys : List ℕ) → moved p (xs ++ ys) ≡ moved (moved p xs) ys
unfolding moved
moved_append p [] ys = refl
moved_append p (x ∷ xs) ys = moved_append (behind p x) xs ys

-- from one byte on to another
pub place_further : (bytes : List ℕ) (known at : ℕ) → known ≤ at → moved (place_in bytes known) (take (at - known) (drop known bytes)) ≡ place_in bytes at
place_further bytes known at le =
    let e : at ≡ known + (at - known) = omega (arith, le) in
    let t : take at bytes ≡ take known bytes ++ take (at - known) (drop known bytes) = ap (λ (n : ℕ). take n bytes) e ∙ take-add known (at - known) bytes in
    sym (ap (moved first) t ∙ moved_append first (take known bytes) (take (at - known) (drop known bytes)))

abbrev next : Bool → Place → Place
next c p = if c then record { line = p.line + 1; column = 1 } else record { line = p.line; column = p.column + 1 }

next_line : (c : Bool) (p : Place) → (next c p).line ≤ p.line + 1
next_line true p = omega arith
next_line false p = omega arith

next_column : (c : Bool) (p : Place) → (next c p).column ≤ p.column + 1
next_column true p = omega arith
next_column false p = omega arith

pub moved_line : (p : Place) (bytes : List ℕ) → (moved p bytes).line ≤ p.line + length bytes
unfolding moved
moved_line p [] = omega arith
moved_line p (b ∷ bs) = let h = moved_line (behind p b) bs in let s = next_line (b == 10) p in omega (arith, h, s)

pub moved_column : (p : Place) (bytes : List ℕ) → (moved p bytes).column ≤ p.column + length bytes
unfolding moved
moved_column p [] = omega arith
moved_column p (b ∷ bs) = let h = moved_column (behind p b) bs in let s = next_column (b == 10) p in omega (arith, h, s)

pub place_line : (bytes : List ℕ) (at : ℕ) → at ≤ length bytes → (place_in bytes at).line ≤ 1 + at
place_line bytes at le = let h = moved_line first (take at bytes) in let l = length-take-le at bytes le in omega (arith, h, l)

pub place_column : (bytes : List ℕ) (at : ℕ) → at ≤ length bytes → (place_in bytes at).column ≤ 1 + at
place_column bytes at le = let h = moved_column first (take at bytes) in let l = length-take-le at bytes le in omega (arith, h, l)

-- ---- Places that are kept

snoc_cases : (xs : List Place) (p q : Place) (k : ℕ) → slice_get (xs ++ p ∷ []) k ≡ Some q → (slice_get xs k ≡ Some q) ⊎ ((k ≡ length xs) × (q ≡ p))
snoc_cases [] p q zero e = inr (refl, cc)
snoc_cases [] p q (suc k) e = absurd cc
snoc_cases (x ∷ xs) p q zero e = inl e
snoc_cases (x ∷ xs) p q (suc k) e = further (snoc_cases xs p q k e)
  where
    further : (slice_get xs k ≡ Some q) ⊎ ((k ≡ length xs) × (q ≡ p)) → (slice_get xs k ≡ Some q) ⊎ ((suc k ≡ suc (length xs)) × (q ≡ p))
    further (inl h) = inl h
    further (inr h) = inr (ap suc h.0, h.1)

pub marked_behind : (bytes : List ℕ) (marks : List Place) (p : Place) → AreMarks bytes marks → p ≡ place_in bytes (length marks * 4096) → AreMarks bytes (marks ++ p ∷ [])
marked_behind bytes marks p are is k q e = by (snoc_cases marks p q k e)
  where
    by : (slice_get marks k ≡ Some q) ⊎ ((k ≡ length marks) × (q ≡ p)) → q ≡ place_in bytes (k * 4096)
    by (inl h) = are k q h
    by (inr h) = h.1 ∙ (is ∙ ap (λ (n : ℕ). place_in bytes (n * 4096)) (sym h.0))

pub no_marks : (bytes : List ℕ) (marks : List Place) → marks ≡ [] → AreMarks bytes marks
no_marks bytes [] is k p e = absurd cc
no_marks bytes (m ∷ ms) is k p e = absurd cc

pub one_longer : (old new : List Place) (p : Place) (n : ℕ) → new ≡ old ++ p ∷ [] → length old ≡ n → length new ≡ n + 1
one_longer old new p n is many = let h : length (old ++ p ∷ []) ≡ length old + 1 = length-append old (p ∷ []) in ap length is ∙ h ∙ ap (λ (m : ℕ). m + 1) many

pub marked_by : (bytes : List ℕ) (old new : List Place) (p : Place) (n : ℕ) → new ≡ old ++ p ∷ [] → length old ≡ n → p ≡ place_in bytes (n * 4096) → AreMarks bytes old → AreMarks bytes new
marked_by bytes old new p n is many at are =
    let placed : p ≡ place_in bytes (length old * 4096) = at ∙ ap (λ (m : ℕ). place_in bytes (m * 4096)) (sym many) in
    subst (AreMarks bytes) (sym is) (marked_behind bytes old p are placed)

-- ---- One byte more

drop_next : (xs : List ℕ) (i : ℕ) → i < length xs → drop i xs ≡ get_or xs i 0 ∷ drop (i + 1) xs
drop_next [] i lt = absurd (omega (arith, lt))
drop_next (x ∷ xs) zero lt = refl
drop_next (x ∷ xs) (suc i) lt = let e : suc (i + 1) ≡ suc i + 1 = omega arith in drop_next xs i (omega (arith, lt)) ∙ ap (λ (n : ℕ). get_or xs i 0 ∷ drop n (x ∷ xs)) e

drop_past : (xs : List ℕ) (i : ℕ) → length xs ≤ i → drop i xs ≡ []
drop_past [] zero le = refl
drop_past [] (suc i) le = refl
drop_past (x ∷ xs) zero le = absurd (omega (arith, le))
drop_past (x ∷ xs) (suc i) le = drop_past xs i (omega (arith, le))

pub moved_next : (p q : Place) (bytes : List ℕ) (i : ℕ) (all : Place) → i < length bytes → q ≡ behind p (get_or bytes i 0) → moved p (drop i bytes) ≡ all → moved q (drop (i + 1) bytes) ≡ all
unfolding moved
moved_next p q bytes i all lt is so_far =
    ap (λ (r : Place). moved r (drop (i + 1) bytes)) is ∙ (sym (ap (moved p) (drop_next bytes i lt)) ∙ so_far)

pub moved_over : (p : Place) (bytes : List ℕ) (i : ℕ) (all : Place) → length bytes ≤ i → moved p (drop i bytes) ≡ all → p ≡ all
unfolding moved
moved_over p bytes i all le so_far = sym (ap (moved p) (drop_past bytes i le)) ∙ so_far

pub moved_line_next : (p q : Place) (b from i : ℕ) → q ≡ behind p b → p.line ≤ from + i → q.line ≤ from + (i + 1)
moved_line_next p q b from i is le = let s = next_line (b == 10) p in let e : q.line ≡ (behind p b).line = ap (λ (r : Place). r.line) is in omega (arith, s, e, le)

pub moved_column_next : (p q : Place) (b from i : ℕ) → q ≡ behind p b → p.column ≤ from + i → q.column ≤ from + (i + 1)
moved_column_next p q b from i is le = let s = next_column (b == 10) p in let e : q.column ≡ (behind p b).column = ap (λ (r : Place). r.column) is in omega (arith, s, e, le)
