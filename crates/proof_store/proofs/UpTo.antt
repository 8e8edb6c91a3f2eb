-- At most so many of one kind, up to a byte that stops: the reader is exact.
use Rattle.std.proofs.Common.{◌≡◌, ℕ, zero, suc, ◌≤◌, Bool, true, false, cond, List, [], ◌∷◌, ◌++◌, length, Ok, Err, refl, sym, ap, subst, ◌∙◌, arith, inl, inr, ◌⊎◌}
use Rattle.std.specs.Prelude.{not}
use Rattle.std.specs.List.{flat_map}
use Rattle.readers.specs.Reading.{◌>>=◌, Read, both, made, first_passes, either, is_over, up_to}
use Rattle.readers.proofs.Again.{Any}
use Rattle.readers.proofs.Lawful.{either_lawful}
use Rattle.readers.proofs.Shallow.{either_shallow}
use Rattle.text_readers.specs.Bytes.{Reader}
use Rattle.text_readers.specs.Offsets.{Each}
use Rattle.text_readers.proofs.Exact.{IsText, Exact, as_lawful, exact_both, exact_made}
use Rattle.scalar_readers.proofs.ExactChoices.{exact_before}
use Rattle.store_readers.proofs.ExactParts.{exact_done}

-- the one or the other, by the first byte of it and of what may follow
module _ {A : Type 0} {text : A → List ℕ} {f g : A → Type 0} {F G : List ℕ → Type 0} {r s : Reader A} (fits : A → Type 0) (test : ℕ → Bool) where
  exact_choice : Exact text f F r → Exact text g G s → ((x : A) → f x → fits x) → ((x : A) → g x → fits x) → ((x : A) → fits x → f x ⊎ g x) → (H : List ℕ → Type 0)
      → ((x : A) (rest : List ℕ) → f x → H rest → first_passes test (text x ++ rest) ≡ true) → ((x : A) (rest : List ℕ) → g x → H rest → first_passes test (text x ++ rest) ≡ false)
      → ((rest : List ℕ) → H rest → F rest) → ((rest : List ℕ) → H rest → G rest) → Exact text fits H (either test r s)
  exact_choice p q left right sort H passing failing to_left to_right = record {
    lawful = either_lawful (IsText text fits) test r s
        (as_lawful (IsText text f) (IsText text fits) r (λ ts x h. (h.0, left x h.1)) p.lawful)
        (as_lawful (IsText text g) (IsText text fits) s (λ ts x h. (h.0, right x h.1)) q.lawful);
    again = λ us x rest h follows. elim (sort x h.1) [
      | inl k ↦
          let is : first_passes test (us ++ rest) ≡ true = ap (λ (ws : List ℕ). first_passes test (ws ++ rest)) h.0 ∙ passing x rest k follows in
          rw is (p.again us x rest (h.0, k) (to_left rest follows))
      | inr k ↦
          let is : first_passes test (us ++ rest) ≡ false = ap (λ (ws : List ℕ). first_passes test (ws ++ rest)) h.0 ∙ failing x rest k follows in
          rw is (q.again us x rest (h.0, k) (to_right rest follows))
    ];
    shallow = either_shallow test r s p.shallow q.shallow;
    some = p.some;
    fit = left p.some p.fit;
  }

abbrev pub AreUpTo : {A : Type 0} → (A → Type 0) → ℕ → List A → Type 0
AreUpTo f n xs = (length xs ≤ n) × Each f xs

-- none, or one and then others
abbrev AreNone : {A : Type 0} → List A → Type 0
AreNone [] = Unit {0}
AreNone (x ∷ xs) = ⊥

abbrev AreMore : {A : Type 0} → (A → Type 0) → ℕ → List A → Type 0
AreMore f n [] = ⊥
AreMore f n (x ∷ xs) = f x × AreUpTo f n xs

-- ---- one step of it as a choice

turned : {A : Type 0} (b : Bool) (x y : A) → cond b x y ≡ cond (not b) y x
turned true x y = refl
turned false x y = refl

abbrev paired : {A : Type 0} → A → Read ℕ (List A) → Read ℕ (A × List A)
paired x read = read >>= λ y. Ok ((x, y.0), y.1)

abbrev joined : {A : Type 0} → Read ℕ (A × List A) → Read ℕ (List A)
joined read = read >>= λ z. Ok (z.0.0 ∷ z.0.1, z.1)

abbrev behind_one : {A : Type 0} → A → Read ℕ (List A) → Read ℕ (List A)
behind_one x read = read >>= λ xs. Ok (x ∷ xs.0, xs.1)

one_step : {A : Type 0} (x : A) (read : Read ℕ (List A)) → behind_one x read ≡ joined (paired x read)
one_step x (Ok y) = refl
one_step x (Err e) = refl

regrouped : {A : Type 0} (first : Read ℕ A) (others : List ℕ → Read ℕ (List A)) → (first >>= λ x. behind_one x.0 (others x.1)) ≡ joined (first >>= λ x. paired x.0 (others x.1))
regrouped (Err e) others = refl
regrouped (Ok x) others = one_step x.0 (others x.1)

abbrev goes_on : (ℕ → Bool) → ℕ → Bool
goes_on stop b = not (stop b)

abbrev more_of : {A : Type 0} → (ℕ → Bool) → Reader A → ℕ → Reader (List A)
more_of stop r n ts = made (λ x. x.0 ∷ x.1) (both r (up_to stop r n)) ts

abbrev nothing : {A : Type 0} → Reader (List A)
nothing ts = Ok ([], ts)

step : {A : Type 0} (stop : ℕ → Bool) (r : Reader A) (n : ℕ) (ts : List ℕ) → up_to stop r (suc n) ts ≡ either (goes_on stop) (more_of stop r n) nothing ts
unfolding up_to
step stop r n [] = refl
step stop r n (b ∷ bs) =
    turned (stop b) (Ok ([], b ∷ bs)) (r (b ∷ bs) >>= λ x. behind_one x.0 (up_to stop r n x.1))
    ∙ ap (λ (read : Read ℕ (List _)). cond (not (stop b)) read (Ok ([], b ∷ bs))) (regrouped (r (b ∷ bs)) (up_to stop r n))

same : {A B : Type 0} (f g : A → B) → ((x : A) → f x ≡ g x) → f ≡ g
same f g h = λ i. λ x. h x i

module _ {A : Type 0} {t : A → List ℕ} {f : A → Type 0} {r : Reader A} (stop : ℕ → Bool) (e : Exact t f Any r) (starts : (x : A) → f x → (b : ℕ) × (bs : List ℕ) × (t x ≡ b ∷ bs) × (stop b ≡ false)) where
  empty_only : (xs : List A) → AreUpTo f 0 xs → [] ≡ xs
  empty_only [] h = refl
  empty_only (x ∷ xs) h = let q : suc (length xs) ≤ 0 = h.0 in absurd (omega (arith, q))

  more_is : (n : ℕ) (xs : List A) → AreMore f n xs → AreUpTo f (suc n) xs
  more_is n [] h = absurd h
  more_is n (x ∷ xs) h = let q : length xs ≤ n = h.1.0 in let p : suc (length xs) ≤ suc n = omega (arith, q) in (p, (h.0, h.1.1))

  none_is : (n : ℕ) (xs : List A) → AreNone xs → AreUpTo f (suc n) xs
  none_is n [] h = (omega arith, tt)
  none_is n (x ∷ xs) h = absurd h

  sorted : (n : ℕ) (xs : List A) → AreUpTo f (suc n) xs → AreMore f n xs ⊎ AreNone xs
  sorted n [] h = inr tt
  sorted n (x ∷ xs) h = let q : suc (length xs) ≤ suc n = h.0 in let p : length xs ≤ n = omega (arith, q) in inl (h.1.0, (p, h.1.1))

  more_back : (n : ℕ) (xs : List A) → AreMore f n xs → (x : A × List A) × (x.0 ∷ x.1 ≡ xs) × (flat_map t xs ≡ t x.0 ++ flat_map t x.1) × (f x.0 × AreUpTo f n x.1)
  more_back n [] h = absurd h
  more_back n (x ∷ xs) h = ((x, xs), refl, refl, h)

  more_starts : (n : ℕ) (xs : List A) (rest : List ℕ) → AreMore f n xs → first_passes (goes_on stop) (flat_map t xs ++ rest) ≡ true
  more_starts n [] rest h = absurd h
  more_starts n (x ∷ xs) rest h = let s = starts x h.0 in ap (λ (ws : List ℕ). first_passes (goes_on stop) ((ws ++ flat_map t xs) ++ rest)) s.2 ∙ ap not s.3

  none_stops : (xs : List A) (rest : List ℕ) → AreNone xs → is_over stop rest ≡ true → first_passes (goes_on stop) (flat_map t xs ++ rest) ≡ false
  none_stops [] [] h over = refl
  none_stops [] (b ∷ rest) h over = ap not over
  none_stops (x ∷ xs) rest h over = absurd h

  none_only : (xs : List A) → AreNone xs → [] ≡ xs
  none_only [] h = refl
  none_only (x ∷ xs) h = absurd h

  pub exact_up_to : (n : ℕ) → Exact (flat_map t) (AreUpTo f n) (λ rest. is_over stop rest ≡ true) (up_to stop r n)
  unfolding up_to
  exact_up_to zero = exact_before (λ rest. is_over stop rest ≡ true) (λ rest h. tt) (exact_done (flat_map t) (AreUpTo f 0) [] refl (omega arith, tt) empty_only)
  exact_up_to (suc n) =
      subst (λ (q : Reader (List A)). Exact (flat_map t) (AreUpTo f (suc n)) (λ rest. is_over stop rest ≡ true) q) (sym (same (up_to stop r (suc n)) (either (goes_on stop) (more_of stop r n) nothing) (step stop r n)))
      (exact_choice (AreUpTo f (suc n)) (goes_on stop)
      (exact_made (flat_map t) (AreMore f n) (λ x. x.0 ∷ x.1) (exact_both e (exact_up_to n) (λ xs rest h g. tt)) (λ x h. (refl, h)) (more_back n))
      (exact_done (flat_map t) AreNone [] refl tt none_only)
      (more_is n) (none_is n) (sorted n) (λ rest. is_over stop rest ≡ true) (λ xs rest h over. more_starts n xs rest h) none_stops (λ rest over. over) (λ rest over. tt))
