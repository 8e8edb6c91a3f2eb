-- Readers of values that have one text each: a reader is exact where it reads that text alone, and
-- finds the first fault. Exact readers make exact readers.
use Rattle.std.proofs.Common.{◌≡◌, ℕ, ◌<◌, Bool, true, false, cond, List, [], ◌∷◌, ◌++◌, length, Some, None, Ok, refl, sym, ap, ap₂, subst, ◌∙◌, arith, inl, inr, ◌⊎◌}
use Rattle.std.specs.Prelude.{nat_eq}
use Rattle.std.specs.List.{flat_map}
use Rattle.std.proofs.lemmas.Bool.{eqb-true}
use Rattle.readers.specs.Reading.{both, made, first_passes, either, is_over, many, IsToken, HasBoth, HasMany}
use Rattle.readers.proofs.Tools.{ok_is}
use Rattle.readers.proofs.Lawful.{Takes, Lawful, Inhabited, alike, token_lawful, both_lawful, made_lawful, either_lawful}
use Rattle.readers.proofs.Many.{many_lawful}
use Rattle.readers.proofs.Again.{Again, Any, Leads, token_again, both_again, made_again, many_again}
use Rattle.text_readers.specs.Bytes.{Reader, passing, byte_at, word_at}
use Rattle.text_readers.specs.Offsets.{Each}
use Rattle.readers.proofs.Shallow.{Shallow, token_shallow, both_shallow, made_shallow, either_shallow, many_shallow}

abbrev pub IsText : {A : Type 0} → (A → List ℕ) → (A → Type 0) → List ℕ → A → Type 0
IsText text fits ts x = (ts ≡ text x) × fits x

pub record Exact {A : Type 0} (text : A → List ℕ) (fits : A → Type 0) (Follows : List ℕ → Type 0) (r : Reader A) : Type 0 where
  pub lawful : Lawful (IsText text fits) r
  pub again : Again (IsText text fits) Follows r
  pub shallow : Shallow r
  pub some : A
  pub fit : fits some

inhabited : {A : Type 0} (text : A → List ℕ) (fits : A → Type 0) (x : A) → fits x → Inhabited (IsText text fits)
inhabited text fits x h = record { tokens = text x; value = x; has = (refl, h) }

-- a reader of one thing reads another that has all of its texts
pub as_lawful : {A : Type 0} (P Q : List ℕ → A → Type 0) (r : Reader A) → ((ts : List ℕ) (x : A) → P ts x → Q ts x) → Lawful P r → Lawful Q r
as_lawful P Q r turn law = record {
  found = λ ts x e. let t = law.found ts x e in record { front = t.front; parts = t.parts; has = turn t.front x.0 t.has };
  begins = λ ts n e. let b = law.begins ts n e in record { front = b.front; rest = b.rest; parts = b.parts; left = b.left; tail = b.tail; value = b.value; has = turn (b.front ++ b.tail) b.value b.has };
  stays = law.stays;
  same = law.same;
}

abbrev Anything : {A : Type 0} → A → Type 0
Anything x = Unit {0}

-- ---- single bytes and words

passes : (b t : ℕ) (u : Unit {0}) → passing (λ s. nat_eq s b) t ≡ Some u → t ≡ b
passes b t u e = by_test (nat_eq t b) refl e
  where
    by_test : (v : Bool) → nat_eq t b ≡ v → cond v (Some tt) None ≡ Some u → t ≡ b
    by_test true is e = eqb-true t b is
    by_test false is e = absurd cc

same_byte : (b : ℕ) → nat_eq b b ≡ true
same_byte b = grind arith

passed : (b : ℕ) → passing (λ s. nat_eq s b) b ≡ Some tt
passed b = rw (same_byte b) refl

pub exact_byte : (b : ℕ) → Exact (λ (u : Unit {0}). b ∷ []) Anything Any (byte_at b)
exact_byte b =
    let f = passing (λ s. nat_eq s b) in
    record {
      lawful = as_lawful (IsToken f) (IsText (λ (u : Unit {0}). b ∷ []) Anything) (byte_at b)
          (λ ts u h. (h.1 ∙ ap (λ (t : ℕ). t ∷ []) (passes b h.0 u h.2), tt))
          (token_lawful f (record { tokens = b ∷ []; value = tt; has = (b, refl, passed b) }));
      again = λ us u rest h any. token_again f us u rest (b, h.0, passed b) any;
      shallow = token_shallow f;
      some = tt;
      fit = tt;
    }

-- ---- one, and then the other

abbrev pub both_text : {A B : Type 0} → (A → List ℕ) → (B → List ℕ) → A × B → List ℕ
both_text ta tb x = ta x.0 ++ tb x.1

abbrev pub both_fits : {A B : Type 0} → (A → Type 0) → (B → Type 0) → A × B → Type 0
both_fits fa fb x = fa x.0 × fb x.1

module _ {A B : Type 0} (ta : A → List ℕ) (tb : B → List ℕ) (fa : A → Type 0) (fb : B → Type 0) where
  together : (ts : List ℕ) (x : A × B) → HasBoth (IsText ta fa) (IsText tb fb) ts x → IsText (both_text ta tb) (both_fits fa fb) ts x
  together ts x h = (h.parts ∙ ap₂ (λ (us vs : List ℕ). us ++ vs) h.first.0 h.second.0, (h.first.1, h.second.1))

  apart : (ts : List ℕ) (x : A × B) → IsText (both_text ta tb) (both_fits fa fb) ts x → HasBoth (IsText ta fa) (IsText tb fb) ts x
  apart ts x h = record { us = ta x.0; vs = tb x.1; parts = h.0; first = (refl, h.1.0); second = (refl, h.1.1) }

-- the first is read up to where the second begins
pub exact_both : {A B : Type 0} {ta : A → List ℕ} {tb : B → List ℕ} {fa : A → Type 0} {fb : B → Type 0} {F G : List ℕ → Type 0} {r : Reader A} {s : Reader B}
    → Exact ta fa F r → Exact tb fb G s → ((y : B) (rest : List ℕ) → fb y → G rest → F (tb y ++ rest)) → Exact (both_text ta tb) (both_fits fa fb) G (both r s)
exact_both {ta} {tb} {fa} {fb} {F} {G} {r} {s} p q joins = record {
  lawful = as_lawful (HasBoth (IsText ta fa) (IsText tb fb)) (IsText (both_text ta tb) (both_fits fa fb)) (both r s) (together ta tb fa fb)
      (both_lawful (IsText ta fa) (IsText tb fb) r s p.lawful q.lawful (inhabited tb fb q.some q.fit));
  again = λ us x rest h follows.
      both_again (IsText ta fa) (IsText tb fb) F G r s p.again q.again
      (λ vs y rest h g. subst (λ (ws : List ℕ). F (ws ++ rest)) (sym h.0) (joins y rest h.1 g))
      us x rest (apart ta tb fa fb us x h) follows;
  shallow = both_shallow r s p.shallow q.shallow;
  some = (p.some, q.some);
  fit = (p.fit, q.fit);
}

-- ---- a value made of what is read

module _ {A B : Type 0} {ta : A → List ℕ} {fa : A → Type 0} {F : List ℕ → Type 0} {r : Reader A} (tb : B → List ℕ) (fb : B → Type 0) (f : A → B) where
  pub exact_made : Exact ta fa F r → ((x : A) → fa x → IsText tb fb (ta x) (f x)) → ((y : B) → fb y → (x : A) × (f x ≡ y) × (tb y ≡ ta x) × fa x) → Exact tb fb F (made f r)
  exact_made p to back = record {
    lawful = made_lawful (IsText ta fa) (IsText tb fb) f r (λ ts x h. let t = to x h.1 in (h.0 ∙ t.0, t.1)) p.lawful;
    again = λ us y rest h follows.
        let b = back y h.1 in
        subst (λ (z : B). Leads (made f r (us ++ rest)) (Ok (z, rest))) b.1
        (made_again (IsText ta fa) F f r p.again us b.0 rest (h.0 ∙ b.2, b.3) follows);
    shallow = made_shallow f r p.shallow;
    some = f p.some;
    fit = (to p.some p.fit).1;
  }

-- ---- many

module _ {A : Type 0} (t : A → List ℕ) (f : A → Type 0) where
  gathers : (xs : List A) (ts : List ℕ) → HasMany (IsText t f) ts xs → IsText (flat_map t) (Each f) ts xs
  gathers [] ts h = (h, tt)
  gathers (x ∷ xs) ts h = let others = gathers xs h.1 h.4 in (h.2 ∙ ap₂ (λ (us vs : List ℕ). us ++ vs) h.3.0 others.0, (h.3.1, others.1))

  spreads : (xs : List A) → Each f xs → HasMany (IsText t f) (flat_map t xs) xs
  spreads [] h = refl
  spreads (x ∷ xs) h = (t x, flat_map t xs, refl, (refl, h.0), spreads xs h.1)

longer : (ts : List ℕ) (b : ℕ) (bs : List ℕ) → ts ≡ b ∷ bs → 0 < length ts
longer ts b bs e = subst (λ (us : List ℕ). 0 < length us) (sym e) (omega arith)

-- the text of each begins with a byte that does not stop, and what stops may follow each
pub exact_many : {A : Type 0} {t : A → List ℕ} {f : A → Type 0} {F : List ℕ → Type 0} {r : Reader A} (stop : ℕ → Bool) → Exact t f F r → ((x : A) → f x → (b : ℕ) × (bs : List ℕ) × (t x ≡ b ∷ bs) × (stop b ≡ false))
    → ((rest : List ℕ) → is_over stop rest ≡ true → F rest) → ((x : A) (rest : List ℕ) → f x → F (t x ++ rest)) → Exact (flat_map t) (Each f) (λ rest. is_over stop rest ≡ true) (many stop r)
exact_many {t} {f} {F} {r} stop p starts over next = record {
  lawful = as_lawful (HasMany (IsText t f)) (IsText (flat_map t) (Each f)) (many stop r) (λ ts xs h. gathers t f xs ts h)
      (many_lawful stop (IsText t f) r p.lawful (λ us x h. let s = starts x h.1 in longer us s.0 s.1 (h.0 ∙ s.2)));
  again = λ us xs rest h follows.
      subst (λ (ws : List ℕ). Leads (many stop r (ws ++ rest)) (Ok (xs, rest))) (sym h.0)
      (many_again stop (IsText t f) F r p.again (λ us x h. let s = starts x h.1 in (s.0, s.1, h.0 ∙ s.2, s.3)) over
      (λ us x rest h. subst (λ (ws : List ℕ). F (ws ++ rest)) (sym h.0) (next x rest h.1))
      (flat_map t xs) xs rest (spreads t f xs h.1) follows);
  shallow = many_shallow stop r p.shallow;
  some = [];
  fit = tt;
}

-- ---- the one or the other, by the first byte

module _ {A : Type 0} {text : A → List ℕ} {f g : A → Type 0} {F G : List ℕ → Type 0} {r s : Reader A} (fits : A → Type 0) (test : ℕ → Bool) where
  pub exact_either : Exact text f F r → Exact text g G s → ((x : A) → f x → fits x) → ((x : A) → g x → fits x) → ((x : A) → fits x → f x ⊎ g x)
      → ((x : A) (rest : List ℕ) → f x → first_passes test (text x ++ rest) ≡ true) → ((x : A) (rest : List ℕ) → g x → first_passes test (text x ++ rest) ≡ false)
      → (H : List ℕ → Type 0) → ((rest : List ℕ) → H rest → F rest) → ((rest : List ℕ) → H rest → G rest) → Exact text fits H (either test r s)
  exact_either p q left right sort passing failing H to_left to_right = record {
    lawful = either_lawful (IsText text fits) test r s
        (as_lawful (IsText text f) (IsText text fits) r (λ ts x h. (h.0, left x h.1)) p.lawful)
        (as_lawful (IsText text g) (IsText text fits) s (λ ts x h. (h.0, right x h.1)) q.lawful);
    again = λ us x rest h follows. elim (sort x h.1) [
      | inl k ↦
          let is : first_passes test (us ++ rest) ≡ true = ap (λ (ws : List ℕ). first_passes test (ws ++ rest)) h.0 ∙ passing x rest k in
          rw is (p.again us x rest (h.0, k) (to_left rest follows))
      | inr k ↦
          let is : first_passes test (us ++ rest) ≡ false = ap (λ (ws : List ℕ). first_passes test (ws ++ rest)) h.0 ∙ failing x rest k in
          rw is (q.again us x rest (h.0, k) (to_right rest follows))
    ];
    shallow = either_shallow test r s p.shallow q.shallow;
    some = p.some;
    fit = left p.some p.fit;
  }

-- ---- words

abbrev pub Whichever : Unit {0} → Type 0
Whichever u = Unit {0}

pub exact_word : (bs : List ℕ) → Exact (λ (u : Unit {0}). bs) Whichever Any (word_at bs)
unfolding word_at
exact_word [] = record {
  lawful = record {
    found = λ ts x e. subst (λ (y : Unit {0} × List ℕ). Takes (IsText (λ (u : Unit {0}). []) Whichever) ts y.0 y.1) (ok_is (tt, ts) x e) (record { front = []; parts = refl; has = (refl, tt) });
    begins = λ ts n e. absurd cc;
    stays = λ n us le. le;
    same = λ rest rest' us vs ag. alike ag;
  };
  again = λ us u rest h any. inl (ap (λ (ws : List ℕ). Ok (tt, ws ++ rest)) h.0);
  shallow = λ ts d. d;
  some = tt;
  fit = tt;
}
exact_word (b ∷ bs) =
    exact_made (λ (u : Unit {0}). b ∷ bs) Whichever (λ _. tt) (exact_both (exact_byte b) (exact_word bs) (λ y rest h g. tt)) (λ x h. (refl, tt)) (λ y h. ((tt, tt), refl, refl, (tt, tt)))
