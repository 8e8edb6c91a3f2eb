-- The first accepted candidate of a list.
use Rattle.std.proofs.Common.{◌≡◌, ℕ, zero, suc, ◌+◌, ◌<◌, ◌≤◌, Bool, true, false, cond, List, [], ◌∷◌, length, take, slice_get, nat_le, refl, sym, ap, ◌∙◌, subst, arith}
use Rattle.std.proofs.lemmas.Bool.Decides.{nat_tests}
use Rattle.std.proofs.lemmas.Option.{slice_get_within}
use Rattle.std.specs.declared.option.Option.{Option}
use Rattle.std.specs.declared.option.Option.TheVariants.{Some, None}
use Rattle.tor_axioms.specs.Accepts.{Proof}
use Rattle.kernel_lang.specs.Plain.{Fragment}
use Rattle.templates.specs.Numbered.{candidates_of}
use Rattle.query_search.specs.Firsts.{IsPassed, IsVerdict}
use Rattle.query_search.specs.Verdicts.{Hit, NoneOf, Budget, or_later, proofs_of, first_hit, verdict_by, verdict}

abbrev Passes : Fragment → List (List ℕ) → ℕ → Type 0
Passes f cs j = (c : List ℕ) → slice_get cs j ≡ Some c → proofs_of f c ≡ None

abbrev IsFirst : Fragment → ℕ → List (List ℕ) → Option Hit → Type 0
IsFirst f k cs (Some h) = (i : ℕ) × (h.k ≡ k + i) × (slice_get cs i ≡ Some h.candidate) × (proofs_of f h.candidate ≡ Some h.proofs) × ((j : ℕ) → j < i → Passes f cs j)
IsFirst f k cs None = (j : ℕ) → Passes f cs j

some_eq : {X : Type 0} (x y : X) → Some x ≡ Some y → x ≡ y
some_eq x y e = ap (λ o. elim o [ Some z ↦ z | None ↦ x ]) e

passes-more : (f : Fragment) (c : List ℕ) (cs : List (List ℕ)) → proofs_of f c ≡ None → (j : ℕ) → ((i : ℕ) → i < j → Passes f cs i) → (i : ℕ) → i < suc j → Passes f (c ∷ cs) i
passes-more f c cs e j h zero l d at = ap (proofs_of f) (sym (some_eq c d at)) ∙ e
passes-more f c cs e j h (suc i) l d at = h i (omega arith) d at

first-later : (f : Fragment) (k : ℕ) (c : List ℕ) (cs : List (List ℕ)) → (o : Option (List Proof)) → proofs_of f c ≡ o → (later : Option Hit) → IsFirst f (suc k) cs later → IsFirst f k (c ∷ cs) (or_later k c o later)
first-later f k c cs (Some ds) e later h = (0, omega arith, refl, e, λ j l. absurd (omega arith))
first-later f k c cs None e (Some x) h = (suc h.0, (let n = h.1 in omega (arith, n)), h.2, h.3, passes-more f c cs e h.0 h.4)
first-later f k c cs None e None h = λ j. passes-more f c cs e j (λ i l. h i) j (omega arith)

first-of : (f : Fragment) (k : ℕ) (cs : List (List ℕ)) → IsFirst f k cs (first_hit f k cs)
unfolding first_hit
first-of f k [] = λ j c e. absurd cc
first-of f k (c ∷ cs) = first-later f k c cs (proofs_of f c) refl (first_hit f (suc k) cs) (first-of f (suc k) cs)

taken : {X : Type 0} (n : ℕ) (xs : List X) (j : ℕ) (x : X) → slice_get (take n xs) j ≡ Some x → (j < n) × (slice_get xs j ≡ Some x)
taken zero xs j x e = absurd cc
taken (suc n) [] j x e = absurd cc
taken (suc n) (y ∷ ys) zero x e = (omega arith, e)
taken (suc n) (y ∷ ys) (suc j) x e = let t = taken n ys j x e in ((let l = t.0 in omega (arith, l)), t.1)

to_take : {X : Type 0} (n : ℕ) (xs : List X) (j : ℕ) (x : X) → j < n → slice_get xs j ≡ Some x → slice_get (take n xs) j ≡ Some x
to_take zero xs j x l e = absurd (omega arith)
to_take (suc n) [] j x l e = absurd cc
to_take (suc n) (y ∷ ys) zero x l e = e
to_take (suc n) (y ∷ ys) (suc j) x l e = to_take n ys j x (omega arith) e

module _ (f : Fragment) (size budget : ℕ) where
  passed : ((j : ℕ) → Passes f (take budget (candidates_of f size)) j) → (j : ℕ) → j < budget → IsPassed f size j
  passed h j l c e = h j c (to_take budget (candidates_of f size) j c l e)

  by_first : (o : Option Hit) → IsFirst f 0 (take budget (candidates_of f size)) o → IsVerdict f size budget (verdict_by budget (length (candidates_of f size)) o)
  by_first (Some h) g =
      let t = taken budget (candidates_of f size) g.0 h.candidate g.2 in
      let k : h.k ≡ g.0 = (let n = g.1 in omega (arith, n)) in (
        (let l = t.0 in omega (arith, k, l)),
        subst (λ k. slice_get (candidates_of f size) k ≡ Some h.candidate) (sym k) t.1,
        g.3,
        λ j l c e.
            (let below : j < g.0 = omega (arith, k, l) in
            let small : j < budget = (let b = t.0 in omega (arith, below, b)) in
            g.4 j below c (to_take budget (candidates_of f size) j c small e)),
      )
  by_first None g = go (nat_le (length (candidates_of f size)) budget) refl
    where
      go : (b : Bool) → nat_le (length (candidates_of f size)) budget ≡ b → IsVerdict f size budget (cond b (NoneOf (length (candidates_of f size))) (Budget budget (length (candidates_of f size))))
      go true e =
          let l : length (candidates_of f size) ≤ budget = grind (arith, nat_tests) in
          (refl, l, λ j c at. passed g j (let within : j < length (candidates_of f size) = slice_get_within (candidates_of f size) j c at in omega (arith, l, within)) c at)
      go false e = let l : budget < length (candidates_of f size) = grind (arith, nat_tests) in (refl, refl, l, passed g)

  pub verdict-first : IsVerdict f size budget (verdict f size budget)
  unfolding verdict
  verdict-first = by_first (first_hit f 0 (take budget (candidates_of f size))) (first-of f 0 (take budget (candidates_of f size)))
