-- Parts of the candidates.
use Rattle.std.proofs.Common.{◌≡◌, ℕ, ◌+◌, ◌-◌, ◌≤◌, ◌<◌, List, length, take, drop, slice_get, min, nat_le, Bool, cond, is_some, true, false, Result, IfOk, refl, sym, ap, ◌∙◌, subst, arith}
use Rattle.std.proofs.lemmas.Bool.Decides.{nat_tests}
use Rattle.std.proofs.lemmas.List.{take_min}
use Rattle.std.specs.Option.{option_map}
use Rattle.std.specs.declared.option.Option.{Option}
use Rattle.std.specs.declared.option.Option.TheVariants.{Some, None}
use Rattle.tor_axioms.specs.Accepts.{Proof}
use Rattle.kernel_lang.specs.Plain.{Fragment}
use Rattle.templates.specs.Numbered.{candidates_of}
use Rattle.query_search.specs.declared.walk.Accepted.{Accepted}
use Rattle.query_search.specs.declared.walk.WalkedPart.{WalkedPart}
use Rattle.query_search.specs.Counted.{AreCounted, none}
use Rattle.query_search.specs.Seen.{hit_in}
use Rattle.query_search.specs.Verdicts.{Hit, NoneOf, Budget, or_later, proofs_of, first_hit, verdict_by, verdict, before, IsAcceptedFor}
use Rattle.query_search.specs.Walks.{hit_within, end_of, IsPart}
use Rattle.query_search.proofs.Counts.{nothing-counted, one-dropped, one-kept, counts-join}
use Rattle.query_search.proofs.Hits.{or_else, none-hit, one-hit, halves-hit}

module _ {D K : ℕ → Type 0} (f : Fragment) (size : ℕ) where
  pub no-part : (k : ℕ) → IsPart f size D K k 0 None 0
  no-part k = record { exact = sym (none-hit f size k); counted = nothing-counted k; few = omega arith; found = tt }

  pub dropped-part : (k : ℕ) (c : List ℕ) → slice_get (candidates_of f size) k ≡ Some c → proofs_of f c ≡ None → D k → IsPart f size D K k 1 None 1
  dropped-part k c e refused d = record { exact = sym (one-hit f size k c e ∙ ap (λ o. or_later k c o None) refused); counted = one-dropped k d; few = omega arith; found = tt }

  pub refused-part : (k : ℕ) (c : List ℕ) → slice_get (candidates_of f size) k ≡ Some c → proofs_of f c ≡ None → K k → IsPart f size D K k 1 None 0
  refused-part k c e refused h = record { exact = sym (one-hit f size k c e ∙ ap (λ o. or_later k c o None) refused); counted = one-kept k h; few = omega arith; found = tt }

  pub accepted-part : (k : ℕ) (c : List ℕ) (ds : List Proof) → slice_get (candidates_of f size) k ≡ Some c → proofs_of f c ≡ Some ds → IsAcceptedFor f c ds
      → IsPart f size D K k 1 (Some (record { k = k; candidate = c; proofs = ds })) 0
  accepted-part k c ds e some h = record { exact = sym (one-hit f size k c e ∙ ap (λ o. or_later k c o None) some); counted = none k; few = omega arith; found = h }

  pub first-part : (k a b : ℕ) (h : Hit) (m : ℕ) → k + a ≤ length (candidates_of f size) → IsPart f size D K k a (Some h) m → IsPart f size D K k (a + b) (Some h) m
  first-part k a b h m l p =
      record { exact = sym (halves-hit f size k a b l ∙ ap (λ o. or_else o (hit_within f size (k + a) b)) (sym p.exact)); counted = p.counted; few = (let few = p.few in omega (arith, few)); found = p.found }

  pub both-parts : (k a b : ℕ) (h : Option Hit) (m n : ℕ) → k + a ≤ length (candidates_of f size) → IsPart f size D K k a None m → IsPart f size D K (k + a) b h n → IsPart f size D K k (a + b) h (m + n)
  both-parts k a b h m n l p q =
      let e : k + a + b ≡ k + (a + b) = omega arith in
      let end : AreCounted D K (k + a) (end_of (k + (a + b)) h) n = subst (λ end. AreCounted D K (k + a) (end_of end h) n) e q.counted in
      record {
        exact = q.exact ∙ sym (halves-hit f size k a b l ∙ ap (λ o. or_else o (hit_within f size (k + a) b)) (sym p.exact));
        counted = counts-join k (k + a) (end_of (k + (a + b)) h) m n p.counted end;
        few = (let few = p.few in let more = q.few in omega (arith, few, more));
        found = q.found;
      }

  -- ---- parts as the code has them

  pub no-part-at : (k n : ℕ) → n ≡ 0 → IsPart f size D K k n None 0
  no-part-at k n e = subst (λ n. IsPart f size D K k n None 0) (sym e) (no-part k)

  pub first-part-at : (k n half : ℕ) (a : Option Accepted) (m : ℕ) → is_some a ≡ true → half ≤ n → k + n ≤ length (candidates_of f size) → IsPart f size D K k half (option_map hit_in a) m
      → IsPart f size D K k n (option_map hit_in a) m
  first-part-at k n half None m e h l p = absurd cc
  first-part-at k n half (Some a) m e h l p =
      let whole : half + (n - half) ≡ n = omega (arith, h) in
      subst (λ n. IsPart f size D K k n (Some (hit_in a)) m) whole (first-part k half (n - half) (hit_in a) m (omega (arith, h, l)) p)

  pub both-parts-at : (k n half : ℕ) (a b : Option Accepted) (m m' : ℕ) → is_some a ≡ false → half ≤ n → k + n ≤ length (candidates_of f size) → IsPart f size D K k half (option_map hit_in a) m
      → IsPart f size D K (k + half) (n - half) (option_map hit_in b) m' → IsPart f size D K k n (option_map hit_in b) (m + m')
  both-parts-at k n half (Some a) b m m' e h l p q = absurd cc
  both-parts-at k n half None b m m' e h l p q =
      let whole : half + (n - half) ≡ n = omega (arith, h) in
      subst (λ n. IsPart f size D K k n (option_map hit_in b) (m + m')) whole (both-parts k half (n - half) (option_map hit_in b) m m' (omega (arith, h, l)) p q)

pub one-part-at : (f : Fragment) (size : ℕ) (D K : ℕ → Type 0) {E : Type 0} (k n : ℕ) → n ≡ 1 → (r : Result WalkedPart E) → IfOk r (λ part. IsPart f size D K k 1 (option_map hit_in part.hit) part.dropped)
    → IfOk r (λ part. IsPart f size D K k n (option_map hit_in part.hit) part.dropped)
one-part-at f size D K k n e r h = subst (λ n. IfOk r (λ part. IsPart f size D K k n (option_map hit_in part.hit) part.dropped)) (sym e) h

-- ---- the whole

budgeted : (budget n : ℕ) (cs : List (List ℕ)) → n ≡ length cs → take (min budget n) (drop 0 cs) ≡ take budget cs
budgeted budget n cs e = ap (λ n. take (min budget n) cs) e ∙ take_min budget cs

ended : (budget n : ℕ) (o : Option Hit) → before (verdict_by budget n o) ≡ end_of (0 + min budget n) o
ended budget n (Some h) = refl
ended budget n None = go (nat_le n budget) refl
  where
    go : (b : Bool) → nat_le n budget ≡ b → before (cond b (NoneOf n) (Budget budget n)) ≡ 0 + min budget n
    go true e = let h : n ≤ budget = grind (arith, nat_tests) in omega (arith, h)
    go false e = let h : budget < n = grind (arith, nat_tests) in omega (arith, h)

module _ {D K : ℕ → Type 0} (f : Fragment) (size budget n judged : ℕ) (o : Option Hit) (m : ℕ) where
  pub whole-exact : n ≡ length (candidates_of f size) → judged ≡ min budget n → IsPart f size D K 0 judged o m → verdict_by budget n o ≡ verdict f size budget
  unfolding verdict hit_within
  whole-exact e j p =
      ap (verdict_by budget n) (p.exact ∙ ap (λ k. first_hit f 0 (take k (drop 0 (candidates_of f size)))) j ∙ ap (first_hit f 0) (budgeted budget n (candidates_of f size) e))
      ∙ ap (λ n. verdict_by budget n (first_hit f 0 (take budget (candidates_of f size)))) e

  pub whole-counted : n ≡ length (candidates_of f size) → judged ≡ min budget n → IsPart f size D K 0 judged o m → AreCounted D K 0 (before (verdict f size budget)) m
  whole-counted e j p = subst (λ end. AreCounted D K 0 end m) (ap (λ k. end_of (0 + k) o) j ∙ sym (ended budget n o) ∙ ap before (whole-exact e j p)) p.counted
