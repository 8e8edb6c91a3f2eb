-- Choices by their numbers, and what fails with them.
use Rattle.std.proofs.Common.{if◌then◌else◌, ◌≡◌, ℕ, zero, suc, ◌+◌, ◌*◌, ◌/◌, ◌%◌, ◌<◌, ◌≤◌, Bool, Result, Ok, Err, IfOk, map, get_or, true, false, List, [], ◌∷◌, ◌++◌, length, drop, slice_get, nat_eq, is_some, refl, sym, ap, ap₂, ◌∙◌, subst, arith}
use Rattle.std.specs.List.{list_any}
use Rattle.std.specs.declared.option.Option.{Option}
use Rattle.std.specs.declared.option.Option.TheVariants.{Some, None}
use Rattle.tor_terms.specs.Plain.{Form}
use Rattle.tor_axioms.specs.Accepts.{Proof, Claim}
use Rattle.tor_prover.specs.Derive.{derivation_of}
use Rattle.kernel_lang.specs.declared.parts.Acc.{Acc}
use Rattle.kernel_lang.specs.Plain.{Accumulator, Fragment, accumulator}
use Rattle.kernel_lang.specs.Pools.{chosen, members_from}
use Rattle.vc_gen.specs.Conditions.{own_conditions, all_conditions}
use Rattle.vc_gen.specs.Short.{AllShort}
use Rattle.query_search.specs.Choices.{digits, chosen_by, member_of, member_at, IsFailing}
use Rattle.query_search.specs.Verdicts.{with_derivation, all_derived}

one_digit : (b : Bool) (d : ℕ) (f : Form) (fs : List Form) → chosen_by ((if b then 1 else 0) + 2 * d) (f ∷ fs) ≡ (if b then f ∷ chosen_by d fs else chosen_by d fs)
one_digit true d f fs =
    let low : (1 + 2 * d) % 2 ≡ 1 = omega arith in
    let high : (1 + 2 * d) / 2 ≡ d = omega arith in
    ap₂ (λ m n. if nat_eq m 1 then f ∷ chosen_by n fs else chosen_by n fs) low high
one_digit false d f fs =
    let low : (0 + 2 * d) % 2 ≡ 0 = omega arith in
    let high : (0 + 2 * d) / 2 ≡ d = omega arith in
    ap₂ (λ m n. if nat_eq m 1 then f ∷ chosen_by n fs else chosen_by n fs) low high

chosen-digits : (c : List ℕ) (n : ℕ) (pool : List Form) → chosen_by (digits c n pool) pool ≡ chosen c n pool
chosen-digits c n [] = refl
chosen-digits c n (f ∷ fs) =
    one_digit (list_any (nat_eq n) c) (digits c (suc n) fs) f fs
    ∙ ap (λ gs. if list_any (nat_eq n) c then f ∷ gs else gs) (chosen-digits c (suc n) fs)

pub member-placed : (f : Fragment) (c : List ℕ) (n i place : ℕ) (a : Accumulator) → i < 8 → place ≡ digits c n a.pool * 8 + i → slice_get f.accs i ≡ Some a → member_at f place ≡ Some (a, chosen c n a.pool)
member-placed f c n i place a small e at =
    let high : place / 8 ≡ digits c n a.pool = omega (arith, small, e) in
    let low : place % 8 ≡ i = omega (arith, small, e) in
    ap₂ (λ m k. member_of m (slice_get f.accs k)) high low
    ∙ ap (member_of (digits c n a.pool)) at
    ∙ ap (λ fs. Some (a, fs)) (chosen-digits c n a.pool)

-- ---- conditions without derivations

with_none : (o : Option Proof) → with_derivation o None ≡ None
with_none None = refl
with_none (Some d) = refl

some_none : {A : Type 0} (x : A) → Some x ≡ None → ⊥
some_none x e = absurd cc

left_none : (o : Option Proof) (p q : Option (List Proof)) → (p ≡ None → q ≡ None) → with_derivation o p ≡ None → with_derivation o q ≡ None
left_none None p q f h = refl
left_none (Some d) None q f h = ap (with_derivation (Some d)) (f refl)
left_none (Some d) (Some ds) q f h = absurd (some_none (d ∷ ds) h)

derived-left : (xs ys : List Claim) → all_derived xs ≡ None → all_derived (xs ++ ys) ≡ None
unfolding all_derived
derived-left [] ys e = absurd (some_none [] e)
derived-left (x ∷ xs) ys e = left_none (derivation_of x) (all_derived xs) (all_derived (xs ++ ys)) (derived-left xs ys) e

derived-right : (xs ys : List Claim) → all_derived ys ≡ None → all_derived (xs ++ ys) ≡ None
unfolding all_derived
derived-right [] ys e = e
derived-right (x ∷ xs) ys e = ap (with_derivation (derivation_of x)) (derived-right xs ys e) ∙ with_none (derivation_of x)

none_from : (o : Option Proof) → is_some o ≡ false → o ≡ None
none_from None e = refl
none_from (Some d) e = absurd cc

pub derived-none_at : (cs : List Claim) (n : ℕ) (c : Claim) → slice_get cs n ≡ Some c → is_some (derivation_of c) ≡ false → all_derived cs ≡ None
unfolding all_derived
derived-none_at [] n c e h = absurd cc
derived-none_at (x ∷ xs) zero c e h =
    let same : x ≡ c = ap (λ o. elim o [ Some z ↦ z | None ↦ x ]) e in
    ap (λ o. with_derivation o (all_derived xs)) (none_from (derivation_of x) (ap (λ y. is_some (derivation_of y)) same ∙ h))
derived-none_at (x ∷ xs) (suc n) c e h = ap (with_derivation (derivation_of x)) (derived-none_at xs n c e h) ∙ with_none (derivation_of x)

-- ---- accumulators of which one fails

pub drop_at : {X : Type 0} (xs : List X) (i : ℕ) (x : X) → slice_get xs i ≡ Some x → drop i xs ≡ x ∷ drop (i + 1) xs
drop_at [] i x e = absurd cc
drop_at (y ∷ ys) zero x e = ap (λ o. elim o [ Some z ↦ z ∷ ys | None ↦ y ∷ ys ]) e
drop_at (y ∷ ys) (suc i) x e = let n : suc i + 1 ≡ suc (i + 1) = omega arith in drop_at ys i x e ∙ ap (λ m. x ∷ drop m (y ∷ ys)) (sym n)

pub from_here : (f : Fragment) (c : List ℕ) (n i : ℕ) (a : Accumulator) → slice_get f.accs i ≡ Some a
    → all_conditions f.atoms (members_from c n (drop i f.accs)) ≡ own_conditions f.atoms (a, chosen c n a.pool) ++ all_conditions f.atoms (members_from c (n + length a.pool) (drop (i + 1) f.accs))
from_here f c n i a at = ap (λ as1. all_conditions f.atoms (members_from c n as1)) (drop_at f.accs i a at)

pub fails-here : (f : Fragment) (c : List ℕ) (n i place : ℕ) (a : Accumulator) → i < 8 → place ≡ digits c n a.pool * 8 + i → slice_get f.accs i ≡ Some a → IsFailing f (member_at f place)
    → all_derived (all_conditions f.atoms (members_from c n (drop i f.accs))) ≡ None
fails-here f c n i place a small e at h =
    ap all_derived (from_here f c n i a at)
    ∙ derived-left (own_conditions f.atoms (a, chosen c n a.pool)) (all_conditions f.atoms (members_from c (n + length a.pool) (drop (i + 1) f.accs)))
    (subst (IsFailing f) (member-placed f c n i place a small e at) h)

pub fails-later : (f : Fragment) (c : List ℕ) (n next i : ℕ) (a : Accumulator) → slice_get f.accs i ≡ Some a → next ≡ n + length a.pool
    → all_derived (all_conditions f.atoms (members_from c next (drop (i + 1) f.accs))) ≡ None → all_derived (all_conditions f.atoms (members_from c n (drop i f.accs))) ≡ None
fails-later f c n next i a at e h =
    ap all_derived (from_here f c n i a at)
    ∙ derived-right (own_conditions f.atoms (a, chosen c n a.pool)) (all_conditions f.atoms (members_from c (n + length a.pool) (drop (i + 1) f.accs)))
    (subst (λ m. all_derived (all_conditions f.atoms (members_from c m (drop (i + 1) f.accs))) ≡ None) e h)

-- ---- accumulators of the code

pub acc_at : (accs seen : List Acc) (n : ℕ) (a d : Acc) → seen ≡ accs → n < length seen → a ≡ get_or seen n d → slice_get (map accumulator accs) n ≡ Some (accumulator a)
acc_at accs seen n a d same below e = subst (λ as1. slice_get (map accumulator as1) n ≡ Some (accumulator a)) same (go seen n below e)
  where
    go : (bs : List Acc) (n : ℕ) → n < length bs → a ≡ get_or bs n d → slice_get (map accumulator bs) n ≡ Some (accumulator a)
    go [] n below e = absurd (omega arith)
    go (b ∷ bs) zero below e = ap (λ x. Some (accumulator x)) (sym e)
    go (b ∷ bs) (suc n) below e = go bs n (omega arith) e

pub short_at : (accs seen : List Acc) (n : ℕ) (a d : Acc) → seen ≡ accs → AllShort accs → n < length seen → a ≡ get_or seen n d → length a.chain ≤ 3
short_at accs seen n a d same short below e = go seen n (subst AllShort (sym same) short) below e
  where
    go : (bs : List Acc) (n : ℕ) → AllShort bs → n < length bs → a ≡ get_or bs n d → length a.chain ≤ 3
    go [] n short below e = absurd (omega arith)
    go (b ∷ bs) zero short below e = subst (λ x. length x.chain ≤ 3) (sym e) short.0
    go (b ∷ bs) (suc n) short below e = go bs n short.1 (omega arith) e

pub placed-at : (accs : List Acc) (n i place : ℕ) (a : Acc) → i < 8 → place ≡ n * 8 + i → slice_get (map accumulator accs) i ≡ Some (accumulator a) → slice_get (map accumulator accs) (place % 8) ≡ Some (accumulator a)
placed-at accs n i place a small e at = let low : place % 8 ≡ i = omega (arith, small, e) in ap (slice_get (map accumulator accs)) low ∙ at

pub later-ok : {E P Q : Type 0} (r : Result Bool E) → IfOk r (λ b. b ≡ false → P) → (P → Q) → IfOk r (λ b. b ≡ false → Q)
later-ok (Ok b) h f = λ e. f (h e)
later-ok (Err x) h f = tt
