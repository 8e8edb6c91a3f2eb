-- Derivations that are kept, of accumulators with their choices.
use Rattle.std.proofs.Common.{◌≡◌, ℕ, zero, suc, ◌+◌, ◌*◌, ◌/◌, ◌%◌, ◌<◌, ◌≤◌, ◌⊎◌, inl, inr, Bool, true, ◌==◌, eqb-true, List, [], ◌∷◌, ◌++◌, map, set, length, length-append, drop, slice_get, get_or, refl, sym, ap, ap₂, ◌∙◌, subst, arith, append_assoc, append-nil}
use Rattle.std.proofs.lemmas.List.{map-append, length-map}
use Rattle.std.proofs.lemmas.Option.{slice_get-get_or}
use Rattle.std.specs.declared.option.Option.{Option}
use Rattle.std.specs.declared.option.Option.TheVariants.{Some, None}
use Rattle.tor_axioms.specs.declared.derivation.Derivation.{Derivation}
use Rattle.tor_axioms.specs.Accepts.{Proof, proof_of, Claim}
use Rattle.tor_prover.specs.Derive.{derivation_of}
use Rattle.tor_terms.specs.Plain.{Form}
use Rattle.kernel_lang.specs.declared.parts.Acc.{Acc}
use Rattle.kernel_lang.specs.Plain.{Accumulator, Fragment, accumulator}
use Rattle.kernel_lang.specs.Pools.{Member, members_from}
use Rattle.vc_gen.specs.Conditions.{own_conditions, all_conditions}
use Rattle.vc_gen.specs.declared.outline.Outline.{Outline}
use Rattle.vc_gen.specs.Outlines.{IsOutlineOf}
use Rattle.query_search.specs.declared.choices.Decided.{Decided}
use Rattle.query_search.specs.declared.choices.Decided.TheVariants.{Fails}
use Rattle.query_search.specs.Choices.{digits, chosen_by, member_of, member_at, own_at, conditions_at, IsFailing, FailAsKnown}
use Rattle.query_search.specs.Remembered.{AreOutlinesOf}
use Rattle.query_search.specs.Seen.{proofs_in}
use Rattle.query_search.specs.Verdicts.{with_derivation, all_derived, proofs_of}
use Rattle.query_search.proofs.Choosing.{member-placed, from_here, drop_at}
use Rattle.query_search.proofs.Judged.{behind, behind-none, derived-step, derived-stop, derived-end}

-- ---- derivations of some conditions, and of more

abbrev joined : Option (List Proof) → Option (List Proof) → Option (List Proof)
joined None q = None
joined (Some ds) q = behind ds q

with_joined : (o : Option Proof) (p q : Option (List Proof)) → with_derivation o (joined p q) ≡ joined (with_derivation o p) q
with_joined None p q = refl
with_joined (Some d) None q = refl
with_joined (Some d) (Some ds) None = refl
with_joined (Some d) (Some ds) (Some es) = refl

derived-append : (xs ys : List Claim) → all_derived (xs ++ ys) ≡ joined (all_derived xs) (all_derived ys)
unfolding all_derived
derived-append [] ys = sym (behind-none (all_derived ys))
derived-append (x ∷ xs) ys = ap (with_derivation (derivation_of x)) (derived-append xs ys) ∙ with_joined (derivation_of x) (all_derived xs) (all_derived ys)

conditions-append : (f : Fragment) (ps : List ℕ) (p : ℕ) → conditions_at f (ps ++ p ∷ []) ≡ conditions_at f ps ++ own_at f (member_at f p)
conditions-append f [] p = append-nil (own_at f (member_at f p))
conditions-append f (q ∷ ps) p =
    ap (λ cs. own_at f (member_at f q) ++ cs) (conditions-append f ps p) ∙ sym (append_assoc (own_at f (member_at f q)) (conditions_at f ps) (own_at f (member_at f p)))

-- the derivations at one place more
pub kept-more : (f : Fragment) (ps more : List ℕ) (p : ℕ) (ds es all : List Derivation) → all_derived (conditions_at f ps) ≡ Some (proofs_in ds) → all_derived (own_at f (member_at f p)) ≡ Some (proofs_in es)
    → more ≡ ps ++ p ∷ [] → all ≡ ds ++ es → all_derived (conditions_at f more) ≡ Some (proofs_in all)
kept-more f ps more p ds es all kept own pushed joins =
    ap (λ qs. all_derived (conditions_at f qs)) pushed
    ∙ ap all_derived (conditions-append f ps p)
    ∙ derived-append (conditions_at f ps) (own_at f (member_at f p))
    ∙ ap₂ joined kept own
    ∙ ap Some (sym (map-append proof_of ds es))
    ∙ ap (λ xs. Some (proofs_in xs)) (sym joins)

pub kept-nothing : (f : Fragment) → all_derived (conditions_at f []) ≡ Some (proofs_in [])
unfolding all_derived
kept-nothing f = refl

-- ---- places that a candidate's choices have

drop-past : {X : Type 0} (xs : List X) (i : ℕ) → length xs ≤ i → drop i xs ≡ []
drop-past [] zero h = refl
drop-past [] (suc i) h = refl
drop-past (x ∷ xs) zero h = absurd (omega arith)
drop-past (x ∷ xs) (suc i) h = drop-past xs i (omega arith)

pub places-end : (f : Fragment) (ps c : List ℕ) (n i : ℕ) → length f.accs ≤ i → ps ≡ [] → conditions_at f ps ≡ all_conditions f.atoms (members_from c n (drop i f.accs))
places-end f ps c n i past none = ap (conditions_at f) none ∙ ap (λ accs. all_conditions f.atoms (members_from c n accs)) (sym (drop-past f.accs i past))

pub places-more : (f : Fragment) (ps rest c : List ℕ) (n next i p : ℕ) (a : Accumulator) → i < 8 → p ≡ digits c n a.pool * 8 + i → slice_get f.accs i ≡ Some a → next ≡ n + length a.pool → ps ≡ p ∷ rest
    → conditions_at f rest ≡ all_conditions f.atoms (members_from c next (drop (i + 1) f.accs)) → conditions_at f ps ≡ all_conditions f.atoms (members_from c n (drop i f.accs))
places-more f ps rest c n next i p a small placed at behind_it cons h =
    ap (conditions_at f) cons
    ∙ ap₂ (λ m cs. own_at f m ++ cs) (member-placed f c n i p a small placed at) (h ∙ ap (λ k. all_conditions f.atoms (members_from c k (drop (i + 1) f.accs))) behind_it)
    ∙ sym (from_here f c n i a at)

-- ---- conditions one after another, by their numbers

get-past : {X : Type 0} (xs : List X) (n : ℕ) → slice_get xs n ≡ None → drop n xs ≡ []
get-past [] zero e = refl
get-past [] (suc n) e = refl
get-past (x ∷ xs) zero e = absurd cc
get-past (x ∷ xs) (suc n) e = get-past xs n e

module _ (cs : List Claim) (n : ℕ) (ds : List Derivation) (W : Option (List Proof)) (so_far : behind (proofs_in ds) (all_derived (drop n cs)) ≡ W) where
  pub derived-next : (c : Claim) (d : Derivation) (new : List Derivation) → slice_get cs n ≡ Some c → derivation_of c ≡ Some (proof_of d) → new ≡ ds ++ d ∷ [] → behind (proofs_in new) (all_derived (drop (n + 1) cs)) ≡ W
  derived-next c d new at e en =
      ap (λ xs. behind (proofs_in xs) (all_derived (drop (n + 1) cs))) en
      ∙ ap (λ ps. behind ps (all_derived (drop (n + 1) cs))) (map-append proof_of ds (d ∷ []))
      ∙ sym (derived-step (proofs_in ds) c (drop (n + 1) cs) (proof_of d) e)
      ∙ sym (ap (λ xs. behind (proofs_in ds) (all_derived xs)) (drop_at cs n c at))
      ∙ so_far

  pub derived-none : (c : Claim) → slice_get cs n ≡ Some c → derivation_of c ≡ None → W ≡ None
  derived-none c at e = sym so_far ∙ ap (λ xs. behind (proofs_in ds) (all_derived xs)) (drop_at cs n c at) ∙ derived-stop (proofs_in ds) c (drop (n + 1) cs) e

  pub derived-all : slice_get cs n ≡ None → W ≡ Some (proofs_in ds)
  derived-all e = sym so_far ∙ ap (λ xs. behind (proofs_in ds) (all_derived xs)) (get-past cs n e) ∙ derived-end (proofs_in ds)

-- ---- accumulators at places

pub own-placed : (f : Fragment) (place : ℕ) (a : Accumulator) (fs : List Form) → slice_get f.accs (place % 8) ≡ Some a → fs ≡ chosen_by (place / 8) a.pool → own_conditions f.atoms (a, fs) ≡ own_at f (member_at f place)
own-placed f place a fs at e = ap (λ gs. own_conditions f.atoms (a, gs)) e ∙ sym (ap (λ o. own_at f (member_of (place / 8) o)) at)

pub failing-at : (f : Fragment) (m : Option Member) → all_derived (own_at f m) ≡ None → IsFailing f m
failing-at f None h = tt
failing-at f (Some m) h = h

set-cases : {X : Type 0} (xs : List X) (i : ℕ) (x : X) (j : ℕ) (y : X) → slice_get (set xs i x) j ≡ Some y → (slice_get xs j ≡ Some y) ⊎ (j ≡ i)
set-cases [] i x j y e = inl e
set-cases (z ∷ zs) zero x zero y e = inr refl
set-cases (z ∷ zs) zero x (suc j) y e = inl e
set-cases (z ∷ zs) (suc i) x zero y e = inl e
set-cases (z ∷ zs) (suc i) x (suc j) y e = further (set-cases zs i x j y e)
  where
    further : (slice_get zs j ≡ Some y) ⊎ (j ≡ i) → (slice_get zs j ≡ Some y) ⊎ (suc j ≡ suc i)
    further (inl h) = inl h
    further (inr h) = inr (ap suc h)

pub known-more : (f : Fragment) (known new : List Decided) (place : ℕ) (d : Decided) → FailAsKnown f known → IsFailing f (member_at f place) → new ≡ set known place d → FailAsKnown f new
known-more f known new place d h fails is = subst (FailAsKnown f) (sym is) (λ p e. go p (set-cases known place d p Fails e))
  where
    go : (p : ℕ) → (slice_get known p ≡ Some Fails) ⊎ (p ≡ place) → IsFailing f (member_at f p)
    go p (inl e) = h p e
    go p (inr e) = subst (λ q. IsFailing f (member_at f q)) (sym e) fails

-- ---- what is the same for all choices, of each accumulator

at_end : {X : Type 0} (xs : List X) (x y : X) (j : ℕ) → slice_get (xs ++ x ∷ []) j ≡ Some y → (slice_get xs j ≡ Some y) ⊎ ((j ≡ length xs) × (y ≡ x))
at_end [] x y zero e = inr (refl, ap (λ o. elim o [ Some z ↦ z | None ↦ x ]) (sym e))
at_end [] x y (suc j) e = absurd cc
at_end (z ∷ zs) x y zero e = inl e
at_end (z ∷ zs) x y (suc j) e = further (at_end zs x y j e)
  where
    further : (slice_get zs j ≡ Some y) ⊎ ((j ≡ length zs) × (y ≡ x)) → (slice_get zs j ≡ Some y) ⊎ ((suc j ≡ suc (length zs)) × (y ≡ x))
    further (inl h) = inl h
    further (inr h) = inr (ap suc h.0, h.1)

same_acc : (a b : Accumulator) → Some a ≡ Some b → a ≡ b
same_acc a b e = ap (λ o. elim o [ Some z ↦ z | None ↦ a ]) e

pub outlines-more : (accs : List Acc) (i : ℕ) (a : Acc) (all new : List Outline) (o : Outline) → AreOutlinesOf (map accumulator accs) all → length all ≡ i → slice_get (map accumulator accs) i ≡ Some (accumulator a)
    → IsOutlineOf (accumulator a) o → new ≡ all ++ o ∷ [] → AreOutlinesOf (map accumulator accs) new
outlines-more accs i a all new o h count at of pushed = subst (AreOutlinesOf (map accumulator accs)) (sym pushed) (λ j b p there got. go j b p there (at_end all o p j got))
  where
    go : (j : ℕ) (b : Accumulator) (p : Outline) → slice_get (map accumulator accs) j ≡ Some b → (slice_get all j ≡ Some p) ⊎ ((j ≡ length all) × (p ≡ o)) → IsOutlineOf b p
    go j b p there (inl got) = h j b p there got
    go j b p there (inr end) =
        let e : accumulator a ≡ b = same_acc (accumulator a) b (sym at ∙ ap (slice_get (map accumulator accs)) (sym (end.0 ∙ count)) ∙ there) in
        subst (λ x. IsOutlineOf x p) e (subst (IsOutlineOf (accumulator a)) (sym end.1) of)

no_outline : (o : Outline) → None ≡ Some o → ⊥
no_outline o e = absurd cc

pub outlines-none : (accs : List Accumulator) → AreOutlinesOf accs []
outlines-none accs = λ i a o there got. absurd (no_outline o got)

pub one-longer : {X : Type 0} (xs ys : List X) (n : ℕ) (x : X) → length xs ≡ n → ys ≡ xs ++ x ∷ [] → length ys ≡ n + 1
one-longer xs ys n x e is = ap length is ∙ length-append xs (x ∷ []) ∙ ap (λ k. k + 1) e

-- ---- of the code's lists

pub accs-past : (accs seen : List Acc) (n : ℕ) → seen ≡ accs → length seen ≤ n → length (map accumulator accs) ≤ n
accs-past accs seen n same past = let e : length (map accumulator accs) ≡ length seen = length-map accs accumulator ∙ ap length (sym same) in omega (arith, e, past)

pub got : {X : Type 0} (xs seen : List X) (n : ℕ) (x d : X) → seen ≡ xs → n < length seen → x ≡ get_or seen n d → slice_get xs n ≡ Some x
got xs seen n x d same below is = ap (λ l. slice_get l n) (sym same) ∙ slice_get-get_or seen n d below ∙ ap Some (sym is)

-- what is kept is what the candidate is found with
pub taken : (f : Fragment) (c places : List ℕ) (ds all : List Derivation) → all_derived (conditions_at f places) ≡ Some (proofs_in ds) → conditions_at f places ≡ all_conditions f.atoms (members_from c 0 f.accs) → all ≡ ds → Some (proofs_in all) ≡ proofs_of f c
taken f c places ds all kept same is = ap (λ xs. Some (proofs_in xs)) is ∙ sym kept ∙ ap all_derived same

pub no-places : (ps : List ℕ) (b : Bool) → b ≡ (length ps == 0) → b ≡ true → ps ≡ []
no-places [] b is e = refl
no-places (p ∷ ps) b is e = let h : suc (length ps) ≡ 0 = eqb-true (suc (length ps)) 0 (sym is ∙ e) in absurd (omega (arith, h))

-- ---- where nothing has been decided

pub kept-none : (f : Fragment) (ps : List ℕ) (ds : List Derivation) → ps ≡ [] → ds ≡ [] → all_derived (conditions_at f ps) ≡ Some (proofs_in ds)
kept-none f ps ds p d = ap (λ qs. all_derived (conditions_at f qs)) p ∙ kept-nothing f ∙ ap (λ es. Some (proofs_in es)) (sym d)
