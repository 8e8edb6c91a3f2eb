-- Where all conditions of a candidate are valid, the fragment ends with what its postconditions say.
use Rattle.std.proofs.Common.{◌≡◌, ℕ, zero, ◌+◌, true, List, [], ◌∷◌, drop, take, length, Result, Ok, Err, IfOk, refl, sym, ap, ◌∙◌, subst}
use Rattle.std.specs.List.{list_all, AllByRecursion}
use Rattle.std.specs.declared.option.Option.TheVariants.{None}
use Rattle.qbs_base.specs.Values.{Database}
use Rattle.tor_terms.specs.declared.env.FlagTable.{FlagTable}
use Rattle.tor_terms.specs.Plain.{Form}
use Rattle.tor_terms.specs.Truth.{World, form_within}
use Rattle.tor_terms.specs.Worlds.{world_of}
use Rattle.tor_axioms.specs.Accepts.{Claim}
use Rattle.tor_axioms.specs.Validity.{IsValid, IsValidAnywhere}
use Rattle.kernel_lang.specs.declared.parts.Entry.{Entry}
use Rattle.kernel_lang.specs.Fitting.{ColumnFits, UpdateFits, element_places}
use Rattle.kernel_lang.specs.Given.{world_given}
use Rattle.kernel_lang.specs.Plain.{Accumulator, Fragment}
use Rattle.kernel_lang.specs.Pools.{chosen, members_from, members}
use Rattle.kernel_lang.specs.Postcondition.{loops_of, with_choices}
use Rattle.kernel_lang.specs.Running.{layers_of, outside, inside, placed}
use Rattle.kernel_lang.specs.Sentences.{AccumulatorIsValid, IsValid as FragmentIsValid}
use Rattle.kernel_lang.specs.Validity.{broken, element_of}
use Rattle.kernel_lang.proofs.Sentences.{valid}
use Rattle.vc_gen.specs.Conditions.{own_conditions, all_conditions, conditions}
use Rattle.vc_gen.specs.Soundness.{AllValid, EndsAsClaimed, AllValidAnywhere, EndsAnywhere}
use Rattle.vc_gen.proofs.AllOf.{all_left, all_right}
use Rattle.vc_gen.proofs.Fit.{cut_chain, cut_loops, cut_reads, layers_chain, loops_layers}
use Rattle.vc_gen.proofs.Fitted.{fitting-ends}
use Rattle.vc_gen.proofs.Levels.{whole-ends}
use Rattle.vc_gen.proofs.Listed.{tables, tabled, choosing_ends}
use Rattle.vc_gen.proofs.Members.{AllChosen, members_shown, members-end}
use Rattle.vc_gen.proofs.Reading.{MembersAreShown}
use Rattle.vc_gen.proofs.Scope.{Chain}
use Rattle.vc_gen.proofs.Suited.{env_given, same_given, elements_fit, starts_of, suits_of}
use Rattle.vc_gen.proofs.Tables.{EndsAt}
use Rattle.vc_gen.proofs.Uses.{anywhere}

-- the conditions of each accumulator
own_of : (V : Claim → Type 0) (f : Fragment) (c : List ℕ) (n : ℕ) (accs : List Accumulator) → AllByRecursion V (all_conditions f.atoms (members_from c n accs)) → AllChosen (λ a fs. AllByRecursion V (own_conditions f.atoms (a, fs))) c n accs
own_of V f c n [] h = tt
own_of V f c n (a ∷ rest) h =
    let own = own_conditions f.atoms (a, chosen c n a.pool) in
    let more = all_conditions f.atoms (members_from c (n + length a.pool) rest) in
    (all_left V own more h, own_of V f c (n + length a.pool) rest (all_right V own more h))

-- ---- where nothing needs to fit

anywhere_ends : (f : Fragment) (w : World) (a : Accumulator) (fs : List Form) → AccumulatorIsValid f a → AllByRecursion IsValidAnywhere (own_conditions f.atoms (a, fs)) → EndsAt w f.atoms (a, fs)
anywhere_ends f w a fs own all = λ turns ls rs now pass.
    whole-ends w f.atoms a.update fs a.start (outside a) (inside a) (cut_chain f a own) (cut_reads f a own) a.chain (anywhere w f.atoms a.update fs a.chain) (cut_loops a) all turns (placed ls rs) w.held tt tt now pass

all_anywhere : (f : Fragment) (w : World) (c : List ℕ) (n : ℕ) (accs : List Accumulator) → AllByRecursion (AccumulatorIsValid f) accs → AllChosen (λ a fs. AllByRecursion IsValidAnywhere (own_conditions f.atoms (a, fs))) c n accs
    → AllChosen (λ a fs. EndsAt w f.atoms (a, fs)) c n accs
all_anywhere f w c n [] own all = tt
all_anywhere f w c n (a ∷ rest) own all = (anywhere_ends f w a (chosen c n a.pool) own.0 all.0, all_anywhere f w c (n + length a.pool) rest own.1 all.1)

outer_only : (P : Accumulator → List Form → Type 0) (c : List ℕ) (n : ℕ) (accs : List Accumulator) → AllChosen P c n accs → AllChosen (λ a fs. a.base ≡ zero → P a fs) c n accs
outer_only P c n [] h = tt
outer_only P c n (a ∷ rest) h = (λ e. h.0, outer_only P c (n + length a.pool) rest h.1)

pub fragment-ends-anywhere : (f : Fragment) (c : List ℕ) → broken f ≡ None → AllValidAnywhere (conditions f c) → EndsAnywhere f c
fragment-ends-anywhere f c none all = λ db entry vs e.
    let v : FragmentIsValid f = valid f none in
    let own = own_of IsValidAnywhere f c 0 f.accs all in
    members-end f c (world_given f db entry) v refl (all_anywhere f (world_given f db entry) c 0 f.accs v.accs own)
    (outer_only (λ a fs. EndsAt (with_choices f (members f c) (world_given f db entry)) f.atoms (a, fs)) c 0 f.accs (all_anywhere f (with_choices f (members f c) (world_given f db entry)) c 0 f.accs v.accs own)) vs e

-- ---- where parts fit

module _ (f : Fragment) (db : Database) (entry : Entry) where
  all_fitting : (flags : List FlagTable) (c : List ℕ) (n : ℕ) (accs : List Accumulator) → AllByRecursion (AccumulatorIsValid f) accs → AllByRecursion (λ a. AllByRecursion (ColumnFits f db) (element_places (element_of a.update))) accs
      → AllByRecursion (λ a. UpdateFits (world_given f db entry) a.update) accs → AllChosen (λ a fs. AllByRecursion IsValid (own_conditions f.atoms (a, fs))) c n accs → AllChosen (λ a fs. EndsAt (world_of (env_given f db entry flags)) f.atoms (a, fs)) c n accs
  all_fitting flags c n [] own columns numbers all = tt
  all_fitting flags c n (a ∷ rest) own columns numbers all = (
    fitting-ends (env_given f db entry flags) f a (chosen c n a.pool) own.0 (starts_of a own.0.start) (suits_of f db entry a own.0 columns.0 numbers.0 c n) all.0,
    all_fitting flags c (n + length a.pool) rest own.1 columns.1 numbers.1 all.1,
  )

  all_choosing : (v : FragmentIsValid f) (c : List ℕ) → MembersAreShown f (world_given f db entry) (members f c) → (n : ℕ) (accs : List Accumulator) → AllByRecursion (AccumulatorIsValid f) accs
      → AllByRecursion (λ a. AllByRecursion (ColumnFits f db) (element_places (element_of a.update))) accs → AllByRecursion (λ a. UpdateFits (world_given f db entry) a.update) accs
      → AllChosen (λ a fs. EndsAt (tabled f (world_given f db entry) (members f c)) f.atoms (a, fs)) c n accs → AllChosen (λ a fs. a.base ≡ zero → EndsAt (with_choices f (members f c) (world_given f db entry)) f.atoms (a, fs)) c n accs
  all_choosing v c shown n [] own columns numbers all = tt
  all_choosing v c shown n (a ∷ rest) own columns numbers all = (here, all_choosing v c shown (n + length a.pool) rest own.1 columns.1 numbers.1 all.1)
    where
      here : a.base ≡ zero → EndsAt (with_choices f (members f c) (world_given f db entry)) f.atoms (a, chosen c n a.pool)
      here z =
          let inner : layers_of a ≡ inside a = sym (ap (λ k. drop k (layers_of a)) z) in
          choosing_ends f (world_given f db entry) (members f c) v.flags (λ k b e. let m = shown k b e in (m.0, m.1)) (a, chosen c n a.pool) (ap (λ k. take k (layers_of a)) z) (subst (Chain f.atoms []) inner (layers_chain f a own.0))
          (subst (λ ls. list_all (form_within f.atoms ls) (chosen c n a.pool) ≡ true) (sym (loops_layers a.chain a.guards) ∙ ap loops_of inner) (suits_of f db entry a own.0 columns.0 numbers.0 c n).forms) all.0

pub fragment-ends : (f : Fragment) (c : List ℕ) → broken f ≡ None → AllValid (conditions f c) → EndsAsClaimed f c
fragment-ends f c none all = λ db entry fit.
    let v : FragmentIsValid f = valid f none in
    let own = own_of IsValid f c 0 f.accs all in
    let columns = elements_fit f db entry fit in
    let listing = tables f (world_given f db entry) (members f c) in
    let plain : AllChosen (λ a fs. EndsAt (world_given f db entry) f.atoms (a, fs)) c 0 f.accs =
    subst (λ x. AllChosen (λ a fs. EndsAt x f.atoms (a, fs)) c 0 f.accs) (same_given f db entry []) (all_fitting f db entry [] c 0 f.accs v.accs columns fit.numbers own) in
    let listed_there : AllChosen (λ a fs. EndsAt (tabled f (world_given f db entry) (members f c)) f.atoms (a, fs)) c 0 f.accs =
    subst (λ x. AllChosen (λ a fs. EndsAt x f.atoms (a, fs)) c 0 f.accs) (same_given f db entry listing) (all_fitting f db entry listing c 0 f.accs v.accs columns fit.numbers own) in
    members-end f c (world_given f db entry) v refl plain (all_choosing f db entry v c (members_shown f (world_given f db entry) c f.accs 0 v.accs plain) 0 f.accs v.accs columns fit.numbers listed_there)

-- ---- of what is listed

pub ends_by : {A E : Type 0} (claims : A → List Claim) (f : Fragment) (c : List ℕ) → broken f ≡ None → (r : Result A E) → IfOk r (λ x. claims x ≡ conditions f c) → IfOk r (λ x. AllValid (claims x) → EndsAsClaimed f c)
ends_by claims f c none (Ok x) e = λ all. fragment-ends f c none (subst AllValid e all)
ends_by claims f c none (Err x) e = tt

pub ends_anywhere_by : {A E : Type 0} (claims : A → List Claim) (f : Fragment) (c : List ℕ) → broken f ≡ None → (r : Result A E) → IfOk r (λ x. claims x ≡ conditions f c) → IfOk r (λ x. AllValidAnywhere (claims x) → EndsAnywhere f c)
ends_anywhere_by claims f c none (Ok x) e = λ all. fragment-ends-anywhere f c none (subst AllValidAnywhere e all)
ends_anywhere_by claims f c none (Err x) e = tt
