-- What a valid fragment says of the layers of an accumulator.
use Rattle.std.proofs.Common.{◌≡◌, ℕ, zero, suc, ◌<◌, ◌≤◌, true, false, ◌||◌, List, [], ◌∷◌, ◌++◌, take, length, nat_eq, nat_lt, refl, sym, ap, ap₂, ◌∙◌, subst, arith, append_assoc, length-append}
use Rattle.std.specs.List.{list_all, take-map}
use Rattle.std.proofs.lemmas.List.{map-append, take-append-drop}
use Rattle.std.proofs.lemmas.Bool.Decides.{nat_tests}
use Rattle.std.specs.declared.option.Option.{Option}
use Rattle.tor_terms.specs.declared.term.Atom.{Atom}
use Rattle.tor_terms.specs.Plain.{Form}
use Rattle.tor_terms.specs.Truth.{form_within}
use Rattle.tor_axioms.proofs.Decided.{and_left, and_right}
use Rattle.kernel_lang.specs.declared.parts.Update.{Update}
use Rattle.kernel_lang.specs.declared.parts.Update.TheVariants.{Push, PushNew, Tick, Plus, Best, Mark}
use Rattle.kernel_lang.specs.Plain.{Accumulator, Fragment}
use Rattle.kernel_lang.specs.Postcondition.{loops_of}
use Rattle.kernel_lang.specs.Running.{Layer, layers, layers_of, outside, inside}
use Rattle.kernel_lang.specs.Sentences.{AccumulatorIsValid}
use Rattle.kernel_lang.specs.Validity.{guard_all, all_formulas, chain_is_valid, rises, rises_after, guards_within, element_within, element_of, reads_its_chain, reads_no_flag, flag_is_quiet, is_mark}
use Rattle.kernel_lang.proofs.Listing.{and_three, and_four}
use Rattle.vc_gen.proofs.Scope.{IsNew, Chain}
use Rattle.vc_gen.proofs.Levels.{ReadsAmong}
use Rattle.vc_gen.proofs.Tables.{Quiet}

pub lt_from : (m n : ℕ) → nat_lt m n ≡ true → m < n
lt_from m n e = grind (arith, nat_tests)

differ : (j k : ℕ) → k < j → nat_eq j k ≡ false
differ j k h = grind (arith, nat_tests)

pub loops_layers : (js : List ℕ) (gs : List (Option Form)) → loops_of (layers js gs) ≡ js
loops_layers [] gs = refl
loops_layers (j ∷ js) [] = ap (λ ks. j ∷ ks) (loops_layers js [])
loops_layers (j ∷ js) (g ∷ gs) = ap (λ ks. j ∷ ks) (loops_layers js gs)

-- ---- chains

AtMost : ℕ → List ℕ → Type 0
AtMost m [] = Unit {0}
AtMost m (k ∷ ks) = (k ≤ m) × AtMost m ks

new_above : (m j : ℕ) (ks : List ℕ) → m < j → AtMost m ks → IsNew j ks
unfolding AtMost
new_above m j [] h a = tt
new_above m j (k ∷ ks) h a = (differ j k (let l : k ≤ m = a.0 in omega (arith, h, l)), new_above m j ks h a.1)

raised : (m j : ℕ) (ks : List ℕ) → m < j → AtMost m ks → AtMost j (ks ++ j ∷ [])
unfolding AtMost
raised m j [] h a = (omega arith, tt)
raised m j (k ∷ ks) h a = (let l : k ≤ m = a.0 in omega (arith, h, l), raised m j ks h a.1)

prefix : (pre : List ℕ) (j : ℕ) (js : List ℕ) → take (suc (length pre)) (pre ++ j ∷ js) ≡ pre ++ j ∷ []
prefix [] j js = refl
prefix (x ∷ pre) j js = ap (λ ks. x ∷ ks) (prefix pre j js)

longer : (pre : List ℕ) (j : ℕ) → suc (length pre) ≡ length (pre ++ j ∷ [])
longer pre j = let e = length-append pre (j ∷ []) in omega (arith, e)

module _ (atoms : List Atom) (chain : List ℕ) where
  own_guard : (g : Option Form) (pre : List ℕ) (j : ℕ) (js : List ℕ) (n : ℕ) → chain ≡ pre ++ j ∷ js → n ≡ suc (length pre) → guard_all (form_within atoms (take n chain)) g ≡ true → guard_all (form_within atoms (pre ++ j ∷ [])) g ≡ true
  own_guard g pre j js n e k h = subst (λ ls. guard_all (form_within atoms ls) g ≡ true) (ap₂ take k e ∙ prefix pre j js) h

  chain_from : (js : List ℕ) (gs : List (Option Form)) (pre : List ℕ) (n m : ℕ) → chain ≡ pre ++ js → n ≡ suc (length pre) → AtMost m pre → rises_after m js ≡ true → guards_within atoms chain n gs ≡ true → Chain atoms pre (layers js gs)
  chain_from [] gs pre n m e k a r w = tt
  chain_from (j ∷ js) [] pre n m e k a r w =
      let l : m < j = lt_from m j (and_left (nat_lt m j) (rises_after j js) r) in
      (new_above m j pre l a, refl, chain_from js [] (pre ++ j ∷ []) (suc n) j (e ∙ sym (append_assoc pre (j ∷ []) js)) (ap suc (k ∙ longer pre j)) (raised m j pre l a) (and_right (nat_lt m j) (rises_after j js) r) refl)
  chain_from (j ∷ js) (g ∷ gs) pre n m e k a r w =
      let l : m < j = lt_from m j (and_left (nat_lt m j) (rises_after j js) r) in (
        new_above m j pre l a,
        own_guard g pre j js n e k (and_left (guard_all (form_within atoms (take n chain)) g) (guards_within atoms chain (suc n) gs) w),
        chain_from js gs (pre ++ j ∷ []) (suc n) j (e ∙ sym (append_assoc pre (j ∷ []) js)) (ap suc (k ∙ longer pre j)) (raised m j pre l a) (and_right (nat_lt m j) (rises_after j js) r)
            (and_right (guard_all (form_within atoms (take n chain)) g) (guards_within atoms chain (suc n) gs) w),
      )

  at_most_self : (j : ℕ) → AtMost j (j ∷ [])
  unfolding AtMost
  at_most_self j = (omega arith, tt)

  chain_first : (js : List ℕ) (gs : List (Option Form)) → chain ≡ js → rises js ≡ true → guards_within atoms chain 1 gs ≡ true → Chain atoms [] (layers js gs)
  chain_first [] gs e r w = tt
  chain_first (j ∷ js) [] e r w = (tt, refl, chain_from js [] (j ∷ []) 2 j e refl (at_most_self j) r refl)
  chain_first (j ∷ js) (g ∷ gs) e r w = (
    tt,
    own_guard g [] j js 1 e refl (and_left (guard_all (form_within atoms (take 1 chain)) g) (guards_within atoms chain 2 gs) w),
    chain_from js gs (j ∷ []) 2 j e refl (at_most_self j) r (and_right (guard_all (form_within atoms (take 1 chain)) g) (guards_within atoms chain 2 gs) w),
  )

-- the layers, cut at the base
cut_layers : (a : Accumulator) → outside a ++ inside a ≡ layers_of a
cut_layers a = take-append-drop a.base (layers_of a)

pub layers_chain : (f : Fragment) (a : Accumulator) → AccumulatorIsValid f a → Chain f.atoms [] (layers_of a)
unfolding chain_is_valid reads_its_chain
layers_chain f a v =
    let r = and_four _ (rises a.chain) (nat_lt a.base (length a.chain)) (nat_eq (length a.guards) (length a.chain)) v.chain in
    let w = and_three (guards_within f.atoms a.chain 1 a.guards) (list_all (form_within f.atoms a.chain) a.pool) (element_within a.chain (element_of a.update)) v.loops in
    chain_first f.atoms a.chain a.chain a.guards refl r.1 w.0

pub cut_chain : (f : Fragment) (a : Accumulator) → AccumulatorIsValid f a → Chain f.atoms [] (outside a ++ inside a)
cut_chain f a v = subst (Chain f.atoms []) (sym (cut_layers a)) (layers_chain f a v)

pub cut_loops : (a : Accumulator) → loops_of (outside a) ++ loops_of (inside a) ≡ a.chain
cut_loops a = sym (map-append (λ y. y.over) (outside a) (inside a)) ∙ ap loops_of (cut_layers a) ∙ loops_layers a.chain a.guards

pub cut_reads : (f : Fragment) (a : Accumulator) → AccumulatorIsValid f a → ReadsAmong a.update (loops_of (outside a) ++ loops_of (inside a))
unfolding reads_its_chain
cut_reads f a v =
    let w = and_three (guards_within f.atoms a.chain 1 a.guards) (list_all (form_within f.atoms a.chain) a.pool) (element_within a.chain (element_of a.update)) v.loops in
    subst (λ ls. element_within ls (element_of a.update) ≡ true) (sym (cut_loops a)) w.2

-- the loops round a declaration
pub outside_loops : (a : Accumulator) → take a.base a.chain ≡ loops_of (outside a)
outside_loops a = ap (take a.base) (sym (loops_layers a.chain a.guards)) ∙ take-map (λ y. y.over) a.base (layers_of a)

pub base_below : (f : Fragment) (a : Accumulator) → AccumulatorIsValid f a → a.base < length a.chain
unfolding chain_is_valid
base_below f a v =
    let r = and_four _ (rises a.chain) (nat_lt a.base (length a.chain)) (nat_eq (length a.guards) (length a.chain)) v.chain in
    lt_from a.base (length a.chain) r.2

-- ---- flags

pub mark_of : (u : Update) → is_mark u ≡ true → u ≡ Mark
mark_of (Push e) h = absurd cc
mark_of (PushNew e) h = absurd cc
mark_of Tick h = absurd cc
mark_of (Plus e) h = absurd cc
mark_of (Best way e) h = absurd cc
mark_of Mark h = refl

quiet_layers : (atoms : List Atom) (js : List ℕ) (gs : List (Option Form)) → list_all (guard_all (reads_no_flag atoms)) gs ≡ true → Quiet atoms (layers js gs)
quiet_layers atoms [] gs h = tt
quiet_layers atoms (j ∷ js) [] h = (refl, quiet_layers atoms js [] refl)
quiet_layers atoms (j ∷ js) (g ∷ gs) h =
    (and_left (guard_all (reads_no_flag atoms) g) (list_all (guard_all (reads_no_flag atoms)) gs) h, quiet_layers atoms js gs (and_right (guard_all (reads_no_flag atoms) g) (list_all (guard_all (reads_no_flag atoms)) gs) h))

quiet_take : (atoms : List Atom) (n : ℕ) (ys : List Layer) → Quiet atoms ys → Quiet atoms (take n ys)
quiet_take atoms zero ys h = tt
quiet_take atoms (suc n) [] h = tt
quiet_take atoms (suc n) (y ∷ ys) h = (h.0, quiet_take atoms n ys h.1)

not_zero : (n : ℕ) → nat_lt 0 n ≡ true → nat_eq n 0 ≡ false
not_zero n h = grind (arith, nat_tests)

pub flag_quiet : (f : Fragment) (a : Accumulator) → AccumulatorIsValid f a → nat_lt 0 a.base ≡ true → Quiet f.atoms (outside a)
unfolding flag_is_quiet
flag_quiet f a v h =
    let q : all_formulas (reads_no_flag f.atoms) a ≡ true = sym (ap (λ x. x || all_formulas (reads_no_flag f.atoms) a) (not_zero a.base h)) ∙ v.quiet in
    quiet_take f.atoms a.base (layers_of a) (quiet_layers f.atoms a.chain a.guards (and_left (list_all (guard_all (reads_no_flag f.atoms)) a.guards) (list_all (reads_no_flag f.atoms) a.pool) q))
