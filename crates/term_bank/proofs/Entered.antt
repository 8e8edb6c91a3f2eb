-- What entering terms keeps and gives.
use Rattle.std.proofs.Common.{if◌then◌else◌, ◌≡◌, ℕ, Bool, true, false, List, [], ◌∷◌, ◌++◌, length, map, take, Result, Ok, Err, IfOk, OnErr, refl, sym, ap, ap₂, ◌∙◌, subst, inl, inr}
use Rattle.std.specs.List.{slice_get, list_all}
use Rattle.std.specs.declared.option.Option.TheVariants.{Some}
use Rattle.std.proofs.lemmas.List.{take-map, length-map}
use Rattle.tor_terms.specs.declared.term.Term.{Term}
use Rattle.tor_terms.specs.Plain.{Tree, tree_of, Nil, Walk, Top, One, Single, Cat, Join, Sel, Proj, Uniq, Insert, Hold, Lit, Item, Count, Sum, Any, Best, Pick, Add, Or}
use Rattle.term_bank.specs.Banks.{IsBank, IsFrontOf, children, entered, has_term, with_term}
use Rattle.term_bank.proofs.Same.{two_tests}
use Rattle.term_bank.proofs.Fronts.{front_self, front_of, get_behind, get_last, has_at, has_on, take_front, take_old}

-- ---- one term

entered_front : (ts : List Tree) (t : Tree) → IsFrontOf ts (entered ts t)
entered_front ts t = go (has_term ts t)
  where
    go : (b : Bool) → IsFrontOf ts (if b then ts else ts ++ t ∷ [])
    go true = front_self ts
    go false = (t ∷ [], refl)

entered_has : (ts : List Tree) (t : Tree) → has_term (entered ts t) t ≡ true
entered_has ts t = go (has_term ts t) refl
  where
    go : (b : Bool) → has_term ts t ≡ b → has_term (if b then ts else ts ++ t ∷ []) t ≡ true
    go true e = e
    go false e = has_at (ts ++ t ∷ []) (length ts) t (get_last ts t)

module _ (ts : List Tree) (t : Tree) (w : IsBank ts) (new : has_term ts t ≡ false) (below : list_all (has_term ts) (children t) ≡ true) where
  not_new : (n : ℕ) (u : Tree) → slice_get ts n ≡ Some u → t ≡ u → ⊥
  not_new n u e q = absurd (let h : has_term ts t ≡ true = has_at ts n t (e ∙ ap Some (sym q)) in cc)

  one_place : (i j : ℕ) (u : Tree) → slice_get (ts ++ t ∷ []) i ≡ Some u → slice_get (ts ++ t ∷ []) j ≡ Some u → i ≡ j
  one_place i j u p q = elim (get_behind ts t i u p) [
    | inl a ↦ elim (get_behind ts t j u q) [ inl b ↦ w.distinct i j u a.1 b.1 | inr b ↦ absurd (not_new i u a.1 b.1) ]
    | inr a ↦ elim (get_behind ts t j u q) [ inl b ↦ absurd (not_new j u b.1 a.1) | inr b ↦ a.0 ∙ sym b.0 ]
  ]

  children_before : (i : ℕ) (u : Tree) → slice_get (ts ++ t ∷ []) i ≡ Some u → list_all (has_term (take i (ts ++ t ∷ []))) (children u) ≡ true
  children_before i u p = elim (get_behind ts t i u p) [
    | inl a ↦ subst (λ x. list_all (has_term x) (children u) ≡ true) (sym (take_front ts t i a.0)) (w.closed i u a.1)
    | inr a ↦
        subst (λ x. list_all (has_term x) (children u) ≡ true) (sym (ap (λ n. take n (ts ++ t ∷ [])) a.0 ∙ take_old ts (t ∷ []))) (subst (λ x. list_all (has_term ts) (children x) ≡ true) a.1 below)
  ]

  with_one : IsBank (ts ++ t ∷ [])
  with_one = record { distinct = one_place; closed = children_before }

entered_well : (ts : List Tree) (t : Tree) → IsBank ts → list_all (has_term ts) (children t) ≡ true → IsBank (entered ts t)
entered_well ts t w below = go (has_term ts t) refl
  where
    go : (b : Bool) → has_term ts t ≡ b → IsBank (if b then ts else ts ++ t ∷ [])
    go true e = w
    go false e = with_one ts t w e below

-- ---- a term with its parts

-- what is so of a bank that another one has grown to
pub record Grew (before : List Tree) (t : Tree) (after : List Tree) : Type 0 where
  pub front : IsFrontOf before after
  pub has : has_term after t ≡ true
  pub well : IsBank before → IsBank after

none : (ts : List Tree) (t : Tree) → list_all (has_term ts) (children t) ≡ true → Grew ts t (entered ts t)
none ts t below = record { front = entered_front ts t; has = entered_has ts t; well = λ w. entered_well ts t w below }

one : (ts us : List Tree) (r t : Tree) → children t ≡ r ∷ [] → Grew ts r us → Grew ts t (entered us t)
one ts us r t is g =
    let below : list_all (has_term us) (children t) ≡ true = subst (λ c. list_all (has_term us) c ≡ true) (sym is) (two_tests (has_term us r) true g.has refl) in
    record { front = front_of ts us (entered us t) g.front (entered_front us t); has = entered_has us t; well = λ w. entered_well us t (g.well w) below }

two : (ts us vs : List Tree) (r s t : Tree) → children t ≡ r ∷ s ∷ [] → Grew ts r us → Grew us s vs → Grew ts t (entered vs t)
two ts us vs r s t is g h =
    let first : has_term vs r ≡ true = subst (λ x. has_term x r ≡ true) (sym h.front.1) (has_on us h.front.0 r g.has) in
    let below : list_all (has_term vs) (children t) ≡ true =
    subst (λ c. list_all (has_term vs) c ≡ true) (sym is) (two_tests (has_term vs r) (list_all (has_term vs) (s ∷ [])) first (two_tests (has_term vs s) true h.has refl)) in
    record {
      front = front_of ts vs (entered vs t) (front_of ts us vs g.front h.front) (entered_front vs t);
      has = entered_has vs t;
      well = λ w. entered_well vs t (h.well (g.well w)) below;
    }

pub grew : (ts : List Tree) (t : Tree) → Grew ts t (with_term ts t)
grew ts (Top i r) = one ts (with_term ts r) r (Top i r) refl (grew ts r)
grew ts (Sel fs r) = one ts (with_term ts r) r (Sel fs r) refl (grew ts r)
grew ts (Proj e r) = one ts (with_term ts r) r (Proj e r) refl (grew ts r)
grew ts (Uniq r) = one ts (with_term ts r) r (Uniq r) refl (grew ts r)
grew ts (Insert r e) = one ts (with_term ts r) r (Insert r e) refl (grew ts r)
grew ts (Count r) = one ts (with_term ts r) r (Count r) refl (grew ts r)
grew ts (Sum r) = one ts (with_term ts r) r (Sum r) refl (grew ts r)
grew ts (Any r) = one ts (with_term ts r) r (Any r) refl (grew ts r)
grew ts (Cat r s) = two ts (with_term ts r) (with_term (with_term ts r) s) r s (Cat r s) refl (grew ts r) (grew (with_term ts r) s)
grew ts (Join r s) = two ts (with_term ts r) (with_term (with_term ts r) s) r s (Join r s) refl (grew ts r) (grew (with_term ts r) s)
grew ts (Best w r s) = two ts (with_term ts r) (with_term (with_term ts r) s) r s (Best w r s) refl (grew ts r) (grew (with_term ts r) s)
grew ts (Pick w r s) = two ts (with_term ts r) (with_term (with_term ts r) s) r s (Pick w r s) refl (grew ts r) (grew (with_term ts r) s)
grew ts (Add r s) = two ts (with_term ts r) (with_term (with_term ts r) s) r s (Add r s) refl (grew ts r) (grew (with_term ts r) s)
grew ts (Or r s) = two ts (with_term ts r) (with_term (with_term ts r) s) r s (Or r s) refl (grew ts r) (grew (with_term ts r) s)
grew ts Nil = none ts Nil refl
grew ts (Walk j) = none ts (Walk j) refl
grew ts (One a) = none ts (One a) refl
grew ts (Single e) = none ts (Single e) refl
grew ts (Hold n) = none ts (Hold n) refl
grew ts (Lit x) = none ts (Lit x) refl
grew ts (Item e) = none ts (Item e) refl

-- ---- the code's lists

-- a term was entered, or nothing was
pub enter_grows : {E : Type 0} (r : Result ℕ E) (before : List Tree) (old new : List Term) (t : Tree) → IsFrontOf before (map tree_of old)
    → IfOk r (λ n. map tree_of new ≡ entered (map tree_of old) t) → OnErr r (new ≡ old) → IsFrontOf before (map tree_of new)
enter_grows (Ok n) before old new t f e h = front_of before (map tree_of old) (map tree_of new) f (subst (IsFrontOf (map tree_of old)) (sym e) (entered_front (map tree_of old) t))
enter_grows (Err x) before old new t f e h = subst (IsFrontOf before) (ap (map tree_of) (sym h)) f

-- what was appended is cut off again
pub cut_back : (old new cut : List Term) (n : ℕ) → n ≡ length old → cut ≡ take n new → IsFrontOf (map tree_of old) (map tree_of new) → map tree_of cut ≡ map tree_of old
cut_back old new cut n e c f =
    ap (map tree_of) c
    ∙ sym (take-map tree_of n new)
    ∙ ap₂ take (e ∙ sym (length-map old tree_of)) f.1
    ∙ take_old (map tree_of old) f.0
