-- The places of a child in a term, and what holds of a rule at every path.
use Rattle.std.proofs.Common.{ℕ, zero, suc, List, [], ◌∷◌}
use Rattle.std.specs.List.{AllByRecursion}
use Rattle.std.specs.Prelude.{slice_get}
use Rattle.std.specs.declared.option.Option.{Option}
use Rattle.std.specs.declared.option.Option.TheVariants.{None}
use Rattle.tor_terms.specs.declared.term.Elem.{Elem}
use Rattle.tor_terms.specs.declared.term.Index.{Index}
use Rattle.tor_terms.specs.declared.term.Way.{Way}
use Rattle.tor_terms.specs.Plain.{Form, Tree, Nil, Walk, Top, One, Single, Cat, Join, Sel, Proj, Uniq, Insert, Hold, Lit, Item, Count, Sum, Any, Best, Pick, Add, Or}
use Rattle.tor_axioms.specs.Rules.{Rule, by_rule, nth_rule}
use Rattle.tor_axioms.specs.Paths.{within, only_child, left_or_right, at_path}

-- a term with one child left out
pub data Place : Type 0 where
  InTop : Index → Place
  CatLeft : Tree → Place
  CatRight : Tree → Place
  JoinLeft : Tree → Place
  JoinRight : Tree → Place
  InSel : List Form → Place
  InProj : Elem → Place
  InUniq : Place
  InInsert : Elem → Place
  InCount : Place
  InSum : Place
  InAny : Place
  BestLeft : Way → Tree → Place
  BestRight : Way → Tree → Place
  PickLeft : Way → Tree → Place
  PickRight : Way → Tree → Place
  AddLeft : Tree → Place
  AddRight : Tree → Place
  OrLeft : Tree → Place
  OrRight : Tree → Place

-- the term with a child at the place
abbrev pub put : Place → Tree → Tree
put (InTop index) r = Top index r
put (CatLeft s) r = Cat r s
put (CatRight r) s = Cat r s
put (JoinLeft s) r = Join r s
put (JoinRight r) s = Join r s
put (InSel fs) r = Sel fs r
put (InProj e) r = Proj e r
put InUniq r = Uniq r
put (InInsert e) r = Insert r e
put InCount r = Count r
put InSum r = Sum r
put InAny r = Any r
put (BestLeft way r) v = Best way v r
put (BestRight way v) r = Best way v r
put (PickLeft way n) v = Pick way v n
put (PickRight way v) n = Pick way v n
put (AddLeft b) a = Add a b
put (AddRight a) b = Add a b
put (OrLeft b) a = Or a b
put (OrRight a) b = Or a b

-- a fact of a term and what a rule gives for it, which holds of a term if it holds of a child, and
-- where nothing is given
pub record IsLocal (P : Tree → Option Tree → Type 0) : Type 0 where
  pub none : (t : Tree) → P t None
  pub at : (place : Place) (r : Tree) (o : Option Tree) → P r o → P (put place r) (within (put place) o)

module _ (P : Tree → Option Tree → Type 0) (local : IsLocal P) where
  only : (k : ℕ) (t : Tree) (o : Option Tree) → P t o → P t (only_child k o)
  only zero t o h = h
  only (suc k) t o h = local.none t

  either_side : (k : ℕ) (t : Tree) (o p : Option Tree) → P t o → P t p → P t (left_or_right k o p)
  either_side zero t o p h g = h
  either_side (suc zero) t o p h g = g
  either_side (suc (suc k)) t o p h g = local.none t

  -- what holds at every head holds at every path
  pub at_each_path : (f : Rule) → ((t : Tree) → P t (f t)) → (p : List ℕ) (t : Tree) → P t (at_path f p t)
  at_each_path f h [] t = h t
  at_each_path f h (k ∷ p) (Top index r) = only k (Top index r) _ (local.at (InTop index) r _ (at_each_path f h p r))
  at_each_path f h (k ∷ p) (Cat r s) = either_side k (Cat r s) _ _ (local.at (CatLeft s) r _ (at_each_path f h p r)) (local.at (CatRight r) s _ (at_each_path f h p s))
  at_each_path f h (k ∷ p) (Join r s) = either_side k (Join r s) _ _ (local.at (JoinLeft s) r _ (at_each_path f h p r)) (local.at (JoinRight r) s _ (at_each_path f h p s))
  at_each_path f h (k ∷ p) (Sel fs r) = only k (Sel fs r) _ (local.at (InSel fs) r _ (at_each_path f h p r))
  at_each_path f h (k ∷ p) (Proj e r) = only k (Proj e r) _ (local.at (InProj e) r _ (at_each_path f h p r))
  at_each_path f h (k ∷ p) (Uniq r) = only k (Uniq r) _ (local.at InUniq r _ (at_each_path f h p r))
  at_each_path f h (k ∷ p) (Insert r e) = only k (Insert r e) _ (local.at (InInsert e) r _ (at_each_path f h p r))
  at_each_path f h (k ∷ p) (Count r) = only k (Count r) _ (local.at InCount r _ (at_each_path f h p r))
  at_each_path f h (k ∷ p) (Sum r) = only k (Sum r) _ (local.at InSum r _ (at_each_path f h p r))
  at_each_path f h (k ∷ p) (Any r) = only k (Any r) _ (local.at InAny r _ (at_each_path f h p r))
  at_each_path f h (k ∷ p) (Best way v r) = either_side k (Best way v r) _ _ (local.at (BestLeft way r) v _ (at_each_path f h p v)) (local.at (BestRight way v) r _ (at_each_path f h p r))
  at_each_path f h (k ∷ p) (Pick way v n) = either_side k (Pick way v n) _ _ (local.at (PickLeft way n) v _ (at_each_path f h p v)) (local.at (PickRight way v) n _ (at_each_path f h p n))
  at_each_path f h (k ∷ p) (Add a b) = either_side k (Add a b) _ _ (local.at (AddLeft b) a _ (at_each_path f h p a)) (local.at (AddRight a) b _ (at_each_path f h p b))
  at_each_path f h (k ∷ p) (Or a b) = either_side k (Or a b) _ _ (local.at (OrLeft b) a _ (at_each_path f h p a)) (local.at (OrRight a) b _ (at_each_path f h p b))
  at_each_path f h (k ∷ p) Nil = local.none Nil
  at_each_path f h (k ∷ p) (Walk j) = local.none (Walk j)
  at_each_path f h (k ∷ p) (One a) = local.none (One a)
  at_each_path f h (k ∷ p) (Single e) = local.none (Single e)
  at_each_path f h (k ∷ p) (Hold n) = local.none (Hold n)
  at_each_path f h (k ∷ p) (Lit x) = local.none (Lit x)
  at_each_path f h (k ∷ p) (Item e) = local.none (Item e)

  -- what holds of each rule of a list holds of the rule of a number
  pub at_each_rule : (fs : List Rule) → AllByRecursion (λ f. (t : Tree) → P t (f t)) fs → (n : ℕ) (t : Tree) → P t (by_rule (nth_rule fs n) t)
  at_each_rule fs h zero t = local.none t
  at_each_rule fs h (suc n) t = go fs n h
    where
      go : (fs : List Rule) (n : ℕ) → AllByRecursion (λ f. (t : Tree) → P t (f t)) fs → P t (by_rule (slice_get fs n) t)
      go [] n h = local.none t
      go (f ∷ fs) zero h = h.0 t
      go (f ∷ fs) (suc n) h = go fs n h.1
