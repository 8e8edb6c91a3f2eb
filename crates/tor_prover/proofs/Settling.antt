-- What a rule gives for a term whose children are settled: all below its children is settled.
use Rattle.std.proofs.Common.{◌≡◌, ℕ, ◌+◌, Bool, true, false, List, [], ◌∷◌, nat_eq, refl, sym, subst}
use Rattle.std.specs.List.{AllByRecursion}
use Rattle.std.specs.declared.option.Option.{Option}
use Rattle.std.specs.declared.option.Option.TheVariants.{Some, None}
use Rattle.qbs_base.specs.declared.scalar.Scalar.TheVariants as scalars
use Rattle.tor_terms.specs.declared.term.Atom.{Atom}
use Rattle.tor_terms.specs.declared.term.Index.TheVariants.{Zero, At, Next, Len}
use Rattle.tor_terms.specs.Plain.{Form, Tree, Nil, Walk, Top, One, Single, Cat, Join, Sel, Proj, Uniq, Lit, Count, Sum, Any, Best, Add, Or}
use Rattle.tor_axioms.specs.declared.facts.Literal.{Literal}
use Rattle.tor_axioms.specs.Rules.{Rule, where_so, sel_with, some_no, all_yes, some_no_within, without_yes, is_zero, rules, top_zero, top_next, top_len, cat_nil_left, cat_nil_right, cat_cat, join_nil_left, join_nil_right, join_cat_left, join_cat_right, join_ones, join_one_join, sel_none, sel_nil, sel_cat, sel_no, sel_yes, sel_join_no, sel_join_yes, proj_nil, proj_cat, proj_one, uniq_nil, uniq_cat, count_nil, count_cat, count_one, sum_nil, sum_cat, sum_one, best_nil, best_cat, best_one, any_nil, any_cat, any_one, add_zero_left, add_zero_right, add_add, or_false_left, or_false_right, or_true_right, or_true_left, or_or}
use Rattle.tor_prover.specs.Normal.{first_from, first_rule}
use Rattle.tor_prover.specs.Settled.{IsSettled, ChildrenAreSettled, GrandchildrenAreSettled}
use Rattle.tor_prover.proofs.Settled.{settled-children, settled-grandchildren}

module _ (atoms : List Atom) (facts : List Literal) where
  abbrev Settles : Option Tree → Type 0
  Settles None = Unit {0}
  Settles (Some u) = GrandchildrenAreSettled atoms facts u

  abbrev children : (t : Tree) → IsSettled atoms facts t → ChildrenAreSettled atoms facts t
  children = settled-children atoms facts

  abbrev grand : (t : Tree) → IsSettled atoms facts t → GrandchildrenAreSettled atoms facts t
  grand = settled-grandchildren atoms facts

  where_so-settles : (b : Bool) (u : Tree) → GrandchildrenAreSettled atoms facts u → Settles (where_so b u)
  where_so-settles false u h = tt
  where_so-settles true u h = h

  sel_with-settles : (r : Tree) → ChildrenAreSettled atoms facts r → (o : Option (List Form)) → Settles (sel_with o r)
  sel_with-settles r h None = tt
  sel_with-settles r h (Some fs) = h

  top_zero-settles : (t : Tree) → ChildrenAreSettled atoms facts t → Settles (top_zero t)
  top_zero-settles (Top Zero r) h = tt
  top_zero-settles _ h = tt

  top_next-settles : (t : Tree) → ChildrenAreSettled atoms facts t → Settles (top_next t)
  top_next-settles (Top (Next j) (Walk k)) h = where_so-settles (nat_eq j k) (Cat (Top (At j) (Walk j)) (One (j ∷ []))) ((refl, refl), tt)
  top_next-settles _ h = tt

  top_len-settles : (t : Tree) → ChildrenAreSettled atoms facts t → Settles (top_len t)
  top_len-settles (Top (Len j) (Walk k)) h = where_so-settles (nat_eq j k) (Walk j) tt
  top_len-settles _ h = tt

  cat_nil_left-settles : (t : Tree) → ChildrenAreSettled atoms facts t → Settles (cat_nil_left t)
  cat_nil_left-settles (Cat Nil r) h = grand r h.1
  cat_nil_left-settles _ h = tt

  cat_nil_right-settles : (t : Tree) → ChildrenAreSettled atoms facts t → Settles (cat_nil_right t)
  cat_nil_right-settles (Cat r Nil) h = grand r h.0
  cat_nil_right-settles _ h = tt

  cat_cat-settles : (t : Tree) → ChildrenAreSettled atoms facts t → Settles (cat_cat t)
  cat_cat-settles (Cat (Cat r s) t) h = (children r h.0.1, (h.0.2, h.1))
  cat_cat-settles _ h = tt

  join_nil_left-settles : (t : Tree) → ChildrenAreSettled atoms facts t → Settles (join_nil_left t)
  join_nil_left-settles (Join Nil r) h = tt
  join_nil_left-settles _ h = tt

  join_nil_right-settles : (t : Tree) → ChildrenAreSettled atoms facts t → Settles (join_nil_right t)
  join_nil_right-settles (Join r Nil) h = tt
  join_nil_right-settles _ h = tt

  join_cat_left-settles : (t : Tree) → ChildrenAreSettled atoms facts t → Settles (join_cat_left t)
  join_cat_left-settles (Join (Cat r s) t) h = ((h.0.1, h.1), (h.0.2, h.1))
  join_cat_left-settles _ h = tt

  join_cat_right-settles : (t : Tree) → ChildrenAreSettled atoms facts t → Settles (join_cat_right t)
  join_cat_right-settles (Join (One a) (Cat r s)) h = ((h.0, h.1.1), (h.0, h.1.2))
  join_cat_right-settles _ h = tt

  join_ones-settles : (t : Tree) → ChildrenAreSettled atoms facts t → Settles (join_ones t)
  join_ones-settles (Join (One a) (One b)) h = tt
  join_ones-settles _ h = tt

  join_one_join-settles : (t : Tree) → ChildrenAreSettled atoms facts t → Settles (join_one_join t)
  join_one_join-settles (Join (One a) (Join (One b) r)) h = (tt, children r h.1.2)
  join_one_join-settles _ h = tt

  sel_none-settles : (t : Tree) → ChildrenAreSettled atoms facts t → Settles (sel_none t)
  sel_none-settles (Sel [] r) h = grand r h
  sel_none-settles _ h = tt

  sel_nil-settles : (t : Tree) → ChildrenAreSettled atoms facts t → Settles (sel_nil t)
  sel_nil-settles (Sel fs Nil) h = tt
  sel_nil-settles _ h = tt

  sel_cat-settles : (t : Tree) → ChildrenAreSettled atoms facts t → Settles (sel_cat t)
  sel_cat-settles (Sel fs (Cat r s)) h = (h.1, h.2)
  sel_cat-settles _ h = tt

  sel_no-settles : (t : Tree) → ChildrenAreSettled atoms facts t → Settles (sel_no atoms facts t)
  sel_no-settles (Sel fs (One a)) h = where_so-settles (some_no atoms facts fs) Nil tt
  sel_no-settles _ h = tt

  sel_yes-settles : (t : Tree) → ChildrenAreSettled atoms facts t → Settles (sel_yes atoms facts t)
  sel_yes-settles (Sel fs (One a)) h = where_so-settles (all_yes atoms facts fs) (One a) tt
  sel_yes-settles _ h = tt

  sel_join_no-settles : (t : Tree) → ChildrenAreSettled atoms facts t → Settles (sel_join_no atoms facts t)
  sel_join_no-settles (Sel fs (Join (One a) r)) h = where_so-settles (some_no_within atoms facts a fs) Nil tt
  sel_join_no-settles _ h = tt

  sel_join_yes-settles : (t : Tree) → ChildrenAreSettled atoms facts t → Settles (sel_join_yes atoms facts t)
  sel_join_yes-settles (Sel fs (Join (One a) r)) h = sel_with-settles (Join (One a) r) (children (Join (One a) r) h) (without_yes atoms facts a fs)
  sel_join_yes-settles _ h = tt

  proj_nil-settles : (t : Tree) → ChildrenAreSettled atoms facts t → Settles (proj_nil t)
  proj_nil-settles (Proj e Nil) h = tt
  proj_nil-settles _ h = tt

  proj_cat-settles : (t : Tree) → ChildrenAreSettled atoms facts t → Settles (proj_cat t)
  proj_cat-settles (Proj e (Cat r s)) h = (h.1, h.2)
  proj_cat-settles _ h = tt

  proj_one-settles : (t : Tree) → ChildrenAreSettled atoms facts t → Settles (proj_one t)
  proj_one-settles (Proj e (One a)) h = tt
  proj_one-settles _ h = tt

  uniq_nil-settles : (t : Tree) → ChildrenAreSettled atoms facts t → Settles (uniq_nil t)
  uniq_nil-settles (Uniq Nil) h = tt
  uniq_nil-settles _ h = tt

  uniq_cat-settles : (t : Tree) → ChildrenAreSettled atoms facts t → Settles (uniq_cat t)
  uniq_cat-settles (Uniq (Cat r (Single e))) h = h.1
  uniq_cat-settles _ h = tt

  count_nil-settles : (t : Tree) → ChildrenAreSettled atoms facts t → Settles (count_nil t)
  count_nil-settles (Count Nil) h = tt
  count_nil-settles _ h = tt

  count_cat-settles : (t : Tree) → ChildrenAreSettled atoms facts t → Settles (count_cat t)
  count_cat-settles (Count (Cat r s)) h = (h.1, h.2)
  count_cat-settles _ h = tt

  count_one-settles : (t : Tree) → ChildrenAreSettled atoms facts t → Settles (count_one t)
  count_one-settles (Count (One a)) h = tt
  count_one-settles _ h = tt

  sum_nil-settles : (t : Tree) → ChildrenAreSettled atoms facts t → Settles (sum_nil t)
  sum_nil-settles (Sum Nil) h = tt
  sum_nil-settles _ h = tt

  sum_cat-settles : (t : Tree) → ChildrenAreSettled atoms facts t → Settles (sum_cat t)
  sum_cat-settles (Sum (Cat r s)) h = (h.1, h.2)
  sum_cat-settles _ h = tt

  sum_one-settles : (t : Tree) → ChildrenAreSettled atoms facts t → Settles (sum_one t)
  sum_one-settles (Sum (Single e)) h = tt
  sum_one-settles _ h = tt

  best_nil-settles : (t : Tree) → ChildrenAreSettled atoms facts t → Settles (best_nil t)
  best_nil-settles (Best way v Nil) h = grand v h.0
  best_nil-settles _ h = tt

  best_cat-settles : (t : Tree) → ChildrenAreSettled atoms facts t → Settles (best_cat t)
  best_cat-settles (Best way v (Cat r s)) h = ((h.0, h.1.1), children s h.1.2)
  best_cat-settles _ h = tt

  best_one-settles : (t : Tree) → ChildrenAreSettled atoms facts t → Settles (best_one t)
  best_one-settles (Best way v (Single e)) h = (children v h.0, tt)
  best_one-settles _ h = tt

  any_nil-settles : (t : Tree) → ChildrenAreSettled atoms facts t → Settles (any_nil t)
  any_nil-settles (Any Nil) h = tt
  any_nil-settles _ h = tt

  any_cat-settles : (t : Tree) → ChildrenAreSettled atoms facts t → Settles (any_cat t)
  any_cat-settles (Any (Cat r s)) h = (h.1, h.2)
  any_cat-settles _ h = tt

  any_one-settles : (t : Tree) → ChildrenAreSettled atoms facts t → Settles (any_one t)
  any_one-settles (Any (One a)) h = tt
  any_one-settles _ h = tt

  add_zero_left-settles : (t : Tree) → ChildrenAreSettled atoms facts t → Settles (add_zero_left t)
  add_zero_left-settles (Add a b) h = where_so-settles (is_zero a) b (grand b h.1)
  add_zero_left-settles _ h = tt

  add_zero_right-settles : (t : Tree) → ChildrenAreSettled atoms facts t → Settles (add_zero_right t)
  add_zero_right-settles (Add a b) h = where_so-settles (is_zero b) a (grand a h.0)
  add_zero_right-settles _ h = tt

  add_add-settles : (t : Tree) → ChildrenAreSettled atoms facts t → Settles (add_add t)
  add_add-settles (Add (Add a b) c) h = (children a h.0.1, (h.0.2, h.1))
  add_add-settles _ h = tt

  or_false_left-settles : (t : Tree) → ChildrenAreSettled atoms facts t → Settles (or_false_left t)
  or_false_left-settles (Or (Lit (scalars.Bool false)) b) h = grand b h.1
  or_false_left-settles _ h = tt

  or_false_right-settles : (t : Tree) → ChildrenAreSettled atoms facts t → Settles (or_false_right t)
  or_false_right-settles (Or a (Lit (scalars.Bool false))) h = grand a h.0
  or_false_right-settles _ h = tt

  or_true_right-settles : (t : Tree) → ChildrenAreSettled atoms facts t → Settles (or_true_right t)
  or_true_right-settles (Or a (Lit (scalars.Bool true))) h = tt
  or_true_right-settles _ h = tt

  or_true_left-settles : (t : Tree) → ChildrenAreSettled atoms facts t → Settles (or_true_left t)
  or_true_left-settles (Or (Lit (scalars.Bool true)) b) h = tt
  or_true_left-settles _ h = tt

  or_or-settles : (t : Tree) → ChildrenAreSettled atoms facts t → Settles (or_or t)
  or_or-settles (Or (Or a b) c) h = (children a h.0.1, (h.0.2, h.1))
  or_or-settles _ h = tt

  each-settles : AllByRecursion (λ f. (t : Tree) → ChildrenAreSettled atoms facts t → Settles (f t)) (rules atoms facts)
  each-settles = (top_zero-settles, (top_next-settles, (top_len-settles, (cat_nil_left-settles, (cat_nil_right-settles, (cat_cat-settles, (join_nil_left-settles, (join_nil_right-settles, (join_cat_left-settles, (join_cat_right-settles, (join_ones-settles, (join_one_join-settles, (sel_none-settles, (sel_nil-settles, (sel_cat-settles, (sel_no-settles, (sel_yes-settles, (sel_join_no-settles, (sel_join_yes-settles, (proj_nil-settles, (proj_cat-settles, (proj_one-settles, (uniq_nil-settles, (uniq_cat-settles, (count_nil-settles, (count_cat-settles, (count_one-settles, (sum_nil-settles, (sum_cat-settles, (sum_one-settles, (best_nil-settles, (best_cat-settles, (best_one-settles, (any_nil-settles, (any_cat-settles, (any_one-settles, (add_zero_left-settles, (add_zero_right-settles, (add_add-settles, (or_false_left-settles, (or_false_right-settles, (or_true_right-settles, (or_true_left-settles, (or_or-settles, tt))))))))))))))))))))))))))))))))))))))))))))

  abbrev FirstSettles : Option (ℕ × Tree) → Type 0
  FirstSettles None = Unit {0}
  FirstSettles (Some found) = GrandchildrenAreSettled atoms facts found.1

  from-settles : (fs : List Rule) (k : ℕ) (t : Tree) → AllByRecursion (λ f. (t : Tree) → ChildrenAreSettled atoms facts t → Settles (f t)) fs → ChildrenAreSettled atoms facts t → FirstSettles (first_from k fs t)
  from-settles [] k t l h = tt
  from-settles (f ∷ fs) k t l h = go (f t) (l.0 t h) (from-settles fs (k + 1) t l.1 h)
    where
      go : (o : Option Tree) → Settles o → FirstSettles (first_from (k + 1) fs t) → FirstSettles (elim o [ Some u ↦ Some (k, u) | None ↦ first_from (k + 1) fs t ])
      go None w rest = rest
      go (Some u) w rest = w

  pub first-settles : (t : Tree) → ChildrenAreSettled atoms facts t → (n : ℕ) (u : Tree) → Some (n, u) ≡ first_rule atoms facts t → GrandchildrenAreSettled atoms facts u
  first-settles t h n u e = subst FirstSettles (sym e) (from-settles (rules atoms facts) 1 t each-settles h)
