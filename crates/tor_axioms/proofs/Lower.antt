-- Each rule lowers the weight, also at a path.
use Rattle.std.proofs.Common.{◌≡◌, ℕ, ◌<◌, ◌≤◌, Bool, true, false, cond, List, [], ◌∷◌, length, nat_eq, sym, subst, arith, mul-le-mul, le_refl}
use Rattle.std.specs.Prelude.{IfOk, Result, Ok, Err}
use Rattle.std.specs.List.{AllByRecursion}
use Rattle.std.specs.Option.{option_map}
use Rattle.std.specs.declared.option.Option.{Option}
use Rattle.std.specs.declared.option.Option.TheVariants.{Some, None}
use Rattle.qbs_base.specs.declared.scalar.Scalar.TheVariants as scalars
use Rattle.tor_terms.specs.declared.term.Atom.{Atom}
use Rattle.tor_terms.specs.declared.term.Index.TheVariants.{Zero, At, Next, Len}
use Rattle.tor_terms.specs.declared.term.Term.{Term}
use Rattle.tor_terms.specs.Plain.{Form, Tree, Nil, Walk, Top, One, Single, Cat, Join, Sel, Proj, Uniq, Insert, Lit, Count, Sum, Any, Best, Pick, Add, Or, tree_of}
use Rattle.tor_axioms.specs.declared.facts.Literal.{Literal}
use Rattle.tor_axioms.specs.Paths.{within, applied}
use Rattle.tor_axioms.specs.Rules.{where_so, top_zero, top_next, top_len, cat_nil_left, cat_nil_right, cat_cat, join_nil_left, join_nil_right, join_cat_left, join_cat_right, join_ones, join_one_join, sel_none, sel_nil, sel_cat, some_no, all_yes, sel_no, sel_yes, some_no_within, yes_within, kept_form, without_yes, sel_join_no, sel_with, sel_join_yes, proj_nil, proj_cat, proj_one, uniq_nil, uniq_cat, count_nil, count_cat, count_one, sum_nil, sum_cat, sum_one, best_nil, best_cat, best_one, any_nil, any_cat, any_one, is_zero, add_zero_left, add_zero_right, add_add, or_false_left, or_false_right, or_true_right, or_true_left, or_or, rules, at_head}
use Rattle.tor_axioms.specs.Weight.{weight, Lowers}
use Rattle.tor_axioms.proofs.Places.{Place, InTop, CatLeft, CatRight, JoinLeft, JoinRight, InSel, InProj, InUniq, InInsert, InCount, InSum, InAny, BestLeft, BestRight, PickLeft, PickRight, AddLeft, AddRight, OrLeft, OrRight, put, IsLocal, at_each_path, at_each_rule}

pub weight-two : (t : Tree) → 2 ≤ weight t
weight-two (Top index r) = omega (arith, weight-two r)
weight-two (Cat r s) = omega (arith, weight-two r)
weight-two (Join r s) = omega (arith, mul-le-mul (weight-two r) (weight-two s))
weight-two (Sel fs r) = omega (arith, weight-two r)
weight-two (Proj e r) = omega (arith, weight-two r)
weight-two (Uniq r) = omega (arith, weight-two r)
weight-two (Insert r e) = omega (arith, weight-two r)
weight-two (Count r) = omega (arith, weight-two r)
weight-two (Sum r) = omega (arith, weight-two r)
weight-two (Any r) = omega (arith, weight-two r)
weight-two (Best way v r) = omega (arith, weight-two v)
weight-two (Pick way v n) = omega (arith, weight-two v)
weight-two (Add a b) = omega (arith, weight-two a)
weight-two (Or a b) = omega (arith, weight-two a)
weight-two _ = omega arith

where_so-lowers : (b : Bool) (t u : Tree) → weight u < weight t → Lowers t (where_so b u)
where_so-lowers false t u h = tt
where_so-lowers true t u h = h

top_zero-lowers : (t : Tree) → Lowers t (top_zero t)
top_zero-lowers (Top Zero r) = omega (arith, weight-two r)
top_zero-lowers _ = tt

top_next-lowers : (t : Tree) → Lowers t (top_next t)
top_next-lowers (Top (Next j) (Walk k)) = where_so-lowers (nat_eq j k) (Top (Next j) (Walk k)) (Cat (Top (At j) (Walk j)) (One (j ∷ []))) (omega arith)
top_next-lowers _ = tt

top_len-lowers : (t : Tree) → Lowers t (top_len t)
top_len-lowers (Top (Len j) (Walk k)) = where_so-lowers (nat_eq j k) (Top (Len j) (Walk k)) (Walk j) (omega arith)
top_len-lowers _ = tt

cat_nil_left-lowers : (t : Tree) → Lowers t (cat_nil_left t)
cat_nil_left-lowers (Cat Nil r) = omega arith
cat_nil_left-lowers _ = tt

cat_nil_right-lowers : (t : Tree) → Lowers t (cat_nil_right t)
cat_nil_right-lowers (Cat r Nil) = omega arith
cat_nil_right-lowers _ = tt

cat_cat-lowers : (t : Tree) → Lowers t (cat_cat t)
cat_cat-lowers (Cat (Cat r s) t) = omega (arith, weight-two r)
cat_cat-lowers _ = tt

join_nil_left-lowers : (t : Tree) → Lowers t (join_nil_left t)
join_nil_left-lowers (Join Nil r) = omega (arith, weight-two r)
join_nil_left-lowers _ = tt

join_nil_right-lowers : (t : Tree) → Lowers t (join_nil_right t)
join_nil_right-lowers (Join r Nil) = omega (arith, weight-two r)
join_nil_right-lowers _ = tt

join_cat_left-lowers : (t : Tree) → Lowers t (join_cat_left t)
join_cat_left-lowers (Join (Cat r s) t) = omega (arith, weight-two t)
join_cat_left-lowers _ = tt

join_cat_right-lowers : (t : Tree) → Lowers t (join_cat_right t)
join_cat_right-lowers (Join (One a) (Cat r s)) = omega arith
join_cat_right-lowers _ = tt

join_ones-lowers : (t : Tree) → Lowers t (join_ones t)
join_ones-lowers (Join (One a) (One b)) = omega arith
join_ones-lowers _ = tt

join_one_join-lowers : (t : Tree) → Lowers t (join_one_join t)
join_one_join-lowers (Join (One a) (Join (One b) r)) = omega (arith, weight-two r)
join_one_join-lowers _ = tt

sel_none-lowers : (t : Tree) → Lowers t (sel_none t)
sel_none-lowers (Sel [] r) = omega (arith, weight-two r)
sel_none-lowers _ = tt

sel_nil-lowers : (t : Tree) → Lowers t (sel_nil t)
sel_nil-lowers (Sel fs Nil) = omega arith
sel_nil-lowers _ = tt

sel_cat-lowers : (t : Tree) → Lowers t (sel_cat t)
sel_cat-lowers (Sel fs (Cat r s)) = omega arith
sel_cat-lowers _ = tt

sel_no-lowers : (atoms : List Atom) (facts : List Literal) (t : Tree) → Lowers t (sel_no atoms facts t)
sel_no-lowers atoms facts (Sel fs (One a)) = where_so-lowers (some_no atoms facts fs) (Sel fs (One a)) Nil (omega arith)
sel_no-lowers atoms facts _ = tt

sel_yes-lowers : (atoms : List Atom) (facts : List Literal) (t : Tree) → Lowers t (sel_yes atoms facts t)
sel_yes-lowers atoms facts (Sel fs (One a)) = where_so-lowers (all_yes atoms facts fs) (Sel fs (One a)) (One a) (omega arith)
sel_yes-lowers atoms facts _ = tt

sel_join_no-lowers : (atoms : List Atom) (facts : List Literal) (t : Tree) → Lowers t (sel_join_no atoms facts t)
sel_join_no-lowers atoms facts (Sel fs (Join (One a) r)) = where_so-lowers (some_no_within atoms facts a fs) (Sel fs (Join (One a) r)) Nil (omega (arith, weight-two r))
sel_join_no-lowers atoms facts _ = tt

abbrev IsShorter : List Form → Option (List Form) → Type 0
IsShorter fs None = Unit {0}
IsShorter fs (Some gs) = length gs < length fs

without_yes-shorter : (atoms : List Atom) (facts : List Literal) (a : List ℕ) (fs : List Form) → IsShorter fs (without_yes atoms facts a fs)
without_yes-shorter atoms facts a [] = tt
without_yes-shorter atoms facts a (f ∷ fs) = go (yes_within atoms facts a f) (without_yes atoms facts a fs) (without_yes-shorter atoms facts a fs)
  where
    go : (b : Bool) (o : Option (List Form)) → IsShorter fs o → IsShorter (f ∷ fs) (cond b (Some fs) (kept_form f o))
    go true o h = omega arith
    go false None h = tt
    go false (Some gs) h = omega (arith, h)

sel_with-lowers : (fs : List Form) (a : List ℕ) (r : Tree) (o : Option (List Form)) → IsShorter fs o → Lowers (Sel fs (Join (One a) r)) (sel_with o (Join (One a) r))
sel_with-lowers fs a r None h = tt
sel_with-lowers fs a r (Some gs) h = omega (arith, weight-two r, mul-le-mul h (le_refl (weight r)))

sel_join_yes-lowers : (atoms : List Atom) (facts : List Literal) (t : Tree) → Lowers t (sel_join_yes atoms facts t)
sel_join_yes-lowers atoms facts (Sel fs (Join (One a) r)) = sel_with-lowers fs a r (without_yes atoms facts a fs) (without_yes-shorter atoms facts a fs)
sel_join_yes-lowers atoms facts _ = tt

proj_nil-lowers : (t : Tree) → Lowers t (proj_nil t)
proj_nil-lowers (Proj e Nil) = omega arith
proj_nil-lowers _ = tt

proj_cat-lowers : (t : Tree) → Lowers t (proj_cat t)
proj_cat-lowers (Proj e (Cat r s)) = omega arith
proj_cat-lowers _ = tt

proj_one-lowers : (t : Tree) → Lowers t (proj_one t)
proj_one-lowers (Proj e (One a)) = omega arith
proj_one-lowers _ = tt

uniq_nil-lowers : (t : Tree) → Lowers t (uniq_nil t)
uniq_nil-lowers (Uniq Nil) = omega arith
uniq_nil-lowers _ = tt

uniq_cat-lowers : (t : Tree) → Lowers t (uniq_cat t)
uniq_cat-lowers (Uniq (Cat r (Single e))) = omega arith
uniq_cat-lowers _ = tt

count_nil-lowers : (t : Tree) → Lowers t (count_nil t)
count_nil-lowers (Count Nil) = omega arith
count_nil-lowers _ = tt

count_cat-lowers : (t : Tree) → Lowers t (count_cat t)
count_cat-lowers (Count (Cat r s)) = omega arith
count_cat-lowers _ = tt

count_one-lowers : (t : Tree) → Lowers t (count_one t)
count_one-lowers (Count (One a)) = omega arith
count_one-lowers _ = tt

sum_nil-lowers : (t : Tree) → Lowers t (sum_nil t)
sum_nil-lowers (Sum Nil) = omega arith
sum_nil-lowers _ = tt

sum_cat-lowers : (t : Tree) → Lowers t (sum_cat t)
sum_cat-lowers (Sum (Cat r s)) = omega arith
sum_cat-lowers _ = tt

sum_one-lowers : (t : Tree) → Lowers t (sum_one t)
sum_one-lowers (Sum (Single e)) = omega arith
sum_one-lowers _ = tt

best_nil-lowers : (t : Tree) → Lowers t (best_nil t)
best_nil-lowers (Best way v Nil) = omega arith
best_nil-lowers _ = tt

best_cat-lowers : (t : Tree) → Lowers t (best_cat t)
best_cat-lowers (Best way v (Cat r s)) = omega (arith, weight-two r)
best_cat-lowers _ = tt

best_one-lowers : (t : Tree) → Lowers t (best_one t)
best_one-lowers (Best way v (Single e)) = omega arith
best_one-lowers _ = tt

any_nil-lowers : (t : Tree) → Lowers t (any_nil t)
any_nil-lowers (Any Nil) = omega arith
any_nil-lowers _ = tt

any_cat-lowers : (t : Tree) → Lowers t (any_cat t)
any_cat-lowers (Any (Cat r s)) = omega arith
any_cat-lowers _ = tt

any_one-lowers : (t : Tree) → Lowers t (any_one t)
any_one-lowers (Any (One a)) = omega arith
any_one-lowers _ = tt

add_zero_left-lowers : (t : Tree) → Lowers t (add_zero_left t)
add_zero_left-lowers (Add a b) = where_so-lowers (is_zero a) (Add a b) b (omega arith)
add_zero_left-lowers _ = tt

add_zero_right-lowers : (t : Tree) → Lowers t (add_zero_right t)
add_zero_right-lowers (Add a b) = where_so-lowers (is_zero b) (Add a b) a (omega arith)
add_zero_right-lowers _ = tt

add_add-lowers : (t : Tree) → Lowers t (add_add t)
add_add-lowers (Add (Add a b) c) = omega (arith, weight-two a)
add_add-lowers _ = tt

or_false_left-lowers : (t : Tree) → Lowers t (or_false_left t)
or_false_left-lowers (Or (Lit (scalars.Bool false)) b) = omega arith
or_false_left-lowers _ = tt

or_false_right-lowers : (t : Tree) → Lowers t (or_false_right t)
or_false_right-lowers (Or a (Lit (scalars.Bool false))) = omega arith
or_false_right-lowers _ = tt

or_true_right-lowers : (t : Tree) → Lowers t (or_true_right t)
or_true_right-lowers (Or a (Lit (scalars.Bool true))) = omega arith
or_true_right-lowers _ = tt

or_true_left-lowers : (t : Tree) → Lowers t (or_true_left t)
or_true_left-lowers (Or (Lit (scalars.Bool true)) b) = omega arith
or_true_left-lowers _ = tt

or_or-lowers : (t : Tree) → Lowers t (or_or t)
or_or-lowers (Or (Or a b) c) = omega (arith, weight-two a)
or_or-lowers _ = tt

-- every rule lowers the weight
pub each_lowers : (atoms : List Atom) (facts : List Literal) → AllByRecursion (λ f. (t : Tree) → Lowers t (f t)) (rules atoms facts)
each_lowers atoms facts = (
  top_zero-lowers,
  (
    top_next-lowers,
    (
      top_len-lowers,
      (
        cat_nil_left-lowers,
        (
          cat_nil_right-lowers,
          (
            cat_cat-lowers,
            (
              join_nil_left-lowers,
              (
                join_nil_right-lowers,
                (
                  join_cat_left-lowers,
                  (
                    join_cat_right-lowers,
                    (
                      join_ones-lowers,
                      (
                        join_one_join-lowers,
                        (
                          sel_none-lowers,
                          (
                            sel_nil-lowers,
                            (
                              sel_cat-lowers,
                              (
                                sel_no-lowers atoms facts,
                                (
                                  sel_yes-lowers atoms facts,
                                  (
                                    sel_join_no-lowers atoms facts,
                                    (
                                      sel_join_yes-lowers atoms facts,
                                      (
                                        proj_nil-lowers,
                                        (
                                          proj_cat-lowers,
                                          (
                                            proj_one-lowers,
                                            (
                                              uniq_nil-lowers,
                                              (
                                                uniq_cat-lowers,
                                                (
                                                  count_nil-lowers,
                                                  (
                                                    count_cat-lowers,
                                                    (
                                                      count_one-lowers,
                                                      (
                                                        sum_nil-lowers,
                                                        (
                                                          sum_cat-lowers,
                                                          (
                                                            sum_one-lowers,
                                                            (
                                                              best_nil-lowers,
                                                              (
                                                                best_cat-lowers,
                                                                (
                                                                  best_one-lowers,
                                                                  (
                                                                    any_nil-lowers,
                                                                    (
                                                                      any_cat-lowers,
                                                                      (
                                                                        any_one-lowers,
                                                                        (
                                                                          add_zero_left-lowers,
                                                                          (
                                                                            add_zero_right-lowers,
                                                                            (
                                                                              add_add-lowers,
                                                                              (
                                                                                or_false_left-lowers,
                                                                                (or_false_right-lowers, (or_true_right-lowers, (or_true_left-lowers, (or_or-lowers, tt)))),
                                                                              ),
                                                                            ),
                                                                          ),
                                                                        ),
                                                                      ),
                                                                    ),
                                                                  ),
                                                                ),
                                                              ),
                                                            ),
                                                          ),
                                                        ),
                                                      ),
                                                    ),
                                                  ),
                                                ),
                                              ),
                                            ),
                                          ),
                                        ),
                                      ),
                                    ),
                                  ),
                                ),
                              ),
                            ),
                          ),
                        ),
                      ),
                    ),
                  ),
                ),
              ),
            ),
          ),
        ),
      ),
    ),
  ),
)

-- a lighter child makes a lighter term
pub lower_at : (place : Place) (r u : Tree) → weight u < weight r → weight (put place u) < weight (put place r)
lower_at (JoinLeft s) r u h = omega (arith, weight-two s, mul-le-mul h (le_refl (weight s)))
lower_at (JoinRight s) r u h = omega (arith, weight-two s, mul-le-mul h (le_refl (weight s)))
lower_at (InSel fs) r u h = omega (arith, mul-le-mul h (le_refl (length fs)))
lower_at (InTop index) r u h = omega (arith, h)
lower_at (CatLeft s) r u h = omega (arith, h)
lower_at (CatRight s) r u h = omega (arith, h)
lower_at (InProj e) r u h = omega (arith, h)
lower_at InUniq r u h = omega (arith, h)
lower_at (InInsert e) r u h = omega (arith, h)
lower_at InCount r u h = omega (arith, h)
lower_at InSum r u h = omega (arith, h)
lower_at InAny r u h = omega (arith, h)
lower_at (BestLeft way s) r u h = omega (arith, h)
lower_at (BestRight way s) r u h = omega (arith, h)
lower_at (PickLeft way s) r u h = omega (arith, h)
lower_at (PickRight way s) r u h = omega (arith, h)
lower_at (AddLeft s) r u h = omega (arith, h)
lower_at (AddRight s) r u h = omega (arith, h)
lower_at (OrLeft s) r u h = omega (arith, h)
lower_at (OrRight s) r u h = omega (arith, h)

lowers_at : (place : Place) (r : Tree) (o : Option Tree) → Lowers r o → Lowers (put place r) (within (put place) o)
lowers_at place r None h = tt
lowers_at place r (Some u) h = lower_at place r u h

pub lowers_local : IsLocal Lowers
lowers_local = record { none = λ t. tt; at = lowers_at }

-- a rule at a path lowers the weight
pub applied-lowers : (atoms : List Atom) (facts : List Literal) (n : ℕ) (p : List ℕ) (t : Tree) → Lowers t (applied atoms facts n p t)
applied-lowers atoms facts n p t =
    at_each_path Lowers lowers_local (at_head atoms facts n) (at_each_rule Lowers lowers_local (rules atoms facts) (each_lowers atoms facts) n) p t

pub lowered_by : {E : Type 0} (atoms : List Atom) (facts : List Literal) (n : ℕ) (p : List ℕ) (t : Tree) (r : Result (Option Term) E)
    → IfOk r (λ o. option_map tree_of o ≡ applied atoms facts n p t) → IfOk r (λ o. Lowers t (option_map tree_of o))
lowered_by atoms facts n p t (Ok o) e = subst (Lowers t) (sym e) (applied-lowers atoms facts n p t)
lowered_by atoms facts n p t (Err x) e = tt
