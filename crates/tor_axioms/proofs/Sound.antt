-- Each rule keeps the value.
use Rattle.std.proofs.Common.{◌≡◌, ℕ, pos, Bool, true, false, cond, List, [], ◌∷◌, ◌++◌, map, take, length, get_or, nat_eq, refl, sym, ap, ap₂, ◌∙◌, subst, arith, append_assoc, append-nil, take_all, eqb-true}
use Rattle.std.specs.List.{filter, AllByRecursion}
use Rattle.std.specs.declared.option.Option.{Option}
use Rattle.std.specs.declared.option.Option.TheVariants.{Some, None}
use Rattle.std.proofs.lemmas.List.{map-append, take-map, map_more}
use Rattle.std.proofs.lemmas.Option.{get_or_from_slice_get}
use Rattle.std.proofs.lemmas.List.Concat.{flat_map-append}
use Rattle.std.proofs.lemmas.List.Elements.{filter-append}
use Rattle.qbs_base.specs.declared.scalar.Scalar.TheVariants as scalars
use Rattle.tor_terms.specs.declared.term.Atom.{Atom}
use Rattle.tor_terms.specs.declared.term.Index.TheVariants.{Zero, At, Next, Len}
use Rattle.tor_terms.specs.Plain.{Form, Tree, Nil, Walk, Top, One, Single, Cat, Join, Sel, Proj, Uniq, Lit, Count, Sum, Any, Best, Add, Or}
use Rattle.tor_terms.specs.Truth.{World, Tuple, Datum, Tup, Element, rows_at, all_hold}
use Rattle.tor_terms.specs.Valid.{IsCurrent}
use Rattle.tor_terms.specs.Value.{plain_row, elem_at, here, paired, joined, walked, added, value}
use Rattle.tor_axioms.specs.declared.facts.Literal.{Literal}
use Rattle.tor_axioms.specs.Decide.{Satisfied}
use Rattle.tor_axioms.specs.Rules.{where_so, number, top_zero, top_next, top_len, cat_nil_left, cat_nil_right, cat_cat, join_nil_left, join_nil_right, join_cat_left, join_cat_right, join_ones, join_one_join, sel_none, sel_nil, sel_cat, some_no, all_yes, sel_no, sel_yes, some_no_within, without_yes, sel_join_no, sel_with, sel_join_yes, proj_nil, proj_cat, proj_one, uniq_nil, uniq_cat, count_nil, count_cat, count_one, sum_nil, sum_cat, sum_one, best_nil, best_cat, best_one, any_nil, any_cat, any_one, is_zero, add_zero_left, add_zero_right, add_add, or_false_left, or_false_right, or_true_right, or_true_left, or_or, rules}
use Rattle.tor_axioms.specs.Keeps.{IsReady, Kept, Keeps}
use Rattle.tor_axioms.proofs.Algebra.{zero_added, added_zero, added_assoc, total_append, false_either, either_false, true_either, either_true, either_assoc, not_empty_append, count_append, first_ones_append, best_append}
use Rattle.tor_axioms.proofs.Decided.{some_no-false, all_yes-true}
use Rattle.tor_axioms.proofs.Tuples.{here_rows, none_pass, same_pass}

is_zero-true : (t : Tree) → is_zero t ≡ true → t ≡ number 0
is_zero-true (Lit (scalars.Long (pos n))) e = ap number (eqb-true n 0 e)
is_zero-true _ e = absurd cc

joined_none : (xs : List Datum) → joined xs [] ≡ []
joined_none [] = refl
joined_none (x ∷ xs) = joined_none xs

paired_twice : (t u : Tuple) (x : Datum) → paired (Tup (t ++ u)) x ≡ paired (Tup t) (paired (Tup u) x)
paired_twice t u (Tup s) = ap Tup (append_assoc t u s)
paired_twice t u (Element r) = refl

map_paired_twice : (t u : Tuple) (xs : List Datum) → map (paired (Tup (t ++ u))) xs ≡ map (paired (Tup t)) (map (paired (Tup u)) xs)
map_paired_twice t u [] = refl
map_paired_twice t u (x ∷ xs) = ap₂ (λ y ys. y ∷ ys) (paired_twice t u x) (map_paired_twice t u xs)

joined_cat : (x : Datum) (ys zs : List Datum) → joined (x ∷ []) ys ++ joined (x ∷ []) zs ≡ joined (x ∷ []) (ys ++ zs)
joined_cat x ys zs = simp (map-append, append-nil)

module _ (w : World) (atoms : List Atom) where
  -- under a test that the term doesn't show
  where_so_keeps : (b : Bool) (t u : Tree) → (b ≡ true → IsReady w t → Kept w atoms t u) → Keeps w atoms t (where_so b u)
  where_so_keeps false t u h = tt
  where_so_keeps true t u h = h refl

  top_zero-keeps : (t : Tree) → Keeps w atoms t (top_zero t)
  top_zero-keeps (Top Zero r) = λ _. record { same = refl; ready = tt }
  top_zero-keeps _ = tt

  next_same : (j : ℕ) → IsCurrent w j → value w atoms (Cat (Top (At j) (Walk j)) (One (j ∷ []))) ≡ value w atoms (Top (Next j) (Walk j))
  next_same j h =
      let below = h.below in
      let row : get_or (w.lists j) (w.turns j) (plain_row None) ≡ w.current j = get_or_from_slice_get (w.lists j) (w.turns j) (w.current j) (plain_row None) h.row in
      sym (simp take-map (map_more (λ r. Tup ((j, r) ∷ [])) (w.lists j) (w.turns j) (plain_row None) below ∙ ap (λ r. map (λ r. Tup ((j, r) ∷ [])) (take (w.turns j) (w.lists j)) ++ Tup ((j, r) ∷ []) ∷ []) row))

  top_next-keeps : (t : Tree) → Keeps w atoms t (top_next t)
  top_next-keeps (Top (Next j) (Walk k)) =
      where_so_keeps (nat_eq j k) _ _ (λ e ready. subst (λ k. Kept w atoms (Top (Next j) (Walk k)) (Cat (Top (At j) (Walk j)) (One (j ∷ [])))) (eqb-true j k e)
      (record { same = next_same j ready.0; ready = ((tt, tt), tt) }))
  top_next-keeps _ = tt

  len_same : (j : ℕ) → value w atoms (Walk j) ≡ value w atoms (Top (Len j) (Walk j))
  len_same j = sym (simp take-map (ap (walked j) (take_all (length (w.lists j)) (w.lists j) (omega arith))))

  top_len-keeps : (t : Tree) → Keeps w atoms t (top_len t)
  top_len-keeps (Top (Len j) (Walk k)) =
      where_so_keeps (nat_eq j k) _ _ (λ e ready. subst (λ k. Kept w atoms (Top (Len j) (Walk k)) (Walk j)) (eqb-true j k e)
      (record { same = len_same j; ready = tt }))
  top_len-keeps _ = tt

  cat_nil_left-keeps : (t : Tree) → Keeps w atoms t (cat_nil_left t)
  cat_nil_left-keeps (Cat Nil r) = λ ready. record { same = refl; ready = ready.1 }
  cat_nil_left-keeps _ = tt

  cat_nil_right-keeps : (t : Tree) → Keeps w atoms t (cat_nil_right t)
  cat_nil_right-keeps (Cat r Nil) = λ ready. record { same = sym (append-nil (value w atoms r)); ready = ready.0 }
  cat_nil_right-keeps _ = tt

  cat_cat-keeps : (t : Tree) → Keeps w atoms t (cat_cat t)
  cat_cat-keeps (Cat (Cat r s) t) = λ ready.
      record {
        same = sym (append_assoc (value w atoms r) (value w atoms s) (value w atoms t));
        ready = (ready.0.0, (ready.0.1, ready.1));
      }
  cat_cat-keeps _ = tt

  join_nil_left-keeps : (t : Tree) → Keeps w atoms t (join_nil_left t)
  join_nil_left-keeps (Join Nil r) = λ _. record { same = refl; ready = tt }
  join_nil_left-keeps _ = tt

  join_nil_right-keeps : (t : Tree) → Keeps w atoms t (join_nil_right t)
  join_nil_right-keeps (Join r Nil) = λ _. record { same = sym (joined_none (value w atoms r)); ready = tt }
  join_nil_right-keeps _ = tt

  join_cat_left-keeps : (t : Tree) → Keeps w atoms t (join_cat_left t)
  join_cat_left-keeps (Join (Cat r s) t) = λ ready.
      record {
        same = sym (flat_map-append (λ x. map (paired x) (value w atoms t)) (value w atoms r) (value w atoms s));
        ready = ((ready.0.0, ready.1), (ready.0.1, ready.1));
      }
  join_cat_left-keeps _ = tt

  join_cat_right-keeps : (t : Tree) → Keeps w atoms t (join_cat_right t)
  join_cat_right-keeps (Join (One a) (Cat r s)) = λ ready.
      record {
        same = joined_cat (Tup (here w a)) (value w atoms r) (value w atoms s);
        ready = ((tt, ready.1.0), (tt, ready.1.1));
      }
  join_cat_right-keeps _ = tt

  join_ones-keeps : (t : Tree) → Keeps w atoms t (join_ones t)
  join_ones-keeps (Join (One a) (One b)) = λ _. record { same = ap (λ t. Tup t ∷ []) (map-append (λ j. (j, w.current j)) a b); ready = tt }
  join_ones-keeps _ = tt

  one_join_same : (a b : List ℕ) (r : Tree) → value w atoms (Join (One (a ++ b)) r) ≡ value w atoms (Join (One a) (Join (One b) r))
  one_join_same a b r =
      simp append-nil (ap (λ t. map (paired (Tup t)) (value w atoms r)) (map-append (λ j. (j, w.current j)) a b) ∙ map_paired_twice (here w a) (here w b) (value w atoms r))

  join_one_join-keeps : (t : Tree) → Keeps w atoms t (join_one_join t)
  join_one_join-keeps (Join (One a) (Join (One b) r)) = λ ready. record { same = one_join_same a b r; ready = (tt, ready.1.1) }
  join_one_join-keeps _ = tt

  all_pass : (xs : List Datum) → xs ≡ filter (λ x. all_hold w atoms (rows_at w.current x) []) xs
  all_pass [] = refl
  all_pass (x ∷ xs) = ap (λ l. x ∷ l) (all_pass xs)

  sel_none-keeps : (t : Tree) → Keeps w atoms t (sel_none t)
  sel_none-keeps (Sel [] r) = λ ready. record { same = all_pass (value w atoms r); ready = ready }
  sel_none-keeps _ = tt

  sel_nil-keeps : (t : Tree) → Keeps w atoms t (sel_nil t)
  sel_nil-keeps (Sel fs Nil) = λ _. record { same = refl; ready = tt }
  sel_nil-keeps _ = tt

  sel_cat-keeps : (t : Tree) → Keeps w atoms t (sel_cat t)
  sel_cat-keeps (Sel fs (Cat r s)) = λ ready.
      record {
        same = sym (filter-append (λ x. all_hold w atoms (rows_at w.current x) fs) (value w atoms r) (value w atoms s));
        ready = ready;
      }
  sel_cat-keeps _ = tt

  -- what holds of the current rows holds of the tuple of current rows
  here_hold : (fs : List Form) (a : List ℕ) → all_hold w atoms (rows_at w.current (Tup (here w a))) fs ≡ all_hold w atoms w.current fs
  here_hold fs a = ap (λ rows. all_hold w atoms rows fs) (here_rows w a)

  proj_nil-keeps : (t : Tree) → Keeps w atoms t (proj_nil t)
  proj_nil-keeps (Proj e Nil) = λ _. record { same = refl; ready = tt }
  proj_nil-keeps _ = tt

  proj_cat-keeps : (t : Tree) → Keeps w atoms t (proj_cat t)
  proj_cat-keeps (Proj e (Cat r s)) = λ ready.
      record {
        same = sym (map-append (λ x. Element (elem_at (rows_at w.current x) e)) (value w atoms r) (value w atoms s));
        ready = ready;
      }
  proj_cat-keeps _ = tt

  proj_one-keeps : (t : Tree) → Keeps w atoms t (proj_one t)
  proj_one-keeps (Proj e (One a)) = λ _. record { same = ap (λ rows. Element (elem_at rows e) ∷ []) (sym (here_rows w a)); ready = tt }
  proj_one-keeps _ = tt

  uniq_nil-keeps : (t : Tree) → Keeps w atoms t (uniq_nil t)
  uniq_nil-keeps (Uniq Nil) = λ _. record { same = refl; ready = tt }
  uniq_nil-keeps _ = tt

  uniq_cat-keeps : (t : Tree) → Keeps w atoms t (uniq_cat t)
  uniq_cat-keeps (Uniq (Cat r (Single e))) = λ ready.
      record { same = sym (first_ones_append [] (value w atoms r) (Element (elem_at w.current e) ∷ [])); ready = ready.0 }
  uniq_cat-keeps _ = tt

  count_nil-keeps : (t : Tree) → Keeps w atoms t (count_nil t)
  count_nil-keeps (Count Nil) = λ _. record { same = refl; ready = tt }
  count_nil-keeps _ = tt

  count_cat-keeps : (t : Tree) → Keeps w atoms t (count_cat t)
  count_cat-keeps (Count (Cat r s)) = λ ready. record { same = sym (count_append (value w atoms r) (value w atoms s)); ready = ready }
  count_cat-keeps _ = tt

  count_one-keeps : (t : Tree) → Keeps w atoms t (count_one t)
  count_one-keeps (Count (One a)) = λ _. record { same = refl; ready = tt }
  count_one-keeps _ = tt

  sum_nil-keeps : (t : Tree) → Keeps w atoms t (sum_nil t)
  sum_nil-keeps (Sum Nil) = λ _. record { same = refl; ready = tt }
  sum_nil-keeps _ = tt

  sum_cat-keeps : (t : Tree) → Keeps w atoms t (sum_cat t)
  sum_cat-keeps (Sum (Cat r s)) = λ ready. record { same = sym (total_append (value w atoms r) (value w atoms s)); ready = ready }
  sum_cat-keeps _ = tt

  sum_one-keeps : (t : Tree) → Keeps w atoms t (sum_one t)
  sum_one-keeps (Sum (Single e)) = λ _. record { same = sym (added_zero (Element (elem_at w.current e) ∷ [])); ready = tt }
  sum_one-keeps _ = tt

  best_nil-keeps : (t : Tree) → Keeps w atoms t (best_nil t)
  best_nil-keeps (Best way v Nil) = λ ready. record { same = refl; ready = ready.0 }
  best_nil-keeps _ = tt

  best_cat-keeps : (t : Tree) → Keeps w atoms t (best_cat t)
  best_cat-keeps (Best way v (Cat r s)) = λ ready.
      record { same = sym (best_append way (value w atoms v) (value w atoms r) (value w atoms s)); ready = ((ready.0, ready.1.0), ready.1.1) }
  best_cat-keeps _ = tt

  best_one-keeps : (t : Tree) → Keeps w atoms t (best_one t)
  best_one-keeps (Best way v (Single e)) = λ ready. record { same = refl; ready = (ready.0, tt) }
  best_one-keeps _ = tt

  any_nil-keeps : (t : Tree) → Keeps w atoms t (any_nil t)
  any_nil-keeps (Any Nil) = λ _. record { same = refl; ready = tt }
  any_nil-keeps _ = tt

  any_cat-keeps : (t : Tree) → Keeps w atoms t (any_cat t)
  any_cat-keeps (Any (Cat r s)) = λ ready. record { same = sym (not_empty_append (value w atoms r) (value w atoms s)); ready = ready }
  any_cat-keeps _ = tt

  any_one-keeps : (t : Tree) → Keeps w atoms t (any_one t)
  any_one-keeps (Any (One a)) = λ _. record { same = refl; ready = tt }
  any_one-keeps _ = tt

  add_zero_left-keeps : (t : Tree) → Keeps w atoms t (add_zero_left t)
  add_zero_left-keeps (Add a b) =
      where_so_keeps (is_zero a) (Add a b) b (λ e ready. record {
        same = sym (ap (λ t. added (value w atoms t) (value w atoms b)) (is_zero-true a e) ∙ zero_added (value w atoms b));
        ready = ready.1;
      })
  add_zero_left-keeps _ = tt

  add_zero_right-keeps : (t : Tree) → Keeps w atoms t (add_zero_right t)
  add_zero_right-keeps (Add a b) =
      where_so_keeps (is_zero b) (Add a b) a (λ e ready. record {
        same = sym (ap (λ t. added (value w atoms a) (value w atoms t)) (is_zero-true b e) ∙ added_zero (value w atoms a));
        ready = ready.0;
      })
  add_zero_right-keeps _ = tt

  add_add-keeps : (t : Tree) → Keeps w atoms t (add_add t)
  add_add-keeps (Add (Add a b) c) = λ ready.
      record { same = sym (added_assoc (value w atoms a) (value w atoms b) (value w atoms c)); ready = (ready.0.0, (ready.0.1, ready.1)) }
  add_add-keeps _ = tt

  or_false_left-keeps : (t : Tree) → Keeps w atoms t (or_false_left t)
  or_false_left-keeps (Or (Lit (scalars.Bool false)) b) = λ ready. record { same = sym (false_either (value w atoms b)); ready = ready.1 }
  or_false_left-keeps _ = tt

  or_false_right-keeps : (t : Tree) → Keeps w atoms t (or_false_right t)
  or_false_right-keeps (Or a (Lit (scalars.Bool false))) = λ ready. record { same = sym (either_false (value w atoms a)); ready = ready.0 }
  or_false_right-keeps _ = tt

  or_true_right-keeps : (t : Tree) → Keeps w atoms t (or_true_right t)
  or_true_right-keeps (Or a (Lit (scalars.Bool true))) = λ _. record { same = sym (either_true (value w atoms a)); ready = tt }
  or_true_right-keeps _ = tt

  or_true_left-keeps : (t : Tree) → Keeps w atoms t (or_true_left t)
  or_true_left-keeps (Or (Lit (scalars.Bool true)) b) = λ _. record { same = sym (true_either (value w atoms b)); ready = tt }
  or_true_left-keeps _ = tt

  or_or-keeps : (t : Tree) → Keeps w atoms t (or_or t)
  or_or-keeps (Or (Or a b) c) = λ ready.
      record { same = sym (either_assoc (value w atoms a) (value w atoms b) (value w atoms c)); ready = (ready.0.0, (ready.0.1, ready.1)) }
  or_or-keeps _ = tt

  module _ (facts : List Literal) (satisfied : Satisfied w atoms facts) where
    no_same : (fs : List Form) (a : List ℕ) → all_hold w atoms w.current fs ≡ false → [] ≡ value w atoms (Sel fs (One a))
    no_same fs a h = ap (λ b. cond b (Tup (here w a) ∷ []) []) (sym (here_hold fs a ∙ h))

    sel_no-keeps : (t : Tree) → Keeps w atoms t (sel_no atoms facts t)
    sel_no-keeps (Sel fs (One a)) =
        where_so_keeps (some_no atoms facts fs) (Sel fs (One a)) Nil (λ e _. record { same = no_same fs a (some_no-false w atoms facts fs satisfied e); ready = tt })
    sel_no-keeps _ = tt

    yes_same : (fs : List Form) (a : List ℕ) → all_hold w atoms w.current fs ≡ true → value w atoms (One a) ≡ value w atoms (Sel fs (One a))
    yes_same fs a h = ap (λ b. cond b (Tup (here w a) ∷ []) []) (sym (here_hold fs a ∙ h))

    sel_yes-keeps : (t : Tree) → Keeps w atoms t (sel_yes atoms facts t)
    sel_yes-keeps (Sel fs (One a)) =
        where_so_keeps (all_yes atoms facts fs) (Sel fs (One a)) (One a) (λ e _. record { same = yes_same fs a (all_yes-true w atoms facts fs satisfied e); ready = tt })
    sel_yes-keeps _ = tt

    sel_join_no-keeps : (t : Tree) → Keeps w atoms t (sel_join_no atoms facts t)
    sel_join_no-keeps (Sel fs (Join (One a) r)) =
        where_so_keeps (some_no_within atoms facts a fs) (Sel fs (Join (One a) r)) Nil
        (λ e _. record { same = sym (none_pass w atoms facts satisfied a (value w atoms r) fs e); ready = tt })
    sel_join_no-keeps _ = tt

    sel_with-keeps : (fs : List Form) (a : List ℕ) (r : Tree) (o : Option (List Form)) → without_yes atoms facts a fs ≡ o
        → Keeps w atoms (Sel fs (Join (One a) r)) (sel_with o (Join (One a) r))
    sel_with-keeps fs a r None e = tt
    sel_with-keeps fs a r (Some gs) e = λ ready. record { same = same_pass w atoms facts satisfied a (value w atoms r) fs gs e; ready = ready }

    sel_join_yes-keeps : (t : Tree) → Keeps w atoms t (sel_join_yes atoms facts t)
    sel_join_yes-keeps (Sel fs (Join (One a) r)) = sel_with-keeps fs a r (without_yes atoms facts a fs) refl
    sel_join_yes-keeps _ = tt

    -- every rule keeps the value
    pub each_keeps : AllByRecursion (λ f. (t : Tree) → Keeps w atoms t (f t)) (rules atoms facts)
    each_keeps = (
      top_zero-keeps,
      (
        top_next-keeps,
        (
          top_len-keeps,
          (
            cat_nil_left-keeps,
            (
              cat_nil_right-keeps,
              (
                cat_cat-keeps,
                (
                  join_nil_left-keeps,
                  (
                    join_nil_right-keeps,
                    (
                      join_cat_left-keeps,
                      (
                        join_cat_right-keeps,
                        (
                          join_ones-keeps,
                          (
                            join_one_join-keeps,
                            (
                              sel_none-keeps,
                              (
                                sel_nil-keeps,
                                (
                                  sel_cat-keeps,
                                  (
                                    sel_no-keeps,
                                    (
                                      sel_yes-keeps,
                                      (
                                        sel_join_no-keeps,
                                        (
                                          sel_join_yes-keeps,
                                          (
                                            proj_nil-keeps,
                                            (
                                              proj_cat-keeps,
                                              (
                                                proj_one-keeps,
                                                (
                                                  uniq_nil-keeps,
                                                  (
                                                    uniq_cat-keeps,
                                                    (
                                                      count_nil-keeps,
                                                      (
                                                        count_cat-keeps,
                                                        (
                                                          count_one-keeps,
                                                          (
                                                            sum_nil-keeps,
                                                            (
                                                              sum_cat-keeps,
                                                              (
                                                                sum_one-keeps,
                                                                (
                                                                  best_nil-keeps,
                                                                  (
                                                                    best_cat-keeps,
                                                                    (
                                                                      best_one-keeps,
                                                                      (
                                                                        any_nil-keeps,
                                                                        (
                                                                          any_cat-keeps,
                                                                          (
                                                                            any_one-keeps,
                                                                            (
                                                                              add_zero_left-keeps,
                                                                              (
                                                                                add_zero_right-keeps,
                                                                                (
                                                                                  add_add-keeps,
                                                                                  (
                                                                                    or_false_left-keeps,
                                                                                    (or_false_right-keeps, (or_true_right-keeps, (or_true_left-keeps, (or_or-keeps, tt)))),
                                                                                  ),
                                                                                ),
                                                                              ),
                                                                            ),
                                                                          ),
                                                                        ),
                                                                      ),
                                                                    ),
                                                                  ),
                                                                ),
                                                              ),
                                                            ),
                                                          ),
                                                        ),
                                                      ),
                                                    ),
                                                  ),
                                                ),
                                              ),
                                            ),
                                          ),
                                        ),
                                      ),
                                    ),
                                  ),
                                ),
                              ),
                            ),
                          ),
                        ),
                      ),
                    ),
                  ),
                ),
              ),
            ),
          ),
        ),
      ),
    )
