-- The query of an accumulator answers what its postcondition claims.
use Rattle.std.proofs.Common.{◌≡◌, ℕ, ℤ, zero, suc, ◌<◌, pos, negsuc, ◌+ℤ◌, int_lt, Bool, true, false, cond, ◌&&◌, ◌||◌, List, [], ◌∷◌, ◌++◌, map, take, drop, length, slice_get, refl, sym, ap, ap₂, ◌∙◌, subst, arith, nat_eq, is_none}
use Rattle.std.specs.Ordering.{int_cmp, is_lt}
use Rattle.std.specs.declared.cmp.Ordering.TheVariants.{Less, Equal, Greater}
use Rattle.std.specs.List.{AllByRecursion, filter, flat_map, list_all}
use Rattle.std.specs.declared.option.Option.{Option}
use Rattle.std.specs.declared.option.Option.TheVariants.{Some, None}
use Rattle.std.proofs.lemmas.List.{append-nil}
use Rattle.qbs_base.specs.declared.scalar.Row.{Row}
use Rattle.qbs_base.specs.declared.scalar.Scalar.{Scalar}
use Rattle.qbs_base.specs.declared.scalar.Scalar.TheVariants as scalars
use Rattle.qbs_base.specs.declared.scalar.Ty.TheVariants as tys
use Rattle.qbs_base.specs.declared.scalar.Value.TheVariants as values
use Rattle.qbs_base.specs.Folded.{is_some}
use Rattle.qbs_base.specs.Sort.{stable_sort}
use Rattle.qbs_base.specs.Scalar.{compared, scalar_less}
use Rattle.qbs_base.specs.Values.{Schema, Database}
use Rattle.qbs_base.proofs.Order.{all_kept}
use Rattle.qbs_base.proofs.Moves.{Moves, moves_filter, moves_length, moves_some, moves_map}
use Rattle.tor_terms.specs.declared.term.Elem.{Elem}
use Rattle.tor_terms.specs.declared.term.Elem.TheVariants as elems
use Rattle.tor_terms.specs.declared.term.Way.{Way}
use Rattle.tor_terms.specs.declared.term.Way.TheVariants as ways
use Rattle.tor_terms.specs.Fits.{row_of}
use Rattle.tor_terms.specs.Plain.{Tree, Walk, Nil, Lit, Proj}
use Rattle.tor_terms.specs.Truth.{Datum, Tup, Element, World, row_at, rows_at, all_hold, has_loop, form_within}
use Rattle.tor_terms.specs.Value.{elem_at, value, only, only_number, not_empty, first_ones, total, best, added}
use Rattle.tor_terms.specs.Valid.{elem_loop}
use Rattle.kernel_lang.specs.declared.parts.Col.{Col}
use Rattle.kernel_lang.specs.declared.parts.ListDef.{ListDef}
use Rattle.kernel_lang.specs.declared.parts.Entry.{Entry}
use Rattle.kernel_lang.specs.declared.parts.Update.{Update}
use Rattle.kernel_lang.specs.declared.parts.Update.TheVariants as updates
use Rattle.kernel_lang.specs.Given.{world_given, before as rows_before}
use Rattle.kernel_lang.specs.Plain.{Fragment}
use Rattle.kernel_lang.specs.Pools.{Member, members}
use Rattle.kernel_lang.specs.Postcondition.{loops_of, body, val, whole, start_term, postcondition, with_choices, claimed}
use Rattle.kernel_lang.specs.Running.{Layer, layers_of, source_value, source_scalar, scalar_of}
use Rattle.kernel_lang.specs.Sentences.{IsValid}
use Rattle.kernel_lang.specs.Typed.{is_typed, is_type, place_type, update_is_typed}
use Rattle.kernel_lang.specs.Fitting.{is_of}
use Rattle.kernel_lang.specs.Validity.{is_push, element_of, element_within, start_is_valid, takes_a_column, starts_as, is_nought, is_number, is_empty, is_unsorted, one_unsorted_loop, loops_are_few}
use Rattle.sql_ast.specs.declared.tree.SqlOpnd.TheVariants as opnds
use Rattle.sql_ast.specs.declared.tree.SqlCol.{SqlCol}
use Rattle.sql_ast.specs.Meaning.{Place, Combination, places_of, position_of, same_value, Rows, One, column_of, truth_of, passes, product, true_ones, item_of, plain_row, cut, turned_if, number_of, numbers_of, sum_of, coalesced, total_of, number_answered, query_answer}
use Rattle.sql_ast.specs.Grouped.{firsts, grouped}
use Rattle.sql_ast.specs.Meaning as sql
use Rattle.sql_ast.specs.Tree.{Condition, Compare, PlainQuery}
use Rattle.sql_parts.specs.Scopes.{Ground, ground, Scope, numbered, number_in, outermost, def_of, list_of, from_item, from_items}
use Rattle.sql_parts.specs.Emitted.{formula, limits, limit_of, elem_col, way_test, best_tests, best_kind, conditions, flag_condition, where_of, item, query_by, query_of}
use Rattle.sql_parts.specs.Given.{AreKnownTo, IsGiven, scalar_answered, answered}
use Rattle.sql_ast.proofs.Positions.{one_item}
use Rattle.sql_parts.proofs.Chosen.{chosen, chosen_moves, listed_rows}
use Rattle.sql_parts.proofs.Flags.{start_valid, false_start, column_taken}
use Rattle.sql_parts.proofs.Limits.{Uncut, limited, uncut, uncut_is, no_sort}
use Rattle.sql_parts.proofs.Literals.{OneType, one_type, joined_is}
use Rattle.sql_parts.proofs.Nest.{ListsAre, lists_are, tuple_of, body_is, seen, rows_typed, seen_typed, typed_length}
use Rattle.sql_parts.proofs.Rows.{IsScalarOf, columns_at, column_is, place_typed, cell_typed}
use Rattle.sql_parts.proofs.Sets.{element, same_plain, first_ones_are}
use Rattle.sql_parts.proofs.Suited.{is_limited, is_uncut, loops_few}
use Rattle.sql_parts.proofs.Tables.{TypedFor}
use Rattle.sql_parts.proofs.Tools.{and_assoc, and_true, map_map, filter_of_map, filter_agree_on, filter_both, map_agree_on, any_is_some, some_map, length_map}
use Rattle.sql_parts.proofs.Totals.{long, total_is, moves_sum, coalesced_sum, nought_first, best_of, greatest_is, least_is, best_longs, beats, moves_best_ones}
use Rattle.sql_parts.proofs.Valid.{IsValidMember, inside_loops, chain_parts, chain_there, pool_within, element_in}
use Rattle.sql_parts.proofs.Wheres.{sees_outermost, formulas_hold}

all_append : (test : Condition → Bool) (xs ys : List Condition) → list_all test (xs ++ ys) ≡ (list_all test xs && list_all test ys)
all_append test [] ys = refl
all_append test (x ∷ xs) ys = ap (λ b. test x && b) (all_append test xs ys) ∙ sym (and_assoc (test x) (list_all test xs) (list_all test ys))

module _ (schema : Schema) (f : Fragment) (cand : List ℕ) (known : List PlainQuery) (args : List (List ℕ)) (valid : IsValid f) (typed : is_typed schema f ≡ true) (are : AreKnownTo schema f known args)
    (db : Database) (entry : Entry) (given : IsGiven schema f known args db entry) (m : Member) (v : IsValidMember f m) (base : m.0.base ≡ 0) where
  abbrev g : Ground
  g = ground schema f cand known args

  abbrev js : List ℕ
  js = m.0.chain

  abbrev wc : World
  wc = with_choices f (members f cand) (world_given f db entry)

  abbrev rows : Combination → ℕ → Row
  rows c = row_at wc.current (tuple_of js c)

  -- the combinations that the formulas choose of the lists' places
  abbrev chosen_ones : List Combination
  chosen_ones = filter (λ c. all_hold wc f.atoms (rows c) m.1) (seen g db js)

  -- ---- the value of the postcondition

  abbrev tuples : List Datum
  tuples = map (λ c. Tup (tuple_of js c)) chosen_ones

  record Post (u : Update) (start : Tree) : Type 0 where
    tree : Tree
    is : value wc f.atoms tree ≡ tuples
    whole_is : value wc f.atoms (whole u m.1 [] start (layers_of m.0)) ≡ value wc f.atoms (val u start tree)

  lists_here : ListsAre g db wc js
  lists_here = lists_are g db wc (λ j. refl) js (chain_there f m.0 v.valid)

  post_from : (u : Update) (start : Tree) (ys : List Layer) → js ≡ loops_of ys → layers_of m.0 ≡ ys → Post u start
  post_from u start [] e is = let l : m.0.base < length js = (chain_parts f m.0 v.valid).2 in let n : length js ≡ 0 = ap length e in absurd (omega (arith, l, n))
  post_from u start (y ∷ ys) e is = record {
    tree = body m.1 [] (Walk y.over) (loops_of ys);
    is =
        body_is g db wc f.atoms m.1 [] y.over (loops_of ys) (subst (ListsAre g db wc) e lists_here)
        ∙ ap (λ (ks : List ℕ). map (λ c. Tup (tuple_of ks c)) (filter (λ c. all_hold wc f.atoms (row_at wc.current (tuple_of ks c)) m.1) (seen g db ks))) (sym e);
    whole_is = ap (λ (zs : List Layer). value wc f.atoms (whole u m.1 [] start zs)) is;
  }

  loops_are : js ≡ loops_of (layers_of m.0)
  loops_are = ap (λ n. drop n js) (sym base) ∙ inside_loops m.0 ∙ ap (λ n. loops_of (drop n (layers_of m.0))) base

  post : (u : Update) (start : Tree) → Post u start
  post u start = post_from u start (layers_of m.0) loops_are refl

  postcondition_is : (u : Update) (start : Option Scalar) → m.0.update ≡ u → m.0.start ≡ start → value wc f.atoms (postcondition m) ≡ value wc f.atoms (val u (start_term start) (post u (start_term start)).tree)
  postcondition_is u start eu es =
      ap (λ n. value wc f.atoms (whole m.0.update m.1 (loops_of (take n (layers_of m.0))) (start_term m.0.start) (drop n (layers_of m.0)))) base
      ∙ ap₂ (λ x o. value wc f.atoms (whole x m.1 [] (start_term o) (layers_of m.0))) eu es
      ∙ (post u (start_term start)).whole_is

  -- ---- what passes the WHERE

  abbrev s : Scope
  s = outermost js

  abbrev tests : List Condition
  tests = map (formula (flag_condition g) g s) m.1 ++ best_tests g s m.0.update m.0.start

  abbrev pass : Combination → Bool
  pass c = list_all (λ d. truth_of db entry.values d c) tests

  abbrev limits_pass : Combination → Bool
  limits_pass c = list_all (λ d. truth_of db entry.values d c) (limits g 0 js)

  where_is : (c : Combination) → passes db entry.values (where_of g m) c ≡ (limits_pass c && pass c)
  where_is c = joined_is db entry.values c (conditions (flag_condition g) g s 0 js m) ∙ all_append (λ d. truth_of db entry.values d c) (limits g 0 js) tests

  any_comb : (cs : List Combination) → AllByRecursion (λ c. Unit {0}) cs
  any_comb [] = tt
  any_comb (c ∷ cs) = (tt, any_comb cs)

  where_filter : (cs : List Combination) → filter (passes db entry.values (where_of g m)) cs ≡ filter (λ c. limits_pass c && pass c) cs
  where_filter cs = filter_agree_on (λ c. Unit {0}) (passes db entry.values (where_of g m)) (λ c. limits_pass c && pass c) (λ c u. where_is c) cs (any_comb cs)

  abbrev IsTyped : Combination → Type 0
  IsTyped c = TypedFor schema (from_items g js) c

  seen_here : AllByRecursion IsTyped (seen g db js)
  seen_here = seen_typed g db given.database js

  formulas_pass : (c : Combination) → IsTyped c → list_all (λ d. truth_of db entry.values d c) (map (formula (flag_condition g) g s) m.1) ≡ all_hold wc f.atoms (rows c) m.1
  formulas_pass c of = formulas_hold schema f cand known args valid typed are db entry given js c of m.1 (v.pass (form_within f.atoms js) (pool_within f m.0 v.valid))

  -- without a start, only the formulas are asked
  pass_is : best_tests g s m.0.update m.0.start ≡ [] → (c : Combination) → IsTyped c → pass c ≡ all_hold wc f.atoms (rows c) m.1
  pass_is none c of =
      ap (λ ds. list_all (λ d. truth_of db entry.values d c) (map (formula (flag_condition g) g s) m.1 ++ ds)) none
      ∙ ap (list_all (λ d. truth_of db entry.values d c)) (append-nil (map (formula (flag_condition g) g s) m.1))
      ∙ formulas_pass c of

  chosen_is : best_tests g s m.0.update m.0.start ≡ [] → filter pass (seen g db js) ≡ chosen_ones
  chosen_is none = filter_agree_on IsTyped pass (λ c. all_hold wc f.atoms (rows c) m.1) (pass_is none) (seen g db js) seen_here

  nothing_asked : best_tests g s m.0.update m.0.start ≡ [] → m.1 ≡ [] → (c : Combination) → pass c ≡ true
  nothing_asked none e c = ap₂ (λ fs ds. list_all (λ d. truth_of db entry.values d c) (map (formula (flag_condition g) g s) fs ++ ds)) e none

  -- the rows of a list query
  rows_found : best_tests g s m.0.update m.0.start ≡ [] → cut (limit_of g js) (filter (passes db entry.values (where_of g m)) (chosen g db js)) ≡ chosen_ones
  rows_found none =
      ap (cut (limit_of g js)) (where_filter (chosen g db js))
      ∙ limited g db entry.values js m.1 pass (is_limited f valid g refl m v) (nothing_asked none)
      ∙ chosen_is none

  -- those of other queries, in some order
  found_moves : is_push m.0.update ≡ false → Moves (true_ones db entry.values (from_items g js) (where_of g m)) (filter pass (seen g db js))
  found_moves p =
      subst (Moves (true_ones db entry.values (from_items g js) (where_of g m)))
      (sym (ap (λ (l : Option ℕ). cut l (filter (passes db entry.values (where_of g m)) (chosen g db js))) (uncut g js cut_free)) ∙ ap (cut (limit_of g js)) (where_filter (chosen g db js)) ∙ limited_uncut)
      (moves_filter (passes db entry.values (where_of g m)) (product db (from_items g js)) (chosen g db js) (chosen_moves g db js))
    where
      cut_free : Uncut g js
      cut_free = is_uncut f valid g refl m v p

      limited_uncut : cut (limit_of g js) (filter (λ c. limits_pass c && pass c) (chosen g db js)) ≡ filter pass (seen g db js)
      limited_uncut = uncut_is g db entry.values js pass cut_free

  -- ---- elements

  elem_here : (e : Elem) → has_loop js (elem_loop e) ≡ true → (c : Combination) → IsTyped c → item_of (item g s e) c ≡ elem_at (rows c) e
  elem_here (elems.Whole j) h c of = sees_outermost schema f cand known args valid typed are db entry given wc.current js c (typed_length schema (from_items g js) c of ∙ length_map (λ j. from_item g j) js) j h
  elem_here (elems.Field j k) h c of =
      ap plain_row (column_is g c (number_in s.loops j) j k ∙ ap (λ (r : Row). slice_get r.cells k) (sees_outermost schema f cand known args valid typed are db entry given wc.current js c (typed_length schema (from_items g js) c of ∙ length_map (λ j. from_item g j) js) j h))
      ∙ sym (same_plain (slice_get (rows c j).cells k))

  element_there : (e : Elem) → element_of m.0.update ≡ Some e → has_loop js (elem_loop e) ≡ true
  element_there e is = subst (λ o. element_within js o ≡ true) is (element_in f m.0 v.valid)

  chosen_typed : AllByRecursion IsTyped chosen_ones
  chosen_typed = all_kept IsTyped IsTyped (λ c. all_hold wc f.atoms (rows c) m.1) (λ c h k. h) (seen g db js) seen_here

  abbrev Claimed : Update → Type 0
  Claimed u = m.0.update ≡ u → query_answer db entry.values (query_of g m) ≡ answered (claimed f (members f cand) (world_given f db entry) m)

  query_is : (u : Update) → m.0.update ≡ u → query_answer db entry.values (query_of g m) ≡ query_answer db entry.values (query_by u g m (where_of g m))
  query_is u e = ap (λ x. query_answer db entry.values (query_by x g m (where_of g m))) e

  claim_is : (u : Update) (start : Option Scalar) → m.0.update ≡ u → m.0.start ≡ start → claimed f (members f cand) (world_given f db entry) m ≡ source_value u m.0.opposite (value wc f.atoms (val u (start_term start) (post u (start_term start)).tree))
  claim_is u start eu es = ap₂ (λ x d. source_value x m.0.opposite d) eu (postcondition_is u start eu es)

  start_of : (u : Update) → m.0.update ≡ u → start_is_valid u m.0.start ≡ true
  start_of u e = subst (λ x. start_is_valid x m.0.start ≡ true) e (start_valid f m.0 v.valid)

  -- ---- lists

  none_start : (o : Option Scalar) → is_none o ≡ true → o ≡ None
  none_start None h = refl
  none_start (Some x) h = absurd cc

  elements_of : (e : Elem) (t : Tree) → value wc f.atoms t ≡ tuples → value wc f.atoms (Proj e t) ≡ map (λ c. Element (elem_at (rows c) e)) chosen_ones
  elements_of e t is = ap (map (λ x. Element (elem_at (rows_at wc.current x) e))) is ∙ map_map (λ x. Element (elem_at (rows_at wc.current x) e)) (λ c. Tup (tuple_of js c)) chosen_ones

  push_is : (e : Elem) → Claimed (updates.Push e)
  push_is e is =
      query_is (updates.Push e) is
      ∙ ap Rows (listed_rows g db entry.values js (item g s e) (where_of g m) (limit_of g js) ∙ ap (map (item_of (item g s e))) (rows_found no_tests) ∙ map_agree_on IsTyped (item_of (item g s e)) (λ c. elem_at (rows c) e) (elem_here e (element_there e (ap element_of is))) chosen_ones chosen_typed
      ∙ sym (ap (map row_of) (elements_of e (post (updates.Push e) Nil).tree (post (updates.Push e) Nil).is) ∙ map_map row_of (λ c. Element (elem_at (rows c) e)) chosen_ones))
      ∙ sym (ap answered (claim_is (updates.Push e) None is (none_start m.0.start (start_of (updates.Push e) is))))
    where
      no_tests : best_tests g s m.0.update m.0.start ≡ []
      no_tests = ap (λ u. best_tests g s u m.0.start) is

  -- ---- numbers and truth values

  one_long : (u : Update) (n : ℤ) → ((d : List Datum) → source_value u m.0.opposite d ≡ values.One (source_scalar m.0.opposite (scalar_of d))) → answered (source_value u m.0.opposite (only_number n)) ≡ number_answered n
  one_long u n h = ap answered (h (only_number n)) ∙ ap scalar_answered (kept m.0.opposite)
    where
      kept : (b : Bool) → source_scalar b (scalars.Long n) ≡ scalars.Long n
      kept true = refl
      kept false = refl

  nought : (o : Option Scalar) → starts_as is_nought o ≡ true → o ≡ Some (scalars.Long (pos 0))
  nought None h = absurd cc
  nought (Some (scalars.Bool b)) h = absurd cc
  nought (Some (scalars.Text t)) h = absurd cc
  nought (Some (scalars.Long (pos zero))) h = refl
  nought (Some (scalars.Long (pos (suc n)))) h = absurd cc
  nought (Some (scalars.Long (negsuc n))) h = absurd cc

  tick_is : Claimed updates.Tick
  tick_is is =
      let start : m.0.start ≡ Some (scalars.Long (pos 0)) = nought m.0.start (start_of updates.Tick is) in
      let p : Post updates.Tick (Lit (scalars.Long (pos 0))) = post updates.Tick (Lit (scalars.Long (pos 0))) in
      query_is updates.Tick is
      ∙ ap (λ n. number_answered (pos n)) (moves_length (true_ones db entry.values (from_items g js) (where_of g m)) (filter pass (seen g db js)) (found_moves (ap is_push is)) ∙ ap length (chosen_is (ap (λ u. best_tests g s u m.0.start) is)) ∙ sym (length_map (λ c. Tup (tuple_of js c)) chosen_ones))
      ∙ ap number_answered (sym (nought_first (pos (length tuples))))
      ∙ ap (λ (d : List Datum). number_answered (pos 0 +ℤ pos (length d))) (sym p.is)
      ∙ sym (one_long updates.Tick (pos 0 +ℤ pos (length (value wc f.atoms p.tree))) (λ d. refl))
      ∙ sym (ap answered (claim_is updates.Tick (Some (scalars.Long (pos 0))) is start))

  marked_as : (opposite b : Bool) → scalar_answered (source_scalar opposite (scalars.Bool b)) ≡ One (scalars.Bool (turned_if opposite b))
  marked_as true b = refl
  marked_as false b = refl

  some_same : (xs : List Datum) → not_empty xs ≡ is_some xs
  some_same [] = refl
  some_same (x ∷ xs) = refl

  mark_is : Claimed updates.Mark
  mark_is is =
      let start : m.0.start ≡ Some (scalars.Bool false) = false_start m.0.start (start_of updates.Mark is) in
      let p : Post updates.Mark (Lit (scalars.Bool false)) = post updates.Mark (Lit (scalars.Bool false)) in
      query_is updates.Mark is
      ∙ ap (λ b. One (scalars.Bool (turned_if m.0.opposite b)))
      (any_is_some (passes db entry.values (where_of g m)) (product db (from_items g js))
      ∙ moves_some (true_ones db entry.values (from_items g js) (where_of g m)) (filter pass (seen g db js)) (found_moves (ap is_push is))
      ∙ ap is_some (chosen_is (ap (λ u. best_tests g s u m.0.start) is))
      ∙ sym (some_map (λ c. Tup (tuple_of js c)) chosen_ones) ∙ sym (some_same tuples) ∙ ap not_empty (sym p.is))
      ∙ sym (marked_as m.0.opposite (not_empty (value wc f.atoms p.tree)))
      ∙ sym (ap answered (claim_is updates.Mark (Some (scalars.Bool false)) is start))

  -- ---- sums and the greatest

  long_of : (o : Option Scalar) → IsScalarOf tys.Long o → o ≡ Some (scalars.Long (number_of o))
  long_of o h = h.is ∙ go h.scalar h.of ∙ ap (λ x. Some (scalars.Long (number_of x))) (sym h.is)
    where
      go : (x : Scalar) → is_of tys.Long (Some x) ≡ true → Some x ≡ Some (scalars.Long (number_of (Some x)))
      go (scalars.Long n) e = refl
      go (scalars.Bool b) e = absurd cc
      go (scalars.Text t) e = absurd cc

  module _ (j k : ℕ) (in_chain : has_loop js j ≡ true) where
    abbrev col : SqlCol
    col = elem_col g s (elems.Field j k)

    col_here : (c : Combination) → IsTyped c → column_of c col ≡ slice_get (rows c j).cells k
    col_here c of =
        column_is g c (number_in s.loops j) j k
        ∙ ap (λ (r : Row). slice_get r.cells k) (sees_outermost schema f cand known args valid typed are db entry given wc.current js c (typed_length schema (from_items g js) c of ∙ length_map (λ j. from_item g j) js) j in_chain)

    module _ (is_long : is_type tys.Long (place_type schema f (j, k)) ≡ true) where
      col_long : (c : Combination) → IsTyped c → column_of c col ≡ Some (scalars.Long (number_of (column_of c col)))
      col_long c of =
          let one : OneType (Some tys.Long) (place_type schema f (j, k)) = one_type (Some tys.Long) (place_type schema f (j, k)) is_long in
          long_of (column_of c col) (subst (IsScalarOf tys.Long) (sym (col_here c of)) (cell_typed (columns_at g j) (rows c j).cells k tys.Long (rows_typed g wc.current js c of j in_chain) (place_typed g f refl j k tys.Long (one.second ∙ sym one.first))))

      longs_are : map (λ c. Element (elem_at (rows c) (elems.Field j k))) chosen_ones ≡ map long (numbers_of col chosen_ones)
      longs_are =
          map_agree_on IsTyped (λ c. Element (elem_at (rows c) (elems.Field j k))) (λ c. long (number_of (column_of c col))) (λ c of. ap element (sym (col_here c of) ∙ col_long c of)) chosen_ones chosen_typed
          ∙ sym (map_map long (λ c. number_of (column_of c col)) chosen_ones)

      plus_of : m.0.update ≡ updates.Plus (elems.Field j k) → query_answer db entry.values (query_of g m) ≡ answered (claimed f (members f cand) (world_given f db entry) m)
      plus_of is =
          let u : Update = updates.Plus (elems.Field j k) in
          let start : m.0.start ≡ Some (scalars.Long (pos 0)) = nought m.0.start (start_of (updates.Plus (elems.Field j k)) is) in
          let p : Post (updates.Plus (elems.Field j k)) (Lit (scalars.Long (pos 0))) = post (updates.Plus (elems.Field j k)) (Lit (scalars.Long (pos 0))) in
          query_is (updates.Plus (elems.Field j k)) is
          ∙ ap number_answered
          (coalesced_sum (numbers_of col (true_ones db entry.values (from_items g js) (where_of g m)))
          ∙ moves_sum (numbers_of col (true_ones db entry.values (from_items g js) (where_of g m))) (numbers_of col (filter pass (seen g db js)))
          (moves_map (λ c. number_of (column_of c col)) (true_ones db entry.values (from_items g js) (where_of g m)) (filter pass (seen g db js)) (found_moves (ap is_push is)))
          ∙ ap (λ (cs : List Combination). sum_of (numbers_of col cs)) (chosen_is (ap (λ u. best_tests g s u m.0.start) is))
          ∙ sym (nought_first (sum_of (numbers_of col chosen_ones))))
          ∙ sym (one_long (updates.Plus (elems.Field j k)) (pos 0 +ℤ sum_of (numbers_of col chosen_ones)) (λ d. refl))
          ∙ ap (λ (d : List Datum). answered (source_value (updates.Plus (elems.Field j k)) m.0.opposite (added (only (scalars.Long (pos 0))) d)))
          (sym (ap total (elements_of (elems.Field j k) p.tree p.is ∙ longs_are) ∙ total_is (numbers_of col chosen_ones)))
          ∙ sym (ap answered (claim_is (updates.Plus (elems.Field j k)) (Some (scalars.Long (pos 0))) is start))

      total_best : (way : Way) (start : ℤ) (found : List Combination) → total_of (best_kind way col (Some (scalars.Long start))) found ≡ coalesced (best_of way) start (numbers_of col found)
      total_best ways.Max start found = go (numbers_of col found)
        where
          go : (ns : List ℤ) → coalesced sql.greatest_of start ns ≡ coalesced (best_of ways.Max) start ns
          go [] = refl
          go (n ∷ ns) = greatest_is n ns
      total_best ways.Min start found = go (numbers_of col found)
        where
          go : (ns : List ℤ) → coalesced sql.least_of start ns ≡ coalesced (best_of ways.Min) start ns
          go [] = refl
          go (n ∷ ns) = least_is n ns

      less_int : (a b : ℤ) → is_lt (int_cmp a b) ≡ int_lt a b
      less_int a b = go (int_lt a b) (int_lt b a)
        where
          go : (s t : Bool) → is_lt (cond s Less (cond t Greater Equal)) ≡ s
          go true t = refl
          go false true = refl
          go false false = refl

      best_test : (way : Way) (start : ℤ) (c : Combination) → IsTyped c → truth_of db entry.values (Compare (way_test way) (opnds.Column col) (opnds.Lit (scalars.Long start))) c ≡ beats way start (number_of (column_of c col))
      best_test ways.Max start c of = ap (λ x. compared scalar_less (Some (scalars.Long start)) x) (col_long c of) ∙ less_int start (number_of (column_of c col))
      best_test ways.Min start c of = ap (λ x. compared scalar_less x (Some (scalars.Long start))) (col_long c of) ∙ less_int (number_of (column_of c col)) start

      best_pass : (way : Way) (start : ℤ) → m.0.update ≡ updates.Best way (elems.Field j k) → m.0.start ≡ Some (scalars.Long start) → (c : Combination) → IsTyped c → pass c ≡ (all_hold wc f.atoms (rows c) m.1 && beats way start (number_of (column_of c col)))
      best_pass way start is es c of =
          ap₂ (λ u o. list_all (λ d. truth_of db entry.values d c) (map (formula (flag_condition g) g s) m.1 ++ best_tests g s u o)) is es
          ∙ all_append (λ d. truth_of db entry.values d c) (map (formula (flag_condition g) g s) m.1) (Compare (way_test way) (opnds.Column col) (opnds.Lit (scalars.Long start)) ∷ [])
          ∙ ap₂ (λ a b. a && b) (formulas_pass c of) (and_true (truth_of db entry.values (Compare (way_test way) (opnds.Column col) (opnds.Lit (scalars.Long start))) c) ∙ best_test way start c of)

      best_numbers : (way : Way) (start : ℤ) → m.0.update ≡ updates.Best way (elems.Field j k) → m.0.start ≡ Some (scalars.Long start) → numbers_of col (filter pass (seen g db js)) ≡ filter (beats way start) (numbers_of col chosen_ones)
      best_numbers way start is es =
          ap (numbers_of col)
          (filter_agree_on IsTyped pass (λ c. all_hold wc f.atoms (rows c) m.1 && beats way start (number_of (column_of c col))) (best_pass way start is es) (seen g db js) seen_here
          ∙ filter_both (λ c. all_hold wc f.atoms (rows c) m.1) (λ c. beats way start (number_of (column_of c col))) (seen g db js))
          ∙ sym (filter_of_map (beats way start) (λ c. number_of (column_of c col)) chosen_ones)

      best_of_start : (way : Way) (start : ℤ) → m.0.update ≡ updates.Best way (elems.Field j k) → m.0.start ≡ Some (scalars.Long start) → query_answer db entry.values (query_of g m) ≡ answered (claimed f (members f cand) (world_given f db entry) m)
      best_of_start way start is es =
          let p : Post (updates.Best way (elems.Field j k)) (Lit (scalars.Long start)) = post (updates.Best way (elems.Field j k)) (Lit (scalars.Long start)) in
          let found : List Combination = true_ones db entry.values (from_items g js) (where_of g m) in
          query_is (updates.Best way (elems.Field j k)) is
          ∙ ap (λ o. number_answered (total_of (best_kind way col o) (true_ones db entry.values (from_items g js) (where_of g m)))) es
          ∙ ap number_answered
          (total_best way start (true_ones db entry.values (from_items g js) (where_of g m))
          ∙ moves_best_ones way start (numbers_of col (true_ones db entry.values (from_items g js) (where_of g m))) (numbers_of col chosen_ones)
          (subst (Moves (numbers_of col (true_ones db entry.values (from_items g js) (where_of g m)))) (best_numbers way start is es)
          (moves_map (λ c. number_of (column_of c col)) (true_ones db entry.values (from_items g js) (where_of g m)) (filter pass (seen g db js)) (found_moves (ap is_push is)))))
          ∙ sym (one_long (updates.Best way (elems.Field j k)) (best_of way start (numbers_of col chosen_ones)) (λ d. refl))
          ∙ ap (λ (d : List Datum). answered (source_value (updates.Best way (elems.Field j k)) m.0.opposite d))
          (sym (ap (best way (only (scalars.Long start))) (elements_of (elems.Field j k) p.tree p.is ∙ longs_are) ∙ best_longs way start (numbers_of col chosen_ones)))
          ∙ sym (ap answered (claim_is (updates.Best way (elems.Field j k)) (Some (scalars.Long start)) is es))

  -- ---- elements that are columns

  takes_column : (u : Update) → m.0.update ≡ u → takes_a_column u ≡ true
  takes_column u e = subst (λ x. takes_a_column x ≡ true) e (column_taken f m.0 v.valid)

  plus_is : (e : Elem) → update_is_typed schema f m.0.update ≡ true → Claimed (updates.Plus e)
  plus_is (elems.Whole j) t is = let no : false ≡ true = takes_column (updates.Plus (elems.Whole j)) is in absurd cc
  plus_is (elems.Field j k) t is = plus_of j k (element_there (elems.Field j k) (ap element_of is)) (subst (λ u. update_is_typed schema f u ≡ true) is t) is

  best_start : (o : Option Scalar) → starts_as is_number o ≡ true → (n : ℤ) × (o ≡ Some (scalars.Long n))
  best_start None h = absurd cc
  best_start (Some (scalars.Long n)) h = (n, refl)
  best_start (Some (scalars.Bool b)) h = absurd cc
  best_start (Some (scalars.Text t)) h = absurd cc

  best_update : (way : Way) (e : Elem) → update_is_typed schema f m.0.update ≡ true → Claimed (updates.Best way e)
  best_update way (elems.Whole j) t is = let no : false ≡ true = takes_column (updates.Best way (elems.Whole j)) is in absurd cc
  best_update way (elems.Field j k) t is =
      let (n, start) = best_start m.0.start (start_of (updates.Best way (elems.Field j k)) is) in
      best_of_start j k (element_there (elems.Field j k) (ap element_of is)) (subst (λ u. update_is_typed schema f u ≡ true) is t) way n is start

  -- ---- sets

  abbrev UnsortedLoop : List ℕ → Type 0
  UnsortedLoop ks = (j : ℕ) × ((ks ≡ j ∷ []) × ((list_of g j).keys ≡ []))

  one_unsorted : (ks : List ℕ) → one_unsorted_loop f ks ≡ true → UnsortedLoop ks
  one_unsorted [] h = absurd cc
  one_unsorted (j ∷ k ∷ ks) h = absurd cc
  one_unsorted (j ∷ []) h = (j, (refl, go (slice_get f.lists j) h))
    where
      go : (o : Option ListDef) → is_unsorted o ≡ true → (def_of o).keys ≡ []
      go None h = refl
      go (Some d) h = no_keys d.keys h
        where
          no_keys : (keys : List Col) → is_empty keys ≡ true → keys ≡ []
          no_keys [] h = refl
          no_keys (k ∷ keys) h = absurd cc

  -- over one list without keys the product is what is chosen
  unsorted_product : (i : ℕ) → (list_of g i).keys ≡ [] → chosen g db (i ∷ []) ≡ product db (from_items g (i ∷ []))
  unsorted_product i e =
      ap (λ (keys : List Col). flat_map (λ b. map (λ c. b ∷ c) ([] ∷ [])) (stable_sort (λ (a b : Place). rows_before keys a.1 b.1) (places_of db (from_item g i)))) e
      ∙ ap (λ (bs : List Place). flat_map (λ b. map (λ c. b ∷ c) ([] ∷ [])) bs) (no_sort (places_of db (from_item g i)))

  module _ (j k : ℕ) (is : m.0.update ≡ updates.PushNew (elems.Field j k)) where
    set_chain : has_loop js j ≡ true
    set_chain = element_there (elems.Field j k) (ap element_of is)

    set_tests : best_tests g s m.0.update m.0.start ≡ []
    set_tests = ap (λ u. best_tests g s u m.0.start) is

    set_loop : UnsortedLoop js
    set_loop = one_unsorted js (subst (λ u. loops_are_few f js u ≡ true) is (loops_few f m.0 v.valid))

    -- all that is found is what is chosen, in order
    set_found : true_ones db entry.values (from_items g js) (where_of g m) ≡ chosen_ones
    set_found =
        let (i, h) = set_loop in
        ap (filter (passes db entry.values (where_of g m))) (ap (λ ks. product db (from_items g ks)) h.0 ∙ sym (unsorted_product i h.1) ∙ ap (chosen g db) (sym h.0))
        ∙ sym (ap (λ (l : Option ℕ). cut l (filter (passes db entry.values (where_of g m)) (chosen g db js))) (uncut g js (is_uncut f valid g refl m v (ap is_push is))))
        ∙ rows_found set_tests

    first_number : (ks : List ℕ) (i : ℕ) → ks ≡ i ∷ [] → has_loop ks j ≡ true → number_in (numbered 0 ks) j ≡ 1
    first_number [] i e h = absurd cc
    first_number (x ∷ y ∷ ks) i e h = absurd cc
    first_number (x ∷ []) i e h = go (nat_eq x j) h
      where
        go : (b : Bool) → (b || false) ≡ true → cond {A = ℕ} b 1 0 ≡ 1
        go true h = refl
        go false h = absurd cc

    set_rows : sql.grouped_rows (elem_col g s (elems.Field j k)) None (true_ones db entry.values (from_items g js) (where_of g m)) ≡ map plain_row (firsts same_value (map (λ c. column_of c (elem_col g s (elems.Field j k))) chosen_ones))
    set_rows =
        let (i, h) = set_loop in
        ap (λ n. map plain_row (grouped same_value (map (λ c. (position_of c n, column_of c (elem_col g s (elems.Field j k)))) (true_ones db entry.values (from_items g js) (where_of g m))))) (first_number js i h.0 set_chain)
        ∙ ap (map plain_row)
        (ap (λ ks. grouped same_value (map (λ c. (position_of c 1, column_of c (elem_col g s (elems.Field j k)))) (true_ones db entry.values (from_items g ks) (where_of g m)))) h.0
        ∙ one_item db entry.values (from_item g i) (where_of g m) (elem_col g s (elems.Field j k))
        ∙ ap (λ ks. firsts same_value (map (λ c. column_of c (elem_col g s (elems.Field j k))) (true_ones db entry.values (from_items g ks) (where_of g m)))) (sym h.0))
        ∙ ap (λ (cs : List Combination). map plain_row (firsts same_value (map (λ c. column_of c (elem_col g s (elems.Field j k))) cs))) set_found

    elements_are : map (λ c. Element (elem_at (rows c) (elems.Field j k))) chosen_ones ≡ map element (map (λ c. column_of c (elem_col g s (elems.Field j k))) chosen_ones)
    elements_are =
        map_agree_on IsTyped (λ c. Element (elem_at (rows c) (elems.Field j k))) (λ c. element (column_of c (elem_col g s (elems.Field j k)))) (λ c of. ap element (sym (col_here j k set_chain c of))) chosen_ones chosen_typed
        ∙ sym (map_map element (λ c. column_of c (elem_col g s (elems.Field j k))) chosen_ones)

    rows_of_elements : (os : List (Option Scalar)) → map row_of (map element os) ≡ map plain_row os
    rows_of_elements [] = refl
    rows_of_elements (o ∷ os) = ap₂ (λ (r : Row) rs. r ∷ rs) (same_plain o) (rows_of_elements os)

    set_is : query_answer db entry.values (query_of g m) ≡ answered (claimed f (members f cand) (world_given f db entry) m)
    set_is =
        let p : Post (updates.PushNew (elems.Field j k)) Nil = post (updates.PushNew (elems.Field j k)) Nil in
        query_is (updates.PushNew (elems.Field j k)) is
        ∙ ap Rows
        (set_rows
        ∙ sym (rows_of_elements (firsts same_value (map (λ c. column_of c (elem_col g s (elems.Field j k))) chosen_ones)))
        ∙ ap (map row_of) (sym (ap (first_ones []) (elements_of (elems.Field j k) p.tree p.is ∙ elements_are) ∙ first_ones_are (map (λ c. column_of c (elem_col g s (elems.Field j k))) chosen_ones))))
        ∙ sym (ap answered (claim_is (updates.PushNew (elems.Field j k)) None is (none_start m.0.start (start_of (updates.PushNew (elems.Field j k)) is))))

  push_new_is : (e : Elem) → Claimed (updates.PushNew e)
  push_new_is (elems.Whole j) is = let no : false ≡ true = takes_column (updates.PushNew (elems.Whole j)) is in absurd cc
  push_new_is (elems.Field j k) is = set_is j k is

  -- ---- all updates

  by_update : (u : Update) → update_is_typed schema f m.0.update ≡ true → Claimed u
  by_update (updates.Push e) t = push_is e
  by_update (updates.PushNew e) t = push_new_is e
  by_update updates.Tick t = tick_is
  by_update (updates.Plus e) t = plus_is e t
  by_update (updates.Best way e) t = best_update way e t
  by_update updates.Mark t = mark_is

  pub says_what_is_claimed : update_is_typed schema f m.0.update ≡ true → query_answer db entry.values (query_of g m) ≡ answered (claimed f (members f cand) (world_given f db entry) m)
  says_what_is_claimed t = by_update m.0.update t refl
