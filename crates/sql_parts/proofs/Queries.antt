-- Emitted queries are of the grammar.
use Rattle.std.proofs.Common.{◌≡◌, ℕ, zero, suc, pos, ◌+◌, ◌<◌, ◌≤◌, Bool, true, false, cond, not, ◌&&◌, ◌||◌, List, [], ◌∷◌, ◌++◌, map, drop, take, length, slice_get, refl, sym, ap, ap₂, ◌∙◌, subst, arith, nat_eq, nat_lt, nat_le}
use Rattle.std.specs.List.{AllByRecursion, list_all, list_any}
use Rattle.std.specs.declared.option.Option.{Option}
use Rattle.std.specs.declared.option.Option.TheVariants.{Some, None}
use Rattle.std.proofs.lemmas.List.{append-nil, length-append}
use Rattle.std.proofs.lemmas.Bool.Decides.{nat_tests}
use Rattle.qbs_base.specs.declared.scalar.Scalar.{Scalar}
use Rattle.qbs_base.specs.declared.scalar.Scalar.TheVariants as scalars
use Rattle.qbs_base.specs.declared.scalar.Ty.{Ty}
use Rattle.qbs_base.specs.declared.scalar.Ty.TheVariants as tys
use Rattle.qbs_base.specs.Values.{Schema, fits_long}
use Rattle.schema.specs.Rules.{IsSchema, AreNamed}
use Rattle.tor_terms.specs.declared.term.Atom.TheVariants as atoms
use Rattle.tor_terms.specs.declared.term.Elem.{Elem}
use Rattle.tor_terms.specs.declared.term.Elem.TheVariants as elems
use Rattle.tor_terms.specs.declared.term.Way.{Way}
use Rattle.tor_terms.specs.declared.term.Way.TheVariants as ways
use Rattle.tor_terms.specs.Truth.{has_loop, atom_within, form_within}
use Rattle.tor_terms.specs.Valid.{elem_loop}
use Rattle.kernel_lang.specs.declared.parts.Col.{Col}
use Rattle.kernel_lang.specs.declared.parts.ListDef.{ListDef}
use Rattle.kernel_lang.specs.declared.parts.Update.{Update}
use Rattle.kernel_lang.specs.declared.parts.Update.TheVariants as updates
use Rattle.kernel_lang.specs.Plain.{Accumulator, Fragment}
use Rattle.kernel_lang.specs.Pools.{Member, members}
use Rattle.kernel_lang.specs.Sentences.{IsValid}
use Rattle.kernel_lang.specs.Fitting.{named_places}
use Rattle.kernel_lang.specs.Typed.{place_type, is_type, atom_is_typed, members_agree, update_is_typed, place_is_there, is_typed}
use Rattle.kernel_lang.specs.Validity.{is_number, element_of, element_within, start_is_valid, takes_a_column}
use Rattle.sql_ast.specs.declared.tree.FromItem.{FromItem}
use Rattle.sql_ast.specs.Meaning.{nth}
use Rattle.sql_ast.specs.Tree.{Filter, PlainQuery}
use Rattle.sql_ast.specs.Typing.{ty_of_col}
use Rattle.sql_ast.specs.Valid.{AreItems, IsColOf, IsItemOf}
use Rattle.sql_build.specs.Keys.{position}
use Rattle.sql_parts.specs.Scopes.{Ground, ground, Scope, numbered, number_in, outermost, inner, def_of, list_of, from_item, from_items, column}
use Rattle.sql_parts.specs.Emitted.{FlagCondition, formula, joined, limits, elem_col, best_tests, conditions, no_flag, flag_exists, flag_condition, where_of}
use Rattle.sql_parts.specs.Given.{AreKnownTo, StartIsHeld, IsHeld, QueryIsCounted}
use Rattle.sql_parts.specs.Numbered.{filter_uses}
use Rattle.sql_parts.proofs.Literals.{OneType, one_type}
use Rattle.sql_parts.proofs.Named.{is_position}
use Rattle.sql_parts.proofs.Rows.{place_typed}
use Rattle.sql_parts.proofs.Tools.{eq_true, length_map}
use Rattle.std.specs.List.{flat_map}
use Rattle.kernel_lang.specs.Fitting.{Place, element_places, atom_places, key_places}
use Rattle.kernel_lang.specs.Pools.{members_from}
use Rattle.sql_ast.specs.declared.tree.NumberKind.TheVariants as kinds
use Rattle.sql_ast.specs.declared.tree.SqlKey.{SqlKey}
use Rattle.sql_ast.specs.Meaning.{number_of}
use Rattle.sql_ast.specs.Typing.{is_of}
use Rattle.sql_ast.specs.Valid.{IsKeyOf, IsLimit, IsQueryOf}
use Rattle.kernel_lang.specs.Validity.{is_small, pool_is_small, rises, is_flag, names_a_flag, is_mark, loops_are_few, broken, starts_as}
use Rattle.kernel_lang.proofs.Sentences.{valid as valid_of}
use Rattle.kernel_lang.proofs.Listing.{all_at, and_left, and_right, and_three, list_all_at}
use Rattle.tor_terms.specs.Same.{same_numbers}
use Rattle.sql_build.specs.Keys.{position_key}
use Rattle.sql_parts.specs.Emitted.{key, keys, sorted_limit, limit_of, item, rows_query, values_query, number_query, best_kind, query_by, query_of}
use Rattle.sql_build.specs.Types.{type_of}
use Rattle.sql_parts.specs.Numbered.{first_uses, renumbered_filter, with_filter, in_order}
use Rattle.sql_parts.proofs.Claims.{members_pass, all_updates}
use Rattle.sql_parts.proofs.Complete.{one_loop, takes_itself}
use Rattle.sql_parts.proofs.Flags.{some_flag, same_numbers-true, number_behind, in_loops, bool_cases, start_valid, column_taken, flags_named, all_drop, drop_some}
use Rattle.sql_parts.proofs.Good.{filter_use, IsSound, IsSoundFilter, sound_joined, sound_fixed, all_both, Holds, AreAt, table_at, column_at, long_column, formulas_sound, limits_sound, best_sound, limit_fits, items_of, first_at, next_at}
use Rattle.sql_parts.proofs.Literals.{every_atom}
use Rattle.sql_parts.proofs.Moved.{behind}
use Rattle.sql_parts.proofs.Ordered.{IsNumbered, is_numbered}
use Rattle.sql_parts.proofs.Params.{where_param, filter_is}
use Rattle.sql_parts.proofs.Suited.{loops_few}
use Rattle.sql_parts.proofs.Tools.{get_map}
use Rattle.sql_parts.proofs.Valid.{IsValidMember, all_members, member_at, chain_parts, chain_there, pool_within, element_in, in_parts}

-- ---- lists of loops

loop_there : (n : ℕ) (js : List ℕ) (j : ℕ) → list_all (λ j. nat_lt j n) js ≡ true → has_loop js j ≡ true → nat_lt j n ≡ true
loop_there n [] j h e = absurd cc
loop_there n (k ∷ js) j h e = go (nat_eq k j) refl e (loop_there n js j (and_right (nat_lt k n) (list_all (λ j. nat_lt j n) js) h))
  where
    go : (b : Bool) → nat_eq k j ≡ b → (b || has_loop js j) ≡ true → (has_loop js j ≡ true → nat_lt j n ≡ true) → nat_lt j n ≡ true
    go true is e later = subst (λ i. nat_lt i n ≡ true) (eq_true k j is) (and_left (nat_lt k n) (list_all (λ j. nat_lt j n) js) h)
    go false is e later = later e

nth_front : {X : Type 0} (xs ys : List X) (n : ℕ) (x : X) → nth xs n ≡ Some x → nth (xs ++ ys) n ≡ Some x
nth_front xs ys zero x e = absurd cc
nth_front {X} xs ys (suc n) x e = go xs n e
  where
    go : (xs : List X) (n : ℕ) → slice_get xs n ≡ Some x → slice_get (xs ++ ys) n ≡ Some x
    go [] n e = absurd cc
    go (z ∷ xs) zero e = e
    go (z ∷ xs) (suc n) e = go xs n e

drop_short : (n : ℕ) (js : List ℕ) → length js ≤ 3 → length (drop n js) ≤ 3
drop_short zero js h = h
drop_short (suc n) [] h = h
drop_short (suc n) (j ∷ js) h = drop_short n js (omega (arith, h))

pub le_of : (m n : ℕ) → nat_le m n ≡ true → m ≤ n
le_of m n h = grind (arith, nat_tests)

-- ---- places that are named

append_left : (test : Place → Bool) (xs ys : List Place) → list_all test (xs ++ ys) ≡ true → list_all test xs ≡ true
append_left test [] ys h = refl
append_left test (x ∷ xs) ys h = ap₂ (λ a b. a && b) (and_left (test x) (list_all test (xs ++ ys)) h) (append_left test xs ys (and_right (test x) (list_all test (xs ++ ys)) h))

append_right : (test : Place → Bool) (xs ys : List Place) → list_all test (xs ++ ys) ≡ true → list_all test ys ≡ true
append_right test [] ys h = h
append_right test (x ∷ xs) ys h = append_right test xs ys (and_right (test x) (list_all test (xs ++ ys)) h)

each_part : {X : Type 0} (test : Place → Bool) (parts : X → List Place) (xs : List X) → list_all test (flat_map parts xs) ≡ true → list_all (λ x. list_all test (parts x)) xs ≡ true
each_part test parts [] h = refl
each_part test parts (x ∷ xs) h = ap₂ (λ a b. a && b) (append_left test (parts x) (flat_map parts xs) h) (each_part test parts xs (append_right test (parts x) (flat_map parts xs) h))

keys_there : (test : Place → Bool) (m : ℕ) (ds : List ListDef) → list_all test (key_places m ds) ≡ true → (i : ℕ) → list_all test (map (λ (k : Col). (m + i, k.column)) (def_of (slice_get ds i)).keys) ≡ true
keys_there test m [] h i = refl
keys_there test m (d ∷ ds) h zero = let e : m + 0 ≡ m = omega arith in ap (λ n. list_all test (map (λ (k : Col). (n, k.column)) d.keys)) e ∙ append_left test (map (λ (k : Col). (m, k.column)) d.keys) (key_places (suc m) ds) h
keys_there test m (d ∷ ds) h (suc i) =
    let e : suc m + i ≡ m + suc i = omega arith in
    subst (λ n. list_all test (map (λ (k : Col). (n, k.column)) (def_of (slice_get ds i)).keys) ≡ true) e (keys_there test (suc m) ds (append_right test (map (λ (k : Col). (m, k.column)) d.keys) (key_places (suc m) ds) h) i)

places_there : (schema : Schema) (f : Fragment) → is_typed schema f ≡ true → list_all (place_is_there schema f) (named_places f) ≡ true
places_there schema f h =
    and_right (list_all (λ d. nat_lt d.table (length schema)) f.lists) (list_all (place_is_there schema f) (named_places f))
    (and_left (list_all (λ d. nat_lt d.table (length schema)) f.lists && list_all (place_is_there schema f) (named_places f)) (list_all (atom_is_typed schema f) f.atoms)
    (and_left (list_all (λ d. nat_lt d.table (length schema)) f.lists && list_all (place_is_there schema f) (named_places f) && list_all (atom_is_typed schema f) f.atoms) (list_all (λ a. list_all (members_agree schema f a) f.atoms) f.atoms)
    (and_left (list_all (λ d. nat_lt d.table (length schema)) f.lists && list_all (place_is_there schema f) (named_places f) && list_all (atom_is_typed schema f) f.atoms && list_all (λ a. list_all (members_agree schema f a) f.atoms) f.atoms)
    (list_all (λ a. update_is_typed schema f a.update) f.accs) h)))

small_entries : (f : Fragment) → IsValid f → length f.entries ≤ 9
unfolding is_small
small_entries f v =
    le_of (length f.entries) 9 (and_right (nat_le (length f.lists) 256 && nat_le (length f.accs) 8 && nat_le (length f.atoms) 24) (nat_le (length f.entries) 9)
    (and_left (nat_le (length f.lists) 256 && nat_le (length f.accs) 8 && nat_le (length f.atoms) 24 && nat_le (length f.entries) 9) (list_all pool_is_small f.accs) v.size))

starts_from : (f : Fragment) (cand : List ℕ) (n : ℕ) (accs : List Accumulator) → AllByRecursion (λ a. StartIsHeld a.start) accs → AllByRecursion (λ (m : Member). StartIsHeld m.0.start) (members_from cand n accs)
starts_from f cand n [] h = tt
starts_from f cand n (a ∷ accs) h = (h.0, starts_from f cand (n + length a.pool) accs h.1)

no_least : (g : Ground) (n : ℕ) (js : List ℕ) → not (list_any (λ (k : SqlKey). k.least) (keys g n js)) ≡ true
no_least g n js = ap not (go n js)
  where
    none : (n j : ℕ) (ks : List Col) (rest : List SqlKey) → list_any (λ (k : SqlKey). k.least) (map (key g n j) ks ++ rest) ≡ list_any (λ (k : SqlKey). k.least) rest
    none n j [] rest = refl
    none n j (k ∷ ks) rest = none n j ks rest

    go : (n : ℕ) (js : List ℕ) → list_any (λ (k : SqlKey). k.least) (keys g n js) ≡ false
    go n [] = refl
    go n (j ∷ js) = none (suc n) j (list_of g j).keys (position_key false (suc n) ∷ keys g (suc n) js) ∙ go (suc n) js

module _ (schema : Schema) (is : IsSchema schema) (named : AreNamed schema) (f : Fragment) (cand : List ℕ) (known : List PlainQuery) (args : List (List ℕ)) (valid : IsValid f) (typed : is_typed schema f ≡ true) (are : AreKnownTo schema f known args)
    (counted : AllByRecursion QueryIsCounted known) (held : IsHeld f) where
  abbrev g : Ground
  g = ground schema f cand known args

  abbrev HoldsHere : Scope → List FromItem → List ℕ → Type 0
  HoldsHere = Holds schema is named f cand known args valid typed

  abbrev AtHere : List FromItem → ℕ → List ℕ → Type 0
  AtHere = AreAt schema is named f cand known args valid typed

  -- the number of a loop is that of its item
  at_number : (froms : List FromItem) (n : ℕ) (js : List ℕ) (others : List (ℕ × ℕ)) → AtHere froms n js → (j : ℕ) → has_loop js j ≡ true → nth froms (number_in (numbered n js ++ others) j) ≡ Some (from_item g j)
  at_number froms n [] others a j h = absurd cc
  at_number froms n (k ∷ js) others a j h = go (nat_eq k j) refl h (at_number froms (suc n) js others (next_at schema is named f cand known args valid typed froms n k js a) j)
    where
      go : (b : Bool) → nat_eq k j ≡ b → (b || has_loop js j) ≡ true → (has_loop js j ≡ true → nth froms (number_in (numbered (suc n) js ++ others) j) ≡ Some (from_item g j)) → nth froms (cond b (suc n) (number_in (numbered (suc n) js ++ others) j)) ≡ Some (from_item g j)
      go true e h later = first_at schema is named f cand known args valid typed froms n k js a ∙ ap (λ i. Some (from_item g i)) (eq_true k j e)
      go false e h later = later h

  at_behind : (front : List FromItem) (js : List ℕ) → AtHere (front ++ from_items g js) (length front) js
  at_behind front js = record { each = λ i j e. behind front (from_items g js) i ∙ get_map (from_item g) js i j e }

  at_first : (js : List ℕ) → AtHere (from_items g js) 0 js
  at_first js = record { each = λ i j e. let z : 0 + i ≡ i = omega arith in ap (slice_get (from_items g js)) z ∙ get_map (from_item g) js i j e }

  holds_first : (js : List ℕ) → length js ≤ 3 → list_all (λ j. nat_lt j (length f.lists)) js ≡ true → HoldsHere (outermost js) (from_items g js) js
  holds_first js short there = record {
    count = length_map (from_item g) js;
    few = let l = length_map (from_item g) js in omega (arith, l, short);
    item = λ j h. ap (λ ls. nth (from_items g js) (number_in ls j)) (sym (append-nil (numbered 0 js))) ∙ at_number (from_items g js) 0 js [] (at_first js) j h;
    table = λ j h. table_at schema is named f cand known args valid typed j (loop_there (length f.lists) js j there h);
  }

  module _ (m : Member) (v : IsValidMember f m) (long : update_is_typed schema f m.0.update ≡ true) (start_held : StartIsHeld m.0.start) where
    conditions_sound : (flag : FlagCondition) (s : Scope) (froms : List FromItem) → HoldsHere s froms m.0.chain → (n : ℕ) (own : List ℕ) → AtHere froms n own → list_all (λ j. nat_lt j (length f.lists)) own ≡ true
        → ((k a : ℕ) (loops : List ℕ) → slice_get f.atoms k ≡ Some (atoms.Flag a loops) → atom_within m.0.chain (atoms.Flag a loops) ≡ true → IsSound schema f.entries froms (flag s a))
        → AllByRecursion (IsSound schema f.entries froms) (conditions flag g s n own m)
    conditions_sound flag s froms holds n own at there flags =
        all_both (IsSound schema f.entries froms) (limits g n own) (map (formula flag g s) m.1 ++ best_tests g s m.0.update m.0.start)
        (limits_sound schema is named f cand known args valid typed froms n own at there)
        (all_both (IsSound schema f.entries froms) (map (formula flag g s) m.1) (best_tests g s m.0.update m.0.start)
        (formulas_sound schema is named f cand known args valid typed are counted held flag s froms m.0.chain holds m.1
        (every_atom (λ k. (a : ℕ) (loops : List ℕ) → slice_get f.atoms k ≡ Some (atoms.Flag a loops) → atom_within m.0.chain (atoms.Flag a loops) ≡ true → IsSound schema f.entries froms (flag s a)) flags m.1)
        (v.pass (form_within f.atoms m.0.chain) (pool_within f m.0 v.valid)))
        (best_sound schema is named f cand known args valid typed s froms m.0.chain holds m.0.update m.0.start (element_in f m.0 v.valid) (start_valid f m.0 v.valid) (column_taken f m.0 v.valid) long start_held))

  all_long : AllByRecursion (λ (m : Member). update_is_typed schema f m.0.update ≡ true) (members f cand)
  all_long = members_pass (λ a. update_is_typed schema f a.update) cand 0 f.accs (all_updates schema f typed)

  all_starts : AllByRecursion (λ (m : Member). StartIsHeld m.0.start) (members f cand)
  all_starts = starts_from f cand 0 f.accs held.starts_held

  -- a flag that is read in an outermost SELECT
  flag_sound : (js : List ℕ) → length js ≤ 3 → list_all (λ j. nat_lt j (length f.lists)) js ≡ true → (k n : ℕ) (loops : List ℕ) → slice_get f.atoms k ≡ Some (atoms.Flag n loops) → atom_within js (atoms.Flag n loops) ≡ true
      → IsSound schema f.entries (from_items g js) (flag_condition g (outermost js) n)
  flag_sound js short there k n loops e within =
      let flag : is_flag loops (slice_get f.accs n) ≡ true = list_all_at (names_a_flag f) f.atoms k (atoms.Flag n loops) (flags_named f valid) e in
      let (a, is_there) = some_flag loops (slice_get f.accs n) flag in
      let tests = and_three (is_mark a.update) (nat_lt 0 a.base) (same_numbers loops (take a.base a.chain)) (subst (λ o. is_flag loops o ≡ true) is_there flag) in
      let m = member_at cand 0 f.accs n a is_there in
      let same : loops ≡ take a.base a.chain = same_numbers-true loops (take a.base a.chain) tests.2 in
      let v : IsValidMember f (a, m.choice) = all_at (IsValidMember f) (members f cand) n (a, m.choice) (all_members f cand valid) m.there in
      subst (λ o. IsSound schema f.entries (from_items g js) (flag_exists g (outermost js) o)) (sym m.there)
      (exists_sound (a, m.choice) v (all_at (λ (m : Member). update_is_typed schema f m.0.update ≡ true) (members f cand) n (a, m.choice) all_long m.there) (all_at (λ (m : Member). StartIsHeld m.0.start) (members f cand) n (a, m.choice) all_starts m.there)
      (λ j h. in_loops js loops within j (subst (λ ks. has_loop ks j ≡ true) (sym same) h)))
    where
      exists_sound : (m : Member) → IsValidMember f m → update_is_typed schema f m.0.update ≡ true → StartIsHeld m.0.start → ((j : ℕ) → has_loop (take m.0.base m.0.chain) j ≡ true → has_loop js j ≡ true) → IsSound schema f.entries (from_items g js) (flag_exists g (outermost js) (Some m))
      exists_sound m v long start_held round = record { good = (items, filter_sound.good); beside = filter_sound.beside }
        where
          parts : (nat_le (length m.0.chain) 3 ≡ true) × (rises m.0.chain ≡ true) × (m.0.base < length m.0.chain)
          parts = chain_parts f m.0 v.valid

          own_there : list_all (λ j. nat_lt j (length f.lists)) (drop m.0.base m.0.chain) ≡ true
          own_there = all_drop (λ j. nat_lt j (length f.lists)) m.0.base m.0.chain (chain_there f m.0 v.valid)

          own_short : length (drop m.0.base m.0.chain) ≤ 3
          own_short = drop_short m.0.base m.0.chain (le_of (length m.0.chain) 3 parts.0)

          front_short : length (from_items g js) ≤ 3
          front_short = let l = length_map (from_item g) js in omega (arith, l, short)

          items : AreItems schema (from_items g js) (from_items g (drop m.0.base m.0.chain))
          items = items_of schema is named f cand known args valid typed (from_items g js) (drop m.0.base m.0.chain) front_short (drop_some m.0.base m.0.chain parts.2) own_short own_there

          holds_inner : HoldsHere (inner (outermost js) (drop m.0.base m.0.chain)) (from_items g js ++ from_items g (drop m.0.base m.0.chain)) m.0.chain
          holds_inner = record {
            count = length-append (from_items g js) (from_items g (drop m.0.base m.0.chain)) ∙ ap₂ (λ a b. a + b) (length_map (from_item g) js) (length_map (from_item g) (drop m.0.base m.0.chain));
            few = let l = length-append (from_items g js) (from_items g (drop m.0.base m.0.chain)) in let n = length_map (from_item g) (drop m.0.base m.0.chain) in omega (arith, l, n, front_short, own_short);
            item = λ j h. bool_cases (nth (from_items g js ++ from_items g (drop m.0.base m.0.chain)) (number_in (numbered (length js) (drop m.0.base m.0.chain) ++ numbered 0 js) j) ≡ Some (from_item g j)) (has_loop (drop m.0.base m.0.chain) j)
                (λ e. at_number (from_items g js ++ from_items g (drop m.0.base m.0.chain)) (length js) (drop m.0.base m.0.chain) (numbered 0 js) own_at j e)
                (λ e.
                ap (nth (from_items g js ++ from_items g (drop m.0.base m.0.chain))) (number_behind (length js) (drop m.0.base m.0.chain) (numbered 0 js) j e)
                ∙ nth_front (from_items g js) (from_items g (drop m.0.base m.0.chain)) (number_in (numbered 0 js) j) (from_item g j) ((holds_first js short there).item j (round j (in_parts m.0.base m.0.chain j h e))));
            table = λ j h. table_at schema is named f cand known args valid typed j (loop_there (length f.lists) m.0.chain j (chain_there f m.0 v.valid) h);
          }
            where
              own_at : AtHere (from_items g js ++ from_items g (drop m.0.base m.0.chain)) (length js) (drop m.0.base m.0.chain)
              own_at = subst (λ n. AtHere (from_items g js ++ from_items g (drop m.0.base m.0.chain)) n (drop m.0.base m.0.chain)) (length_map (from_item g) js) (at_behind (from_items g js) (drop m.0.base m.0.chain))

          filter_sound : IsSoundFilter schema f.entries (from_items g js ++ from_items g (drop m.0.base m.0.chain)) (joined (conditions no_flag g (inner (outermost js) (drop m.0.base m.0.chain)) (length js) (drop m.0.base m.0.chain) m))
          filter_sound =
              sound_joined schema f.entries (from_items g js ++ from_items g (drop m.0.base m.0.chain)) (conditions no_flag g (inner (outermost js) (drop m.0.base m.0.chain)) (length js) (drop m.0.base m.0.chain) m)
              (conditions_sound m v long start_held no_flag (inner (outermost js) (drop m.0.base m.0.chain)) (from_items g js ++ from_items g (drop m.0.base m.0.chain)) holds_inner (length js) (drop m.0.base m.0.chain)
              (subst (λ n. AtHere (from_items g js ++ from_items g (drop m.0.base m.0.chain)) n (drop m.0.base m.0.chain)) (length_map (from_item g) js) (at_behind (from_items g js) (drop m.0.base m.0.chain))) own_there
              (λ k a loops e i. sound_fixed schema f.entries (from_items g js ++ from_items g (drop m.0.base m.0.chain)) false))

  -- ---- an outermost query

  module _ (m : Member) (v : IsValidMember f m) (base : m.0.base ≡ 0) (long : update_is_typed schema f m.0.update ≡ true) (start_held : StartIsHeld m.0.start) (element_named : list_all (place_is_there schema f) (element_places (element_of m.0.update)) ≡ true) where
    abbrev js : List ℕ
    js = m.0.chain

    abbrev s : Scope
    s = outermost js

    abbrev froms : List FromItem
    froms = from_items g js

    short : length js ≤ 3
    short = le_of (length js) 3 (chain_parts f m.0 v.valid).0

    some_loop : 0 < length js
    some_loop = let l : m.0.base < length js = (chain_parts f m.0 v.valid).2 in omega (arith, l)

    there : list_all (λ j. nat_lt j (length f.lists)) js ≡ true
    there = chain_there f m.0 v.valid

    holds_here : HoldsHere s froms js
    holds_here = holds_first js short there

    items_here : AreItems schema [] froms
    items_here = items_of schema is named f cand known args valid typed [] js (omega arith) some_loop short there

    where_sound : IsSoundFilter schema f.entries froms (where_of g m)
    where_sound =
        sound_joined schema f.entries froms (conditions (flag_condition g) g s 0 js m)
        (conditions_sound m v long start_held (flag_condition g) s froms holds_here 0 js (at_first js) there (λ k n loops e i. flag_sound js short there k n loops e i))

    where_numbered : IsNumbered schema f.entries froms (where_of g m)
    where_numbered =
        is_numbered schema f.entries (small_entries f valid) froms (where_of g m) where_sound.good
        (filter_use (λ k. k < length f.entries) (where_of g m) (where_param schema f cand known args valid are.each m)) where_sound.beside

    element_in_chain : (e : Elem) → element_of m.0.update ≡ Some e → has_loop js (elem_loop e) ≡ true
    element_in_chain e is = subst (λ o. element_within js o ≡ true) is (element_in f m.0 v.valid)

    -- a column that is an element
    element_column : (j k : ℕ) → element_of m.0.update ≡ Some (elems.Field j k) → (ty : Ty) × (IsColOf schema froms (column g (number_in s.loops j) j k) × (ty_of_col schema froms (column g (number_in s.loops j) j k) ≡ Some ty))
    element_column j k at =
        let named_here : (place_is_there schema f (j, k) && true) ≡ true = subst (λ o. list_all (place_is_there schema f) (element_places o) ≡ true) at element_named in
        let one : OneType (place_type schema f (j, k)) (place_type schema f (j, k)) = one_type (place_type schema f (j, k)) (place_type schema f (j, k)) (and_left (place_is_there schema f (j, k)) true named_here) in
        (one.ty, column_at schema is named f cand known args valid typed froms (number_in s.loops j) j k one.ty (holds_here.item j (element_in_chain (elems.Field j k) at)) (holds_here.table j (element_in_chain (elems.Field j k) at)) (place_typed g f refl j k one.ty one.first))

    item_named : (e : Elem) → element_of m.0.update ≡ Some e → IsItemOf schema froms (item g s e)
    item_named (elems.Whole j) at = record { from = from_item g j; item = holds_here.item j (element_in_chain (elems.Whole j) at) }
    item_named (elems.Field j k) at = (element_column j k at).1.0

    -- ---- keys and limits

    key_column : (n j : ℕ) (k : Col) → nth froms n ≡ Some (from_item g j) → nat_lt j (length f.lists) ≡ true → place_is_there schema f (j, k.column) ≡ true → IsColOf schema froms (column g n j k.column)
    key_column n j k at h p =
        let one : OneType (place_type schema f (j, k.column)) (place_type schema f (j, k.column)) = one_type (place_type schema f (j, k.column)) (place_type schema f (j, k.column)) p in
        (column_at schema is named f cand known args valid typed froms n j k.column one.ty at (table_at schema is named f cand known args valid typed j h) (place_typed g f refl j k.column one.ty one.first)).0

    loop_keys : (n j : ℕ) → nth froms n ≡ Some (from_item g j) → nat_lt j (length f.lists) ≡ true → (ks : List Col) → list_all (place_is_there schema f) (map (λ (k : Col). (j, k.column)) ks) ≡ true → AllByRecursion (IsKeyOf schema froms) (map (key g n j) ks)
    loop_keys n j at h [] p = tt
    loop_keys n j at h (k ∷ ks) p =
        ((key_column n j k at h (and_left (place_is_there schema f (j, k.column)) (list_all (place_is_there schema f) (map (λ (k : Col). (j, k.column)) ks)) p), refl), loop_keys n j at h ks (and_right (place_is_there schema f (j, k.column)) (list_all (place_is_there schema f) (map (λ (k : Col). (j, k.column)) ks)) p))

    keys_of_list : (j : ℕ) → list_all (place_is_there schema f) (map (λ (k : Col). (j, k.column)) (list_of g j).keys) ≡ true
    keys_of_list j =
        let z : 0 + j ≡ j = omega arith in
        subst (λ n. list_all (place_is_there schema f) (map (λ (k : Col). (n, k.column)) (list_of g j).keys) ≡ true) z
        (keys_there (place_is_there schema f) 0 f.lists (append_left (place_is_there schema f) (key_places 0 f.lists) (flat_map atom_places f.atoms ++ flat_map (λ a. element_places (element_of a.update)) f.accs) (places_there schema f typed)) j)

    position_named : (n j : ℕ) → nth froms n ≡ Some (from_item g j) → nat_lt j (length f.lists) ≡ true → IsColOf schema froms (position n)
    position_named n j at h = let t = table_at schema is named f cand known args valid typed j h in is_position schema is named froms n (from_item g j) at t.0 t.1

    keys_named : (n : ℕ) (ks : List ℕ) → AtHere froms n ks → list_all (λ j. nat_lt j (length f.lists)) ks ≡ true → AllByRecursion (IsKeyOf schema froms) (keys g n ks)
    keys_named n [] at h = tt
    keys_named n (j ∷ ks) at h =
        let first = first_at schema is named f cand known args valid typed froms n j ks at in
        let here : nat_lt j (length f.lists) ≡ true = and_left (nat_lt j (length f.lists)) (list_all (λ j. nat_lt j (length f.lists)) ks) h in
        all_both (IsKeyOf schema froms) (map (key g (suc n) j) (list_of g j).keys) (position_key false (suc n) ∷ keys g (suc n) ks) (loop_keys (suc n) j first here (list_of g j).keys (keys_of_list j))
        ((position_named (suc n) j first here, refl), keys_named (suc n) ks (next_at schema is named f cand known args valid typed froms n j ks at) (and_right (nat_lt j (length f.lists)) (list_all (λ j. nat_lt j (length f.lists)) ks) h))

    limit_named : (ks : List ℕ) → IsLimit (limit_of g ks)
    limit_named [] = tt
    limit_named (j ∷ ks) = go (list_of g j).keys (list_of g j).limit (limit_fits schema is named f cand known args valid typed j)
      where
        go : (keys : List Col) (limit : Option ℕ) → ((m : ℕ) → limit ≡ Some m → fits_long (pos m) ≡ true) → IsLimit (sorted_limit keys limit)
        go [] limit h = tt
        go (k ∷ keys) None h = tt
        go (k ∷ keys) (Some n) h = h n refl

    -- ---- queries

    abbrev entries : List ℕ
    entries = first_uses [] (filter_uses (where_of g m))

    abbrev own_types : List Ty
    own_types = map (λ k. type_of (slice_get f.entries k)) entries

    abbrev own_filter : Filter
    own_filter = renumbered_filter entries (where_of g m)

    rows_of_grammar : (e : Elem) → element_of m.0.update ≡ Some e → IsQueryOf schema (with_filter (rows_query g js e (where_of g m)) own_filter own_types)
    rows_of_grammar e is = record {
      names = record { items = items_here; item = item_named e is; filter_ = where_numbered.named; group = tt; keys = keys_named 0 js (at_first js) there; limit = limit_named js };
      types = where_numbered.fits;
      groups = no_least g 0 js;
      params = where_numbered.params;
    }

    first_item : (ks : List ℕ) → js ≡ ks → 0 < length ks → IsColOf schema froms (position 1)
    first_item [] e h = absurd (omega (arith, h))
    first_item (j ∷ ks) e h =
        position_named 1 j (ap (λ xs. nth (from_items g xs) 1) e) (and_left (nat_lt j (length f.lists)) (list_all (λ j. nat_lt j (length f.lists)) ks) (subst (λ xs. list_all (λ j. nat_lt j (length f.lists)) xs ≡ true) e there))

    values_of_grammar : (j k : ℕ) → m.0.update ≡ updates.PushNew (elems.Field j k) → IsQueryOf schema (with_filter (values_query g js (elems.Field j k) (where_of g m)) own_filter own_types)
    values_of_grammar j k is = record {
      names = record { items = items_here; item = item_named (elems.Field j k) (ap element_of is); filter_ = where_numbered.named; group = (element_column j k (ap element_of is)).1.0; keys = ((first_item js refl some_loop, refl), tt); limit = tt };
      types = where_numbered.fits;
      groups =
          let one = one_loop f js (subst (λ u. loops_are_few f js u ≡ true) is (loops_few f m.0 v.valid)) in
          ap₂ (λ (ks : List ℕ) b. nat_eq (length (from_items g ks)) 1 && b && true) one.1 (takes_itself g js (elems.Field j k) refl);
      params = where_numbered.params;
    }

    one_item : (u : Update) → m.0.update ≡ u → nat_eq (length js) 1 ≡ true → length froms ≡ 1
    one_item u is h = length_map (from_item g) js ∙ eq_true (length js) 1 h

    count_of_grammar : m.0.update ≡ updates.Tick → IsQueryOf schema (with_filter (number_query g js kinds.Count (where_of g m)) own_filter own_types)
    count_of_grammar is = record {
      names = record { items = items_here; kind = one_item updates.Tick is (subst (λ u. loops_are_few f js u ≡ true) is (loops_few f m.0 v.valid)); filter_ = where_numbered.named };
      types = where_numbered.fits;
      groups = refl;
      params = where_numbered.params;
    }

    long_here : (j k : ℕ) (e : Elem) → e ≡ elems.Field j k → element_of m.0.update ≡ Some e → is_type tys.Long (place_type schema f (j, k)) ≡ true → IsColOf schema froms (column g (number_in s.loops j) j k) × (ty_of_col schema froms (column g (number_in s.loops j) j k) ≡ Some tys.Long)
    long_here j k e same at h = long_column schema is named f cand known args valid typed s froms js holds_here j k (element_in_chain (elems.Field j k) (at ∙ ap Some same)) h

    sum_of_grammar : (j k : ℕ) → m.0.update ≡ updates.Plus (elems.Field j k) → IsQueryOf schema (with_filter (number_query g js (kinds.Sum (elem_col g s (elems.Field j k)) (pos 0)) (where_of g m)) own_filter own_types)
    sum_of_grammar j k e =
        let col = long_here j k (elems.Field j k) refl (ap element_of e) (subst (λ u. update_is_typed schema f u ≡ true) e long) in
        record {
          names = record { items = items_here; kind = (one_item (updates.Plus (elems.Field j k)) e (subst (λ u. loops_are_few f js u ≡ true) e (loops_few f m.0 v.valid)), (col.0, refl)); filter_ = where_numbered.named };
          types = ap₂ (λ a b. a && b) (ap (is_of tys.Long) col.1) where_numbered.fits;
          groups = refl;
          params = where_numbered.params;
        }

    start_fits : (o : Option Scalar) → StartIsHeld o → starts_as is_number o ≡ true → fits_long (number_of o) ≡ true
    start_fits None h s = absurd cc
    start_fits (Some (scalars.Long n)) h s = h
    start_fits (Some (scalars.Bool b)) h s = absurd cc
    start_fits (Some (scalars.Text t)) h s = absurd cc

    best_of_grammar : (way : Way) (j k : ℕ) → m.0.update ≡ updates.Best way (elems.Field j k) → IsQueryOf schema (with_filter (number_query g js (best_kind way (elem_col g s (elems.Field j k)) m.0.start) (where_of g m)) own_filter own_types)
    best_of_grammar ways.Max j k e =
        let col = long_here j k (elems.Field j k) refl (ap element_of e) (subst (λ u. update_is_typed schema f u ≡ true) e long) in
        record {
          names = record { items = items_here; kind = (col.0, start_fits m.0.start start_held (subst (λ u. start_is_valid u m.0.start ≡ true) e (start_valid f m.0 v.valid))); filter_ = where_numbered.named };
          types = ap₂ (λ a b. a && b) (ap (is_of tys.Long) col.1) where_numbered.fits;
          groups = refl;
          params = where_numbered.params;
        }
    best_of_grammar ways.Min j k e =
        let col = long_here j k (elems.Field j k) refl (ap element_of e) (subst (λ u. update_is_typed schema f u ≡ true) e long) in
        record {
          names = record { items = items_here; kind = (col.0, start_fits m.0.start start_held (subst (λ u. start_is_valid u m.0.start ≡ true) e (start_valid f m.0 v.valid))); filter_ = where_numbered.named };
          types = ap₂ (λ a b. a && b) (ap (is_of tys.Long) col.1) where_numbered.fits;
          groups = refl;
          params = where_numbered.params;
        }

    truth_of_grammar : IsQueryOf schema (with_filter (query_by updates.Mark g m (where_of g m)) own_filter own_types)
    truth_of_grammar = record { names = record { items = items_here; filter_ = where_numbered.named }; types = where_numbered.fits; groups = refl; params = where_numbered.params }

    taken : (u : Update) → m.0.update ≡ u → takes_a_column u ≡ true
    taken u e = subst (λ x. takes_a_column x ≡ true) e (column_taken f m.0 v.valid)

    by_update : (u : Update) → m.0.update ≡ u → IsQueryOf schema (with_filter (query_by u g m (where_of g m)) own_filter own_types)
    by_update (updates.Push e) is = rows_of_grammar e (ap element_of is)
    by_update (updates.PushNew (elems.Field j k)) is = values_of_grammar j k is
    by_update (updates.PushNew (elems.Whole j)) is = let no : false ≡ true = taken (updates.PushNew (elems.Whole j)) is in absurd cc
    by_update updates.Tick is = count_of_grammar is
    by_update (updates.Plus (elems.Field j k)) is = sum_of_grammar j k is
    by_update (updates.Plus (elems.Whole j)) is = let no : false ≡ true = taken (updates.Plus (elems.Whole j)) is in absurd cc
    by_update (updates.Best way (elems.Field j k)) is = best_of_grammar way j k is
    by_update (updates.Best way (elems.Whole j)) is = let no : false ≡ true = taken (updates.Best way (elems.Whole j)) is in absurd cc
    by_update updates.Mark is = truth_of_grammar

    pub of_grammar : IsQueryOf schema (in_order f.entries (query_of g m)).query
    of_grammar =
        subst (λ F. IsQueryOf schema (with_filter (query_of g m) (renumbered_filter (first_uses [] (filter_uses F)) F) (map (λ k. type_of (slice_get f.entries k)) (first_uses [] (filter_uses F))))) (sym (filter_is schema f cand known args valid are.each m))
        (by_update m.0.update refl)

  all_named : AllByRecursion (λ (m : Member). list_all (place_is_there schema f) (element_places (element_of m.0.update)) ≡ true) (members f cand)
  all_named =
      members_pass (λ a. list_all (place_is_there schema f) (element_places (element_of a.update))) cand 0 f.accs
      (each_part (place_is_there schema f) (λ a. element_places (element_of a.update)) f.accs
      (append_right (place_is_there schema f) (flat_map atom_places f.atoms) (flat_map (λ a. element_places (element_of a.update)) f.accs)
      (append_right (place_is_there schema f) (key_places 0 f.lists) (flat_map atom_places f.atoms ++ flat_map (λ a. element_places (element_of a.update)) f.accs) (places_there schema f typed))))

  pub emitted_of_grammar : (acc : ℕ) (m : Member) → slice_get (members f cand) acc ≡ Some m → m.0.base ≡ 0 → IsQueryOf schema (in_order f.entries (query_of g m)).query
  emitted_of_grammar acc m there base =
      of_grammar m (all_at (IsValidMember f) (members f cand) acc m (all_members f cand valid) there) base (all_at (λ (m : Member). update_is_typed schema f m.0.update ≡ true) (members f cand) acc m all_long there)
      (all_at (λ (m : Member). StartIsHeld m.0.start) (members f cand) acc m all_starts there) (all_at (λ (m : Member). list_all (place_is_there schema f) (element_places (element_of m.0.update)) ≡ true) (members f cand) acc m all_named there)

pub grammatical : (schema : Schema) (f : Fragment) (cand : List ℕ) (known : List PlainQuery) (args : List (List ℕ)) (acc : ℕ) (m : Member) → IsSchema schema → AreNamed schema → broken f ≡ None → is_typed schema f ≡ true → AreKnownTo schema f known args → AllByRecursion QueryIsCounted known → IsHeld f
    → slice_get (members f cand) acc ≡ Some m → m.0.base ≡ 0 → IsQueryOf schema (in_order f.entries (query_of (ground schema f cand known args) m)).query
grammatical schema f cand known args acc m is named unbroken typed are counted held there base = emitted_of_grammar schema is named f cand known args (valid_of f unbroken) typed are counted held acc m there base
