-- What a WHERE asks is what the formulas ask, flags among them.
use Rattle.std.proofs.Common.{◌≡◌, ℕ, ◌+◌, ◌<◌, Bool, true, false, List, [], ◌∷◌, ◌++◌, map, take, drop, length, slice_get, get_or, refl, sym, ap, ap₂, ◌∙◌, subst, arith, nat_lt}
use Rattle.std.specs.List.{AllByRecursion, filter, list_all, list_any}
use Rattle.std.specs.declared.option.Option.{Option}
use Rattle.std.specs.declared.option.Option.TheVariants.{Some, None}
use Rattle.std.proofs.lemmas.List.{append-nil, length-append}
use Rattle.std.proofs.lemmas.List.Sorted.{list_any-IsPermutation}
use Rattle.qbs_base.specs.declared.scalar.Row.{Row}
use Rattle.qbs_base.specs.declared.scalar.Scalar.{Scalar}
use Rattle.qbs_base.specs.declared.scalar.Scalar.TheVariants as scalars
use Rattle.qbs_base.specs.Folded.{is_some}
use Rattle.qbs_base.specs.Values.{Schema, Database, AreCells}
use Rattle.qbs_base.proofs.Moves.{permutation_from_moves}
use Rattle.tor_terms.specs.declared.term.Atom.TheVariants as atoms
use Rattle.tor_terms.specs.Plain.{Form, Walk, Lit}
use Rattle.tor_terms.specs.Same.{same_numbers}
use Rattle.tor_terms.specs.Truth.{Tup, World, operand_at, row_at, all_hold, is_member, same_bool, has_loop, form_within}
use Rattle.tor_terms.specs.Value.{here, value}
use Rattle.kernel_lang.specs.declared.parts.Entry.{Entry}
use Rattle.kernel_lang.specs.declared.parts.Update.TheVariants as updates
use Rattle.kernel_lang.specs.Given.{world_given}
use Rattle.kernel_lang.specs.Plain.{Fragment}
use Rattle.kernel_lang.specs.Pools.{Member, members}
use Rattle.kernel_lang.specs.Postcondition.{loops_of, body, whole, start_term, flag_by_choice, with_choices}
use Rattle.kernel_lang.specs.Running.{Layer, outside, inside, placed, is_set}
use Rattle.kernel_lang.specs.Sentences.{IsValid}
use Rattle.kernel_lang.specs.Typed.{operand_type, same_type, atom_is_typed, is_typed}
use Rattle.kernel_lang.specs.Validity.{is_field, is_mark, is_flag, names_a_flag, is_no_flag, reads_no_flag, start_is_valid}
use Rattle.kernel_lang.proofs.Listing.{all_at, and_right, and_three, list_all_at}
use Rattle.sql_ast.specs.Meaning.{Combination, truth_of, passes, product, row_of}
use Rattle.sql_ast.specs.Tree.{PlainQuery}
use Rattle.sql_parts.specs.Scopes.{Ground, ground, Scope, numbered, number_in, outermost, inner, list_of, from_item, from_items}
use Rattle.sql_parts.specs.Emitted.{within_query, args_of, FlagCondition, formula, joined, best_tests, conditions, no_flag, flag_exists, flag_condition}
use Rattle.sql_parts.specs.Given.{MemberFits, AreKnownTo, known_type, IsGiven}
use Rattle.sql_parts.proofs.Chosen.{chosen, chosen_moves}
use Rattle.sql_parts.proofs.Limits.{no_limits, seen_is_chosen}
use Rattle.sql_parts.proofs.Literals.{OneType, one_type, MembersMean, FlagMeans, AtomsOf, every_atom, quiet_atoms, formulas_are, joined_is}
use Rattle.sql_parts.proofs.Members.{known_at, within_known}
use Rattle.sql_parts.proofs.Nest.{ListsAre, lists_are, tuple_of, same_row, tuple_front, drop_front, body_is, seen, rows_typed, seen_typed, typed_length}
use Rattle.sql_parts.proofs.Rows.{RowsTyped, Sees, columns_at, side_is, operand_typed}
use Rattle.sql_parts.proofs.Tables.{TypedFor}
use Rattle.sql_parts.proofs.Tools.{any_agree_on, any_is_some, some_map, length_map}
use Rattle.sql_parts.proofs.Valid.{IsValidMember, all_members, member_at, outside_loops, inside_loops, chain_parts, chain_there, pool_within, pool_quiet, apart, in_parts}
use Rattle.sql_parts.proofs.Flags.{typed_tests, some_flag, mark_of, same_numbers-true, false_start, start_valid, some_not_empty, marked, placed_at, here_at, not_here, number_behind, in_loops, bool_cases, unlimited_lists, every_unlimited, two_loops, two_lists, limits_hold, flags_named, all_drop, drop_some}

module _ (schema : Schema) (f : Fragment) (cand : List ℕ) (known : List PlainQuery) (args : List (List ℕ)) (valid : IsValid f) (typed : is_typed schema f ≡ true) (are : AreKnownTo schema f known args)
    (db : Database) (entry : Entry) (given : IsGiven schema f known args db entry) where
  abbrev g : Ground
  g = ground schema f cand known args

  module _ (flag : FlagCondition) (s : Scope) (w : World) (entries : (k : ℕ) → w.entries k ≡ slice_get entry.values k) (lists : (q : ℕ) → w.known q ≡ get_or entry.known q []) (c : Combination) (count : length c ≡ s.count)
      (js : List ℕ) (rows : ℕ → Row) (sees : Sees s c js rows) (rows_of_type : RowsTyped g js rows) where
    members_mean : MembersMean flag g f refl s w db entry.values entries given.values c js rows sees rows_of_type
    members_mean k a q h e in_js = go (slice_get known q) refl
      where
        one : OneType (operand_type schema f a) (operand_type schema f a)
        one = one_type (operand_type schema f a) (operand_type schema f a)
            (and_right (is_field a) (same_type (operand_type schema f a) (operand_type schema f a)) (list_all_at (atom_is_typed schema f) f.atoms k (atoms.Member a q) (typed_tests schema f typed) e))

        fits : operand_type schema f a ≡ known_type schema (slice_get known q)
        fits = all_at (MemberFits schema f known) f.atoms k (atoms.Member a q) are.members e

        go : (o : Option PlainQuery) → slice_get known q ≡ o → truth_of db entry.values (within_query g s a (args_of (slice_get args q)) o h) c ≡ same_bool (is_member (operand_at w rows a) (w.known q)) h
        go None is = let no : Some one.ty ≡ None = sym one.first ∙ fits ∙ ap (known_type schema) is in absurd cc
        go (Some p) is =
            within_known schema f.entries db given.database entry.values given.values p (args_of (slice_get args q)) (get_or entry.known q []) (known_at schema f.entries db entry.values known args entry.known are.each given.answers q p is) g s c count a
            (operand_at w rows a) one.ty (side_is g s w entry.values entries c js rows sees a in_js) (operand_typed g f refl w entry.values entries given.values js rows rows_of_type a one.ty in_js one.first)
            (sym (ap (known_type schema) is) ∙ sym fits ∙ one.first) h
            ∙ ap (λ (list : List Scalar). same_bool (is_member (operand_at w rows a) list) h) (sym (lists q))

    pub wheres : (fs : List Form) → list_all (form_within f.atoms js) fs ≡ true → AllByRecursion (AtomsOf (FlagMeans flag g f refl s w db entry.values entries given.values c js rows sees rows_of_type)) fs
        → list_all (λ d. truth_of db entry.values d c) (map (formula flag g s) fs) ≡ all_hold w f.atoms rows fs
    wheres fs within flags =
        formulas_are flag g f refl s w db entry.values entries given.values c js rows sees rows_of_type members_mean (typed_tests schema f typed) fs within flags

  -- ---- an outermost SELECT

  abbrev rows_at_tuple : (ℕ → Row) → List ℕ → Combination → ℕ → Row
  rows_at_tuple rows js c = row_at rows (tuple_of js c)

  sees_along : (rows : ℕ → Row) (js : List ℕ) (c d : Combination) → length c ≡ length js → (j : ℕ) → has_loop js j ≡ true → row_of (c ++ d) (number_in (numbered 0 js) j) ≡ rows_at_tuple rows js c j
  sees_along rows js c d count j h =
      ap (λ ls. row_of (c ++ d) (number_in ls j)) (sym (append-nil (numbered 0 js))) ∙ same_row rows [] js 0 (c ++ d) j h ∙ ap (λ t. row_at rows t j) (tuple_front js c d count)

  pub sees_outermost : (rows : ℕ → Row) (js : List ℕ) (c : Combination) → length c ≡ length js → Sees (outermost js) c js (rows_at_tuple rows js c)
  sees_outermost rows js c count j h = ap (λ (e : Combination). row_of e (number_in (numbered 0 js) j)) (sym (append-nil c)) ∙ sees_along rows js c [] count j h

  -- ---- the world in which postconditions are read

  abbrev w0 : World
  w0 = world_given f db entry

  abbrev wc : World
  wc = with_choices f (members f cand) w0

  module _ (js : List ℕ) (c : Combination) (of : TypedFor schema (from_items g js) c) where
    abbrev rows : ℕ → Row
    rows = rows_at_tuple wc.current js c

    own_length : length c ≡ length js
    own_length = typed_length schema (from_items g js) c of ∙ length_map (λ j. from_item g j) js

    module _ (m : Member) (v : IsValidMember f m) (is_marked : m.0.update ≡ updates.Mark) (inside_loop : nat_lt 0 m.0.base ≡ true) (round : (j : ℕ) → has_loop (take m.0.base m.0.chain) j ≡ true → has_loop js j ≡ true) where
      abbrev outer : List ℕ
      outer = take m.0.base m.0.chain

      abbrev own : List ℕ
      own = drop m.0.base m.0.chain

      abbrev w1 : World
      w1 = record w0 { current = placed outer (map rows outer) }

      abbrev s1 : Scope
      s1 = inner (outermost js) own

      module _ (d : Combination) (d_of : TypedFor schema (from_items g own) d) where
        abbrev rows1 : ℕ → Row
        rows1 = row_at w1.current (here w1 outer ++ tuple_of own d)

        d_length : length d ≡ length own
        d_length = typed_length schema (from_items g own) d d_of ∙ length_map (λ j. from_item g j) own

        own_row : (j : ℕ) → has_loop own j ≡ true → rows1 j ≡ row_at w1.current (tuple_of own d) j
        own_row j h = bool_cases (rows1 j ≡ row_at w1.current (tuple_of own d) j) (has_loop outer j)
            (λ e. let no : true ≡ false = sym h ∙ apart m.0.base m.0.chain j (chain_parts f m.0 v.valid).1 e in absurd cc)
            (λ e. not_here w1 outer (tuple_of own d) j e)

        outer_row : (j : ℕ) → has_loop outer j ≡ true → rows1 j ≡ rows j
        outer_row j h = here_at w1 outer (tuple_of own d) j h ∙ placed_at rows outer j h

        count1 : length (c ++ d) ≡ s1.count
        count1 = length-append c d ∙ ap₂ (λ m n. m + n) own_length d_length

        sees1 : Sees s1 (c ++ d) m.0.chain rows1
        sees1 j h = bool_cases (row_of (c ++ d) (number_in s1.loops j) ≡ rows1 j) (has_loop own j)
            (λ e.
            same_row w1.current (numbered 0 js) own (length js) (c ++ d) j e
            ∙ ap (λ n. row_at w1.current (tuple_of own (drop n (c ++ d))) j) (sym own_length) ∙ ap (λ (x : Combination). row_at w1.current (tuple_of own x) j) (drop_front c d) ∙ sym (own_row j e))
            (λ e.
            let i : has_loop outer j ≡ true = in_parts m.0.base m.0.chain j h e in
            ap (row_of (c ++ d)) (number_behind (length js) own (numbered 0 js) j e) ∙ sees_along wc.current js c d own_length j (round j i) ∙ sym (outer_row j i))

        typed1 : RowsTyped g m.0.chain rows1
        typed1 j h = bool_cases (AreCells (columns_at g j) (rows1 j).cells) (has_loop own j)
            (λ e. subst (λ (r : Row). AreCells (columns_at g j) r.cells) (sym (own_row j e)) (rows_typed g w1.current own d d_of j e))
            (λ e.
            let i : has_loop outer j ≡ true = in_parts m.0.base m.0.chain j h e in
            subst (λ (r : Row). AreCells (columns_at g j) r.cells) (sym (outer_row j i)) (rows_typed g wc.current js c of j (round j i)))

        no_flags : (k : ℕ) → is_no_flag (slice_get f.atoms k) ≡ true → FlagMeans no_flag g f refl s1 w1 db entry.values (λ k. refl) given.values (c ++ d) m.0.chain rows1 sees1 typed1 k
        no_flags k quiet n loops e i = let no : true ≡ false = sym quiet ∙ ap is_no_flag e in absurd cc

        inner_where : list_all (λ x. truth_of db entry.values x (c ++ d)) (map (formula no_flag g s1) m.1) ≡ all_hold w1 f.atoms rows1 m.1
        inner_where =
            wheres no_flag s1 w1 (λ k. refl) (λ q. refl) (c ++ d) count1 m.0.chain rows1 sees1 typed1 m.1 (v.pass (form_within f.atoms m.0.chain) (pool_within f m.0 v.valid))
            (quiet_atoms f.atoms (FlagMeans no_flag g f refl s1 w1 db entry.values (λ k. refl) given.values (c ++ d) m.0.chain rows1 sees1 typed1) no_flags m.1 (v.pass (reads_no_flag f.atoms) (pool_quiet f m.0 v.valid inside_loop)))

      no_limit : AllByRecursion (λ j. (list_of g j).limit ≡ None) own
      no_limit = every_unlimited g (unlimited_lists (length f.lists) f.lists (two_lists m.0.chain (length f.lists) (two_loops m.0.base m.0.chain inside_loop (chain_parts f m.0 v.valid).2) (chain_parts f m.0 v.valid).1 (chain_there f m.0 v.valid)) (limits_hold f valid)) own

      -- what the inner SELECT asks of its own rows
      inner_filter : Combination → Bool
      inner_filter d = passes db entry.values (joined (conditions no_flag g s1 (length js) own m)) (c ++ d)

      inner_tests : conditions no_flag g s1 (length js) own m ≡ map (formula no_flag g s1) m.1
      inner_tests =
          ap₂ (λ ls u. ls ++ (map (formula no_flag g s1) m.1 ++ best_tests g s1 u m.0.start)) (no_limits g (length js) own no_limit) is_marked
          ∙ append-nil (map (formula no_flag g s1) m.1)

      inner_is : (d : Combination) → TypedFor schema (from_items g own) d → inner_filter d ≡ all_hold w1 f.atoms (row_at w1.current (here w1 outer ++ tuple_of own d)) m.1
      unfolding inner_filter
      inner_is d d_of =
          joined_is db entry.values (c ++ d) (conditions no_flag g s1 (length js) own m) ∙ ap (list_all (λ x. truth_of db entry.values x (c ++ d))) inner_tests ∙ inner_where d d_of

      found : list_any inner_filter (product db (from_items g own)) ≡ is_some (filter (λ d. all_hold w1 f.atoms (row_at w1.current (here w1 outer ++ tuple_of own d)) m.1) (seen g db own))
      found =
          list_any-IsPermutation inner_filter (product db (from_items g own)) (chosen g db own) (permutation_from_moves (product db (from_items g own)) (chosen g db own) (chosen_moves g db own))
          ∙ ap (list_any inner_filter) (sym (seen_is_chosen g db own no_limit))
          ∙ any_agree_on (TypedFor schema (from_items g own)) inner_filter (λ d. all_hold w1 f.atoms (row_at w1.current (here w1 outer ++ tuple_of own d)) m.1) inner_is (seen g db own) (seen_typed g db given.database own)
          ∙ any_is_some (λ d. all_hold w1 f.atoms (row_at w1.current (here w1 outer ++ tuple_of own d)) m.1) (seen g db own)

      own_lists : ListsAre g db w1 own
      own_lists = lists_are g db w1 (λ j. refl) own (all_drop (λ j. nat_lt j (length f.lists)) m.0.base m.0.chain (chain_there f m.0 v.valid))

      -- the flag's own value, by the layers inside its declaration
      by_layers : (ys : List Layer) → own ≡ loops_of ys → 0 < length own
          → is_set (Some (value w1 f.atoms (whole updates.Mark m.1 outer (Lit (scalars.Bool false)) ys))) ≡ is_some (filter (λ d. all_hold w1 f.atoms (row_at w1.current (here w1 outer ++ tuple_of own d)) m.1) (seen g db own))
      by_layers [] e h = let n : length own ≡ 0 = ap length e in absurd (omega (arith, n, h))
      by_layers (y ∷ ys) e h =
          marked w1 f.atoms m.1 outer y ys
          ∙ some_not_empty (value w1 f.atoms (body m.1 outer (Walk y.over) (loops_of ys)))
          ∙ ap is_some (body_is g db w1 f.atoms m.1 outer y.over (loops_of ys) (subst (ListsAre g db w1) e own_lists))
          ∙ some_map (λ d. Tup (here w1 outer ++ tuple_of (y.over ∷ loops_of ys) d)) (filter (λ d. all_hold w1 f.atoms (row_at w1.current (here w1 outer ++ tuple_of (y.over ∷ loops_of ys) d)) m.1) (seen g db (y.over ∷ loops_of ys)))
          ∙ ap (λ (ks : List ℕ). is_some (filter (λ d. all_hold w1 f.atoms (row_at w1.current (here w1 outer ++ tuple_of ks d)) m.1) (seen g db ks))) (sym e)

      own_value : flag_by_choice f w0 (Some m) (map rows outer) ≡ is_some (filter (λ d. all_hold w1 f.atoms (row_at w1.current (here w1 outer ++ tuple_of own d)) m.1) (seen g db own))
      own_value =
          ap₂ (λ u o. is_set (Some (value w1 f.atoms (whole u m.1 (loops_of (outside m.0)) (start_term o) (inside m.0))))) is_marked (false_start m.0.start (subst (λ u. start_is_valid u m.0.start ≡ true) is_marked (start_valid f m.0 v.valid)))
          ∙ ap (λ (ks : List ℕ). is_set (Some (value w1 f.atoms (whole updates.Mark m.1 ks (Lit (scalars.Bool false)) (inside m.0))))) (sym (outside_loops m.0))
          ∙ by_layers (inside m.0) (inside_loops m.0) (drop_some m.0.base m.0.chain (chain_parts f m.0 v.valid).2)

      exists_is : truth_of db entry.values (flag_exists g (outermost js) (Some m)) c ≡ flag_by_choice f w0 (Some m) (map rows outer)
      unfolding inner_filter
      exists_is = found ∙ sym own_value

    -- a flag that is read among these loops
    flag_is : (k : ℕ) → FlagMeans (flag_condition g) g f refl (outermost js) wc db entry.values (λ k. refl) given.values c js rows (sees_outermost wc.current js c own_length) (rows_typed g wc.current js c of) k
    flag_is k n loops e within =
        let flag : is_flag loops (slice_get f.accs n) ≡ true = list_all_at (names_a_flag f) f.atoms k (atoms.Flag n loops) (flags_named f valid) e in
        let (a, there) = some_flag loops (slice_get f.accs n) flag in
        let tests = and_three (is_mark a.update) (nat_lt 0 a.base) (same_numbers loops (take a.base a.chain)) (subst (λ o. is_flag loops o ≡ true) there flag) in
        let m = member_at cand 0 f.accs n a there in
        let same : loops ≡ take a.base a.chain = same_numbers-true loops (take a.base a.chain) tests.2 in
        let v : IsValidMember f (a, m.choice) = all_at (IsValidMember f) (members f cand) n (a, m.choice) (all_members f cand valid) m.there in
        ap (λ o. truth_of db entry.values (flag_exists g (outermost js) o) c) m.there
        ∙ exists_is (a, m.choice) v (mark_of a.update tests.0) tests.1 (λ j h. in_loops js loops within j (subst (λ ks. has_loop ks j ≡ true) (sym same) h))
        ∙ ap (λ ks. flag_by_choice f w0 (Some (a, m.choice)) (map rows ks)) (sym same)
        ∙ ap (λ o. flag_by_choice f w0 o (map rows loops)) (sym m.there)

    -- the formulas of an outermost SELECT
    pub formulas_hold : (fs : List Form) → list_all (form_within f.atoms js) fs ≡ true → list_all (λ d. truth_of db entry.values d c) (map (formula (flag_condition g) g (outermost js)) fs) ≡ all_hold wc f.atoms rows fs
    formulas_hold fs within =
        wheres (flag_condition g) (outermost js) wc (λ k. refl) (λ q. refl) c own_length js rows (sees_outermost wc.current js c own_length) (rows_typed g wc.current js c of) fs within
        (every_atom (FlagMeans (flag_condition g) g f refl (outermost js) wc db entry.values (λ k. refl) given.values c js rows (sees_outermost wc.current js c own_length) (rows_typed g wc.current js c of)) flag_is fs)
