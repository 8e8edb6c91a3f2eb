-- The text literals of an emitted query are those of the fragment's atoms and of its known queries.
use Rattle.std.proofs.Common.{◌≡◌, ℕ, suc, Bool, true, false, cond, not, ◌||◌, List, [], ◌∷◌, ◌++◌, map, slice_get, refl}
use Rattle.std.specs.List.{AllByRecursion}
use Rattle.std.specs.declared.option.Option.{Option}
use Rattle.std.specs.declared.option.Option.TheVariants.{Some, None}
use Rattle.qbs_base.specs.declared.scalar.Scalar.{Scalar}
use Rattle.qbs_base.specs.declared.scalar.Scalar.TheVariants as constants
use Rattle.qbs_base.specs.Values.{Schema}
use Rattle.tor_terms.specs.declared.term.Atom.{Atom}
use Rattle.tor_terms.specs.declared.term.Atom.TheVariants as atoms
use Rattle.tor_terms.specs.declared.term.Operand.{Operand}
use Rattle.tor_terms.specs.declared.term.Operand.TheVariants as operands
use Rattle.tor_terms.specs.Plain.{Form, Is, Both, Either}
use Rattle.kernel_lang.specs.declared.parts.Col.{Col}
use Rattle.kernel_lang.specs.declared.parts.Update.{Update}
use Rattle.kernel_lang.specs.declared.parts.Update.TheVariants as updates
use Rattle.kernel_lang.specs.Plain.{Fragment}
use Rattle.kernel_lang.specs.Pools.{Member, members}
use Rattle.kernel_lang.specs.Sentences.{IsValid}
use Rattle.kernel_lang.specs.Validity.{broken, is_field, start_is_valid}
use Rattle.kernel_lang.proofs.Sentences.{valid}
use Rattle.kernel_lang.proofs.Listing.{all_at}
use Rattle.sql_ast.specs.declared.tree.SqlOpnd.{SqlOpnd}
use Rattle.sql_ast.specs.declared.tree.SqlOpnd.TheVariants as opnds
use Rattle.sql_ast.specs.Meaning.{nth}
use Rattle.sql_ast.specs.Tree.{Condition, Not, Compare, Bare, Exists, Within, Filter, Everything, Where, PlainQuery, Listing, Number, Truth}
use Rattle.sql_ast.specs.Tree as sql
use Rattle.sql_ast.specs.Utf8.{OperandIsUtf8, ConditionIsUtf8, FilterIsUtf8, LiteralsAreUtf8}
use Rattle.sql_ast.proofs.Utf8.{canonical_is_utf8}
use Rattle.sql_parts.specs.Scopes.{Ground, ground, Scope, outermost, inner, list_of}
use Rattle.sql_parts.specs.Emitted.{side, less_test, greater_test, signed, args_of, entry_param, moved_opnd, moved, moved_filter, within_query, FlagCondition, literal, formula, joined_from, joined, limit_tests, limits, best_tests, conditions, no_flag, flag_loops, flag_exists, flag_condition, where_of, query_by, query_of}
use Rattle.sql_parts.specs.Given.{LiteralIsUtf8, AtomIsUtf8, TextsAreUtf8, QueriesAreUtf8}
use Rattle.sql_build.specs.Types.{type_of}
use Rattle.sql_parts.specs.Numbered.{filter_in, filter_uses, first_uses, renumbered_opnd, renumbered, renumbered_filter, with_filter}
use Rattle.sql_parts.proofs.Flags.{start_valid}
use Rattle.sql_parts.proofs.Good.{all_both}
use Rattle.sql_parts.proofs.Valid.{IsValidMember, all_members}

-- ---- conditions that are numbered on, or anew

entry_is : (o : Option ℕ) → OperandIsUtf8 (entry_param o)
entry_is None = tt
entry_is (Some k) = tt

moved_opnd_is : (n : ℕ) (args : List ℕ) (a : SqlOpnd) → OperandIsUtf8 a → OperandIsUtf8 (moved_opnd n args a)
moved_opnd_is n args (opnds.Column col) h = tt
moved_opnd_is n args (opnds.Lit x) h = h
moved_opnd_is n args (opnds.Param m) h = entry_is (nth args m)

mutual
  moved_is : (n : ℕ) (args : List ℕ) (t : Condition) → ConditionIsUtf8 t → ConditionIsUtf8 (moved n args t)
  moved_is n args (sql.Both a b) h = (moved_is n args a h.0, moved_is n args b h.1)
  moved_is n args (sql.Either a b) h = (moved_is n args a h.0, moved_is n args b h.1)
  moved_is n args (Not a) h = moved_is n args a h
  moved_is n args (Compare cmp a b) h = (moved_opnd_is n args a h.0, moved_opnd_is n args b h.1)
  moved_is n args (Bare col) h = tt
  moved_is n args (Exists from f) h = moved_filter_is n args f h
  moved_is n args (Within a negated col from f) h = (moved_opnd_is n args a h.0, moved_filter_is n args f h.1)

  moved_filter_is : (n : ℕ) (args : List ℕ) (f : Filter) → FilterIsUtf8 f → FilterIsUtf8 (moved_filter n args f)
  moved_filter_is n args Everything h = tt
  moved_filter_is n args (Where a) h = moved_is n args a h

renumbered_opnd_is : (order : List ℕ) (a : SqlOpnd) → OperandIsUtf8 a → OperandIsUtf8 (renumbered_opnd order a)
renumbered_opnd_is order (opnds.Column col) h = tt
renumbered_opnd_is order (opnds.Lit x) h = h
renumbered_opnd_is order (opnds.Param m) h = tt

mutual
  renumbered_is : (order : List ℕ) (t : Condition) → ConditionIsUtf8 t → ConditionIsUtf8 (renumbered order t)
  renumbered_is order (sql.Both a b) h = (renumbered_is order a h.0, renumbered_is order b h.1)
  renumbered_is order (sql.Either a b) h = (renumbered_is order a h.0, renumbered_is order b h.1)
  renumbered_is order (Not a) h = renumbered_is order a h
  renumbered_is order (Compare cmp a b) h = (renumbered_opnd_is order a h.0, renumbered_opnd_is order b h.1)
  renumbered_is order (Bare col) h = tt
  renumbered_is order (Exists from f) h = renumbered_filter_is order f h
  renumbered_is order (Within a negated col from f) h = (renumbered_opnd_is order a h.0, renumbered_filter_is order f h.1)

  renumbered_filter_is : (order : List ℕ) (f : Filter) → FilterIsUtf8 f → FilterIsUtf8 (renumbered_filter order f)
  renumbered_filter_is order Everything h = tt
  renumbered_filter_is order (Where a) h = renumbered_is order a h

with_filter_is : (q : PlainQuery) (f : Filter) (types : List _) → FilterIsUtf8 f → LiteralsAreUtf8 (with_filter q f types)
with_filter_is (Listing q) f types h = h
with_filter_is (Number q) f types h = h
with_filter_is (Truth q) f types h = h

-- ---- what is emitted

module _ (schema : Schema) (f : Fragment) (cand : List ℕ) (known : List PlainQuery) (args : List (List ℕ)) (v : IsValid f) (texts : TextsAreUtf8 f known) where
  abbrev g : Ground
  g = ground schema f cand known args

  side_is : (s : Scope) (a : Operand) → LiteralIsUtf8 a → OperandIsUtf8 (side g s a)
  side_is s (operands.Field j c) h = tt
  side_is s (operands.Entry k) h = tt
  side_is s (operands.Lit x) h = h

  within_is : (s : Scope) (a : Operand) (n : ℕ) (h : Bool) → LiteralIsUtf8 a → ConditionIsUtf8 (within_query g s a (args_of (slice_get args n)) (slice_get known n) h)
  within_is s a n h i = go (slice_get known n) refl
    where
      go : (o : Option PlainQuery) → slice_get known n ≡ o → ConditionIsUtf8 (within_query g s a (args_of (slice_get args n)) o h)
      go None e = (tt, tt)
      go (Some (Listing q)) e =
          let own : FilterIsUtf8 q.filter = all_at LiteralsAreUtf8 known n (Listing q) texts.of_known e in
          (side_is s a i, moved_filter_is s.count (args_of (slice_get args n)) q.filter own)
      go (Some (Number q)) e = (tt, tt)
      go (Some (Truth q)) e = (tt, tt)

  signed_is : (h : Bool) (t : Condition) → ConditionIsUtf8 t → ConditionIsUtf8 (signed h t)
  signed_is true t p = p
  signed_is false t p = p

  best_is : (s : Scope) (u : Update) (start : Option Scalar) → start_is_valid u start ≡ true → AllByRecursion ConditionIsUtf8 (best_tests g s u start)
  best_is s (updates.Best way e) (Some (constants.Long n)) h = ((tt, tt), tt)
  best_is s (updates.Best way e) (Some (constants.Bool b)) h = absurd cc
  best_is s (updates.Best way e) (Some (constants.Text t)) h = absurd cc
  best_is s (updates.Best way e) None h = tt
  best_is s (updates.Push e) start h = tt
  best_is s (updates.PushNew e) start h = tt
  best_is s updates.Tick start h = tt
  best_is s (updates.Plus e) start h = tt
  best_is s updates.Mark start h = tt

  tests_are : (n : ℕ) (keys : List Col) (limit : Option ℕ) → AllByRecursion ConditionIsUtf8 (limit_tests n keys limit)
  tests_are n [] None = tt
  tests_are n [] (Some l) = ((tt, tt), tt)
  tests_are n (k ∷ keys) limit = tt

  limits_are : (n : ℕ) (js : List ℕ) → AllByRecursion ConditionIsUtf8 (limits g n js)
  limits_are n [] = tt
  limits_are n (j ∷ js) = all_both ConditionIsUtf8 (limit_tests (suc n) (list_of g j).keys (list_of g j).limit) (limits g (suc n) js) (tests_are (suc n) (list_of g j).keys (list_of g j).limit) (limits_are (suc n) js)

  module _ (flag : FlagCondition) (flags : (s : Scope) (k : ℕ) → ConditionIsUtf8 (flag s k)) where
    less_is : (s : Scope) (a b : Operand) (h left : Bool) → LiteralIsUtf8 a → LiteralIsUtf8 b → ConditionIsUtf8 (cond left (Compare (less_test h) (side g s a) (side g s b)) (Compare (greater_test h) (side g s b) (side g s a)))
    less_is s a b h true i j = (side_is s a i, side_is s b j)
    less_is s a b h false i j = (side_is s b j, side_is s a i)

    atom_is : (s : Scope) (a : Atom) (h : Bool) → AtomIsUtf8 a → ConditionIsUtf8 (literal flag g s (Some a) h)
    atom_is s (atoms.Less a b) h i = less_is s a b h (is_field a || not (is_field b)) i.0 i.1
    atom_is s (atoms.Same a b) h i = (side_is s a i.0, side_is s b i.1)
    atom_is s (atoms.Truth a) h i = (side_is s a i, tt)
    atom_is s (atoms.Member a n) h i = within_is s a n h i
    atom_is s (atoms.Flag k loops) h i = signed_is h (flag s k) (flags s k)

    literal_is : (s : Scope) (k : ℕ) (h : Bool) → ConditionIsUtf8 (literal flag g s (slice_get f.atoms k) h)
    literal_is s k h = go (slice_get f.atoms k) refl
      where
        go : (o : Option Atom) → slice_get f.atoms k ≡ o → ConditionIsUtf8 (literal flag g s o h)
        go None e = (tt, tt)
        go (Some a) e = atom_is s a h (all_at AtomIsUtf8 f.atoms k a texts.own e)

    formula_is : (s : Scope) (p : Form) → ConditionIsUtf8 (formula flag g s p)
    formula_is s (Is k h) = literal_is s k h
    formula_is s (Both p q) = (formula_is s p, formula_is s q)
    formula_is s (Either p q) = (formula_is s p, formula_is s q)

    formulas_are : (s : Scope) (ps : List Form) → AllByRecursion ConditionIsUtf8 (map (formula flag g s) ps)
    formulas_are s [] = tt
    formulas_are s (p ∷ ps) = (formula_is s p, formulas_are s ps)

    conditions_are : (s : Scope) (n : ℕ) (own : List ℕ) (m : Member) → IsValidMember f m → AllByRecursion ConditionIsUtf8 (conditions flag g s n own m)
    conditions_are s n own m is =
        all_both ConditionIsUtf8 (limits g n own) (map (formula flag g s) m.1 ++ best_tests g s m.0.update m.0.start) (limits_are n own)
        (all_both ConditionIsUtf8 (map (formula flag g s) m.1) (best_tests g s m.0.update m.0.start) (formulas_are s m.1) (best_is s m.0.update m.0.start (start_valid f m.0 is.valid)))

  joined_is : (ds : List Condition) → AllByRecursion ConditionIsUtf8 ds → FilterIsUtf8 (joined ds)
  joined_is [] h = tt
  joined_is (d ∷ ds) h = go d ds h.0 h.1
    where
      go : (d : Condition) (ds : List Condition) → ConditionIsUtf8 d → AllByRecursion ConditionIsUtf8 ds → ConditionIsUtf8 (joined_from d ds)
      go d [] h k = h
      go d (e ∷ ds) h k = go (sql.Both d e) ds (h, k.0) k.1

  member_is : (k : ℕ) (m : Member) → slice_get (members f cand) k ≡ Some m → IsValidMember f m
  member_is k m e = all_at (IsValidMember f) (members f cand) k m (all_members f cand v) e

  flag_is : (s : Scope) (k : ℕ) → ConditionIsUtf8 (flag_condition g s k)
  flag_is s k = go (slice_get (members f cand) k) refl
    where
      go : (o : Option Member) → slice_get (members f cand) k ≡ o → ConditionIsUtf8 (flag_exists g s o)
      go None e = (tt, tt)
      go (Some m) e =
          joined_is (conditions no_flag g (inner s (flag_loops m)) s.count (flag_loops m) m)
          (conditions_are no_flag (λ s k. (tt, tt)) (inner s (flag_loops m)) s.count (flag_loops m) m (member_is k m e))

  where_is : (m : Member) → IsValidMember f m → FilterIsUtf8 (where_of g m)
  where_is m is = joined_is (conditions (flag_condition g) g (outermost m.0.chain) 0 m.0.chain m) (conditions_are (flag_condition g) flag_is (outermost m.0.chain) 0 m.0.chain m is)

  filter_utf8 : (u : Update) (m : Member) (filter_ : Filter) → FilterIsUtf8 filter_ → FilterIsUtf8 (filter_in (query_by u g m filter_))
  filter_utf8 (updates.Push e) m filter_ h = h
  filter_utf8 (updates.PushNew e) m filter_ h = h
  filter_utf8 updates.Tick m filter_ h = h
  filter_utf8 (updates.Plus e) m filter_ h = h
  filter_utf8 (updates.Best way e) m filter_ h = h
  filter_utf8 updates.Mark m filter_ h = h

  literals_are : (acc : ℕ) (m : Member) → slice_get (members f cand) acc ≡ Some m → (order : List ℕ) (types : List _) → LiteralsAreUtf8 (with_filter (query_of g m) (renumbered_filter order (filter_in (query_of g m))) types)
  literals_are acc m e order types =
      with_filter_is (query_of g m) (renumbered_filter order (filter_in (query_of g m))) types
      (renumbered_filter_is order (filter_in (query_of g m)) (filter_utf8 m.0.update m (where_of g m) (where_is m (member_is acc m e))))

pub queries_are_utf8 : (schema : Schema) (f : Fragment) (known : List PlainQuery) (args : List (List ℕ)) → broken f ≡ None → TextsAreUtf8 f known → QueriesAreUtf8 schema f known args
queries_are_utf8 schema f known args unbroken texts cand acc m there =
    let q : PlainQuery = query_of (ground schema f cand known args) m in
    let order : List ℕ = first_uses [] (filter_uses (filter_in q)) in
    let literals = literals_are schema f cand known args (valid f unbroken) texts acc m there order (map (λ k. type_of (slice_get f.entries k)) order) in
    record { literals = literals; text = λ is. canonical_is_utf8 schema _ is literals }
