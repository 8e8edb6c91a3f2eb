-- The entries and the known lists of a lowered fragment: each entry is an entry value, whose field is a column, and each
-- known list is known at some `if`.
use Rattle.std.proofs.Common.{◌≡◌, ℕ, Bool, true, false, not, ◌&&◌, ◌||◌, List, [], ◌∷◌, ◌++◌, Option, Some, None, sym, ap, ◌∙◌, subst, cond}
use Rattle.std.specs.List.{AllByRecursion, list_any}
use Rattle.std.proofs.lemmas.Bool.{and_parts}
use Rattle.qbs_base.specs.declared.span.Span.{Span}
use Rattle.qbs_base.specs.Values.{Schema}
use Rattle.sql_ast.specs.Tree.{PlainQuery}
use Rattle.sql_ast.proofs.Combinations.{all_append}
use Rattle.java_ast.specs.Tree as tree
use Rattle.java_ast.specs.Tree.{Spelled, Expression, Expressions, NoMore, And, Statement, Statements, Nothing, Then}
use Rattle.java_mean.specs.declared.types.JavaType.{JavaType}
use Rattle.java_mean.specs.Places as places
use Rattle.java_mean.specs.Places.{step, in_expression, is_nothing}
use Rattle.java_mean.specs.Refines.{followed_by}
use Rattle.java_mean.specs.Rules.{at_of}
use Rattle.java_mean.specs.Types.{Types, types_after, types_past}
use Rattle.java_mean.specs.Typing.{Extends}
use Rattle.java_mean.specs.Visible.{Visible, after}
use Rattle.java_mean.proofs.Faultless.{none_at, Sees}
use Rattle.java_loops.specs.Walks.Runs.{Gives, declares, assigns}
use Rattle.java_loops.proofs.Walks.Visibility.{past_followed}
use Rattle.loop_text.specs.Statements.Fragment.{Fragment}
use Rattle.loop_text.specs.Kernel.KernelConditions.{is_literal, is_row_column, is_compared, Asked, asked_for, behind_setting}
use Rattle.java_loops.specs.Kernel.KernelConditions.{is_entry, is_operand, broken_operand, broken_comparison, broken_leaf, broken_conditions, is_known, are_entries}
use Rattle.java_ast.specs.Names.{Names, is_among}
use Rattle.java_loops.specs.Lowering.Numbering.{with_new, with_all_new, Leaf, all_leaves, same_entry, entry_operand, entries_in, entries_among, known_with, known_among, arguments, arguments_asked, with_arguments, known_of, entries_of}
use Rattle.java_loops.specs.Kernel.Setting.{Setting, setting_of}
use Rattle.loop_text.specs.Sites.Sites.{first_place, place_where, sites_of}
use Rattle.java_loops.proofs.Known.KnownEntries.{FieldKnown}
use Rattle.java_loops.proofs.Known.KnownLeaves.{SeenExpression, operands_seen, texts_seen, set_of_seen, AllSeenIn, arguments_seen, field_known, IsGoodLeaf, all_leaves_good}
use Rattle.java_loops.proofs.Known.KnownLists.{AsksBy, as_list, as_set, IsAskedFor, IsKnownList, known_list}
use Rattle.java_loops.proofs.Listed.ListedRows.{IsSeenFragment, all_sites_seen}
use Rattle.java_loops.proofs.Listed.ListedSeen.{IsClean, AreClean, SeenAt, first_clean, sees_after, seen_past}
use Rattle.java_loops.proofs.Listed.ListedWalk.{extends_after, extends_both}
use Rattle.java_loops.proofs.Nested.NestRules.{true_from_not}
use Rattle.java_loops.proofs.Placing.Place.{followed_by-assoc}
use Rattle.java_loops.proofs.Standing.StandingRules.{first_none, none_where}

-- ---- Entries and known lists

-- the expression is an entry value at some `if`, and the field of a row a column
pub record IsGoodEntry (w : Setting) (e : Expression) : Type 0 where
  pub number : ℕ
  pub entry : is_entry w number e ≡ true
  pub known : FieldKnown w.schema w.types e

-- the variable is a known list at some `if`
pub record IsGoodKnown (w : Setting) (x : List ℕ) : Type 0 where
  pub number : ℕ
  pub known : is_known w number x ≡ true

module _ {A : Type 0} (P : A → Type 0) (same : A → A → Bool) where
  new_where : (xs : List A) (x : A) (t : Bool) → AllByRecursion P xs → P x → AllByRecursion P (cond t xs (xs ++ x ∷ []))
  new_where xs x true h k = h
  new_where xs x false h k = all_append P xs (x ∷ []) h (k, tt)

  all_new : (xs ys : List A) → AllByRecursion P xs → AllByRecursion P ys → AllByRecursion P (with_all_new same xs ys)
  all_new xs [] h k = h
  all_new xs (y ∷ ys) h k = all_new (with_new same xs y) ys (new_where xs y (list_any (same y) xs) h k.0) k.1

-- ---- Operands

module _ (w : Setting) (r : Option Spelled) where
  abbrev Seen : Expression → Type 0
  Seen e = SeenExpression w.schema w.read r w.types e

  operand_where : (n : ℕ) (e : Expression) (column literal entry : Bool) → (column || (literal || entry)) ≡ true → (entry ≡ true → IsGoodEntry w e) → AllByRecursion (IsGoodEntry w) (cond (column || literal) [] (e ∷ []))
  operand_where n e true literal entry h k = tt
  operand_where n e false true entry h k = tt
  operand_where n e false false entry h k = (k h, tt)

  operand_good : (n : ℕ) (e : Expression) → broken_operand w n e ≡ None → Seen e → AllByRecursion (IsGoodEntry w) (entry_operand w.sites n e)
  operand_good n e h k =
      operand_where n e (is_row_column w.sites n e) (is_literal e) (is_entry w n e) (true_from_not (is_operand w n e) (none_where (not (is_operand w n e)) (at_of e) h)) (λ i. record { number = n; entry = i; known = field_known w.schema w.read r w.types e k })

  comparison_good : (n : ℕ) (at : Span) (a b : Expression) → broken_comparison w n at a b ≡ None → Seen a → Seen b → AllByRecursion (IsGoodEntry w) (entry_operand w.sites n a ++ entry_operand w.sites n b)
  comparison_good n at a b h k l =
      let last = place_where (not (is_row_column w.sites n a || is_row_column w.sites n b)) at in
      let two = first_none (broken_operand w n a) (first_place (broken_operand w n b) last) h in
      let more = first_none (broken_operand w n b) last two.1 in
      all_append (IsGoodEntry w) (entry_operand w.sites n a) (entry_operand w.sites n b) (operand_good n a two.0 k) (operand_good n b more.0 l)

  compared_where : (n : ℕ) (at : Span) (a b : Expression) (t : Bool) → cond t (broken_comparison w n at a b) (Some at) ≡ None → broken_comparison w n at a b ≡ None
  compared_where n at a b true h = h
  compared_where n at a b false h = absurd cc

  leaf_entries_good : (n : ℕ) (e : Expression) → broken_leaf w n e ≡ None → Seen e → AllByRecursion (IsGoodEntry w) (entries_in w.sites n e)
  leaf_entries_good n (tree.Binary at op a b) h k =
      let two = operands_seen w.schema w.read r w.types at op a b k in
      comparison_good n at a b (compared_where n at a b (is_compared op) h) two.0 two.1
  leaf_entries_good n (tree.Equals at a b) h k =
      let two = texts_seen w.schema w.read r w.types at a b k in
      comparison_good n at a b h two.0 two.1
  leaf_entries_good n (tree.Lit at x) h k = tt
  leaf_entries_good n (tree.Var at x) h k = tt
  leaf_entries_good n (tree.Field at e m) h k = tt
  leaf_entries_good n (tree.Not at e) h k = tt
  leaf_entries_good n (tree.Size at x) h k = tt
  leaf_entries_good n (tree.Get at x e) h k = tt
  leaf_entries_good n (tree.Contains at x e) h k = tt
  leaf_entries_good n (tree.Fetch at m) h k = tt
  leaf_entries_good n (tree.Query at ty text es) h k = tt
  leaf_entries_good n (tree.QueryLong at text es) h k = tt
  leaf_entries_good n (tree.QueryBoolean at text es) h k = tt
  leaf_entries_good n (tree.NewList at) h k = tt
  leaf_entries_good n (tree.NewSet at) h k = tt
  leaf_entries_good n (tree.NewSetOf at e) h k = tt

  entries_among_good : (es : List Expression) (ls : List Leaf) → AllByRecursion (IsGoodEntry w) es → AllByRecursion (IsGoodLeaf w.schema w.read r w.types w) ls → AllByRecursion (IsGoodEntry w) (entries_among w.sites es ls)
  entries_among_good es [] h k = h
  entries_among_good es (l ∷ ls) h k =
      entries_among_good (with_all_new same_entry es (entries_in w.sites l.number l.expression)) ls (all_new (IsGoodEntry w) same_entry es (entries_in w.sites l.number l.expression) h (leaf_entries_good l.number l.expression k.0.form k.0.seen)) k.1

  -- ---- Known lists

  name_where : (ids : Names) (x : List ℕ) (t : Bool) → AllByRecursion (IsGoodKnown w) ids → IsGoodKnown w x → AllByRecursion (IsGoodKnown w) (cond t ids (ids ++ x ∷ []))
  name_where ids x true h k = h
  name_where ids x false h k = all_append (IsGoodKnown w) ids (x ∷ []) h (k, tt)

  leaf_known_good : (n : ℕ) (e : Expression) (ids : Names) → broken_leaf w n e ≡ None → AllByRecursion (IsGoodKnown w) ids → AllByRecursion (IsGoodKnown w) (known_with ids e)
  leaf_known_good n (tree.Contains at x e) ids h all =
      let two = and_parts (is_row_column w.sites n e) (is_known w n x) (true_from_not (is_row_column w.sites n e && is_known w n x) (none_where (not (is_row_column w.sites n e && is_known w n x)) at h)) in
      name_where ids x (is_among ids x) all (record { number = n; known = two.1 })
  leaf_known_good n (tree.Lit at x) ids h all = all
  leaf_known_good n (tree.Var at x) ids h all = all
  leaf_known_good n (tree.Field at e m) ids h all = all
  leaf_known_good n (tree.Binary at op a b) ids h all = all
  leaf_known_good n (tree.Not at e) ids h all = all
  leaf_known_good n (tree.Equals at a b) ids h all = all
  leaf_known_good n (tree.Size at x) ids h all = all
  leaf_known_good n (tree.Get at x e) ids h all = all
  leaf_known_good n (tree.Fetch at m) ids h all = all
  leaf_known_good n (tree.Query at ty text es) ids h all = all
  leaf_known_good n (tree.QueryLong at text es) ids h all = all
  leaf_known_good n (tree.QueryBoolean at text es) ids h all = all
  leaf_known_good n (tree.NewList at) ids h all = all
  leaf_known_good n (tree.NewSet at) ids h all = all
  leaf_known_good n (tree.NewSetOf at e) ids h all = all

  known_among_good : (ids : Names) (ls : List Leaf) → AllByRecursion (IsGoodKnown w) ids → AllByRecursion (IsGoodLeaf w.schema w.read r w.types w) ls → AllByRecursion (IsGoodKnown w) (known_among ids ls)
  known_among_good ids [] h k = h
  known_among_good ids (l ∷ ls) h k = known_among_good (known_with ids l.expression) ls (leaf_known_good l.number l.expression ids k.0.form h) k.1

  -- ---- Arguments

  arguments_good : (n : ℕ) (vs : Visible) (there : Types) (es : Expressions) → are_entries w n es ≡ true → AllSeenIn w.schema w.read r w.types vs there es → AllByRecursion (IsGoodEntry w) (arguments es)
  arguments_good n vs there NoMore h k = tt
  arguments_good n vs there (And e es) h k =
      let two = and_parts (is_entry w n e) (are_entries w n es) h in
      (record { number = n; entry = two.0; known = field_known w.schema w.read r w.types e k.0 }, arguments_good n vs there es two.1 k.1)

  asked_good : (n : ℕ) (a : Asked) (set : Bool) (e : Expression) → AsksBy a set e → are_entries w n a.arguments ≡ true → Seen e → AllByRecursion (IsGoodEntry w) (arguments a.arguments)
  asked_good n a _ _ (as_list at ty) h k = arguments_good n k.visible k.there a.arguments h (arguments_seen w.schema w.read r w.types at ty a.text a.arguments k)
  asked_good n a _ _ (as_set at at' ty) h k =
      let q = set_of_seen w.schema w.read r w.types at (tree.Query at' ty a.text a.arguments) k in
      arguments_good n q.visible q.there a.arguments h (arguments_seen w.schema w.read r w.types at' ty a.text a.arguments q)

  with_arguments_good : (es : List Expression) (ids : Names) → AllByRecursion (IsGoodEntry w) es → AllByRecursion (λ x. AllByRecursion (IsGoodEntry w) (arguments_asked (asked_for w.fragment.run x))) ids → AllByRecursion (IsGoodEntry w) (with_arguments w.fragment.run es ids)
  with_arguments_good es [] h k = h
  with_arguments_good es (x ∷ ids) h k = with_arguments_good (with_all_new same_entry es (arguments_asked (asked_for w.fragment.run x))) ids (all_new (IsGoodEntry w) same_entry es (arguments_asked (asked_for w.fragment.run x)) h k.0) k.1

-- ---- What the run gives

module _ (schema : Schema) (read : List ℕ → Option PlainQuery) (r : Option Spelled) where
  extends_past : (p q : Statements) (vs : Visible) (g : Types) (w : places.Around) → Sees vs g → AreClean schema read r vs w (followed_by p q) → Extends (types_past schema g p) g
  extends_past Nothing q vs g w s h = λ x k i. i
  extends_past (Then a p) q vs g w s h =
      let two = first_clean schema read r vs w a (followed_by p q) h in
      extends_both schema read r g (types_past schema (types_after schema g a) p) (types_after schema g a) g
      (extends_past p q (after schema vs a) (types_after schema g a) w (sees_after schema read r vs g w (is_nothing (followed_by p q)) a s two.0) two.1)
      (extends_after schema read r g vs g w (is_nothing (followed_by p q)) a s two.0)

  some_same : (o : Option JavaType) (j k : JavaType) → o ≡ Some j → o ≡ Some k → j ≡ k
  some_same o j k e h = cc

  given_seen : (types g : Types) (vs : Visible) (w : places.Around) (last : Bool) (a : Statement) (x : List ℕ) (e : Expression) → Gives a x e → Sees vs g → Extends types g → IsClean schema read r vs w last a → SeenExpression schema read r types e
  given_seen types g vs w last _ _ _ (declares at ty x e) s i h =
      let n = none_at schema read r (step vs w last (tree.Declare at ty x e)) (in_expression vs e) h in
      record { visible = vs; there = g; sees = s; agrees = λ y j k p q. some_same (types y) j k (i y j p) q; clean = n.right }
  given_seen types g vs w last _ _ _ (assigns at x e) s i h =
      let n = none_at schema read r (step vs w last (tree.Assign at x e)) (in_expression vs e) h in
      record { visible = vs; there = g; sees = s; agrees = λ y j k p q. some_same (types y) j k (i y j p) q; clean = n.right }

  -- what a statement of the run gives breaks no rule of types
  run_gives_seen : (before : Types) (run rest front : Statements) (a : Statement) (back : Statements) (x : List ℕ) (e : Expression) → Gives a x e → run ≡ followed_by front (Then a back) → SeenAt schema read r before (followed_by run rest) → SeenExpression schema read r (types_past schema before run) e
  run_gives_seen before run rest front a back x e gives is k =
      let whole : followed_by run rest ≡ followed_by front (Then a (followed_by back rest)) = ap (λ p. followed_by p rest) is ∙ followed_by-assoc front (Then a back) rest in
      let clean : AreClean schema read r k.visible k.around (followed_by front (Then a (followed_by back rest))) = subst (AreClean schema read r k.visible k.around) whole k.clean in
      let middle : SeenAt schema read r (types_past schema before front) (Then a (followed_by back rest)) = seen_past schema read r front (Then a (followed_by back rest)) k.visible before k.around k.sees clean in
      let first = first_clean schema read r middle.visible middle.around a (followed_by back rest) middle.clean in
      let extends : Extends (types_past schema (types_past schema before front) (Then a back)) (types_past schema before front) = extends_past (Then a back) rest middle.visible (types_past schema before front) middle.around middle.sees middle.clean in
      let same : types_past schema before run ≡ types_past schema (types_past schema before front) (Then a back) = ap (types_past schema before) is ∙ past_followed schema before front (Then a back) in
      given_seen (types_past schema before run) (types_past schema before front) middle.visible middle.around (is_nothing (followed_by back rest)) a x e gives middle.sees (subst (λ g. Extends g (types_past schema before front)) (sym same) extends) first.0

-- ---- Of a fragment

module _ (schema : Schema) (read : List ℕ → Option PlainQuery) (f : Fragment) (g : Types) (k : IsSeenFragment schema read f g) (conditions : broken_conditions (setting_of schema read g f) ≡ None) where
  abbrev at_fragment : Setting
  at_fragment = setting_of schema read g f

  known_arguments : (x : List ℕ) → IsGoodKnown at_fragment x → AllByRecursion (IsGoodEntry at_fragment) (arguments_asked (asked_for f.run x))
  known_arguments x h =
      let l : IsKnownList at_fragment h.number x = known_list at_fragment h.number x h.known in
      let q : IsAskedFor f.run x l.asked = l.asks in
      let seen : SeenExpression schema read k.result (types_past schema k.before f.run) q.value = run_gives_seen schema read k.result k.before f.run (Then f.loop k.behind) q.before q.statement (behind_setting x f.run) x q.value q.gives q.is k.seen in
      let good : AllByRecursion (IsGoodEntry at_fragment) (arguments l.asked.arguments) = asked_good at_fragment k.result h.number l.asked q.asks.set q.value q.asks.form l.entries (subst (λ z. SeenExpression schema read k.result z q.value) (sym k.is) seen) in
      subst (λ o. AllByRecursion (IsGoodEntry at_fragment) (arguments_asked o)) (sym l.is) good

  -- the arguments of known lists are entry values
  pub all_arguments : (ids : Names) → AllByRecursion (IsGoodKnown at_fragment) ids → AllByRecursion (λ x. AllByRecursion (IsGoodEntry at_fragment) (arguments_asked (asked_for f.run x))) ids
  all_arguments [] h = tt
  all_arguments (x ∷ ids) h = (known_arguments x h.0, all_arguments ids h.1)

  good_leaves : AllByRecursion (IsGoodLeaf schema read k.result g at_fragment) (all_leaves (sites_of f.loop))
  good_leaves = all_leaves_good schema read k.result g at_fragment conditions (all_sites_seen schema read f g k)

  leaf_entries : (ls : List Leaf) → AllByRecursion (IsGoodLeaf schema read k.result g at_fragment) ls → AllByRecursion (λ (l : Leaf). AllByRecursion (IsGoodEntry at_fragment) (entries_in (sites_of f.loop) l.number l.expression)) ls
  leaf_entries [] h = tt
  leaf_entries (l ∷ ls) h = (leaf_entries_good at_fragment k.result l.number l.expression h.0.form h.0.seen, leaf_entries ls h.1)

  -- the operands of leaves that are entries are entry values
  pub leaf_entries_are_good : AllByRecursion (λ (l : Leaf). AllByRecursion (IsGoodEntry (setting_of schema read g f)) (entries_in (sites_of f.loop) l.number l.expression)) (all_leaves (sites_of f.loop))
  leaf_entries_are_good = leaf_entries (all_leaves (sites_of f.loop)) good_leaves

  -- Each known list of the fragment is known at some `if`.
  pub known_lists_good : AllByRecursion (IsGoodKnown (setting_of schema read g f)) (known_of (setting_of schema read g f))
  known_lists_good = known_among_good at_fragment k.result [] (all_leaves (sites_of f.loop)) tt good_leaves

  -- Each entry of the fragment is an entry value.
  pub entries_good : AllByRecursion (IsGoodEntry (setting_of schema read g f)) (entries_of (setting_of schema read g f))
  entries_good =
      with_arguments_good at_fragment k.result (entries_among (sites_of f.loop) [] (all_leaves (sites_of f.loop))) (known_of at_fragment)
      (entries_among_good at_fragment k.result [] (all_leaves (sites_of f.loop)) tt good_leaves)
      (all_arguments (known_of at_fragment) known_lists_good)
