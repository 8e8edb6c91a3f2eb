-- What a lowered fragment is given at its loop: the values of its entries, and its known lists, each the answer of its
-- query to the entries with the numbers of its arguments.
use Rattle.std.proofs.Common.{◌≡◌, ℕ, suc, Bool, true, false, ◌&&◌, ◌||◌, List, [], ◌∷◌, ◌++◌, Option, Some, None, Ok, refl, ap, ◌∙◌, subst, cond}
use Rattle.std.specs.Prelude.{map, bytes_eq, slice_get}
use Rattle.std.specs.List.{AllByRecursion, list_any}
use Rattle.std.proofs.lemmas.Bool.{and_parts}
use Rattle.std.proofs.lemmas.List.Folds.{list_any-append}
use Rattle.qbs_base.specs.declared.scalar.Scalar.{Scalar}
use Rattle.qbs_base.specs.declared.scalar.Value.TheVariants.{One}
use Rattle.qbs_base.specs.declared.span.Span.{Span}
use Rattle.qbs_base.specs.Values.{Schema}
use Rattle.sql_ast.specs.Tree.{PlainQuery}
use Rattle.java_ast.specs.Tree as tree
use Rattle.java_ast.specs.Tree.{Expression, Expressions, NoMore, And, PlainMethod}
use Rattle.java_mean.specs.Asks.{frame_of}
use Rattle.java_mean.specs.Endings.{◌>>=◌, found}
use Rattle.java_mean.specs.Expression.{value_of, scalars_of, as_scalar, as_row, cell}
use Rattle.java_mean.specs.Statement.{State, GoesOn, meanings}
use Rattle.java_mean.specs.Store.{Store}
use Rattle.java_mean.specs.Types.{Types, IsTyped}
use Rattle.java_mean.specs.Typing.{IsWorld, TypedStatements}
use Rattle.java_mean.specs.World.{World}
use Rattle.java_mean.proofs.Puts.{names_equal, name_same}
use Rattle.java_loops.proofs.Walks.Passing.{same_ok}
use Rattle.loop_text.specs.Statements.Fragment.{Fragment, are_simple}
use Rattle.java_loops.specs.Kernel.KernelConditions.{is_entry, broken_conditions}
use Rattle.loop_text.specs.Kernel.KernelConditions.{asked_for}
use Rattle.java_loops.specs.Lowering.Lowered.{numbers_of_arguments}
use Rattle.java_ast.specs.Names.{Names}
use Rattle.java_loops.specs.Lowering.Numbering.{with_new, with_all_new, number_where, Leaf, all_leaves, same_entry, entries_in, entries_among, arguments, arguments_asked, with_arguments, known_of, entries_of, entry_number}
use Rattle.java_loops.specs.Kernel.Setting.{Setting, setting_of}
use Rattle.loop_text.specs.Sites.Sites.{sites_of}
use Rattle.java_loops.proofs.Known.KnownAnswers.{HoldsKnown, known_holds}
use Rattle.java_loops.proofs.Known.KnownEntries.{HasEntry, entry_has_value, HaveEntries, entries_have_values}
use Rattle.java_loops.proofs.Known.KnownLists.{IsKnownList, known_list}
use Rattle.java_loops.proofs.Known.KnownNumbers.{IsGoodEntry, IsGoodKnown, all_arguments, leaf_entries_are_good, known_lists_good, entries_good}
use Rattle.java_loops.proofs.Listed.ListedRows.{IsSeenFragment}

-- ---- One entry by two expressions

same_variable : (x y : List ℕ) (world : World) (store : Store) (at at' : Span) → bytes_eq x y ≡ true → value_of (tree.Var at x) world store ≡ value_of (tree.Var at' y) world store
same_variable x y world store at at' h = ap (λ z. value_of (tree.Var at z) world store) (names_equal x y h)

-- expressions that are one entry have one value
pub same_value : (e d : Expression) (world : World) (store : Store) → same_entry e d ≡ true → value_of e world store ≡ value_of d world store
same_value (tree.Var at x) (tree.Var at' y) world store h = same_variable x y world store at at' h
same_value (tree.Var at x) (tree.Lit at' y) world store h = absurd cc
same_value (tree.Var at x) (tree.Field at' e n) world store h = absurd cc
same_value (tree.Var at x) (tree.Binary at' op a b) world store h = absurd cc
same_value (tree.Var at x) (tree.Not at' e) world store h = absurd cc
same_value (tree.Var at x) (tree.Equals at' a b) world store h = absurd cc
same_value (tree.Var at x) (tree.Size at' y) world store h = absurd cc
same_value (tree.Var at x) (tree.Get at' y e) world store h = absurd cc
same_value (tree.Var at x) (tree.Contains at' y e) world store h = absurd cc
same_value (tree.Var at x) (tree.Fetch at' n) world store h = absurd cc
same_value (tree.Var at x) (tree.Query at' ty text es) world store h = absurd cc
same_value (tree.Var at x) (tree.QueryLong at' text es) world store h = absurd cc
same_value (tree.Var at x) (tree.QueryBoolean at' text es) world store h = absurd cc
same_value (tree.Var at x) (tree.NewList at') world store h = absurd cc
same_value (tree.Var at x) (tree.NewSet at') world store h = absurd cc
same_value (tree.Var at x) (tree.NewSetOf at' e) world store h = absurd cc
same_value (tree.Field at a f) (tree.Field at' b g) world store h =
    let two = and_parts (bytes_eq f g) (same_entry a b) h in
    ap (λ z. value_of (tree.Field at a z) world store) (names_equal f g two.0) ∙ ap (λ o. o >>= λ v. as_row v >>= λ row. found (cell world.schema row g) >>= λ y. Ok (One y)) (same_value a b world store two.1)
same_value (tree.Field at a f) (tree.Lit at' x) world store h = absurd cc
same_value (tree.Field at a f) (tree.Var at' x) world store h = absurd cc
same_value (tree.Field at a f) (tree.Binary at' op c d) world store h = absurd cc
same_value (tree.Field at a f) (tree.Not at' e) world store h = absurd cc
same_value (tree.Field at a f) (tree.Equals at' c d) world store h = absurd cc
same_value (tree.Field at a f) (tree.Size at' x) world store h = absurd cc
same_value (tree.Field at a f) (tree.Get at' x e) world store h = absurd cc
same_value (tree.Field at a f) (tree.Contains at' x e) world store h = absurd cc
same_value (tree.Field at a f) (tree.Fetch at' n) world store h = absurd cc
same_value (tree.Field at a f) (tree.Query at' ty text es) world store h = absurd cc
same_value (tree.Field at a f) (tree.QueryLong at' text es) world store h = absurd cc
same_value (tree.Field at a f) (tree.QueryBoolean at' text es) world store h = absurd cc
same_value (tree.Field at a f) (tree.NewList at') world store h = absurd cc
same_value (tree.Field at a f) (tree.NewSet at') world store h = absurd cc
same_value (tree.Field at a f) (tree.NewSetOf at' e) world store h = absurd cc
same_value (tree.Lit at x) d world store h = absurd cc
same_value (tree.Binary at op a b) d world store h = absurd cc
same_value (tree.Not at e) d world store h = absurd cc
same_value (tree.Equals at a b) d world store h = absurd cc
same_value (tree.Size at x) d world store h = absurd cc
same_value (tree.Get at x e) d world store h = absurd cc
same_value (tree.Contains at x e) d world store h = absurd cc
same_value (tree.Fetch at n) d world store h = absurd cc
same_value (tree.Query at ty text es) d world store h = absurd cc
same_value (tree.QueryLong at text es) d world store h = absurd cc
same_value (tree.QueryBoolean at text es) d world store h = absurd cc
same_value (tree.NewList at) d world store h = absurd cc
same_value (tree.NewSet at) d world store h = absurd cc
same_value (tree.NewSetOf at e) d world store h = absurd cc

-- an entry is itself
pub same_itself : (w : Setting) (n : ℕ) (e : Expression) → is_entry w n e ≡ true → same_entry e e ≡ true
same_itself w n (tree.Var at x) h = name_same x
same_itself w n (tree.Field at (tree.Var at' x) f) h = ap (λ b. b && bytes_eq x x) (name_same f) ∙ name_same x
same_itself w n (tree.Field at (tree.Lit at' x) f) h = absurd cc
same_itself w n (tree.Field at (tree.Field at' e m) f) h = absurd cc
same_itself w n (tree.Field at (tree.Binary at' op a b) f) h = absurd cc
same_itself w n (tree.Field at (tree.Not at' e) f) h = absurd cc
same_itself w n (tree.Field at (tree.Equals at' a b) f) h = absurd cc
same_itself w n (tree.Field at (tree.Size at' x) f) h = absurd cc
same_itself w n (tree.Field at (tree.Get at' x e) f) h = absurd cc
same_itself w n (tree.Field at (tree.Contains at' x e) f) h = absurd cc
same_itself w n (tree.Field at (tree.Fetch at' m) f) h = absurd cc
same_itself w n (tree.Field at (tree.Query at' ty text es) f) h = absurd cc
same_itself w n (tree.Field at (tree.QueryLong at' text es) f) h = absurd cc
same_itself w n (tree.Field at (tree.QueryBoolean at' text es) f) h = absurd cc
same_itself w n (tree.Field at (tree.NewList at') f) h = absurd cc
same_itself w n (tree.Field at (tree.NewSet at') f) h = absurd cc
same_itself w n (tree.Field at (tree.NewSetOf at' e) f) h = absurd cc
same_itself w n (tree.Lit at x) h = absurd cc
same_itself w n (tree.Binary at op a b) h = absurd cc
same_itself w n (tree.Not at e) h = absurd cc
same_itself w n (tree.Equals at a b) h = absurd cc
same_itself w n (tree.Size at x) h = absurd cc
same_itself w n (tree.Get at x e) h = absurd cc
same_itself w n (tree.Contains at x e) h = absurd cc
same_itself w n (tree.Fetch at m) h = absurd cc
same_itself w n (tree.Query at ty text es) h = absurd cc
same_itself w n (tree.QueryLong at text es) h = absurd cc
same_itself w n (tree.QueryBoolean at text es) h = absurd cc
same_itself w n (tree.NewList at) h = absurd cc
same_itself w n (tree.NewSet at) h = absurd cc
same_itself w n (tree.NewSetOf at e) h = absurd cc

-- ---- Members of lists without repetition

or_left : (a b : Bool) → a ≡ true → (a || b) ≡ true
or_left true b e = refl
or_left false b e = absurd cc

or_right : (a b : Bool) → b ≡ true → (a || b) ≡ true
or_right true b e = refl
or_right false b e = e

module _ {A : Type 0} (same : A → A → Bool) where
  kept_where : (xs : List A) (x e : A) (t : Bool) → list_any (same e) xs ≡ true → list_any (same e) (cond t xs (xs ++ x ∷ [])) ≡ true
  kept_where xs x e true h = h
  kept_where xs x e false h = list_any-append (same e) xs (x ∷ []) ∙ or_left (list_any (same e) xs) (list_any (same e) (x ∷ [])) h

  pub kept_in : (ys xs : List A) (e : A) → list_any (same e) xs ≡ true → list_any (same e) (with_all_new same xs ys) ≡ true
  kept_in [] xs e h = h
  kept_in (y ∷ ys) xs e h = kept_in ys (with_new same xs y) e (kept_where xs y e (list_any (same y) xs) h)

  added_where : (xs : List A) (x : A) (t : Bool) → list_any (same x) xs ≡ t → same x x ≡ true → list_any (same x) (cond t xs (xs ++ x ∷ [])) ≡ true
  added_where xs x true e h = e
  added_where xs x false e h = list_any-append (same x) xs (x ∷ []) ∙ or_right (list_any (same x) xs) (list_any (same x) (x ∷ [])) (or_left (same x x) false h)

  pub added_in : (ys xs : List A) → AllByRecursion (λ e. same e e ≡ true) ys → AllByRecursion (λ e. list_any (same e) (with_all_new same xs ys) ≡ true) ys
  added_in [] xs h = tt
  added_in (y ∷ ys) xs h = (kept_in ys (with_new same xs y) y (added_where xs y (list_any (same y) xs) refl h.0), added_in ys (with_new same xs y) h.1)

number_here : {A : Type 0} (test : A → Bool) (x : A) (xs : List A) (t : Bool) → test x ≡ t → (t || list_any test xs) ≡ true → (list_any test xs ≡ true → (y : A) × (slice_get xs (number_where test xs) ≡ Some y) × (test y ≡ true)) → (y : A) × (slice_get (x ∷ xs) (cond t 0 (suc (number_where test xs))) ≡ Some y) × (test y ≡ true)
number_here test x xs true e h ih = (x, refl, e)
number_here test x xs false e h ih = let k = ih h in (k.0, k.1, k.2)

-- the first member that passes has its number
pub number_found : {A : Type 0} (test : A → Bool) (xs : List A) → list_any test xs ≡ true → (y : A) × (slice_get xs (number_where test xs) ≡ Some y) × (test y ≡ true)
number_found test [] h = absurd cc
number_found test (x ∷ xs) h = number_here test x xs (test x) refl h (number_found test xs)

all_mapped : {A : Type 0} (P Q : A → Type 0) → ((x : A) → P x → Q x) → (xs : List A) → AllByRecursion P xs → AllByRecursion Q xs
all_mapped P Q f [] h = tt
all_mapped P Q f (x ∷ xs) h = (f x h.0, all_mapped P Q f xs h.1)

-- ---- The entries of the fragment

module _ (w : Setting) where
  abbrev IsFound : List Expression → Expression → Type 0
  IsFound entries e = list_any (same_entry e) entries ≡ true

  found_further : (es : List Expression) (ids : Names) (e : Expression) → IsFound es e → IsFound (with_arguments w.fragment.run es ids) e
  found_further es [] e h = h
  found_further es (x ∷ ids) e h = found_further (with_all_new same_entry es (arguments_asked (asked_for w.fragment.run x))) ids e (kept_in same_entry (arguments_asked (asked_for w.fragment.run x)) es e h)

  itself : (e : Expression) → IsGoodEntry w e → same_entry e e ≡ true
  itself e k = same_itself w k.number e k.entry

  arguments_found : (es : List Expression) (ids : Names) → AllByRecursion (λ x. AllByRecursion (IsGoodEntry w) (arguments_asked (asked_for w.fragment.run x))) ids → AllByRecursion (λ x. AllByRecursion (IsFound (with_arguments w.fragment.run es ids)) (arguments_asked (asked_for w.fragment.run x))) ids
  arguments_found es [] h = tt
  arguments_found es (x ∷ ids) h =
      let more : List Expression = with_all_new same_entry es (arguments_asked (asked_for w.fragment.run x)) in (
        all_mapped (IsFound more) (IsFound (with_arguments w.fragment.run more ids)) (λ e k. found_further more ids e k) (arguments_asked (asked_for w.fragment.run x))
            (added_in same_entry (arguments_asked (asked_for w.fragment.run x)) es (all_mapped (IsGoodEntry w) (λ e. same_entry e e ≡ true) itself (arguments_asked (asked_for w.fragment.run x)) h.0)),
        arguments_found more ids h.1,
      )

  found_among : (es : List Expression) (ls : List Leaf) (e : Expression) → IsFound es e → IsFound (entries_among w.sites es ls) e
  found_among es [] e h = h
  found_among es (l ∷ ls) e h = found_among (with_all_new same_entry es (entries_in w.sites l.number l.expression)) ls e (kept_in same_entry (entries_in w.sites l.number l.expression) es e h)

  leaves_found : (es : List Expression) (ls : List Leaf) → AllByRecursion (λ (l : Leaf). AllByRecursion (IsGoodEntry w) (entries_in w.sites l.number l.expression)) ls → AllByRecursion (λ (l : Leaf). AllByRecursion (IsFound (entries_among w.sites es ls)) (entries_in w.sites l.number l.expression)) ls
  leaves_found es [] h = tt
  leaves_found es (l ∷ ls) h =
      let more : List Expression = with_all_new same_entry es (entries_in w.sites l.number l.expression) in (
        all_mapped (IsFound more) (IsFound (entries_among w.sites more ls)) (λ e k. found_among more ls e k) (entries_in w.sites l.number l.expression)
            (added_in same_entry (entries_in w.sites l.number l.expression) es (all_mapped (IsGoodEntry w) (λ e. same_entry e e ≡ true) itself (entries_in w.sites l.number l.expression) h.0)),
        leaves_found more ls h.1,
      )

  -- the operands of all leaves that are entries are among the fragment's entries
  leaf_entries_found : AllByRecursion (λ (l : Leaf). AllByRecursion (IsGoodEntry w) (entries_in w.sites l.number l.expression)) (all_leaves w.sites) → AllByRecursion (λ (l : Leaf). AllByRecursion (λ e. list_any (same_entry e) (entries_of w) ≡ true) (entries_in w.sites l.number l.expression)) (all_leaves w.sites)
  leaf_entries_found h =
      all_mapped (λ (l : Leaf). AllByRecursion (IsFound (entries_among w.sites [] (all_leaves w.sites))) (entries_in w.sites l.number l.expression)) (λ (l : Leaf). AllByRecursion (IsFound (entries_of w)) (entries_in w.sites l.number l.expression))
      (λ l k. all_mapped (IsFound (entries_among w.sites [] (all_leaves w.sites))) (IsFound (entries_of w)) (λ e i. found_further (entries_among w.sites [] (all_leaves w.sites)) (known_of w) e i) (entries_in w.sites l.number l.expression) k)
      (all_leaves w.sites) (leaves_found [] (all_leaves w.sites) h)

-- ---- Values by number

-- An entry that is among those of the fragment has the value with its number.
pub value_by_number : (schema : Schema) (types : Types) (world : World) (store : Store) (entries : List Expression) (h : HaveEntries schema types world store entries) (e : Expression) → list_any (same_entry e) entries ≡ true → (y : Scalar) × (slice_get h.values (entry_number entries e) ≡ Some y) × (value_of e world store ≡ Ok (One y))
value_by_number schema types world store entries h e f =
    let k = number_found (same_entry e) entries f in
    let v = h.each (entry_number entries e) k.0 k.1 in
    (v.0, v.1, same_value e k.0 world store k.2 ∙ v.2)

arguments_by_number : (schema : Schema) (types : Types) (world : World) (store : Store) (entries : List Expression) (h : HaveEntries schema types world store entries) (es : Expressions) → AllByRecursion (λ e. list_any (same_entry e) entries ≡ true) (arguments es) → (args : List Scalar) × (scalars_of es world store ≡ Ok args) × (map (slice_get h.values) (numbers_of_arguments entries (arguments es)) ≡ map Some args)
arguments_by_number schema types world store entries h NoMore f = ([], refl, refl)
arguments_by_number schema types world store entries h (And e es) f =
    let v = value_by_number schema types world store entries h e f.0 in
    let r = arguments_by_number schema types world store entries h es f.1 in (
      v.0 ∷ r.0,
      ap (λ o. o >>= λ u. as_scalar u >>= λ x. scalars_of es world store >>= λ xs. Ok (x ∷ xs)) v.2 ∙ ap (λ o. o >>= λ xs. Ok (v.0 ∷ xs)) r.1,
      ap (λ o. o ∷ map (slice_get h.values) (numbers_of_arguments entries (arguments es))) v.1 ∙ ap (λ os. Some v.0 ∷ os) r.2,
    )

-- ---- What the fragment is given

-- A known list holds what its query answers, and the arguments of the query are the values of the entries with their numbers.
pub record IsGivenKnown (w : Setting) (world : World) (t : State) (values : List Scalar) (x : List ℕ) : Type 0 where
  pub number : ℕ
  pub list : IsKnownList w number x
  pub holds : HoldsKnown world list.asked x w.types t
  pub arguments : map (slice_get values) (numbers_of_arguments (entries_of w) (arguments list.asked.arguments)) ≡ map Some holds.answer.arguments

-- The entries of a lowered fragment have values of its types, and its known lists are given.
pub record AreGiven (w : Setting) (world : World) (t : State) : Type 0 where
  pub entries : HaveEntries w.schema w.types world t.store (entries_of w)
  pub known : AllByRecursion (IsGivenKnown w world t entries.values) (known_of w)

module _ (schema : Schema) (read : List ℕ → Option PlainQuery) (f : Fragment) (g : Types) (k : IsSeenFragment schema read f g) (conditions : broken_conditions (setting_of schema read g f) ≡ None) (m : PlainMethod) (l : Option Types) (start : Types) (run : TypedStatements (frame_of schema read m) l start f.run g) (world : World) (is_world : IsWorld (frame_of schema read m) world) (s t : State) (typed : IsTyped schema g t.store) (simple : are_simple f.run ≡ true) (passes : meanings f.run world s ≡ Ok (GoesOn t)) where
  abbrev at_fragment : Setting
  at_fragment = setting_of schema read g f

  -- the operands of leaves that are entries are among the fragment's entries
  pub operands_found : AllByRecursion (λ (l : Leaf). AllByRecursion (λ e. list_any (same_entry e) (entries_of (setting_of schema read g f)) ≡ true) (entries_in (sites_of f.loop) l.number l.expression)) (all_leaves (sites_of f.loop))
  operands_found = leaf_entries_found at_fragment (leaf_entries_are_good schema read f g k conditions)

  all_entries : (es : List Expression) → AllByRecursion (IsGoodEntry at_fragment) es → AllByRecursion (HasEntry schema g world t.store) es
  all_entries es h = all_mapped (IsGoodEntry at_fragment) (HasEntry schema g world t.store) (λ e i. entry_has_value at_fragment i.number e world t.store i.entry i.known is_world.schema typed) es h

  given_known : (entries : HaveEntries schema g world t.store (entries_of at_fragment)) (x : List ℕ) → IsGoodKnown at_fragment x → AllByRecursion (λ e. list_any (same_entry e) (entries_of at_fragment) ≡ true) (arguments_asked (asked_for f.run x)) → IsGivenKnown at_fragment world t entries.values x
  given_known entries x i found_so =
      let list : IsKnownList at_fragment i.number x = known_list at_fragment i.number x i.known in
      let holds : HoldsKnown world list.asked x g t = known_holds at_fragment m l start i.number x list world s t run is_world typed simple passes in
      let there : AllByRecursion (λ e. list_any (same_entry e) (entries_of at_fragment) ≡ true) (arguments list.asked.arguments) = subst (λ o. AllByRecursion (λ e. list_any (same_entry e) (entries_of at_fragment) ≡ true) (arguments_asked o)) list.is found_so in
      let a = arguments_by_number schema g world t.store (entries_of at_fragment) entries list.asked.arguments there in
      let same : a.0 ≡ holds.answer.arguments = same_ok (scalars_of list.asked.arguments world t.store) a.0 holds.answer.arguments a.1 holds.answer.are in
      record { number = i.number; list = list; holds = holds; arguments = a.2 ∙ ap (map Some) same }

  all_known : (entries : HaveEntries schema g world t.store (entries_of at_fragment)) (ids : Names) → AllByRecursion (IsGoodKnown at_fragment) ids → AllByRecursion (λ x. AllByRecursion (λ e. list_any (same_entry e) (entries_of at_fragment) ≡ true) (arguments_asked (asked_for f.run x))) ids → AllByRecursion (IsGivenKnown at_fragment world t entries.values) ids
  all_known entries [] h f' = tt
  all_known entries (x ∷ ids) h f' = (given_known entries x h.0 f'.0, all_known entries ids h.1 f'.1)

  -- Where the run passes, the lowered fragment is given the values of its entries and its known lists.
  pub fragment_is_given : AreGiven (setting_of schema read g f) world t
  fragment_is_given =
      let entries : HaveEntries schema g world t.store (entries_of at_fragment) = entries_have_values schema g world t.store (entries_of at_fragment) (all_entries (entries_of at_fragment) (entries_good schema read f g k conditions)) in
      let known = known_lists_good schema read f g k conditions in
      record {
        entries = entries;
        known = all_known entries (known_of at_fragment) known (arguments_found at_fragment (entries_among (sites_of f.loop) [] (all_leaves (sites_of f.loop))) (known_of at_fragment) (all_arguments schema read f g k conditions (known_of at_fragment) known));
      }
