-- The asks that stand for a loop, and the program in which they do, are of the grammar and can be written where the program is
-- and can.
use Rattle.std.proofs.Common.{◌≡◌, ℕ, zero, suc, ◌+◌, Bool, true, false, cond, List, [], ◌∷◌, length, slice_get, Option, Some, None, IsUtf8, refl, sym, ap, ◌∙◌, subst, arith}
use Rattle.std.specs.List.{AllByRecursion}
use Rattle.std.proofs.lemmas.Bool.{and_parts}
use Rattle.qbs_base.specs.declared.span.Span.{Span}
use Rattle.qbs_base.specs.Values.{Schema}
use Rattle.tor_terms.specs.declared.term.Elem.TheVariants as elems
use Rattle.kernel_lang.specs.declared.parts.ListDef.{ListDef}
use Rattle.kernel_lang.specs.declared.parts.Update.{Update}
use Rattle.kernel_lang.specs.declared.parts.Update.TheVariants as updates
use Rattle.kernel_lang.specs.Plain.{Accumulator}
use Rattle.kernel_lang.specs.Pools.{Member, chosen, members}
use Rattle.sql_ast.specs.Canonical.{canonical}
use Rattle.sql_ast.specs.Tree.{PlainQuery}
use Rattle.sql_ast.specs.Valid.{IsQueryOf}
use Rattle.sql_parts.specs.Given.{AtomIsUtf8, QueryIsUtf8, QueriesAreUtf8}
use Rattle.sql_parts.specs.Numbered.{Emission, emission}
use Rattle.sql_parts.specs.Scopes.{def_of, table_name}
use Rattle.sql_parts.proofs.Utf8.{queries_are_utf8}
use Rattle.java_ast.specs.Path.{and_then, found_in}
use Rattle.java_ast.specs.Placed.{placed, placed_all}
use Rattle.java_ast.specs.Tree.{Spelled, Table, Expression, Expressions, NoMore, And, Statement, Declare, Assign, Add, Sort, If, IfElse, ForEach, While, Print, Return, Break, Statements, Nothing, Then, PlainProgram}
use Rattle.java_ast.specs.Tree as tree
use Rattle.java_grammar.specs.InGrammar.{IsName, IsQuery}
use Rattle.java_grammar.specs.Written.{IsWord}
use Rattle.java_mean.specs.declared.types.JavaType.{JavaType}
use Rattle.java_mean.specs.declared.types.JavaType.TheVariants.{Listed}
use Rattle.java_mean.specs.declared.types.Single.{Single}
use Rattle.java_mean.specs.declared.types.Single.TheVariants.{RowOf}
use Rattle.java_mean.specs.Queries.{Reader}
use Rattle.java_mean.specs.Types.{single_spelled, type_spelled}
use Rattle.loop_text.specs.Sites.Sites.{place_of}
use Rattle.loop_text.specs.Statements.Fragment.{set_by, is_simple, are_simple, fragment_at}
use Rattle.loop_text.specs.Statements.KeptStatements.{with_numbers}
use Rattle.java_ast.specs.Names.{Names, is_among, names_read}
use Rattle.loop_text.specs.Statements.Setting.{touches, first_touching}
use Rattle.java_loops.specs.Kernel.Kernel.{types_at, lowering}
use Rattle.java_loops.specs.Kernel.Setting.{Setting, setting_of}
use Rattle.java_loops.specs.Lowering.Collected.{row_of_list, element_type, collected_type}
use Rattle.java_loops.specs.Lowering.Lowered.{set_in_order, needed_in_order}
use Rattle.java_loops.specs.Lowering.Numbering.{all_leaves, atoms_among, entries_of, known_of}
use Rattle.java_loops.specs.Lowering.Spelling.{spelled_at, element_spelled}
use Rattle.java_loops.specs.Meant.Asking.{spelled_by}
use Rattle.java_loops.specs.Meant.KeptNumbers.{kept_numbers}
use Rattle.java_loops.specs.Walks.Replacing.{Ask, asking, asked}
use Rattle.java_loops.proofs.Kept.KeptPath.{setting_fragment}
use Rattle.java_loops.proofs.Lowering.LowerChains.{at_setting}
use Rattle.java_loops.proofs.Lowering.LowerValid.{fragments_valid}
use Rattle.java_loops.proofs.Placing.Place.{IsPlacedIn}
use Rattle.java_loops.proofs.Placing.PlaceSpelled.{spelled_there}
use Rattle.lowering.specs.Asked.{queries_in}
use Rattle.rewrite_core.specs.Asked.{Place, entry_at, arguments_of, value_by, type_started, start_type, table_taken, spelled_or_text, asks_of, first_of_run, replaced}
use Rattle.rewrite_core.specs.Asking.{QueriesAreValid, HasAsks}
use Rattle.rewrite_core.proofs.Asks.{emission_of, ask_of, asks_by, Follow, follow_first, follow_next, follow_here, asks_are}
use Rattle.rewrite_core.proofs.Outer.{AreOuter, accumulators_there}
use Rattle.rewrite_core.proofs.SpelledElements.{list_element, table_is}
use Rattle.rewrite_core.proofs.TypedAnswers.{made_found}
use Rattle.rewrite_core.proofs.TypedAsks.{Collects, AllCollect, collects_there}
use Rattle.rewrite_core.proofs.Writable.Entries.{of_entries}
use Rattle.rewrite_core.proofs.Writable.Given.{Holds}
use Rattle.rewrite_core.proofs.Writable.Leaves.{OfTests, fine_parts, fine_tests}
use Rattle.rewrite_core.proofs.Writable.Literals.{of_atoms, fine_known}
use Rattle.rewrite_core.proofs.Writable.Parts.{IsFineFragment, fine_fragment, fine_kept, IsFineElement, fine_element}
use Rattle.rewrite_core.proofs.Writable.Replaced.{IsFine, AllFine, IsFineStatement, AreFineStatements, IsFineType, IsFineProgram, fine_then, fine_first, fine_rest, fine_nothing, fine_both, fine_replaced}

-- ---- Arguments

abbrev mutual
  pub placed_fine : (at : Span) (e : Expression) → IsFine e → IsFine (placed at e)
  placed_fine at (tree.Lit _ value) h = h
  placed_fine at (tree.Var _ name) h = h
  placed_fine at (tree.Field _ row name) h = let k = placed_fine at row (h.0.0, h.1.0) in ((k.0, h.0.1), (k.1, h.1.1))
  placed_fine at (tree.Binary _ op a b) h = let k = placed_fine at a (h.0.0, h.1.0) in let l = placed_fine at b (h.0.1, h.1.1) in ((k.0, l.0), (k.1, l.1))
  placed_fine at (tree.Not _ e) h = placed_fine at e h
  placed_fine at (tree.Equals _ a b) h = let k = placed_fine at a (h.0.0, h.1.0) in let l = placed_fine at b (h.0.1, h.1.1) in ((k.0, l.0), (k.1, l.1))
  placed_fine at (tree.Size _ name) h = h
  placed_fine at (tree.Get _ name e) h = let k = placed_fine at e (h.0.1, h.1.1) in ((h.0.0, k.0), (h.1.0, k.1))
  placed_fine at (tree.Contains _ name e) h = let k = placed_fine at e (h.0.1, h.1.1) in ((h.0.0, k.0), (h.1.0, k.1))
  placed_fine at (tree.Fetch _ table) h = h
  placed_fine at (tree.Query _ element text es) h = let k = all_placed_fine at es (h.0.1, h.1.2) in ((h.0.0, k.0), (h.1.0, h.1.1, k.1))
  placed_fine at (tree.QueryLong _ text es) h = let k = all_placed_fine at es (h.0, h.1.1) in (k.0, (h.1.0, k.1))
  placed_fine at (tree.QueryBoolean _ text es) h = let k = all_placed_fine at es (h.0, h.1.1) in (k.0, (h.1.0, k.1))
  placed_fine at (tree.NewList _) h = h
  placed_fine at (tree.NewSet _) h = h
  placed_fine at (tree.NewSetOf _ e) h = let k = placed_fine at e (h.0.1, h.1) in ((placed_query at e h.0.0, k.0), k.1)

  all_placed_fine : (at : Span) (es : Expressions) → AllFine es → AllFine (placed_all at es)
  all_placed_fine at NoMore h = h
  all_placed_fine at (And e es) h = let k = placed_fine at e (h.0.0, h.1.0) in let l = all_placed_fine at es (h.0.1, h.1.1) in ((k.0, l.0), (k.1, l.1))

  placed_query : (at : Span) (e : Expression) → IsQuery e → IsQuery (placed at e)
  placed_query at (tree.Query _ element text es) h = tt
  placed_query at (tree.QueryLong _ text es) h = tt
  placed_query at (tree.QueryBoolean _ text es) h = tt
  placed_query at (tree.Lit _ value) h = absurd h
  placed_query at (tree.Var _ name) h = absurd h
  placed_query at (tree.Field _ row name) h = absurd h
  placed_query at (tree.Binary _ op a b) h = absurd h
  placed_query at (tree.Not _ e) h = absurd h
  placed_query at (tree.Equals _ a b) h = absurd h
  placed_query at (tree.Size _ name) h = absurd h
  placed_query at (tree.Get _ name e) h = absurd h
  placed_query at (tree.Contains _ name e) h = absurd h
  placed_query at (tree.Fetch _ table) h = absurd h
  placed_query at (tree.NewList _) h = absurd h
  placed_query at (tree.NewSet _) h = absurd h
  placed_query at (tree.NewSetOf _ e) h = absurd h

entry_fine : (at : Span) (es : List Expression) (k : ℕ) → AllByRecursion IsFine es → IsFine (entry_at at (slice_get es k))
entry_fine at [] k h = (tt, tt)
entry_fine at (e ∷ es) zero h = placed_fine at e h.0
entry_fine at (e ∷ es) (suc k) h = entry_fine at es k h.1

arguments_fine : (at : Span) (es : List Expression) (ks : List ℕ) → AllByRecursion IsFine es → AllFine (arguments_of at es ks)
arguments_fine at es [] h = (tt, tt)
arguments_fine at es (k ∷ ks) h = let e = entry_fine at es k h in let l = arguments_fine at es ks h in ((e.0, l.0), (e.1, l.1))

-- ---- Values

value_fine : (at : Span) (u : Update) (T : List ℕ) (E : Spelled) (text : List ℕ) (es : Expressions) → ((j : ℕ) → u ≡ updates.Push (elems.Whole j) → IsFineElement (Table T)) → IsFineElement E → IsUtf8 text → AllFine es → IsFine (value_by at u T E text es)
value_fine at (updates.Push (elems.Whole j)) T E text es t e u h = let k = t j refl in ((k.0, h.0), (k.1, u, h.1))
value_fine at (updates.Push (elems.Field j c)) T E text es t e u h = ((e.0, h.0), (e.1, u, h.1))
value_fine at (updates.PushNew x) T E text es t e u h = ((tt, (e.0, h.0)), (e.1, u, h.1))
value_fine at updates.Tick T E text es t e u h = (h.0, (u, h.1))
value_fine at (updates.Plus x) T E text es t e u h = (h.0, (u, h.1))
value_fine at (updates.Best way x) T E text es t e u h = (h.0, (u, h.1))
value_fine at updates.Mark T E text es t e u h = (h.0, (u, h.1))

-- ---- Names and types

abbrev IsFineName : List ℕ → Type 0
IsFineName x = IsName x × IsWord x

set_fine : (s : Statement) → is_simple s ≡ true → IsFineStatement s → IsFineName (set_by s)
set_fine (Declare at ty x e) i h = (h.0.1, h.1.1)
set_fine (Assign at x e) i h = (h.0.0, h.1.0)
set_fine (Sort at x keys downs) i h = (h.0.0, h.1.0)
set_fine (Add at x e) i h = absurd cc
set_fine (If at c a) i h = absurd cc
set_fine (IfElse at c a b) i h = absurd cc
set_fine (ForEach at ty x e b) i h = absurd cc
set_fine (While at c b) i h = absurd cc
set_fine (Print at e) i h = absurd cc
set_fine (Return at e) i h = absurd cc
set_fine (Break at) i h = absurd cc

names_where : (b : Bool) (x : List ℕ) (xs : Names) → IsFineName x → AllByRecursion IsFineName xs → AllByRecursion IsFineName (cond b (x ∷ xs) xs)
names_where true x xs h k = (h, k)
names_where false x xs h k = k

names_fine : (xs : Names) (run : Statements) → are_simple run ≡ true → AreFineStatements run → AllByRecursion IsFineName (set_in_order xs run)
names_fine xs Nothing i h = tt
names_fine xs (Then s run) i h =
    names_where (is_among xs (set_by s)) (set_by s) (set_in_order xs run) (set_fine s (and_parts (is_simple s) (are_simple run) i).0 (fine_first s run h)) (names_fine xs run (and_parts (is_simple s) (are_simple run) i).1 (fine_rest s run h))

spelled_fine : (s : Statement) → IsFineStatement s → Holds IsFineType (spelled_by s)
spelled_fine (Declare at ty x e) h = (h.0.0, h.1.0)
spelled_fine (Assign at x e) h = tt
spelled_fine (Sort at x keys downs) h = tt
spelled_fine (Add at x e) h = tt
spelled_fine (If at c a) h = tt
spelled_fine (IfElse at c a b) h = tt
spelled_fine (ForEach at ty x e b) h = tt
spelled_fine (While at c b) h = tt
spelled_fine (Print at e) h = tt
spelled_fine (Return at e) h = tt
spelled_fine (Break at) h = tt

touching_where : (b : Bool) (s : Statement) (o : Option Statement) → Holds IsFineType (type_started (Some s)) → Holds IsFineType (type_started o) → Holds IsFineType (type_started (cond b (Some s) o))
touching_where true s o h k = h
touching_where false s o h k = k

start_fine : (x : List ℕ) (run : Statements) → AreFineStatements run → Holds IsFineType (type_started (first_touching x run))
start_fine x Nothing h = tt
start_fine x (Then s run) h = touching_where (touches x s) s (first_touching x run) (spelled_fine s (fine_first s run h)) (start_fine x run (fine_rest s run h))

-- ---- Asks

-- the statement that asks
abbrev IsFineAsk : Ask → Type 0
IsFineAsk k = IsFineStatement (asking k.ty k.at k.name k.value)

asking_fine : (o : Option Spelled) (at : Span) (x : List ℕ) (e : Expression) → Holds IsFineType o → IsFineName x → IsFine e → IsFineStatement (asking o at x e)
asking_fine (Some ty) at x e h k l = ((h.0, k.0, l.0), (h.1, k.1, l.1))
asking_fine None at x e h k l = ((k.0, l.0), (k.1, l.1))

asked_fine : (ks : List Ask) → AllByRecursion IsFineAsk ks → AreFineStatements (asked ks)
asked_fine [] h = fine_nothing
asked_fine (k ∷ ks) h = fine_then (asking k.ty k.at k.name k.value) (asked ks) h.0 (asked_fine ks h.1)

row_taken : (o : Option ListDef) (a : Single) → row_of_list o ≡ Some a → (d : ListDef) × (o ≡ Some d) × (RowOf d.table ≡ a)
row_taken (Some d) a e = (d, refl, cc)
row_taken None a e = absurd cc

module _ (l : Place) (elements : (x : List ℕ) → IsFineElement (spelled_or_text (element_spelled (spelled_at x l.path l.program)))) (run : AreFineStatements l.setting.fragment.run)
    (entries : AllByRecursion IsFine (lowering l.setting).entries)
    (spelled : (x : List ℕ) → l.setting.types x ≡ found_in (type_spelled l.setting.schema) (spelled_at x l.path l.program))
    (texts : QueriesAreUtf8 l.setting.schema (lowering l.setting).fragment (queries_in (lowering l.setting).known) (lowering l.setting).arguments)
    (emitted : QueriesAreValid l.setting l.candidate) where
  abbrev w : Setting
  w = l.setting

  abbrev E : List ℕ → Spelled
  E x = spelled_or_text (element_spelled (spelled_at x l.path l.program))

  -- the table of rows that are taken whole is the one that is spelled
  table_fine : (x : List ℕ) (type : JavaType) (u : Update) → w.types x ≡ Some type → collected_type w.schema (lowering w).fragment u ≡ Some type → (j : ℕ) → u ≡ updates.Push (elems.Whole j) → IsFineElement (Table (table_taken w u))
  table_fine x type u visible collects j is =
      let listed : collected_type w.schema (lowering w).fragment (updates.Push (elems.Whole j)) ≡ Some type = ap (collected_type w.schema (lowering w).fragment) (sym is) ∙ collects in
      let a = made_found Listed (element_type w.schema (lowering w).fragment (elems.Whole j)) type listed in
      let d = row_taken (slice_get (lowering w).fragment.lists j) a.0 a.1 in
      let have : found_in (type_spelled w.schema) (spelled_at x l.path l.program) ≡ Some (Listed (RowOf d.0.table)) = sym (spelled x) ∙ visible ∙ ap Some (sym (ap Listed d.2 ∙ a.2)) in
      let rows : single_spelled w.schema (E x) ≡ Some (RowOf d.0.table) = list_element w.schema (spelled_at x l.path l.program) (RowOf d.0.table) have in
      let named : E x ≡ Table (table_name (slice_get w.schema d.0.table)) = table_is w.schema (E x) d.0.table rows in
      let here : IsFineElement (Table (table_name (slice_get w.schema d.0.table))) = subst IsFineElement named (elements x) in
      let there : IsFineElement (Table (table_taken w (updates.Push (elems.Whole j)))) = subst (λ o. IsFineElement (Table (table_name (slice_get w.schema (def_of o).table)))) (sym d.1) here in
      subst (λ v. IsFineElement (Table (table_taken w v))) (sym is) there

  one_fine : (x : List ℕ) (m : Member) (k : ℕ) → slice_get (members (lowering w).fragment l.candidate) k ≡ Some m → IsFineName x → Collects w x m.0 → IsQueryOf w.schema (emission_of l m).query → IsFineAsk (ask_of l x m)
  one_fine x m k there name c query =
      let e : Emission = emission_of l m in
      let at : Span = place_of w.fragment.loop in
      let utf8 : QueryIsUtf8 w.schema e.query = texts l.candidate k m there in
      let value : IsFine (ask_of l x m).value = value_fine at m.0.update (table_taken w m.0.update) (E x) (canonical e.query) (arguments_of at (lowering w).entries e.entries) (table_fine x c.type m.0.update c.visible c.collects) (elements x) (utf8.text query)
      (arguments_fine at (lowering w).entries e.entries entries) in
      asking_fine (start_type w x) at x (ask_of l x m).value (start_fine x w.fragment.run run) name value

  all_fine : (k n : ℕ) (xs : Names) (accs : List Accumulator) → Follow l k n accs → AreOuter xs accs → AllCollect w xs accs → AllByRecursion IsFineName xs → k + length xs ≡ length (needed_in_order w) → AllByRecursion IsFineAsk (asks_by l n xs accs)
  all_fine k n [] accs h o a names count = tt
  all_fine k n (x ∷ xs) [] h o a names count = absurd o
  all_fine k n (x ∷ xs) (b ∷ accs) h o a names count =
      let m : Member = (b, chosen l.candidate n b.pool) in
      let there : slice_get (members (lowering w).fragment l.candidate) k ≡ Some m = follow_here l k n b accs h in
      let query : IsQueryOf w.schema (emission_of l m).query = emitted k (emission_of l m) (omega (arith, count)) (ap (λ q. emission w.schema (lowering w).fragment l.candidate (queries_in (lowering w).known) (lowering w).arguments q) there) in
      (one_fine x m k there names.0 a.0 query, all_fine (suc k) (n + length b.pool) xs accs (follow_next l k n b accs h) o.2 a.1 names.1 (omega (arith, count)))

-- ---- Programs

fragment_leads : (schema : Schema) (read : List ℕ → Option PlainQuery) (l : Place) (may : HasAsks schema read l.program l.path l.setting l.candidate) → fragment_at l.path l.program ≡ Some l.setting.fragment
fragment_leads schema read l may = setting_fragment schema read l.program l.path l.setting (types_at schema l.path l.program) (fragment_at l.path l.program) refl may.loop.there

-- What asks are made of: the run, the entry values and the elements of declared variables are of the grammar and can be written, and the
-- literals of the conditions are UTF-8.
pub record IsFineAsking (p : PlainProgram) (path : List ℕ) (w : Setting) : Type 0 where
  pub run : AreFineStatements w.fragment.run
  pub entries : AllByRecursion IsFine (entries_of w)
  pub atoms : AllByRecursion AtomIsUtf8 (atoms_among w (entries_of w) (known_of w) [] (all_leaves w.sites))
  pub elements : (x : List ℕ) → IsFineElement (spelled_or_text (element_spelled (spelled_at x path p)))

-- The asks that stand for a loop are of the grammar and can be written.
asks_fine : (schema : Schema) (reader : Reader schema) (l : Place) → HasAsks schema reader.read l.program l.path l.setting l.candidate → IsFineAsking l.program l.path l.setting → AllByRecursion IsFineAsk (asks_of l)
asks_fine schema reader l may parts =
    at_setting (λ (z : Setting). HasAsks schema reader.read l.program l.path z l.candidate → IsFineAsking l.program l.path z → AllByRecursion IsFineAsk (asks_of (record { program = l.program; path = l.path; setting = z; candidate = l.candidate })))
    schema reader.read l.program l.path l.setting may.loop.typed may.loop.numbers
    (λ f g there rules may' parts'.
    let w : Setting = setting_of schema reader.read g f in
    let p : Place = record { program = l.program; path = l.path; setting = setting_of schema reader.read g f; candidate = l.candidate } in
    let place : IsPlacedIn l.program l.path f = there.place in
    let unbroken = fragments_valid schema reader.read l.program l.path w may'.loop.typed may'.loop.numbers may'.loop.there may'.loop.unbroken in
    let outer : AreOuter (needed_in_order w) (lowering w).fragment.accs = accumulators_there schema reader.read l.program l.path f g may'.loop.typed there rules in
    let collect : AllCollect w (needed_in_order w) (lowering w).fragment.accs = collects_there schema reader.read l.program l.path w may'.loop outer in
    let texts = queries_are_utf8 schema (lowering w).fragment (queries_in (lowering w).known) (lowering w).arguments unbroken (record { own = parts'.atoms; of_known = fine_known f parts'.run schema reader (known_of w) }) in
    subst (AllByRecursion IsFineAsk) (sym (asks_are p 0 0 (needed_in_order w) (lowering w).fragment.accs (follow_first p) outer))
    (all_fine p parts'.elements parts'.run parts'.entries (λ x. spelled_there schema reader.read l.program l.path w x may'.loop.there) texts may'.emitted 0 0 (needed_in_order w) (lowering w).fragment.accs (follow_first p) outer collect
    (names_fine _ f.run place.placed.simple parts'.run) (omega arith)))
    may.loop.there may.loop.unbroken may parts

-- The statements that come in place of a run and its loop are of the grammar and can be written.
pub instead_fine_by : (schema : Schema) (reader : Reader schema) (l : Place) → HasAsks schema reader.read l.program l.path l.setting l.candidate → IsFineAsking l.program l.path l.setting
    → AreFineStatements (and_then (with_numbers (kept_numbers l.setting.fragment (names_read (lowering l.setting).entries) (first_of_run l) l.setting.fragment.run) (first_of_run l) l.setting.fragment.run) (asked (asks_of l)))
instead_fine_by schema reader l may parts =
    let numbers : List ℕ = kept_numbers l.setting.fragment (names_read (lowering l.setting).entries) (first_of_run l) l.setting.fragment.run in
    let kept : AreFineStatements (with_numbers numbers (first_of_run l) l.setting.fragment.run) = fine_kept numbers (first_of_run l) l.setting.fragment.run parts.run in
    fine_both (with_numbers numbers (first_of_run l) l.setting.fragment.run) (asked (asks_of l)) kept (asked_fine (asks_of l) (asks_fine schema reader l may parts))

-- so it is in a program that is of the grammar and can be written
fine_asking : (schema : Schema) (read : List ℕ → Option PlainQuery) (l : Place) → HasAsks schema read l.program l.path l.setting l.candidate → IsFineProgram l.program → IsFineAsking l.program l.path l.setting
fine_asking schema read l may fine =
    at_setting (λ (z : Setting). IsFineFragment z.fragment → IsFineAsking l.program l.path z) schema read l.program l.path l.setting may.loop.typed may.loop.numbers
    (λ f g there rules parts.
    let w : Setting = setting_of schema read g f in
    let tests : OfTests IsFine f.loop = fine_tests f.loop parts.loop in
    record {
      run = parts.run;
      entries = of_entries IsFine fine_parts (λ e h. h) f parts.run tests (known_of w);
      atoms = of_atoms IsFine fine_parts f tests w (entries_of w) (known_of w);
      elements = λ x. fine_element x l.path l.program fine;
    })
    may.loop.there may.loop.unbroken (fine_fragment l.path l.program l.setting.fragment fine (fragment_leads schema read l may))

pub instead_fine : (schema : Schema) (reader : Reader schema) (l : Place) → HasAsks schema reader.read l.program l.path l.setting l.candidate → IsFineProgram l.program
    → AreFineStatements (and_then (with_numbers (kept_numbers l.setting.fragment (names_read (lowering l.setting).entries) (first_of_run l) l.setting.fragment.run) (first_of_run l) l.setting.fragment.run) (asked (asks_of l)))
instead_fine schema reader l may fine = instead_fine_by schema reader l may (fine_asking schema reader.read l may fine)

-- The program in which they stand in place of the run and the loop is of the grammar and can be written.
pub replaced_fine : (schema : Schema) (reader : Reader schema) (l : Place) → HasAsks schema reader.read l.program l.path l.setting l.candidate → IsFineProgram l.program → IsFineProgram (replaced l)
replaced_fine schema reader l may fine =
    let numbers : List ℕ = kept_numbers l.setting.fragment (names_read (lowering l.setting).entries) (first_of_run l) l.setting.fragment.run in
    fine_replaced l.path (first_of_run l) (and_then (with_numbers numbers (first_of_run l) l.setting.fragment.run) (asked (asks_of l))) l.program (instead_fine schema reader l may fine) fine
