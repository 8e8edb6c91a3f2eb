-- The asks that stand for a loop break no rule in their expressions.
use Rattle.std.proofs.Common.{◌≡◌, ℕ, suc, ◌+◌, true, List, [], ◌∷◌, length, slice_get, Option, Some, None, refl, sym, ap, ◌∙◌, subst, arith}
use Rattle.std.specs.List.{AllByRecursion}
use Rattle.qbs_base.specs.declared.scalar.Ty.{Ty}
use Rattle.qbs_base.specs.declared.scalar.Ty.TheVariants as tys
use Rattle.qbs_base.specs.declared.span.Span.{Span}
use Rattle.qbs_base.specs.Values.{Schema}
use Rattle.tor_terms.specs.declared.term.Elem.TheVariants as elems
use Rattle.kernel_lang.specs.declared.parts.ListDef.{ListDef}
use Rattle.kernel_lang.specs.declared.parts.Update.{Update}
use Rattle.kernel_lang.specs.declared.parts.Update.TheVariants as updates
use Rattle.kernel_lang.specs.Plain.{Accumulator}
use Rattle.kernel_lang.specs.Plain as kernel
use Rattle.kernel_lang.specs.Pools.{Member, chosen, members}
use Rattle.kernel_lang.specs.Sentences.{AccumulatorIsValid}
use Rattle.kernel_lang.specs.Typed.{place_type}
use Rattle.kernel_lang.specs.Validity as validity
use Rattle.kernel_lang.proofs.Sentences.{valid}
use Rattle.sql_ast.specs.Answers.{is_order_complete}
use Rattle.sql_ast.specs.Canonical.{canonical}
use Rattle.sql_ast.specs.Tree.{PlainQuery}
use Rattle.sql_ast.specs.Valid.{IsQueryOf, params_in}
use Rattle.sql_parts.specs.Given.{EntriesAreThere}
use Rattle.sql_parts.specs.Numbered.{Emission, emission}
use Rattle.sql_parts.specs.Scopes.{ground, def_of, table_name}
use Rattle.sql_parts.proofs.Complete.{complete}
use Rattle.sql_parts.proofs.Entries.{entries_are}
use Rattle.sql_parts.proofs.Flags.{column_taken}
use Rattle.sql_parts.proofs.Valid.{element_in}
use Rattle.java_ast.specs.Path.{found_in}
use Rattle.java_ast.specs.Tree.{Spelled, Table, Expression, QueryLong, QueryBoolean, Expressions}
use Rattle.java_mean.specs.Asks.{answer_type}
use Rattle.java_mean.specs.declared.types.JavaType.{JavaType}
use Rattle.java_mean.specs.declared.types.JavaType.TheVariants.{Of, Listed, Distinct}
use Rattle.java_mean.specs.declared.types.Kindred.TheVariants.{Only}
use Rattle.java_mean.specs.declared.types.Single.{Single}
use Rattle.java_mean.specs.declared.types.Single.TheVariants.{ScalarOf, RowOf}
use Rattle.java_mean.specs.Places.{in_expression}
use Rattle.java_mean.specs.Queries.{Reader}
use Rattle.java_mean.specs.Rules.{type_of, copied_row, aliased}
use Rattle.java_mean.specs.Types.{single_spelled, type_spelled}
use Rattle.java_mean.specs.Visible.{Visible}
use Rattle.java_mean.specs.WellTyped.{faults_in}
use Rattle.loop_text.specs.Sites.Sites.{place_of}
use Rattle.java_ast.specs.Names.{Names}
use Rattle.java_loops.specs.Kernel.Kernel.{lowering}
use Rattle.java_loops.specs.Kernel.Setting.{Setting, setting_of}
use Rattle.java_loops.specs.Lowering.Collected.{row_of_list, scalar_in_column, element_type, collected_type}
use Rattle.java_loops.specs.Lowering.Lowered.{needed_in_order}
use Rattle.java_loops.specs.Lowering.Numbering.{entries_of}
use Rattle.java_loops.specs.Lowering.Spelling.{spelled_at, element_spelled}
use Rattle.java_loops.proofs.Known.KnownNumbers.{IsGoodEntry, entries_good}
use Rattle.java_loops.proofs.Listed.ListedRows.{fragment_seen}
use Rattle.java_loops.proofs.Lowering.LowerChains.{at_setting}
use Rattle.java_loops.proofs.Lowering.LowerValid.{fragments_valid}
use Rattle.java_loops.proofs.Placing.PlaceLoop.{kernel_unbroken}
use Rattle.java_loops.proofs.Placing.PlaceSpelled.{spelled_there}
use Rattle.lowering.specs.Asked.{queries_in}
use Rattle.lowering.proofs.Known.KnownLoop.{known_to}
use Rattle.rewrite_core.specs.Asked.{Place, value_by, arguments_of, table_taken, spelled_or_text, asks_of}
use Rattle.rewrite_core.specs.Asking.{QueriesAreValid, HasAsks, SeesEntries, IsFaultlessAsk}
use Rattle.rewrite_core.proofs.Answering.{canonical_read}
use Rattle.rewrite_core.proofs.Asks.{emission_of, ask_of, asks_by, Follow, follow_first, follow_next, follow_here, asks_are}
use Rattle.rewrite_core.proofs.FaultlessArguments.{AreFine, arguments_fine}
use Rattle.rewrite_core.proofs.FaultlessCalls.{query_none, query_kind, set_none, set_kind, number_none, truth_none}
use Rattle.rewrite_core.proofs.Outer.{AreOuter, accumulators_there}
use Rattle.rewrite_core.proofs.SpelledElements.{list_element, set_element, table_spelled}
use Rattle.rewrite_core.proofs.TypedAnswers.{listed_of, made_found, some_same, answer_typed}
use Rattle.rewrite_core.proofs.TypedAsks.{Collects, AllCollect, collects_there, takes_column}

module _ (w : Setting) (read : List ℕ → Option PlainQuery) (r : Option Spelled) (vs : Visible) where
  abbrev lowered : kernel.Fragment
  lowered = (lowering w).fragment

  -- the expression is of this type, and breaks no rule
  record IsFaultless (e : Expression) (type : JavaType) : Type 0 where
    kindred : type_of w.schema vs e ≡ Some (Only type)
    none : faults_in w.schema read r (in_expression vs e) ≡ []

  calls_copy : (at : Span) (u : Update) (T : List ℕ) (E : Spelled) (text : List ℕ) (es : Expressions) → copied_row vs (value_by at u T E text es) ≡ []
  calls_copy at (updates.Push (elems.Whole j)) T E text es = refl
  calls_copy at (updates.Push (elems.Field j c)) T E text es = refl
  calls_copy at (updates.PushNew x) T E text es = refl
  calls_copy at updates.Tick T E text es = refl
  calls_copy at (updates.Plus x) T E text es = refl
  calls_copy at (updates.Best way x) T E text es = refl
  calls_copy at updates.Mark T E text es = refl

  calls_alias : (at : Span) (u : Update) (T : List ℕ) (E : Spelled) (text : List ℕ) (es : Expressions) (o : Option JavaType) (x : List ℕ) → aliased o x (value_by at u T E text es) ≡ []
  calls_alias at (updates.Push (elems.Whole j)) T E text es o x = refl
  calls_alias at (updates.Push (elems.Field j c)) T E text es o x = refl
  calls_alias at (updates.PushNew e) T E text es o x = refl
  calls_alias at updates.Tick T E text es o x = refl
  calls_alias at (updates.Plus e) T E text es o x = refl
  calls_alias at (updates.Best way e) T E text es o x = refl
  calls_alias at updates.Mark T E text es o x = refl

  row_taken : (z : Option ListDef) (a : Single) → row_of_list z ≡ Some a → (d : ListDef) × (z ≡ Some d) × (RowOf d.table ≡ a)
  row_taken (Some d) a e = (d, refl, cc)
  row_taken None a e = absurd cc

  scalar_taken : (z : Option Ty) (a : Single) → scalar_in_column z ≡ Some a → (ty : Ty) × (ScalarOf ty ≡ a)
  scalar_taken (Some ty) a e = (ty, cc)
  scalar_taken None a e = absurd cc

  module _ (at : Span) (o : Option Spelled) (text : List ℕ) (es : Expressions) (q : PlainQuery) (is : read text ≡ Some q) (fine : AreFine w.schema read r vs es (params_in q)) (order : is_order_complete q ≡ true) where
    abbrev E : Spelled
    E = spelled_or_text (element_spelled o)

    abbrev value_for : Update → Expression
    value_for u = value_by at u (table_taken w u) E text es

    -- where the variable is declared as spelled with the type of what is collected
    abbrev Holds : Update → JavaType → Type 0
    Holds u type = found_in (type_spelled w.schema) o ≡ Some type → answer_type w.schema q ≡ Some (listed_of type) → IsFaultless (value_for u) type

    whole_faultless : (j : ℕ) (d : ListDef) → slice_get lowered.lists j ≡ Some d → Holds (updates.Push (elems.Whole j)) (Listed (RowOf d.table))
    whole_faultless j d there spelled answer =
        let rows : single_spelled w.schema (Table (table_name (slice_get w.schema d.table))) ≡ Some (RowOf d.table) = table_spelled w.schema E d.table (list_element w.schema o (RowOf d.table) spelled) in
        let T : Spelled = Table (table_taken w (updates.Push (elems.Whole j))) in
        let so : single_spelled w.schema T ≡ Some (RowOf d.table) = ap (λ z. single_spelled w.schema (Table (table_name (slice_get w.schema (def_of z).table)))) there ∙ rows in
        record { kindred = query_kind w.schema read r vs at text es q is fine T (RowOf d.table) so; none = query_none w.schema read r vs at text es q is fine T (RowOf d.table) so answer order }

    column_faultless : (j c : ℕ) (a : Single) → Holds (updates.Push (elems.Field j c)) (Listed a)
    column_faultless j c a spelled answer =
        let so : single_spelled w.schema E ≡ Some a = list_element w.schema o a spelled in
        record { kindred = query_kind w.schema read r vs at text es q is fine E a so; none = query_none w.schema read r vs at text es q is fine E a so answer order }

    set_faultless : (j c : ℕ) (ty : Ty) → Holds (updates.PushNew (elems.Field j c)) (Distinct (ScalarOf ty))
    set_faultless j c ty spelled answer =
        let so : single_spelled w.schema E ≡ Some (ScalarOf ty) = set_element w.schema o (ScalarOf ty) spelled in
        record { kindred = set_kind w.schema read r vs at text es q is fine E ty so; none = set_none w.schema read r vs at text es q is fine E ty so answer order }

    number_faultless : answer_type w.schema q ≡ Some (Of (ScalarOf tys.Long)) → IsFaultless (QueryLong at text es) (Of (ScalarOf tys.Long))
    number_faultless answer = record { kindred = refl; none = number_none w.schema read r vs at text es q is fine answer }

    truth_faultless : answer_type w.schema q ≡ Some (Of (ScalarOf tys.Bool)) → IsFaultless (QueryBoolean at text es) (Of (ScalarOf tys.Bool))
    truth_faultless answer = record { kindred = refl; none = truth_none w.schema read r vs at text es q is fine answer }

    -- what is asked by the query of an accumulator breaks no rule
    value_faultless : (u : Update) (type : JavaType) → ((j : ℕ) → u ≡ updates.PushNew (elems.Whole j) → ⊥) → collected_type w.schema lowered u ≡ Some type → Holds u type
    value_faultless (updates.Push (elems.Whole j)) type column collects =
        let a = made_found Listed (element_type w.schema lowered (elems.Whole j)) type collects in
        let d = row_taken (slice_get lowered.lists j) a.0 a.1 in
        subst (Holds (updates.Push (elems.Whole j))) (ap Listed d.2 ∙ a.2) (whole_faultless j d.0 d.1)
    value_faultless (updates.Push (elems.Field j c)) type column collects =
        let a = made_found Listed (element_type w.schema lowered (elems.Field j c)) type collects in
        subst (Holds (updates.Push (elems.Field j c))) a.2 (column_faultless j c a.0)
    value_faultless (updates.PushNew (elems.Field j c)) type column collects =
        let a = made_found Distinct (element_type w.schema lowered (elems.Field j c)) type collects in
        let t = scalar_taken (place_type w.schema lowered (j, c)) a.0 a.1 in
        subst (Holds (updates.PushNew (elems.Field j c))) (ap Distinct t.1 ∙ a.2) (set_faultless j c t.0)
    value_faultless (updates.PushNew (elems.Whole j)) type column collects = absurd (column j refl)
    value_faultless updates.Tick type column collects = subst (Holds updates.Tick) (some_same (Of (ScalarOf tys.Long)) type collects) (λ spelled. number_faultless)
    value_faultless (updates.Plus x) type column collects = subst (Holds (updates.Plus x)) (some_same (Of (ScalarOf tys.Long)) type collects) (λ spelled. number_faultless)
    value_faultless (updates.Best way x) type column collects = subst (Holds (updates.Best way x)) (some_same (Of (ScalarOf tys.Long)) type collects) (λ spelled. number_faultless)
    value_faultless updates.Mark type column collects = subst (Holds updates.Mark) (some_same (Of (ScalarOf tys.Bool)) type collects) (λ spelled. truth_faultless)

-- ---- All asks

module _ (l : Place) (reader : Reader l.setting.schema) (r : Option Spelled) (vs : Visible) (sees : SeesEntries l.setting vs)
    (good : AllByRecursion (IsGoodEntry l.setting) (entries_of l.setting))
    (unbroken : validity.broken (lowering l.setting).fragment ≡ None)
    (entries : EntriesAreThere l.setting.schema (lowering l.setting).fragment (queries_in (lowering l.setting).known) (lowering l.setting).arguments)
    (spelled : (x : List ℕ) → l.setting.types x ≡ found_in (type_spelled l.setting.schema) (spelled_at x l.path l.program))
    (emitted : QueriesAreValid l.setting l.candidate) where
  one_faultless : (x : List ℕ) (m : Member) (k : ℕ) → slice_get (members (lowering l.setting).fragment l.candidate) k ≡ Some m → Collects l.setting x m.0 → AccumulatorIsValid (lowering l.setting).fragment m.0 → IsQueryOf l.setting.schema (emission_of l m).query → IsFaultlessAsk l.setting.schema reader.read r l.setting vs (ask_of l x m)
  one_faultless x m k there c v query =
      let w : Setting = l.setting in
      let e : Emission = emission_of l m in
      let at : Span = place_of w.fragment.loop in
      let answer : answer_type w.schema e.query ≡ Some (listed_of c.type) = answer_typed w.schema (lowering w).fragment (ground w.schema (lowering w).fragment l.candidate (queries_in (lowering w).known) (lowering w).arguments) refl m (lowering w).fragment.entries c.type (element_in (lowering w).fragment m.0 v) (takes_column m.0.update (column_taken (lowering w).fragment m.0 v)) c.collects in
      let order : is_order_complete e.query ≡ true = complete w.schema (lowering w).fragment l.candidate (queries_in (lowering w).known) (lowering w).arguments k m unbroken there in
      let fine : AreFine w.schema reader.read r vs (arguments_of at (lowering w).entries e.entries) (params_in e.query) = arguments_fine w.schema reader.read r vs w refl at (lowering w).entries good sees e.entries (params_in e.query) (entries l.candidate m).types in
      let value : IsFaultless w reader.read r vs (ask_of l x m).value c.type = value_faultless w reader.read r vs at (spelled_at x l.path l.program) (canonical e.query) (arguments_of at (lowering w).entries e.entries) e.query (canonical_read w.schema reader e.query query) fine order m.0.update c.type (takes_column m.0.update (column_taken (lowering w).fragment m.0 v)) c.collects
      (sym (spelled x) ∙ c.visible) answer in
      record {
        type = c.type;
        visible = c.visible;
        kindred = value.kindred;
        faultless = value.none;
        copies_no_row = calls_copy w reader.read r vs at m.0.update (table_taken w m.0.update) (spelled_or_text (element_spelled (spelled_at x l.path l.program))) (canonical e.query) (arguments_of at (lowering w).entries e.entries);
        aliases_nothing = calls_alias w reader.read r vs at m.0.update (table_taken w m.0.update) (spelled_or_text (element_spelled (spelled_at x l.path l.program))) (canonical e.query) (arguments_of at (lowering w).entries e.entries);
      }

  all_faultless : (k n : ℕ) (xs : Names) (accs : List Accumulator) → Follow l k n accs → AreOuter xs accs → AllCollect l.setting xs accs → AllByRecursion (AccumulatorIsValid (lowering l.setting).fragment) accs → k + length xs ≡ length (needed_in_order l.setting) → AllByRecursion (IsFaultlessAsk l.setting.schema reader.read r l.setting vs) (asks_by l n xs accs)
  all_faultless k n [] accs h o a v count = tt
  all_faultless k n (x ∷ xs) [] h o a v count = absurd o
  all_faultless k n (x ∷ xs) (b ∷ accs) h o a v count =
      let m : Member = (b, chosen l.candidate n b.pool) in
      let there : slice_get (members (lowering l.setting).fragment l.candidate) k ≡ Some m = follow_here l k n b accs h in
      let query : IsQueryOf l.setting.schema (emission_of l m).query = emitted k (emission_of l m) (omega (arith, count)) (ap (λ q. emission l.setting.schema (lowering l.setting).fragment l.candidate (queries_in (lowering l.setting).known) (lowering l.setting).arguments q) there) in
      (one_faultless x m k there a.0 v.0 query, all_faultless (suc k) (n + length b.pool) xs accs (follow_next l k n b accs h) o.2 a.1 v.1 (omega (arith, count)))

-- The expressions of the asks for a loop break no rule where what the entry values read is visible.
pub asks_are_faultless : (schema : Schema) (reader : Reader schema) (l : Place) (r : Option Spelled) (vs : Visible) → HasAsks schema reader.read l.program l.path l.setting l.candidate → SeesEntries l.setting vs → AllByRecursion (IsFaultlessAsk schema reader.read r l.setting vs) (asks_of l)
asks_are_faultless schema reader l r vs may sees =
    at_setting
    (λ (z : Setting). HasAsks schema reader.read l.program l.path z l.candidate → SeesEntries z vs → AllByRecursion (IsFaultlessAsk schema reader.read r z vs) (asks_of (record { program = l.program; path = l.path; setting = z; candidate = l.candidate })))
    schema reader.read l.program l.path l.setting may.loop.typed may.loop.numbers
    (λ f h there rules may' sees'.
    let w : Setting = setting_of schema reader.read h f in
    let p : Place = record { program = l.program; path = l.path; setting = setting_of schema reader.read h f; candidate = l.candidate } in
    let unbroken = fragments_valid schema reader.read l.program l.path w may'.loop.typed may'.loop.numbers may'.loop.there may'.loop.unbroken in
    let outer : AreOuter (needed_in_order w) (lowering w).fragment.accs = accumulators_there schema reader.read l.program l.path f h may'.loop.typed there rules in
    let collect : AllCollect w (needed_in_order w) (lowering w).fragment.accs = collects_there schema reader.read l.program l.path w may'.loop outer in
    let entries = entries_are schema (lowering w).fragment (queries_in (lowering w).known) (lowering w).arguments unbroken (known_to schema reader.read l.program l.path w may'.loop may'.known) in
    let good = entries_good schema reader.read f h (fragment_seen schema reader.read l.program l.path f h may'.loop.typed there) (kernel_unbroken w rules).conditions in
    subst (AllByRecursion (IsFaultlessAsk schema reader.read r w vs)) (sym (asks_are p 0 0 (needed_in_order w) (lowering w).fragment.accs (follow_first p) outer))
    (all_faultless p reader r vs sees' good unbroken entries (λ x. spelled_there schema reader.read l.program l.path w x may'.loop.there) may'.emitted 0 0 (needed_in_order w) (lowering w).fragment.accs (follow_first p) outer collect (valid (lowering w).fragment unbroken).accs (omega arith)))
    may.loop.there may.loop.unbroken may sees
