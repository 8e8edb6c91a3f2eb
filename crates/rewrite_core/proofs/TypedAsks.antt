-- The asks that stand for a loop are typed: each has the type that its variable has at the loop.
use Rattle.std.proofs.Common.{◌≡◌, ℕ, suc, ◌+◌, true, false, List, [], ◌∷◌, length, slice_get, Option, Some, refl, sym, ap, ◌∙◌, subst, arith}
use Rattle.std.specs.List.{AllByRecursion}
use Rattle.std.specs.Option.{option_map}
use Rattle.qbs_base.specs.declared.scalar.Ty.TheVariants as tys
use Rattle.qbs_base.specs.declared.span.Span.{Span}
use Rattle.qbs_base.specs.Values.{Schema}
use Rattle.tor_terms.specs.declared.term.Elem.TheVariants as elems
use Rattle.kernel_lang.specs.declared.parts.Update.{Update}
use Rattle.kernel_lang.specs.declared.parts.Update.TheVariants as updates
use Rattle.kernel_lang.specs.Plain.{Accumulator}
use Rattle.kernel_lang.specs.Plain as kernel
use Rattle.kernel_lang.specs.Pools.{Member, chosen, members}
use Rattle.kernel_lang.specs.Sentences.{AccumulatorIsValid}
use Rattle.kernel_lang.specs.Validity.{takes_a_column}
use Rattle.kernel_lang.proofs.Sentences.{valid}
use Rattle.sql_ast.specs.Canonical.{canonical}
use Rattle.sql_ast.specs.Tree.{PlainQuery}
use Rattle.sql_ast.specs.Valid.{IsQueryOf, params_in}
use Rattle.sql_parts.specs.Given.{EntriesAreThere}
use Rattle.sql_parts.specs.Numbered.{Emission, emission}
use Rattle.sql_parts.specs.Scopes.{ground}
use Rattle.sql_parts.proofs.Entries.{entries_are}
use Rattle.sql_parts.proofs.Flags.{column_taken}
use Rattle.sql_parts.proofs.Valid.{element_in}
use Rattle.java_ast.specs.Tree.{Spelled, Expressions, PlainMethod, PlainProgram}
use Rattle.java_mean.specs.Asks.{answer_type, type_of_found, frame_of}
use Rattle.java_mean.specs.declared.types.JavaType.{JavaType}
use Rattle.java_mean.specs.declared.types.JavaType.TheVariants.{Of, Listed, Distinct}
use Rattle.java_mean.specs.declared.types.Single.TheVariants.{ScalarOf}
use Rattle.java_mean.specs.Queries.{Reader}
use Rattle.java_mean.specs.Types.{Types}
use Rattle.java_mean.specs.Typing as typing
use Rattle.java_mean.specs.Typing.{QueryType, Frame, HasType, HaveTypes}
use Rattle.loop_text.specs.Sites.Sites.{place_of}
use Rattle.java_ast.specs.Names.{Names}
use Rattle.java_loops.specs.Kernel.Kernel.{lowering}
use Rattle.java_loops.specs.Kernel.Setting.{Setting, setting_of}
use Rattle.java_loops.specs.Lowering.Collected.{element_type, collected_type, IsForNeeded, AreForNeeded}
use Rattle.java_loops.specs.Lowering.Lowered.{needed_in_order}
use Rattle.java_loops.specs.Lowering.Numbering.{entries_of}
use Rattle.java_loops.specs.Lowering.Spelling.{spelled_at, element_spelled}
use Rattle.java_loops.proofs.Known.KnownNumbers.{IsGoodEntry, entries_good}
use Rattle.java_loops.proofs.Listed.ListedRows.{fragment_seen}
use Rattle.java_loops.proofs.Lowering.LowerChains.{at_setting}
use Rattle.java_loops.proofs.Lowering.LowerValid.{fragments_valid}
use Rattle.java_loops.proofs.Placing.PlaceLoop.{kernel_unbroken}
use Rattle.java_loops.proofs.Typing.TypedAccumulators.{accumulators_there as needed_there}
use Rattle.lowering.specs.Asked.{queries_in, IsKernelLoop}
use Rattle.lowering.proofs.Known.KnownLoop.{known_to}
use Rattle.rewrite_core.specs.Asked.{Place, value_by, arguments_of, table_taken, spelled_or_text, asks_of}
use Rattle.rewrite_core.specs.Asking.{QueriesAreValid, HasAsks, AgreeOnEntries, IsTypedAsk}
use Rattle.rewrite_core.proofs.Answering.{canonical_read}
use Rattle.rewrite_core.proofs.Asks.{emission_of, ask_of, asks_by, Follow, follow_first, follow_next, follow_here, asks_are}
use Rattle.rewrite_core.proofs.Outer.{AreOuter, accumulators_there}
use Rattle.rewrite_core.proofs.TypedAnswers.{listed_of, made_found, some_same, answer_typed}
use Rattle.rewrite_core.proofs.TypedArguments.{arguments_typed}

-- ---- One call

abbrev type_of_call : PlainQuery → JavaType → QueryType
type_of_call q k = record { params = params_in q; answer = k }

-- a text that a frame reads as a query has the query's type
call_typed : (schema : Schema) (reader : Reader schema) (m : PlainMethod) (q : PlainQuery) (k : JavaType) → IsQueryOf schema q → answer_type schema q ≡ Some k → (frame_of schema reader.read m).asks (canonical q) ≡ Some (type_of_call q k)
call_typed schema reader m q k valid e = ap (type_of_found schema) (canonical_read schema reader q valid) ∙ ap (option_map (type_of_call q)) e

module _ (c : Frame) (g : Types) (schema : Schema) (f : kernel.Fragment) (at : Span) (T : List ℕ) (E : Spelled) (text : List ℕ) (arguments : Expressions) (q : PlainQuery) (have : HaveTypes c g arguments (params_in q)) where
  abbrev Asks : JavaType → Type 0
  Asks type = c.asks text ≡ Some (type_of_call q (listed_of type))

  -- what is asked by the query of an accumulator has the type of what its update collects
  value_typed : (u : Update) (type : JavaType) → collected_type schema f u ≡ Some type → Asks type → HasType c g (value_by at u T E text arguments) type
  value_typed (updates.Push (elems.Whole j)) type collects asks =
      let a = made_found Listed (element_type schema f (elems.Whole j)) type collects in
      subst (λ k. Asks k → HasType c g (value_by at (updates.Push (elems.Whole j)) T E text arguments) k) a.2 (λ e. typing.query at _ text arguments (type_of_call q (Listed a.0)) e have) asks
  value_typed (updates.Push (elems.Field j n)) type collects asks =
      let a = made_found Listed (element_type schema f (elems.Field j n)) type collects in
      subst (λ k. Asks k → HasType c g (value_by at (updates.Push (elems.Field j n)) T E text arguments) k) a.2 (λ e. typing.query at E text arguments (type_of_call q (Listed a.0)) e have) asks
  value_typed (updates.PushNew x) type collects asks =
      let a = made_found Distinct (element_type schema f x) type collects in
      subst (λ k. Asks k → HasType c g (value_by at (updates.PushNew x) T E text arguments) k) a.2 (λ e. typing.new_set_of at _ a.0 (typing.query at E text arguments (type_of_call q (Listed a.0)) e have)) asks
  value_typed updates.Tick type collects asks =
      subst (λ k. Asks k → HasType c g (value_by at updates.Tick T E text arguments) k) (some_same (Of (ScalarOf tys.Long)) type collects) (λ e. typing.query_long at text arguments (type_of_call q (Of (ScalarOf tys.Long))) e have) asks
  value_typed (updates.Plus x) type collects asks =
      subst (λ k. Asks k → HasType c g (value_by at (updates.Plus x) T E text arguments) k) (some_same (Of (ScalarOf tys.Long)) type collects) (λ e. typing.query_long at text arguments (type_of_call q (Of (ScalarOf tys.Long))) e have) asks
  value_typed (updates.Best way x) type collects asks =
      subst (λ k. Asks k → HasType c g (value_by at (updates.Best way x) T E text arguments) k) (some_same (Of (ScalarOf tys.Long)) type collects) (λ e. typing.query_long at text arguments (type_of_call q (Of (ScalarOf tys.Long))) e have) asks
  value_typed updates.Mark type collects asks =
      subst (λ k. Asks k → HasType c g (value_by at updates.Mark T E text arguments) k) (some_same (Of (ScalarOf tys.Bool)) type collects) (λ e. typing.query_boolean at text arguments (type_of_call q (Of (ScalarOf tys.Bool))) e have) asks

-- ---- What accumulators collect

-- the accumulator collects what the variable may hold
pub record Collects (w : Setting) (x : List ℕ) (a : Accumulator) : Type 0 where
  pub type : JavaType
  pub visible : w.types x ≡ Some type
  pub collects : collected_type w.schema (lowering w).fragment a.update ≡ Some type

-- so it is for each of the names and its accumulator
abbrev pub AllCollect : Setting → Names → List Accumulator → Type 0
AllCollect w [] accs = Unit {0}
AllCollect w (x ∷ xs) [] = ⊥
AllCollect w (x ∷ xs) (a ∷ accs) = Collects w x a × AllCollect w xs accs

abbrev CollectsAt : Setting → List Accumulator → ℕ → List ℕ → Type 0
CollectsAt w accs i x = (a : Accumulator) × (slice_get accs i ≡ Some a) × Collects w x a

all_collect : (w : Setting) (xs : Names) (accs : List Accumulator) → AreOuter xs accs → ((i : ℕ) (x : List ℕ) → slice_get xs i ≡ Some x → CollectsAt w accs i x) → AllCollect w xs accs
all_collect w [] accs o h = tt
all_collect w (x ∷ xs) [] o h = absurd o
all_collect w (x ∷ xs) (a ∷ accs) o h =
    let first : CollectsAt w (a ∷ accs) 0 x = h 0 x refl in
    let same : first.0 ≡ a = (let e : Some a ≡ Some first.0 = first.1 in cc) in
    (subst (Collects w x) same first.2, all_collect w xs accs o.2 (λ i y e. h (suc i) y e))

-- the accumulators of a loop's needed variables collect what these may hold
pub collects_there : (schema : Schema) (read : List ℕ → Option PlainQuery) (p : PlainProgram) (path : List ℕ) (w : Setting) → IsKernelLoop schema read p path w → AreOuter (needed_in_order w) (lowering w).fragment.accs → AllCollect w (needed_in_order w) (lowering w).fragment.accs
collects_there schema read p path w k outer =
    let needed : AreForNeeded w = needed_there schema read p path w k.typed k.numbers k.there k.unbroken in
    all_collect w (needed_in_order w) (lowering w).fragment.accs outer (λ i x e. let n : IsForNeeded w i x = needed.needed i x e in (n.accumulator, n.there, record { type = n.type; visible = n.visible; collects = n.collects }))

-- a set takes columns
pub takes_column : (u : Update) → takes_a_column u ≡ true → (j : ℕ) → u ≡ updates.PushNew (elems.Whole j) → ⊥
takes_column u h j e = let no : false ≡ true = sym (ap takes_a_column e) ∙ h in absurd cc

-- ---- All asks

module _ (l : Place) (schema : Schema) (reader : Reader schema) (same : l.setting.schema ≡ schema) (method : PlainMethod) (g : Types) (agree : AgreeOnEntries l.setting g)
    (good : AllByRecursion (IsGoodEntry l.setting) (entries_of l.setting))
    (entries : EntriesAreThere l.setting.schema (lowering l.setting).fragment (queries_in (lowering l.setting).known) (lowering l.setting).arguments)
    (emitted : QueriesAreValid l.setting l.candidate) where
  abbrev w : Setting
  w = l.setting

  abbrev lowered : kernel.Fragment
  lowered = (lowering w).fragment

  abbrev c : Frame
  c = frame_of schema reader.read method

  one_typed : (x : List ℕ) (m : Member) → Collects w x m.0 → AccumulatorIsValid lowered m.0 → IsQueryOf w.schema (emission_of l m).query → IsTypedAsk c w g (ask_of l x m)
  one_typed x m k v query =
      let e : Emission = emission_of l m in
      let at : Span = place_of w.fragment.loop in
      let answer : answer_type w.schema e.query ≡ Some (listed_of k.type) = answer_typed w.schema lowered (ground w.schema lowered l.candidate (queries_in (lowering w).known) (lowering w).arguments) refl m lowered.entries k.type (element_in lowered m.0 v) (takes_column m.0.update (column_taken lowered m.0 v)) k.collects in
      let have : HaveTypes c g (arguments_of at (lowering w).entries e.entries) (params_in e.query) = arguments_typed w c (sym same) g at (lowering w).entries good agree e.entries (params_in e.query) (entries l.candidate m).types in
      record {
        type = k.type;
        visible = k.visible;
        value = value_typed c g w.schema lowered at (table_taken w m.0.update) (spelled_or_text (element_spelled (spelled_at x l.path l.program))) (canonical e.query) (arguments_of at (lowering w).entries e.entries) e.query have m.0.update k.type k.collects
            (call_typed schema reader method e.query (listed_of k.type) (subst (λ z. IsQueryOf z e.query) same query) (subst (λ z. answer_type z e.query ≡ Some (listed_of k.type)) same answer));
      }

  all_typed : (k n : ℕ) (xs : Names) (accs : List Accumulator) → Follow l k n accs → AreOuter xs accs → AllCollect w xs accs → AllByRecursion (AccumulatorIsValid lowered) accs → k + length xs ≡ length (needed_in_order w) → AllByRecursion (IsTypedAsk c w g) (asks_by l n xs accs)
  all_typed k n [] accs h o a v count = tt
  all_typed k n (x ∷ xs) [] h o a v count = absurd o
  all_typed k n (x ∷ xs) (b ∷ accs) h o a v count =
      let m : Member = (b, chosen l.candidate n b.pool) in
      let there : slice_get (members lowered l.candidate) k ≡ Some m = follow_here l k n b accs h in
      let query : IsQueryOf w.schema (emission_of l m).query = emitted k (emission_of l m) (omega (arith, count)) (ap (λ q. emission w.schema lowered l.candidate (queries_in (lowering w).known) (lowering w).arguments q) there) in
      (one_typed x m a.0 v.0 query, all_typed (suc k) (n + length b.pool) xs accs (follow_next l k n b accs h) o.2 a.1 v.1 (omega (arith, count)))

-- The asks for a loop are typed where the types agree on what the entry values read.
pub asks_are_typed : (schema : Schema) (reader : Reader schema) (l : Place) (method : PlainMethod) (g : Types) → HasAsks schema reader.read l.program l.path l.setting l.candidate → AgreeOnEntries l.setting g → AllByRecursion (IsTypedAsk (frame_of schema reader.read method) l.setting g) (asks_of l)
asks_are_typed schema reader l method g may agree =
    at_setting
    (λ (z : Setting). HasAsks schema reader.read l.program l.path z l.candidate → AgreeOnEntries z g → AllByRecursion (IsTypedAsk (frame_of schema reader.read method) z g) (asks_of (record { program = l.program; path = l.path; setting = z; candidate = l.candidate })))
    schema reader.read l.program l.path l.setting may.loop.typed may.loop.numbers
    (λ f h there rules may' agree'.
    let w : Setting = setting_of schema reader.read h f in
    let p : Place = record { program = l.program; path = l.path; setting = setting_of schema reader.read h f; candidate = l.candidate } in
    let unbroken = fragments_valid schema reader.read l.program l.path w may'.loop.typed may'.loop.numbers may'.loop.there may'.loop.unbroken in
    let outer : AreOuter (needed_in_order w) (lowering w).fragment.accs = accumulators_there schema reader.read l.program l.path f h may'.loop.typed there rules in
    let collect : AllCollect w (needed_in_order w) (lowering w).fragment.accs = collects_there schema reader.read l.program l.path w may'.loop outer in
    let entries = entries_are schema (lowering w).fragment (queries_in (lowering w).known) (lowering w).arguments unbroken (known_to schema reader.read l.program l.path w may'.loop may'.known) in
    let good = entries_good schema reader.read f h (fragment_seen schema reader.read l.program l.path f h may'.loop.typed there) (kernel_unbroken w rules).conditions in
    subst (AllByRecursion (IsTypedAsk (frame_of schema reader.read method) w g)) (sym (asks_are p 0 0 (needed_in_order w) (lowering w).fragment.accs (follow_first p) outer))
    (all_typed p schema reader refl method g agree' good entries may'.emitted 0 0 (needed_in_order w) (lowering w).fragment.accs (follow_first p) outer collect (valid (lowering w).fragment unbroken).accs (omega arith)))
    may.loop.there may.loop.unbroken may agree
