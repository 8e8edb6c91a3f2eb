-- What is emitted, as the code makes it, and what the laws say of it.
use Rattle.std.proofs.Common.{◌≡◌, ℕ, zero, suc, ◌<◌, ◌≤◌, true, List, [], ◌∷◌, map, length, slice_get, Some, None, option_map, Result, Ok, Err, IfOk, refl, sym, ap, ap₂, ◌∙◌, subst, arith}
use Rattle.std.specs.List.{AllByRecursion}
use Rattle.std.specs.Str.{IsUtf8}
use Rattle.qbs_base.specs.declared.memory.NoMemory.{NoMemory}
use Rattle.qbs_base.specs.declared.scalar.Ty.{Ty}
use Rattle.qbs_base.specs.Values.{Schema}
use Rattle.schema.specs.Rules.{IsSchema, AreNamed}
use Rattle.tor_terms.specs.Plain.{forms_of}
use Rattle.kernel_lang.specs.declared.fragment.KFragment.{KFragment}
use Rattle.kernel_lang.specs.declared.parts.Acc.{Acc}
use Rattle.kernel_lang.specs.declared.parts.Update.{Update}
use Rattle.kernel_lang.specs.declared.parts.Update.TheVariants as updates
use Rattle.kernel_lang.specs.Plain.{Fragment, accumulator}
use Rattle.kernel_lang.specs.Pools.{Member, chosen, members}
use Rattle.kernel_lang.specs.Sentences.{AccumulatorIsValid}
use Rattle.kernel_lang.specs.Typed.{is_typed}
use Rattle.kernel_lang.specs.Validity.{broken}
use Rattle.kernel_lang.specs.Whole.{fragment_of}
use Rattle.kernel_lang.proofs.Sentences.{valid}
use Rattle.kernel_lang.proofs.Listing.{some_eq}
use Rattle.sql_ast.specs.Answers.{IsOrderComplete}
use Rattle.sql_ast.specs.Canonical.{canonical}
use Rattle.sql_ast.specs.Reading.{query}
use Rattle.sql_ast.specs.Tree.{Filter, Everything, PlainQuery}
use Rattle.sql_ast.specs.Valid.{IsQueryOf}
use Rattle.sql_emit.specs.declared.emission.Emitted.{Emitted}
use Rattle.sql_parts.specs.Emitted.{query_by, query_of, where_of}
use Rattle.sql_parts.specs.Given.{AreKnownTo, IsHeld, IsOutermost, QueryIsCounted, SaysWhatIsClaimed, AnswersWhatIsClaimed, HasEntries, TextsAreUtf8, QueryIsUtf8}
use Rattle.sql_build.specs.Types.{type_of}
use Rattle.sql_parts.specs.Numbered.{Emission, filter_in, filter_uses, first_uses, renumbered_filter, with_filter, numbered_by, in_order, emission, emitted}
use Rattle.sql_parts.specs.Reading.{number_first}
use Rattle.sql_emit.specs.Reading.{emission_of}
use Rattle.sql_parts.specs.Scopes.{Ground, ground}
use Rattle.sql_parts.proofs.Claims.{says}
use Rattle.sql_parts.proofs.Complete.{complete}
use Rattle.sql_parts.proofs.Entries.{entries_are}
use Rattle.sql_emit.proofs.Flagged.{member_is}
use Rattle.sql_parts.proofs.Queries.{le_of, grammatical}
use Rattle.sql_parts.proofs.Utf8.{queries_are_utf8}
use Rattle.sql_parts.proofs.Valid.{MemberAt, chain_parts, member_at}

-- ---- what a fragment's accumulators are

some_from : (m n : ℕ) → m < n → 0 < n
some_from m n h = omega (arith, h)

all_short : (f : Fragment) (accs : List Acc) → AllByRecursion (AccumulatorIsValid f) (map accumulator accs) → AllByRecursion (λ (a : Acc). length a.chain ≤ 3) accs
all_short f [] v = tt
all_short f (a ∷ accs) v = (le_of (length a.chain) 3 (chain_parts f (accumulator a) v.0).0, all_short f accs v.1)

pub accs_short : (frag : KFragment) → AllByRecursion (λ (a : Acc). length a.chain ≤ 3) frag.accs
accs_short frag = all_short (fragment_of frag) frag.accs (valid (fragment_of frag) frag.valid).accs

all_some : (f : Fragment) (accs : List Acc) → AllByRecursion (AccumulatorIsValid f) (map accumulator accs) → AllByRecursion (λ (a : Acc). 0 < length a.chain) accs
all_some f [] v = tt
all_some f (a ∷ accs) v = (some_from a.base (length a.chain) (chain_parts f (accumulator a) v.0).2, all_some f accs v.1)

pub accs_some : (frag : KFragment) → AllByRecursion (λ (a : Acc). 0 < length a.chain) frag.accs
accs_some frag = all_some (fragment_of frag) frag.accs (valid (fragment_of frag) frag.valid).accs

-- a number that names one is below their count
pub below : {X Y : Type 0} (f : X → Y) (xs : List X) (k : ℕ) (y : Y) → slice_get (map f xs) k ≡ Some y → k < length xs
below f [] k y e = absurd cc
below f (x ∷ xs) zero y e = omega arith
below f (x ∷ xs) (suc k) y e = let h : k < length xs = below f xs k y e in omega (arith, h)

-- ---- the query, part by part

with_any : (u : Update) (g : Ground) (m : Member) (f h : Filter) (types : List Ty) → with_filter (query_by u g (m.0, []) Everything) h types ≡ with_filter (query_by u g m f) h types
with_any (updates.Push e) g m f h types = refl
with_any (updates.PushNew e) g m f h types = refl
with_any updates.Tick g m f h types = refl
with_any (updates.Plus e) g m f h types = refl
with_any (updates.Best way e) g m f h types = refl
with_any updates.Mark g m f h types = refl

filter_kept : (u : Update) (g : Ground) (m : Member) (f : Filter) → filter_in (query_by u g m f) ≡ f
filter_kept (updates.Push e) g m f = refl
filter_kept (updates.PushNew e) g m f = refl
filter_kept updates.Tick g m f = refl
filter_kept (updates.Plus e) g m f = refl
filter_kept (updates.Best way e) g m f = refl
filter_kept updates.Mark g m f = refl

pub emission_is : (types : List Ty) (g : Ground) (m : Member) (q : PlainQuery) (f h : Filter) (order : List ℕ) (params : List Ty) → f ≡ where_of g m → order ≡ first_uses [] (filter_uses f) → h ≡ renumbered_filter order f
    → params ≡ map (λ k. type_of (slice_get types k)) order → q ≡ with_filter (query_by m.0.update g (m.0, []) Everything) h params → record { query = q; entries = order } ≡ in_order types (query_of g m)
emission_is types g m q f h order params filter_is order_is renumbered_is params_is query_is =
    let kept : f ≡ filter_in (query_of g m) = filter_is ∙ sym (filter_kept m.0.update g m (where_of g m)) in
    let same : q ≡ with_filter (query_of g m) (renumbered_filter order (filter_in (query_of g m))) (map (λ k. type_of (slice_get types k)) order) =
    query_is ∙ with_any m.0.update g m (where_of g m) h params ∙ ap₂ (λ (x : Filter) (y : List Ty). with_filter (query_of g m) x y) (renumbered_is ∙ ap (renumbered_filter order) kept) params_is in
    let first : order ≡ first_uses [] (filter_uses (filter_in (query_of g m))) = order_is ∙ ap (λ (x : Filter). first_uses [] (filter_uses x)) kept in
    ap (λ (x : PlainQuery). record { query = x; entries = order }) same ∙ ap (λ (x : List ℕ). numbered_by types x (query_of g m)) first

pub exact_by : (schema : Schema) (frag : KFragment) (cand : List ℕ) (acc : ℕ) (known : List PlainQuery) (args : List (List ℕ)) (a : Acc) (first : ℕ) (types : List Ty) (choice : List ℕ) (g : Ground) (r : Result Emitted NoMemory) → slice_get frag.accs acc ≡ Some a
    → first ≡ number_first 0 (map accumulator frag.accs) acc → types ≡ frag.entries → choice ≡ cand → g ≡ ground schema (fragment_of frag) cand known args → IfOk r (λ e. emission_of e ≡ in_order types (query_of g (accumulator a, chosen choice first (forms_of a.pool))))
    → IfOk r (λ e. Some (emission_of e) ≡ emitted schema (fragment_of frag) cand acc known args)
exact_by schema frag cand acc known args a first types choice g (Err e) there number types_are choice_is ground_is h = tt
exact_by schema frag cand acc known args a first types choice g (Ok e) there number types_are choice_is ground_is h =
    ap Some (h ∙ ap₂ (λ (ts : List Ty) (c : List ℕ). in_order ts (query_of g (accumulator a, chosen c first (forms_of a.pool)))) types_are choice_is
    ∙ ap₂ (λ (x : Ground) (n : ℕ). in_order frag.entries (query_of x (accumulator a, chosen cand n (forms_of a.pool)))) ground_is number)
    ∙ sym (ap (emission schema (fragment_of frag) cand known args) (member_is cand frag.accs acc ∙ ap (option_map (λ (x : Acc). (accumulator x, chosen cand (number_first 0 (map accumulator frag.accs) acc) (accumulator x).pool))) there))

-- ---- what the laws say of it

module _ (schema : Schema) (f : Fragment) (cand : List ℕ) (acc : ℕ) (known : List PlainQuery) (args : List (List ℕ)) (out : IsOutermost f acc) (unbroken : broken f ≡ None) where
  abbrev member : MemberAt out.accumulator (members f cand) acc
  member = member_at cand 0 f.accs acc out.accumulator out.there

  abbrev defined : Emission
  defined = in_order f.entries (query_of (ground schema f cand known args) (out.accumulator, member.choice))

  is_defined : (e : Emission) → Some e ≡ emitted schema f cand acc known args → e ≡ defined
  is_defined e h = some_eq e defined (h ∙ ap (emission schema f cand known args) member.there)

  pub grammar_by : IsSchema schema → AreNamed schema → is_typed schema f ≡ true → AreKnownTo schema f known args → AllByRecursion QueryIsCounted known → IsHeld f
      → (r : Result Emitted NoMemory) → IfOk r (λ e. Some (emission_of e) ≡ emitted schema f cand acc known args) → IfOk r (λ e. IsQueryOf schema (query e.query))
  grammar_by is named typed are counted held (Err e) h = tt
  grammar_by is named typed are counted held (Ok e) h =
      subst (λ (x : Emission). IsQueryOf schema x.query) (sym (is_defined (emission_of e) h)) (grammatical schema f cand known args acc (out.accumulator, member.choice) is named unbroken typed are counted held member.there out.base)

  pub order_by : (r : Result Emitted NoMemory) → IfOk r (λ e. Some (emission_of e) ≡ emitted schema f cand acc known args) → IfOk r (λ e. IsOrderComplete (query e.query))
  order_by (Err e) h = tt
  order_by (Ok e) h = subst (λ (x : Emission). IsOrderComplete x.query) (sym (is_defined (emission_of e) h)) (complete schema f cand known args acc (out.accumulator, member.choice) unbroken member.there)

  pub entries_by : AreKnownTo schema f known args → (r : Result Emitted NoMemory) → IfOk r (λ e. Some (emission_of e) ≡ emitted schema f cand acc known args) → IfOk r (λ e. HasEntries f (emission_of e))
  entries_by are (Err e) h = tt
  entries_by are (Ok e) h = subst (HasEntries f) (sym (is_defined (emission_of e) h)) (entries_are schema f known args unbroken are cand (out.accumulator, member.choice))

  pub utf8_by : TextsAreUtf8 f known
      → (r : Result Emitted NoMemory) → IfOk r (λ e. Some (emission_of e) ≡ emitted schema f cand acc known args) → IfOk r (λ e. IsQueryOf schema (query e.query)) → IfOk r (λ e. IsUtf8 (canonical (query e.query)))
  utf8_by texts (Err e) h grammar = tt
  utf8_by texts (Ok e) h grammar =
      let same : QueryIsUtf8 schema (query e.query) =
      subst (λ (x : Emission). QueryIsUtf8 schema x.query) (sym (is_defined (emission_of e) h)) (queries_are_utf8 schema f known args unbroken texts cand acc (out.accumulator, member.choice) member.there) in
      same.text grammar

  pub meaning_by : is_typed schema f ≡ true → AreKnownTo schema f known args
      → (r : Result Emitted NoMemory) → IfOk r (λ e. Some (emission_of e) ≡ emitted schema f cand acc known args) → IfOk r (λ e. AnswersWhatIsClaimed schema f cand acc known args (emission_of e))
  meaning_by typed are (Err e) h = tt
  meaning_by typed are (Ok e) h =
      subst (AnswersWhatIsClaimed schema f cand acc known args) (sym (is_defined (emission_of e) h))
      (λ m there. same_member m (some_eq (out.accumulator, member.choice) m (sym member.there ∙ there)))
    where
      same_member : (m : Member) → (out.accumulator, member.choice) ≡ m → SaysWhatIsClaimed schema f cand known args m defined
      same_member m same = subst (λ (x : Member). SaysWhatIsClaimed schema f cand known args x defined) same (says schema f cand known args acc (out.accumulator, member.choice) unbroken typed are member.there out.base)
