-- Where all that a command reads is right, it goes on to its end.
use Rattle.std.proofs.Common.{◌≡◌, ℕ, ◌≤◌, ◌-◌, ◌⊎◌, inl, inr, Bool, true, false, List, [], ◌∷◌, ◌++◌, length, Option, Some, None, IfSome, subst, sym, refl, ap, ◌∙◌, codes}
use Rattle.std.specs.Prelude.{IsSome}
use Rattle.qbs_base.specs.declared.status.Status.{Status}
use Rattle.qbs_base.specs.declared.status.Status.TheVariants as statuses
use Rattle.qbs_base.specs.Values.{Schema, Database}
use Rattle.java_ast.specs.Tree.{PlainParam, PlainMethod, PlainProgram}
use Rattle.deriv_check.specs.Bundles.{Entry}
use Rattle.deriv_check.specs.Grammar.{HasBundle}
use Rattle.rewrite_core.specs.Checking.{Checks, All, Refused, checked_from}
use Rattle.java_mean.specs.Keeps.{KeepsMethod, Keeps}
use Rattle.java_mean.specs.Outcome.{Outcome, Done, Faulted, OutOfTurns, Stuck, outcome, world_with}
use Rattle.java_types.specs.Texts.{read_by}
use Rattle.sql_ast.specs.Meaning as meaning
use Rattle.sql_ast.specs.Meaning.{Answered, query_answer}
use Rattle.sql_ast.specs.Tree.{PlainQuery}
use Rattle.small_dbs.specs.declared.small.SmallDb.{SmallDb}
use Rattle.words.specs.declared.command.Command.{Command}
use Rattle.words.specs.declared.command.Command.TheVariants as commands
use Rattle.words.specs.declared.command.Options.{Options}
use Rattle.words.specs.Plain.{HasWords}
use Rattle.words.specs.Reading.{plain}
use Rattle.words.proofs.Exact.{reads_plain_words}
use Rattle.deliveries.specs.Limits.{most_map, most_schema, most_source, most_bundle, most_tables, most_dump, most_entities, most_store}
use Rattle.deliveries.specs.declared.plan.Plan.{Plan}
use Rattle.plans.specs.Calls.{Call, Called, Calls, CallsNothing, arguments, word_refusal}
use Rattle.plans.specs.Opening.{BreaksBundle, bundle_refusal, has_bundle, IsSchemaOf, BreaksSchema, schema_refusal, IsMapOf, BreaksMap, map_refusal, has_map, IsProgramOf, HasNoProgram, has_schema, has_program, HasLeast, type_refusal}
use Rattle.deliveries.specs.Deliver.{Change}
use Rattle.deliveries.specs.Plan.{Given}
use Rattle.plans.specs.Results.{names_of}
use Rattle.deliveries.specs.Steps.{Ends, refused, IsRead, IsNotRead, reads}
use Rattle.deliveries.specs.Named.{AreFilesRead, AreFilesUnread, reads_files, IsNamed, AreHeld}
use Rattle.plans.specs.Tables.{table_files, reads_tables, HasRows, LacksRows, data_refusal, has_rows}
use Rattle.qbs.specs.Check.{tells, checks, check_of, check, reads_evidence}
use Rattle.qbs.specs.Commands.{is_built, built, where_built, command, IsDue, by_view}
use Rattle.qbs.specs.Complete.{HasFile, HaveTexts, HaveEntities, HasStoreFile, HasSourceFile, HasSchema, HasSource, HasTables, HasCall, HasWhole, IsRight, IsEnd, IsEndWhere, IsListed, IsComplete, HasSourceBy, IsDoneBy}
use Rattle.qbs.specs.CheckByView.{seen_program, check_by_view_of, check_by_view}
use Rattle.call_rules.specs.Faults.{IsFaultOf}
use Rattle.inlining.specs.Inlined.{IsWhole}
use Rattle.java_mean.specs.WellTyped.{IsWellTyped}
use Rattle.qbs.specs.Draw.{Draws, draw}
use Rattle.qbs.specs.Inline.{IsProgramWithCallsOf, HasNoProgramWithCalls, has_program_with_calls, helper_refusal, has_no_calls_left, types_and_writes, Inlines, inline_of, inline}
use Rattle.qbs.specs.Narrow.{Narrows, narrow_of, narrow}
use Rattle.qbs.specs.Unnest.{Unnests, unnest_of, unnest}
use Rattle.qbs.specs.View.{Seen, sees, views, view_of, view}
use Rattle.view_map.specs.declared.model.ViewMap.{ViewMap}
use Rattle.qbs.specs.Maps.{IsText, draws, checks_of, checks_source, checks_map}
use Rattle.qbs.specs.Make.{IsNotDone, method_text, outcome_over, runs, make}
use Rattle.qbs.specs.Gather.{GathersStore, gather_of, gather}
use Rattle.qbs.specs.Opened.{reads_all, has_all}
use Rattle.qbs.specs.OpenedByView.{reads_by_view, sees_all}
use Rattle.qbs.specs.Pruners.{May, with_bank}
use Rattle.qbs.specs.Prove.{Proves, prove}
use Rattle.qbs.specs.ProveByView.{ProvesSeen, prove_by_view}
use Rattle.qbs.specs.Rewrite.{size_of, budget_of, Rewrites, rewrite}
use Rattle.qbs.specs.RewriteByView.{WritesBack, rewrite_by_view}
use Rattle.qbs.specs.Run.{IsChosen, chooses, comes_to, comes, call_of, run_of, run, turns_of}
use Rattle.qbs.specs.Sql.{IsAsked, AsksNothing, answer_plan, answers, sql_of, sql}
use Rattle.qbs.specs.Store.{IsStoreRead, IsStoreUnread, reads_store, IsBankOf, HasNoBank, has_store}
use Rattle.qbs.specs.Top.{IsDone}
use Rattle.qbs.proofs.AlikeRuns.{kept_named, some_named}
use Rattle.qbs.proofs.ByView.{proves_well}
use Rattle.qbs.proofs.Inlining.{calls_one, whole_one, typed_one}
use Rattle.qbs.proofs.OneFound.{schema_one, map_one, program_one, bundle_one, rows_one, call_one, query_one}
use Rattle.qbs.proofs.OneRead.{read_one, files_one}
use Rattle.qbs.proofs.OneStep.{goes}
use Rattle.qbs.proofs.OneStore.{store_read_one, bank_one}

-- ---- one step

some_is : (o : Option (List ℕ)) (bytes : List ℕ) → o ≡ Some bytes → IsSome o
some_is (Some all) bytes e = refl
some_is None bytes e = absurd cc

-- a file that is told
module _ (files : Given) (calm : (name : List ℕ) → files.failed name → ⊥) where
  opens : (name : List ℕ) (limit : ℕ) (label bytes : List ℕ) (next : List ℕ → Ends) → files.told name ≡ Some bytes → length bytes ≤ limit → (plan : Plan) → reads files name limit label next plan → next bytes plan
  opens name limit label bytes next e within plan h =
      goes (IsRead files name limit) (IsNotRead files name limit label) next (read_one files name limit label (some_is (files.told name) bytes e) calm) bytes
      (within, subst (λ (o : Option (List ℕ)). IfSome o (λ all. bytes ≡ all)) (sym e) refl) plan h

  are_read : (names : List (List ℕ)) (left : ℕ) (texts : List (List ℕ)) → AreHeld files.told names left texts → AreFilesRead files names left texts
  are_read [] left [] h = tt
  are_read [] left (text ∷ texts) h = absurd h
  are_read (name ∷ names) left [] h = absurd h
  are_read (name ∷ names) left (text ∷ texts) h =
      ((h.1, subst (λ (o : Option (List ℕ)). IfSome o (λ all. text ≡ all)) (sym h.0) refl), are_read names (left - length text) texts h.2)

  all_told : (names : List (List ℕ)) (left : ℕ) (texts : List (List ℕ)) → AreHeld files.told names left texts → (name : List ℕ) → IsNamed names name → IsSome (files.told name)
  all_told [] left texts h name file = absurd file
  all_told (first ∷ names) left [] h name file = absurd h
  all_told (first ∷ names) left (text ∷ texts) h name (inl same) = subst (λ (n : List ℕ). IsSome (files.told n)) (sym same) (some_is (files.told first) text h.0)
  all_told (first ∷ names) left (text ∷ texts) h name (inr file) = all_told names (left - length text) texts h.2 name file

  opens_files : (names : List (List ℕ)) (limit : ℕ) (label : List ℕ) (texts : List (List ℕ)) (next : List (List ℕ) → Ends) → AreHeld files.told names limit texts → (plan : Plan) → reads_files files names limit label next plan → next texts plan
  opens_files names limit label texts next have plan h =
      goes (AreFilesRead files names limit) (AreFilesUnread files names limit label) next (files_one files names limit label (all_told names limit texts have) calm) texts (are_read names limit texts have) plan h

  opens_tables : (folder : List ℕ) (tables : Schema) (texts : List (List ℕ)) (next : List (List ℕ) → Ends) → HaveTexts files.told folder tables most_tables texts → (plan : Plan) → reads_tables files folder tables next plan → next texts plan
  opens_tables folder tables texts next have plan h = opens_files (table_files folder tables) most_tables (codes "tables") texts next have plan h

goes_schema : (bytes : List ℕ) (tables : Schema) (next : Schema → Ends) → IsSchemaOf bytes tables → (plan : Plan) → has_schema bytes next plan → next tables plan
goes_schema bytes tables next is plan h = goes (IsSchemaOf bytes) (refused (BreaksSchema bytes) schema_refusal) next (schema_one bytes) tables is plan h

goes_program : (tables : Schema) (bytes : List ℕ) (p : PlainProgram) (next : PlainProgram → Ends) → IsProgramOf tables bytes p → (plan : Plan) → has_program tables bytes next plan → next p plan
goes_program tables bytes p next is plan h = goes (IsProgramOf tables bytes) (HasNoProgram tables bytes) next (program_one tables bytes) p is plan h

goes_map : (tables : Schema) (bytes : List ℕ) (m : ViewMap) (next : ViewMap → Ends) → IsMapOf tables bytes m → (plan : Plan) → has_map tables bytes next plan → next m plan
goes_map tables bytes m next is plan h = goes (IsMapOf tables bytes) (refused (BreaksMap tables bytes) (map_refusal bytes)) next (map_one tables bytes) m is plan h

goes_rows : (tables : Schema) (texts : List (List ℕ)) (db : Database) (next : Database → Ends) → HasRows tables texts db → (plan : Plan) → has_rows tables texts next plan → next db plan
goes_rows tables texts db next is plan h = goes (HasRows tables texts) (refused (LacksRows tables texts) data_refusal) next (rows_one tables texts) db is plan h

-- ---- `rewrite` and `prove`

-- a store that is told is read
store_is_read : (files : Given) → ((name : List ℕ) → files.failed name → ⊥) → (name : Option (List ℕ)) (tables : Schema) (next : Option (List ℕ) → Ends) → HasStoreFile files.told name tables → (plan : Plan) → reads_store files name next plan →
    (b : Option (List ℕ)) × (bank : Option (List SmallDb)) × IsBankOf tables b bank × next b plan
store_is_read files calm None tables next right plan h =
    (None, None, refl, goes (IsStoreRead files None) (IsStoreUnread files None) next (store_read_one files None (λ other is. absurd is) calm) None refl plan h)
store_is_read files calm (Some name) tables next right plan h =
    let told : IsSome (files.told name) = some_is (files.told name) right.bytes right.has in
    let read : IsRead files name most_store right.bytes = (right.within, subst (λ (o : Option (List ℕ)). IfSome o (λ all. right.bytes ≡ all)) (sym right.has) refl) in (
      Some right.bytes,
      Some right.is.0,
      (right.is.0, right.is.1, refl),
      goes (IsStoreRead files (Some name)) (IsStoreUnread files (Some name)) next (store_read_one files (Some name) (λ other is. subst (λ (n : List ℕ). IsSome (files.told n)) (sym is) told) calm) (Some right.bytes) (right.bytes, read, refl) plan h,
    )

-- where all that is read is right, the command goes on with what it holds
all_opened : (files : Given) → ((name : List ℕ) → files.failed name → ⊥) → (schema source : List ℕ) (store : Option (List ℕ)) (next : List ℕ → Schema → PlainProgram → Option (List SmallDb) → Ends) (plan : Plan) →
    HasSchema files.told schema (λ tables. HasSource files.told source tables (λ p. Unit {0}) × HasStoreFile files.told store tables) →
    reads_all files schema source store (λ s t b. has_all s t b (λ tables p bank. next t tables p bank)) plan →
    (t : List ℕ) × (tables : Schema) × (p : PlainProgram) × (bank : Option (List SmallDb)) × next t tables p bank plan
all_opened files calm schema source store next plan right h =
    let tables : Schema = right.is.0 in
    let text = right.is.2.0 in
    let read = opens files calm schema most_schema (codes "schema") right.bytes
    (λ s. reads files source most_source (codes "source") (λ t. reads_store files store (λ b. has_all s t b (λ ts p bank. next t ts p bank)))) right.has right.within plan h in
    let both = opens files calm source most_source (codes "source") text.bytes (λ t. reads_store files store (λ b. has_all right.bytes t b (λ ts p bank. next t ts p bank))) text.has text.within plan read in
    let all = store_is_read files calm store tables (λ b. has_all right.bytes text.bytes b (λ ts p bank. next text.bytes ts p bank)) right.is.2.1 plan both in
    let opened = goes_schema right.bytes tables (λ ts. has_program ts text.bytes (λ p. has_store ts all.0 (λ bank. next text.bytes ts p bank))) right.is.1 plan all.3 in
    let typed = goes_program tables text.bytes text.is.0 (λ p. has_store tables all.0 (λ bank. next text.bytes tables p bank)) text.is.1 plan opened in
    let held = goes (IsBankOf tables all.0) (HasNoBank tables all.0) (λ bank. next text.bytes tables text.is.0 bank) (bank_one tables all.0) all.1 all.2 plan typed in
    (text.bytes, tables, text.is.0, all.1, held)

rewrite_listed : (files : Given) → ((name : List ℕ) → files.failed name → ⊥) → (may : May) (o : Options) (schema source : List ℕ) (plan : Plan) →
    HasSchema files.told schema (λ tables. HasSource files.told source tables (λ p. Unit {0}) × HasStoreFile files.told o.store tables) → rewrite files may o schema source plan → plan.status ≡ statuses.Ok
rewrite_listed files calm may o schema source plan right h =
    let done = all_opened files calm schema source o.store (λ t tables p bank. Rewrites (with_bank may bank) tables (size_of o) (budget_of o) t p) plan right h in
    ap (λ (x : Plan). x.status) done.4.written

prove_listed : (files : Given) → ((name : List ℕ) → files.failed name → ⊥) → (may : May) (o : Options) (schema source : List ℕ) (plan : Plan) →
    HasSchema files.told schema (λ tables. HasSource files.told source tables (λ p. Unit {0}) × HasStoreFile files.told o.store tables) → prove files may o schema source plan → plan.status ≡ statuses.Ok
prove_listed files calm may o schema source plan right h =
    let done = all_opened files calm schema source o.store (λ t tables p bank. Proves (with_bank may bank) tables (size_of o) (budget_of o) p) plan right h in
    ap (λ (x : Plan). x.status) done.4.written

-- ---- by a view

long_or_done : (m : ViewMap) (tables : Schema) (t : List ℕ) (b : Option (List ℕ)) (bank : Option (List SmallDb)) (next : Seen → Option (List SmallDb) → Ends) → IsBankOf tables b bank →
    ((seen : Seen) (plan : Plan) → next seen bank plan → plan.status ≡ statuses.Ok) → (plan : Plan) → sees m tables t (λ seen. has_store tables b (λ k. next seen k)) plan → (plan.status ≡ statuses.Ok) ⊎ (plan.status ≡ statuses.Limit)
long_or_done m tables t b bank next of well plan (inl h) = inr (ap (λ (x : Plan). x.status) h.due)
long_or_done m tables t b bank next of well plan (inr (seen, is, h)) = inl (well seen plan (goes (IsBankOf tables b) (HasNoBank tables b) (λ k. next seen k) (bank_one tables b) bank of plan h))

-- where all that is read is right, the command goes on with what is seen, or that is too long
by_view_listed : (files : Given) → ((name : List ℕ) → files.failed name → ⊥) → (words schema source : List ℕ) (store : Option (List ℕ)) (next : List ℕ → Schema → ViewMap → Seen → Option (List SmallDb) → Ends) →
    ((t : List ℕ) (tables : Schema) (m : ViewMap) (seen : Seen) (bank : Option (List SmallDb)) (plan : Plan) → next t tables m seen bank plan → plan.status ≡ statuses.Ok) → (plan : Plan) →
    HasSchema files.told schema (λ tables. HasSourceBy files.told (Some words) source tables × HasStoreFile files.told store tables) →
    reads_by_view files words schema source store (λ w s t b. sees_all w s t b (λ tables m seen bank. next t tables m seen bank)) plan → (plan.status ≡ statuses.Ok) ⊎ (plan.status ≡ statuses.Limit)
by_view_listed files calm words schema source store next well plan right h =
    let tables : Schema = right.is.0 in
    let map = right.is.2.0.0 in
    let text = right.is.2.0.1 in
    let first = opens files calm words most_map (codes "map") map.bytes
    (λ w. reads_all files schema source store (λ s t b. sees_all w s t b (λ ts m seen bank. next t ts m seen bank))) map.has map.within plan h in
    let read = opens files calm schema most_schema (codes "schema") right.bytes
    (λ s. reads files source most_source (codes "source") (λ t. reads_store files store (λ b. sees_all map.bytes s t b (λ ts m seen bank. next t ts m seen bank)))) right.has right.within plan first in
    let both = opens files calm source most_source (codes "source") text.bytes
    (λ t. reads_store files store (λ b. sees_all map.bytes right.bytes t b (λ ts m seen bank. next t ts m seen bank))) text.has text.within plan read in
    let all = store_is_read files calm store tables (λ b. sees_all map.bytes right.bytes text.bytes b (λ ts m seen bank. next text.bytes ts m seen bank)) right.is.2.1 plan both in
    let opened = goes_schema right.bytes tables (λ ts. has_map ts map.bytes (λ m. sees m ts text.bytes (λ seen. has_store ts all.0 (λ bank. next text.bytes ts m seen bank)))) right.is.1 plan all.3 in
    let mapped = goes_map tables map.bytes map.is.0 (λ m. sees m tables text.bytes (λ seen. has_store tables all.0 (λ bank. next text.bytes tables m seen bank))) map.is.1 plan opened in
    long_or_done map.is.0 tables text.bytes all.0 all.1 (λ seen bank. next text.bytes tables map.is.0 seen bank) all.2 (λ seen x d. well text.bytes tables map.is.0 seen all.1 x d) plan mapped

rewrite_ends : (files : Given) → ((name : List ℕ) → files.failed name → ⊥) → (may : May) (o : Options) (view : Option (List ℕ)) (schema source : List ℕ) (plan : Plan) →
    HasSchema files.told schema (λ tables. HasSourceBy files.told view source tables × HasStoreFile files.told o.store tables) →
    by_view view (λ map. rewrite_by_view files may o map schema source) (rewrite files may o schema source) plan → IsDoneBy view plan.status
rewrite_ends files calm may o None schema source plan right h = rewrite_listed files calm may o schema source plan right h
rewrite_ends files calm may o (Some map) schema source plan right h =
    by_view_listed files calm map schema source o.store (λ t tables m seen bank. WritesBack (with_bank may bank) m tables (size_of o) (budget_of o) t seen)
    (λ t tables m seen bank x d. ap (λ (y : Plan). y.status) d.written) plan right h

prove_ends : (files : Given) → ((name : List ℕ) → files.failed name → ⊥) → (may : May) (o : Options) (view : Option (List ℕ)) (schema source : List ℕ) (plan : Plan) →
    HasSchema files.told schema (λ tables. HasSourceBy files.told view source tables × HasStoreFile files.told o.store tables) →
    by_view view (λ map. prove_by_view files may o map schema source) (prove files may o schema source) plan → IsDoneBy view plan.status
prove_ends files calm may o None schema source plan right h = prove_listed files calm may o schema source plan right h
prove_ends files calm may o (Some map) schema source plan right h =
    by_view_listed files calm map schema source o.store (λ t tables m seen bank. ProvesSeen (with_bank may bank) m tables (size_of o) (budget_of o) t seen)
    (λ t tables m seen bank x d. proves_well (with_bank may bank) m tables (size_of o) (budget_of o) t seen x d) plan right h

-- ---- `gather`

gather_listed : (files : Given) → ((name : List ℕ) → files.failed name → ⊥) → (o : Options) (schema source : List ℕ) (plan : Plan) → HasSchema files.told schema (λ tables. HasSource files.told source tables (λ p. Unit {0})) →
    gather files o schema source plan → plan.status ≡ statuses.Ok
gather_listed files calm o schema source plan right h =
    let tables : Schema = right.is.0 in
    let text = right.is.2 in
    let read = opens files calm schema most_schema (codes "schema") right.bytes (λ s. reads files source most_source (codes "source") (λ t. gather_of o s t)) right.has right.within plan h in
    let both = opens files calm source most_source (codes "source") text.bytes (λ t. gather_of o right.bytes t) text.has text.within plan read in
    let opened = goes_schema right.bytes tables (λ ts. has_program ts text.bytes (λ p. GathersStore ts (size_of o) (budget_of o) p)) right.is.1 plan both in
    let done = goes_program tables text.bytes text.is.0 (λ p. GathersStore tables (size_of o) (budget_of o) p) text.is.1 plan opened in
    ap (λ (x : Plan). x.status) done.written

-- ---- `check`

tells_listed : (tables : Schema) (entries : List Entry) (p : PlainProgram) (found : Checks) (plan : Plan) → tells tables entries p found plan → (plan.status ≡ statuses.Ok) ⊎ (plan.status ≡ statuses.Refused)
tells_listed tables entries p (All n q) plan h = inl (ap (λ (x : Plan). x.status) h.1)
tells_listed tables entries p (Refused ordinal) plan h = inr (ap (λ (x : Plan). x.status) h)

check_listed : (files : Given) → ((name : List ℕ) → files.failed name → ⊥) → (schema source bundle : List ℕ) (plan : Plan) →
    HasSchema files.told schema (λ tables. HasSource files.told source tables (λ p. Unit {0})) → HasFile files.told bundle most_bundle (λ bytes. (entries : List Entry) × HasBundle bytes entries) →
    check files schema source bundle plan → (plan.status ≡ statuses.Ok) ⊎ (plan.status ≡ statuses.Refused)
check_listed files calm schema source bundle plan right evidence h =
    let tables : Schema = right.is.0 in
    let text = right.is.2 in
    let entries : List Entry = evidence.is.0 in
    let read = opens files calm schema most_schema (codes "schema") right.bytes
    (λ s. reads files source most_source (codes "source") (λ t. reads files bundle most_bundle (codes "bundle") (λ b. check_of s t b))) right.has right.within plan h in
    let both = opens files calm source most_source (codes "source") text.bytes (λ t. reads files bundle most_bundle (codes "bundle") (λ b. check_of right.bytes t b)) text.has text.within plan read in
    let all = opens files calm bundle most_bundle (codes "bundle") evidence.bytes (λ b. check_of right.bytes text.bytes b) evidence.has evidence.within plan both in
    let opened = goes_schema right.bytes tables (λ ts. has_program ts text.bytes (λ p. has_bundle evidence.bytes (λ es. checks ts p es))) right.is.1 plan all in
    let typed = goes_program tables text.bytes text.is.0 (λ p. has_bundle evidence.bytes (λ es. checks tables p es)) text.is.1 plan opened in
    let held = goes (HasBundle evidence.bytes) (refused (BreaksBundle evidence.bytes) bundle_refusal) (λ es. checks tables text.is.0 es) (bundle_one evidence.bytes) entries evidence.is.1 plan typed in
    tells_listed tables entries text.is.0 (checked_from tables 0 entries text.is.0) plan held

or_long : (status : Status) → (status ≡ statuses.Ok) ⊎ (status ≡ statuses.Refused) → ((status ≡ statuses.Ok) ⊎ (status ≡ statuses.Limit)) ⊎ (status ≡ statuses.Refused)
or_long status (inl h) = inl (inl h)
or_long status (inr h) = inr h

long_or_told : (m : ViewMap) (tables : Schema) (t b : List ℕ) (entries : List Entry) → HasBundle b entries → (plan : Plan) → sees m tables t (λ seen. has_bundle b (λ es. checks tables (seen_program seen) es)) plan →
    ((plan.status ≡ statuses.Ok) ⊎ (plan.status ≡ statuses.Limit)) ⊎ (plan.status ≡ statuses.Refused)
long_or_told m tables t b entries of plan (inl h) = inl (inr (ap (λ (x : Plan). x.status) h.due))
long_or_told m tables t b entries of plan (inr (seen, is, h)) =
    or_long plan.status (tells_listed tables entries (seen_program seen) (checked_from tables 0 entries (seen_program seen)) plan
    (goes (HasBundle b) (refused (BreaksBundle b) bundle_refusal) (λ es. checks tables (seen_program seen) es) (bundle_one b) entries of plan h))

check_by_view_listed : (files : Given) → ((name : List ℕ) → files.failed name → ⊥) → (words schema source bundle : List ℕ) (plan : Plan) →
    HasSchema files.told schema (HasSourceBy files.told (Some words) source) → HasFile files.told bundle most_bundle (λ bytes. (entries : List Entry) × HasBundle bytes entries) →
    check_by_view files words schema source bundle plan → ((plan.status ≡ statuses.Ok) ⊎ (plan.status ≡ statuses.Limit)) ⊎ (plan.status ≡ statuses.Refused)
check_by_view_listed files calm words schema source bundle plan right evidence h =
    let tables : Schema = right.is.0 in
    let map = right.is.2.0 in
    let text = right.is.2.1 in
    let first = opens files calm words most_map (codes "map") map.bytes (λ w. reads_evidence files schema source bundle (λ s t b. check_by_view_of w s t b)) map.has map.within plan h in
    let read = opens files calm schema most_schema (codes "schema") right.bytes
    (λ s. reads files source most_source (codes "source") (λ t. reads files bundle most_bundle (codes "bundle") (λ b. check_by_view_of map.bytes s t b))) right.has right.within plan first in
    let both = opens files calm source most_source (codes "source") text.bytes (λ t. reads files bundle most_bundle (codes "bundle") (λ b. check_by_view_of map.bytes right.bytes t b)) text.has text.within plan read in
    let all = opens files calm bundle most_bundle (codes "bundle") evidence.bytes (λ b. check_by_view_of map.bytes right.bytes text.bytes b) evidence.has evidence.within plan both in
    let opened = goes_schema right.bytes tables (λ ts. has_map ts map.bytes (λ m. sees m ts text.bytes (λ seen. has_bundle evidence.bytes (λ es. checks ts (seen_program seen) es)))) right.is.1 plan all in
    let mapped = goes_map tables map.bytes map.is.0 (λ m. sees m tables text.bytes (λ seen. has_bundle evidence.bytes (λ es. checks tables (seen_program seen) es))) map.is.1 plan opened in
    long_or_told map.is.0 tables text.bytes evidence.bytes evidence.is.0 evidence.is.1 plan mapped

check_ends : (files : Given) → ((name : List ℕ) → files.failed name → ⊥) → (view : Option (List ℕ)) (schema source bundle : List ℕ) (plan : Plan) →
    HasSchema files.told schema (HasSourceBy files.told view source) → HasFile files.told bundle most_bundle (λ bytes. (entries : List Entry) × HasBundle bytes entries) →
    by_view view (λ map. check_by_view files map schema source bundle) (check files schema source bundle) plan → IsDoneBy view plan.status ⊎ (plan.status ≡ statuses.Refused)
check_ends files calm None schema source bundle plan right evidence h = check_listed files calm schema source bundle plan right evidence h
check_ends files calm (Some map) schema source bundle plan right evidence h = check_by_view_listed files calm map schema source bundle plan right evidence h

-- ---- `run`

comes_listed : (tables : Schema) (o : Outcome) (plan : Plan) → comes_to tables o plan → (plan.status ≡ statuses.Ok) ⊎ (plan.status ≡ statuses.Faulted) ⊎ (plan.status ≡ statuses.Turns)
comes_listed tables (Done lines value) plan h = inl (ap (λ (x : Plan). x.status) h)
comes_listed tables (Faulted fault at) plan h = inr (inl (ap (λ (x : Plan). x.status) h))
comes_listed tables OutOfTurns plan h = inr (inr (ap (λ (x : Plan). x.status) h))
comes_listed tables Stuck plan h = absurd h

-- the words call a method of the program that is run
called_in : (rewritten : Bool) (tables : Schema) (size budget : ℕ) (p q : PlainProgram) (call : Call) → IsChosen rewritten tables size budget p q → HasCall p call → HasCall q call
called_in false tables size budget p q call chosen has = subst (λ (x : PlainProgram). HasCall x call) (sym chosen) has
called_in true tables size budget p q call chosen has =
    let keeps : Keeps p q tables = subst (λ (x : PlainProgram). Keeps p x tables) (sym chosen.0) chosen.1.keeps in
    let there = some_named tables p q call.method has.called.method keeps has.calls.named in
    let kept : KeepsMethod tables has.called.method there.0 = kept_named tables p q call.method has.called.method there.0 keeps has.calls.named there.1 in
    record {
      called = record { method = there.0; args = has.called.args };
      calls = record { named = there.1; fit = ap (λ (ps : List PlainParam). arguments ps call.words) (sym kept.params) ∙ has.calls.fit };
    }

call_listed : (tables : Schema) (texts : List (List ℕ)) (db : Database) (call : Call) (turns : ℕ) (q : PlainProgram) (plan : Plan) → HasCall q call → HasRows tables texts db → call_of tables texts call turns q plan →
    (plan.status ≡ statuses.Ok) ⊎ (plan.status ≡ statuses.Faulted) ⊎ (plan.status ≡ statuses.Turns)
call_listed tables texts db call turns q plan has rows h =
    let called : Called = has.called in
    let found = goes (Calls q call) (refused (CallsNothing q call) word_refusal) (λ c. has_rows tables texts (λ d. comes tables c turns d)) (call_one q call) called has.calls plan h in
    let loaded = goes_rows tables texts db (λ d. comes tables called turns d) rows plan found in
    comes_listed tables (outcome (world_with tables (read_by tables) db) called.method called.args turns) plan loaded

chosen_listed : (o : Options) (tables : Schema) (texts : List (List ℕ)) (db : Database) (call : Call) (p : PlainProgram) (plan : Plan) → HasCall p call → HasRows tables texts db →
    chooses o tables p (λ q. call_of tables texts call (turns_of o) q) plan → (plan.status ≡ statuses.Ok) ⊎ (plan.status ≡ statuses.Faulted) ⊎ (plan.status ≡ statuses.Turns)
chosen_listed o tables texts db call p plan has rows (inl h) = absurd h
chosen_listed o tables texts db call p plan has rows (inr h) =
    call_listed tables texts db call (turns_of o) h.0 plan (called_in o.rewritten tables (size_of o) (budget_of o) p h.0 call h.1 has) rows h.2

run_listed : (files : Given) → ((name : List ℕ) → files.failed name → ⊥) → (o : Options) (schema source folder : List ℕ) (call : Call) (plan : Plan) →
    HasSchema files.told schema (λ tables. HasSource files.told source tables (λ p. HasCall p call) × HasTables files.told folder tables) →
    run files o schema source folder call plan → (plan.status ≡ statuses.Ok) ⊎ (plan.status ≡ statuses.Faulted) ⊎ (plan.status ≡ statuses.Turns)
run_listed files calm o schema source folder call plan right h =
    let tables : Schema = right.is.0 in
    let text = right.is.2.0 in
    let rows = right.is.2.1 in
    let read = opens files calm schema most_schema (codes "schema") right.bytes
    (λ s. reads files source most_source (codes "source") (λ t. has_schema s (λ ts. reads_tables files folder ts (λ texts. run_of o ts call t texts)))) right.has right.within plan h in
    let both = opens files calm source most_source (codes "source") text.bytes (λ t. has_schema right.bytes (λ ts. reads_tables files folder ts (λ texts. run_of o ts call t texts))) text.has text.within plan read in
    let opened = goes_schema right.bytes tables (λ ts. reads_tables files folder ts (λ texts. run_of o ts call text.bytes texts)) right.is.1 plan both in
    let fetched = opens_tables files calm folder tables rows.texts (λ texts. run_of o tables call text.bytes texts) rows.have plan opened in
    let typed = goes_program tables text.bytes text.is.0 (λ p. chooses o tables p (λ q. call_of tables rows.texts call (turns_of o) q)) text.is.1 plan fetched in
    chosen_listed o tables rows.texts rows.db call text.is.0 plan text.is.2 rows.rows typed

-- ---- `sql`

answer_listed : (tables : Schema) (a : Answered) (plan : Plan) → plan ≡ answer_plan tables a → (plan.status ≡ statuses.Ok) ⊎ (plan.status ≡ statuses.Faulted)
answer_listed tables (meaning.Rows rows) plan h = inl (ap (λ (x : Plan). x.status) h)
answer_listed tables (meaning.One x) plan h = inl (ap (λ (y : Plan). y.status) h)
answer_listed tables meaning.TooLarge plan h = inr (ap (λ (x : Plan). x.status) h)

sql_listed : (files : Given) → ((name : List ℕ) → files.failed name → ⊥) → (schema folder query : List ℕ) (plan : Plan) →
    HasSchema files.told schema (λ tables. ((q : PlainQuery) × IsAsked tables query q) × HasTables files.told folder tables) →
    sql files schema folder query plan → (plan.status ≡ statuses.Ok) ⊎ (plan.status ≡ statuses.Faulted)
sql_listed files calm schema folder query plan right h =
    let tables : Schema = right.is.0 in
    let asked = right.is.2.0 in
    let rows = right.is.2.1 in
    let read = opens files calm schema most_schema (codes "schema") right.bytes (λ s. has_schema s (λ ts. reads_tables files folder ts (λ texts. sql_of ts query texts))) right.has right.within plan h in
    let opened = goes_schema right.bytes tables (λ ts. reads_tables files folder ts (λ texts. sql_of ts query texts)) right.is.1 plan read in
    let fetched = opens_tables files calm folder tables rows.texts (λ texts. sql_of tables query texts) rows.have plan opened in
    let found = goes (IsAsked tables query) (refused (AsksNothing tables query) word_refusal) (λ q. has_rows tables rows.texts (λ db. answers tables q db)) (query_one tables query) asked.0 asked.1 plan fetched in
    let loaded = goes_rows tables rows.texts rows.db (λ db. answers tables asked.0 db) rows.rows plan found in
    answer_listed tables (query_answer rows.db [] asked.0) plan loaded

-- ---- `make`

unfinished_listed : (o : Outcome) (plan : Plan) → IsNotDone o plan → (plan.status ≡ statuses.Ok) ⊎ (plan.status ≡ statuses.Faulted) ⊎ (plan.status ≡ statuses.Turns)
unfinished_listed (Done lines value) plan h = absurd h
unfinished_listed (Faulted fault at) plan h = inr (inl (ap (λ (x : Plan). x.status) h))
unfinished_listed OutOfTurns plan h = inr (inr (ap (λ (x : Plan). x.status) h))
unfinished_listed Stuck plan h = absurd h

runs_listed : (tables : Schema) (db : Database) (written : List ℕ) (ms : List PlainMethod) (plan : Plan) → runs tables db written ms plan →
    (plan.status ≡ statuses.Ok) ⊎ (plan.status ≡ statuses.Faulted) ⊎ (plan.status ≡ statuses.Turns)
unfolding runs
runs_listed tables db written [] plan h = inl (ap (λ (x : Plan). x.status) h)
runs_listed tables db written (m ∷ ms) plan (inl h) = unfinished_listed (outcome_over tables db m) plan h
runs_listed tables db written (m ∷ ms) plan (inr h) = runs_listed tables db (written ++ method_text (names_of tables) m.name h.0) ms plan h.2

make_listed : (n : ℕ) (plan : Plan) → make n plan → (plan.status ≡ statuses.Ok) ⊎ (plan.status ≡ statuses.Faulted) ⊎ (plan.status ≡ statuses.Turns)
make_listed n plan (inl h) = absurd h
make_listed n plan (inr h) = runs_listed _ _ _ _ plan h.2

-- ---- `schema`

draw_listed : (files : Given) → ((name : List ℕ) → files.failed name → ⊥) → (o : Options) (dump : List ℕ) (plan : Plan) → HasFile files.told dump most_dump (λ bytes. Unit {0}) → draw files o dump plan → plan.status ≡ statuses.Ok
draw_listed files calm o dump plan right h = (opens files calm dump most_dump (codes "dump") right.bytes (λ bytes. Draws o bytes) right.has right.within plan h).status

-- ---- `narrow`

narrow_listed : (files : Given) → ((name : List ℕ) → files.failed name → ⊥) → (schema source : List ℕ) (plan : Plan) → HasSchema files.told schema (λ tables. HasSource files.told source tables (λ p. Unit {0})) →
    narrow files schema source plan → plan.status ≡ statuses.Ok
narrow_listed files calm schema source plan right h =
    let tables : Schema = right.is.0 in
    let text = right.is.2 in
    let read = opens files calm schema most_schema (codes "schema") right.bytes (λ s. reads files source most_source (codes "source") (λ t. narrow_of s t)) right.has right.within plan h in
    let both = opens files calm source most_source (codes "source") text.bytes (λ t. narrow_of right.bytes t) text.has text.within plan read in
    let opened = goes_schema right.bytes tables (λ ts. has_program ts text.bytes (λ p. Narrows ts text.bytes p)) right.is.1 plan both in
    let done = goes_program tables text.bytes text.is.0 (λ p. Narrows tables text.bytes p) text.is.1 plan opened in
    ap (λ (x : Plan). x.status) done.written

-- ---- `unnest`

unnest_listed : (files : Given) → ((name : List ℕ) → files.failed name → ⊥) → (o : Options) (schema source : List ℕ) (plan : Plan) → HasSchema files.told schema (λ tables. HasSource files.told source tables (λ p. Unit {0})) →
    unnest files o schema source plan → plan.status ≡ statuses.Ok
unnest_listed files calm o schema source plan right h =
    let tables : Schema = right.is.0 in
    let text = right.is.2 in
    let read = opens files calm schema most_schema (codes "schema") right.bytes (λ s. reads files source most_source (codes "source") (λ t. unnest_of o s t)) right.has right.within plan h in
    let both = opens files calm source most_source (codes "source") text.bytes (λ t. unnest_of o right.bytes t) text.has text.within plan read in
    let opened = goes_schema right.bytes tables (λ ts. has_program ts text.bytes (λ p. Unnests ts (size_of o) (budget_of o) text.bytes p)) right.is.1 plan both in
    let done = goes_program tables text.bytes text.is.0 (λ p. Unnests tables (size_of o) (budget_of o) text.bytes p) text.is.1 plan opened in
    ap (λ (x : Plan). x.status) done.written

-- ---- `inline`

inline_listed : (files : Given) → ((name : List ℕ) → files.failed name → ⊥) → (schema source : List ℕ) (plan : Plan) → HasSchema files.told schema (λ tables. HasFile files.told source most_source (HasWhole tables)) →
    inline files schema source plan → plan.status ≡ statuses.Ok
inline_listed files calm schema source plan right h =
    let tables : Schema = right.is.0 in
    let text = right.is.2 in
    let p : PlainProgram = text.is.program in
    let q : PlainProgram = text.is.whole in
    let read = opens files calm schema most_schema (codes "schema") right.bytes (λ s. reads files source most_source (codes "source") (λ t. inline_of s t)) right.has right.within plan h in
    let both = opens files calm source most_source (codes "source") text.bytes (λ t. inline_of right.bytes t) text.has text.within plan read in
    let opened = goes_schema right.bytes tables (λ ts. has_program_with_calls text.bytes (λ p. has_no_calls_left text.bytes p (λ q. types_and_writes ts text.bytes p q))) right.is.1 plan both in
    let called = goes (IsProgramWithCallsOf text.bytes) (HasNoProgramWithCalls text.bytes) (λ p. has_no_calls_left text.bytes p (λ q. types_and_writes tables text.bytes p q)) (calls_one text.bytes) p text.is.is_program plan opened in
    let whole = goes (IsWhole p) (refused (IsFaultOf p) (helper_refusal text.bytes)) (λ q. types_and_writes tables text.bytes p q) (whole_one text.bytes p) q text.is.is_whole plan called in
    let typed = goes {B = Unit {0}} (λ u. IsWellTyped tables (read_by tables) q) (refused (HasLeast tables q) type_refusal) (λ u. Inlines tables text.bytes p q) (typed_one tables q) tt text.is.typed plan whole in
    ap (λ (x : Plan). x.status) typed.written

-- ---- `view`

views_listed : (m : ViewMap) (tables : Schema) (t : List ℕ) (plan : Plan) → views m tables t plan → (plan.status ≡ statuses.Ok) ⊎ (plan.status ≡ statuses.Limit)
views_listed m tables t plan (inl h) = inr (ap (λ (x : Plan). x.status) h.due)
views_listed m tables t plan (inr (seen, is, h)) = inl (ap (λ (x : Plan). x.status) h.written)

view_listed : (files : Given) → ((name : List ℕ) → files.failed name → ⊥) → (words schema source : List ℕ) (plan : Plan) →
    HasSchema files.told schema (λ tables. HasFile files.told words most_map (λ bytes. (m : ViewMap) × IsMapOf tables bytes m) × HasFile files.told source most_source (λ bytes. Unit {0})) →
    view files words schema source plan → (plan.status ≡ statuses.Ok) ⊎ (plan.status ≡ statuses.Limit)
view_listed files calm words schema source plan right h =
    let tables : Schema = right.is.0 in
    let map = right.is.2.0 in
    let text = right.is.2.1 in
    let first = opens files calm words most_map (codes "map") map.bytes
    (λ w. reads files schema most_schema (codes "schema") (λ s. reads files source most_source (codes "source") (λ t. view_of w s t))) map.has map.within plan h in
    let read = opens files calm schema most_schema (codes "schema") right.bytes (λ s. reads files source most_source (codes "source") (λ t. view_of map.bytes s t)) right.has right.within plan first in
    let all = opens files calm source most_source (codes "source") text.bytes (λ t. view_of map.bytes right.bytes t) text.has text.within plan read in
    let opened = goes_schema right.bytes tables (λ ts. has_map ts map.bytes (λ m. views m ts text.bytes)) right.is.1 plan all in
    let mapped = goes (IsMapOf tables map.bytes) (refused (BreaksMap tables map.bytes) (map_refusal map.bytes)) (λ m. views m tables text.bytes) (map_one tables map.bytes) map.is.0 map.is.1 plan opened in
    views_listed map.is.0 tables text.bytes plan mapped

-- ---- `map`

draws_listed : (files : Given) → ((name : List ℕ) → files.failed name → ⊥) → (entities : List (List ℕ)) (plan : Plan) → HaveEntities files.told entities → draws files entities plan → plan.status ≡ statuses.Ok
draws_listed files calm entities plan right h = (opens_files files calm entities most_entities (codes "entities") right.0 (λ texts. IsText) right.1 plan h).status

checks_of_listed : (w s : List ℕ) (tables : Schema) (m : ViewMap) (plan : Plan) → IsSchemaOf s tables → IsMapOf tables w m → checks_of w s plan → plan.status ≡ statuses.Ok
checks_of_listed w s tables m plan is mapped h =
    let opened = goes_schema s tables (λ ts. has_map ts w (λ m. IsText)) is plan h in
    (goes (IsMapOf tables w) (refused (BreaksMap tables w) (map_refusal w)) (λ m. IsText) (map_one tables w) m mapped plan opened).status

checks_source_listed : (files : Given) → ((name : List ℕ) → files.failed name → ⊥) → (source : Option (List ℕ)) (w s : List ℕ) (tables : Schema) (m : ViewMap) (plan : Plan) → IsSchemaOf s tables → IsMapOf tables w m → HasSourceFile files.told source →
    checks_source files source w s plan → plan.status ≡ statuses.Ok
checks_source_listed files calm None w s tables m plan is mapped there h = checks_of_listed w s tables m plan is mapped h
checks_source_listed files calm (Some source) w s tables m plan is mapped there h =
    checks_of_listed w s tables m plan is mapped (opens files calm source most_source (codes "source") there.bytes (λ t. checks_of w s) there.has there.within plan h)

checks_map_listed : (files : Given) → ((name : List ℕ) → files.failed name → ⊥) → (words schema : List ℕ) (source : Option (List ℕ)) (plan : Plan) →
    HasSchema files.told schema (λ tables. HasFile files.told words most_map (λ bytes. (m : ViewMap) × IsMapOf tables bytes m) × HasSourceFile files.told source) → checks_map files words schema source plan → plan.status ≡ statuses.Ok
checks_map_listed files calm words schema source plan right h =
    let tables : Schema = right.is.0 in
    let map = right.is.2.0 in
    let first = opens files calm words most_map (codes "map") map.bytes (λ w. reads files schema most_schema (codes "schema") (λ s. checks_source files source w s)) map.has map.within plan h in
    let read = opens files calm schema most_schema (codes "schema") right.bytes (λ s. checks_source files source map.bytes s) right.has right.within plan first in
    checks_source_listed files calm source map.bytes right.bytes tables map.is.0 plan right.is.1 map.is.1 right.is.2.1 read

-- ---- the whole

built_ends : (files : Given) → ((name : List ℕ) → files.failed name → ⊥) → (may : May) (c : Command) (plan : Plan) → IsRight files.told c → built files may c plan → IsEnd c plan.status
built_ends files calm may (commands.Rewrite o s t) plan right h = rewrite_ends files calm may o o.view s t plan right h
built_ends files calm may (commands.Run o s t d method words) plan right h = run_listed files calm o s t d (record { method = method; words = words }) plan right h
built_ends files calm may (commands.Sql s d q) plan right h = sql_listed files calm s d q plan right h
built_ends files calm may (commands.Prove o s t) plan right h = prove_ends files calm may o o.view s t plan right h
built_ends files calm may (commands.Check o s t b) plan right h = check_ends files calm o.view s t b plan right.0 right.1 h
built_ends files calm may (commands.Make n) plan right h = make_listed n plan h
built_ends files calm may (commands.Unnest o s t) plan right h = unnest_listed files calm o s t plan right h
built_ends files calm may (commands.Narrow o s t) plan right h = narrow_listed files calm s t plan right h
built_ends files calm may (commands.Inline s t) plan right h = inline_listed files calm s t plan right h
built_ends files calm may (commands.Gather o s t) plan right h = gather_listed files calm o s t plan right h
built_ends files calm may (commands.Schema o d) plan right h = draw_listed files calm o d plan right h
built_ends files calm may (commands.View m s t) plan right h = view_listed files calm m s t plan right h
built_ends files calm may (commands.Map es) plan right h = draws_listed files calm es plan right h
built_ends files calm may (commands.MapSchema es) plan right h = draws_listed files calm es plan right h
built_ends files calm may (commands.CheckMap m s t) plan right h = checks_map_listed files calm m s t plan right h

ends_where : (is : Bool) (c : Command) (next : Ends) (plan : Plan) → (next plan → IsEnd c plan.status) → where_built is next plan → IsEndWhere is c plan.status
ends_where true c next plan f h = f h
ends_where false c next plan f h = ap (λ (x : Plan). x.status) h

command_listed : (files : Given) → ((name : List ℕ) → files.failed name → ⊥) → (may : May) (c : Command) (plan : Plan) → IsRight files.told c → command files may c plan → IsListed c plan.status
command_listed files calm may c plan right h = ends_where (is_built c) c (built files may c) plan (built_ends files calm may c plan right) h

command_same : (o : Option Command) (b c : Command) → o ≡ Some b → o ≡ Some c → b ≡ c
command_same o b c x y = cc

due_listed : (files : Given) → ((name : List ℕ) → files.failed name → ⊥) → (may : May) (words : List (List ℕ)) (c : Command) (plan : Plan) → HasWords words c → IsRight files.told c → IsDue files may words plan →
    IsListed c plan.status ⊎ (plan.status ≡ statuses.NoMemory)
due_listed files calm may words c plan has right (inl memory) = inr (ap (λ (x : Plan). x.status) memory)
due_listed files calm may words c plan has right (inr (inl bad)) = absurd (bad.0 c has)
due_listed files calm may words c plan has right (inr (inr (d, is, h))) =
    let same : d ≡ c = command_same (plain words) d c ((reads_plain_words words d).1 is) ((reads_plain_words words c).1 has) in
    inl (command_listed files calm may c plan right (subst (λ (x : Command). command files may x plan) same h))

listed_or : (c : Command) (status result : Status) → result ≡ status → IsListed c status ⊎ (status ≡ statuses.NoMemory) → IsListed c result ⊎ (result ≡ statuses.NoMemory) ⊎ (result ≡ statuses.WriteFault)
listed_or c status result same (inl h) = inl (subst (IsListed c) (sym same) h)
listed_or c status result same (inr h) = inr (inl (same ∙ h))

pub complete : (files : Given) (may : May) (words : List (List ℕ)) (out rep : Change) (result : Status) → IsDone files may words out rep result → IsComplete files words result
complete files may words out rep result done c has right calm =
    elim done.delivered [
      | inl all ↦ listed_or c done.plan.status result all.0 (due_listed files calm may words c done.plan has right done.due)
      | inr short ↦ inr (inr short.0)
    ]
