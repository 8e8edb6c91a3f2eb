-- Two plans that are due for the same words are one but for the number of dropped candidates.
use Rattle.std.proofs.Common.{◌≡◌, ℕ, inl, inr, Bool, true, false, List, [], ◌∷◌, ◌++◌, Option, Some, None, sym, refl, ap, ◌∙◌, codes}
use Rattle.std.specs.Prelude.{IsSome, is_none}
use Rattle.std.specs.List.{flat_map}
use Rattle.qbs_base.specs.declared.scalar.Value.{Value}
use Rattle.qbs_base.specs.declared.status.Status.{Status}
use Rattle.qbs_base.specs.Values.{Schema, Database}
use Rattle.java_ast.specs.Tree.{PlainMethod, PlainProgram}
use Rattle.java_mean.specs.Outcome.{Outcome, Done, Faulted, OutOfTurns, Stuck, outcome, world_with}
use Rattle.java_types.specs.Texts.{read_by}
use Rattle.deriv_check.specs.Bundles.{Entry}
use Rattle.deriv_check.specs.Grammar.{HasBundle}
use Rattle.rewrite_core.specs.Checking.{Checks, All, Refused, checked_from}
use Rattle.rewrite_core.specs.Rewriting.{verdicts_of}
use Rattle.rewrite_core.specs.Trying.{all_tried, rewritten}
use Rattle.sample.specs.Class.{sample_program}
use Rattle.sample_data.specs.Tables.{sample_schema, sample_rows}
use Rattle.sql_ast.specs.Meaning.{query_answer}
use Rattle.small_dbs.specs.declared.small.SmallDb.{SmallDb}
use Rattle.words.specs.declared.command.Command.{Command}
use Rattle.words.specs.declared.command.Command.TheVariants as commands
use Rattle.words.specs.declared.command.Options.{Options}
use Rattle.words.specs.Plain.{HasWords}
use Rattle.words.specs.Reading.{plain}
use Rattle.words.proofs.Exact.{reads_plain_words}
use Rattle.deliveries.specs.Limits.{most_schema, most_source, most_bundle, most_tables, most_dump}
use Rattle.deliveries.specs.declared.plan.Plan.{Plan}
use Rattle.plans.specs.Calls.{Call, Calls, CallsNothing, word_refusal}
use Rattle.plans.specs.Opening.{BreaksBundle, bundle_refusal, has_bundle, IsSchemaOf, BreaksSchema, schema_refusal, IsProgramOf, HasNoProgram, has_schema, has_program}
use Rattle.deliveries.specs.Plan.{Given}
use Rattle.plans.specs.Results.{names_of}
use Rattle.deliveries.specs.Steps.{Ends, refused, IsRead, IsNotRead, reads}
use Rattle.plans.specs.Tables.{AreRead, AreNotRead, reads_tables, IsFileOf, IsTableFile, HasRows, LacksRows, data_refusal, has_rows}
use Rattle.qbs.specs.Check.{tells, checks, check_of, check}
use Rattle.qbs.specs.CheckByView.{check_by_view}
use Rattle.qbs.specs.Draw.{Draws, draw}
use Rattle.qbs.specs.Commands.{is_built, built, where_built, by_view, command, EndsUnbuilt}
use Rattle.verdicts.specs.Reports.{verdict_line}
use Rattle.qbs.specs.Make.{loops_text, method_text, summary, IsResult, IsNotDone, outcome_over, runs, make}
use Rattle.qbs.specs.Opened.{reads_all, has_all}
use Rattle.qbs.specs.Pruners.{May, with_bank}
use Rattle.qbs.specs.Prove.{Proves, prove_of, prove}
use Rattle.qbs.specs.ProveByView.{prove_by_view}
use Rattle.qbs.specs.Rewrite.{size_of, budget_of, Rewrites, rewrite_of, rewrite}
use Rattle.qbs.specs.RewriteByView.{rewrite_by_view}
use Rattle.qbs.specs.Run.{IsChosen, chooses, comes_to, comes, call_of, run_of, run, turns_of}
use Rattle.qbs.specs.Sql.{IsAsked, AsksNothing, answer_plan, answers, sql_of, sql}
use Rattle.qbs.specs.Store.{IsStoreName, IsStoreRead, IsStoreUnread, reads_store, IsBankOf, HasNoBank, has_store}
use Rattle.qbs.specs.Top.{MayRead, AreAlike, Alike, is_fixed, HasOnePlan}
use Rattle.qbs.proofs.OneStep.{IsOne, HasOne, step_one, ends_one}
use Rattle.qbs.proofs.Gathering.{gather_one}
use Rattle.qbs.proofs.OneRead.{read_one, tables_one}
use Rattle.qbs.proofs.OneStore.{store_read_one, bank_one}
use Rattle.qbs.proofs.Inlining.{inline_one}
use Rattle.qbs.proofs.Narrowing.{narrow_one}
use Rattle.qbs.proofs.Unnesting.{unnest_one}
use Rattle.qbs.proofs.OneFound.{schema_one, program_one, bundle_one, rows_one, call_one, query_one}

-- ---- `rewrite`

-- of any two groups of pruners
pub rewrites_alike : (first second : May) (tables : Schema) (size budget : ℕ) (source : List ℕ) (t : PlainProgram) (p q : Plan) → Rewrites first tables size budget source t p → Rewrites second tables size budget source t q → AreAlike p q
rewrites_alike first second tables size budget source t p q a b =
    record {
      lines = flat_map verdict_line (verdicts_of (all_tried tables size budget t));
      first = a.pruned;
      second = b.pruned;
      status = ap (λ (x : Plan). x.status) a.written ∙ sym (ap (λ (x : Plan). x.status) b.written);
      out = ap (λ (x : Plan). x.out) a.written ∙ (a.output ∙ sym b.output) ∙ sym (ap (λ (x : Plan). x.out) b.written);
      first_lines = ap (λ (x : Plan). x.rep) a.written;
      second_lines = ap (λ (x : Plan). x.rep) b.written;
    }

-- what the files hold is one
has_all_one : (s t : List ℕ) (b : Option (List ℕ)) (next : Schema → PlainProgram → Option (List SmallDb) → Ends) → ((tables : Schema) (p : PlainProgram) (bank : Option (List SmallDb)) → HasOne (next tables p bank)) → HasOne (has_all s t b next)
has_all_one s t b next further =
    step_one (IsSchemaOf s) (refused (BreaksSchema s) schema_refusal) (λ tables. has_program tables t (λ p. has_store tables b (λ bank. next tables p bank))) (schema_one s)
    (λ tables is. step_one (IsProgramOf tables t) (HasNoProgram tables t) (λ p. has_store tables b (λ bank. next tables p bank)) (program_one tables t)
    (λ p read. step_one (IsBankOf tables b) (HasNoBank tables b) (λ bank. next tables p bank) (bank_one tables b)
    (λ bank held. further tables p bank)))

-- they are read in one way
reads_all_one : (files : Given) (schema source : List ℕ) (store : Option (List ℕ)) (next : List ℕ → List ℕ → Option (List ℕ) → Ends) →
    IsSome (files.told schema) → IsSome (files.told source) → ((name : List ℕ) → IsStoreName store name → IsSome (files.told name)) → ((name : List ℕ) → files.failed name → ⊥) →
    ((s t : List ℕ) (b : Option (List ℕ)) → HasOne (next s t b)) → HasOne (reads_all files schema source store next)
reads_all_one files schema source store next has_schema has_source has_names calm further =
    step_one (IsRead files schema most_schema) (IsNotRead files schema most_schema (codes "schema")) (λ s. reads files source most_source (codes "source") (λ t. reads_store files store (λ b. next s t b))) (read_one files schema most_schema (codes "schema") has_schema calm)
    (λ s is. step_one (IsRead files source most_source) (IsNotRead files source most_source (codes "source")) (λ t. reads_store files store (λ b. next s t b)) (read_one files source most_source (codes "source") has_source calm)
    (λ t has. step_one (IsStoreRead files store) (IsStoreUnread files store) (λ b. next s t b) (store_read_one files store has_names calm)
    (λ b there. further s t b)))

rewrite_of_one : (may : May) (o : Options) (s t : List ℕ) (b : Option (List ℕ)) → HasOne (rewrite_of may o s t b)
rewrite_of_one may o s t b =
    has_all_one s t b (λ tables p bank. Rewrites (with_bank may bank) tables (size_of o) (budget_of o) t p)
    (λ tables p bank. record { alike = λ x y a c. inr (rewrites_alike (with_bank may bank) (with_bank may bank) tables (size_of o) (budget_of o) t p x y a c) })

rewrite_one : (files : Given) (may : May) (o : Options) (schema source : List ℕ) → IsSome (files.told schema) → IsSome (files.told source) → ((name : List ℕ) → IsStoreName o.store name → IsSome (files.told name)) → ((name : List ℕ) → files.failed name → ⊥) →
    HasOne (rewrite files may o schema source)
rewrite_one files may o schema source has_schema has_source has_names calm =
    reads_all_one files schema source o.store (λ s t b. rewrite_of may o s t b) has_schema has_source has_names calm (λ s t b. rewrite_of_one may o s t b)

-- ---- `prove`

pub proves_alike : (first second : May) (tables : Schema) (size budget : ℕ) (t : PlainProgram) (p q : Plan) → Proves first tables size budget t p → Proves second tables size budget t q → AreAlike p q
proves_alike first second tables size budget t p q a b =
    record {
      lines = flat_map verdict_line (verdicts_of (all_tried tables size budget t));
      first = a.pruned;
      second = b.pruned;
      status = ap (λ (x : Plan). x.status) a.written ∙ sym (ap (λ (x : Plan). x.status) b.written);
      out = ap (λ (x : Plan). x.out) a.written ∙ sym (ap (λ (x : Plan). x.out) b.written);
      first_lines = ap (λ (x : Plan). x.rep) a.written;
      second_lines = ap (λ (x : Plan). x.rep) b.written;
    }

prove_of_one : (may : May) (o : Options) (s t : List ℕ) (b : Option (List ℕ)) → HasOne (prove_of may o s t b)
prove_of_one may o s t b =
    has_all_one s t b (λ tables p bank. Proves (with_bank may bank) tables (size_of o) (budget_of o) p)
    (λ tables p bank. record { alike = λ x y a c. inr (proves_alike (with_bank may bank) (with_bank may bank) tables (size_of o) (budget_of o) p x y a c) })

prove_one : (files : Given) (may : May) (o : Options) (schema source : List ℕ) → IsSome (files.told schema) → IsSome (files.told source) → ((name : List ℕ) → IsStoreName o.store name → IsSome (files.told name)) → ((name : List ℕ) → files.failed name → ⊥) →
    HasOne (prove files may o schema source)
prove_one files may o schema source has_schema has_source has_names calm =
    reads_all_one files schema source o.store (λ s t b. prove_of may o s t b) has_schema has_source has_names calm (λ s t b. prove_of_one may o s t b)

-- ---- `check`

tells_one : (tables : Schema) (entries : List Entry) (t : PlainProgram) (c : Checks) (p q : Plan) → tells tables entries t c p → tells tables entries t c q → Alike p q
tells_one tables entries t (All n made) p q a b = inl (a.1 ∙ sym b.1)
tells_one tables entries t (Refused ordinal) p q a b = inl (a ∙ sym b)

check_of_one : (s t b : List ℕ) → HasOne (check_of s t b)
check_of_one s t b =
    step_one (IsSchemaOf s) (refused (BreaksSchema s) schema_refusal) (λ tables. has_program tables t (λ p. has_bundle b (λ entries. checks tables p entries))) (schema_one s)
    (λ tables is. step_one (IsProgramOf tables t) (HasNoProgram tables t) (λ p. has_bundle b (λ entries. checks tables p entries)) (program_one tables t)
    (λ p read. step_one (HasBundle b) (refused (BreaksBundle b) bundle_refusal) (λ entries. checks tables p entries) (bundle_one b)
    (λ entries has. record { alike = tells_one tables entries p (checked_from tables 0 entries p) })))

check_one : (files : Given) (schema source bundle : List ℕ) → IsSome (files.told schema) → IsSome (files.told source) → IsSome (files.told bundle) → ((name : List ℕ) → files.failed name → ⊥) → HasOne (check files schema source bundle)
check_one files schema source bundle has_schema has_source has_evidence calm =
    step_one (IsRead files schema most_schema) (IsNotRead files schema most_schema (codes "schema"))
    (λ s. reads files source most_source (codes "source") (λ t. reads files bundle most_bundle (codes "bundle") (λ b. check_of s t b))) (read_one files schema most_schema (codes "schema") has_schema calm)
    (λ s is. step_one (IsRead files source most_source) (IsNotRead files source most_source (codes "source"))
    (λ t. reads files bundle most_bundle (codes "bundle") (λ b. check_of s t b)) (read_one files source most_source (codes "source") has_source calm)
    (λ t has. step_one (IsRead files bundle most_bundle) (IsNotRead files bundle most_bundle (codes "bundle")) (λ b. check_of s t b) (read_one files bundle most_bundle (codes "bundle") has_evidence calm)
    (λ b there. check_of_one s t b)))

-- ---- `run`

pub chosen_one : (rewritten : Bool) (tables : Schema) (size budget : ℕ) (p : PlainProgram) → IsOne {B = PlainProgram} (IsChosen rewritten tables size budget p) (λ plan. ⊥)
chosen_one false tables size budget p = record { same = λ b c x y. x ∙ sym y; stops = λ p q x y. absurd x; apart = λ b p x y. y }
chosen_one true tables size budget p = record { same = λ b c x y. x.0 ∙ sym y.0; stops = λ p q x y. absurd x; apart = λ b p x y. y }

outcome_one : (tables : Schema) (o : Outcome) (p q : Plan) → comes_to tables o p → comes_to tables o q → Alike p q
outcome_one tables (Done lines value) p q a b = inl (a ∙ sym b)
outcome_one tables (Faulted fault at) p q a b = inl (a ∙ sym b)
outcome_one tables OutOfTurns p q a b = inl (a ∙ sym b)
outcome_one tables Stuck p q a b = absurd a

call_of_one : (tables : Schema) (texts : List (List ℕ)) (call : Call) (turns : ℕ) (p : PlainProgram) → HasOne (call_of tables texts call turns p)
call_of_one tables texts call turns p =
    step_one (Calls p call) (refused (CallsNothing p call) word_refusal) (λ called. has_rows tables texts (λ db. comes tables called turns db)) (call_one p call)
    (λ called is. step_one (HasRows tables texts) (refused (LacksRows tables texts) data_refusal) (λ db. comes tables called turns db) (rows_one tables texts)
    (λ db has. record { alike = outcome_one tables (outcome (world_with tables (read_by tables) db) called.method called.args turns) }))

run_of_one : (o : Options) (tables : Schema) (call : Call) (source : List ℕ) (texts : List (List ℕ)) → HasOne (run_of o tables call source texts)
run_of_one o tables call source texts =
    step_one (IsProgramOf tables source) (HasNoProgram tables source) (λ p. chooses o tables p (λ q. call_of tables texts call (turns_of o) q)) (program_one tables source)
    (λ p is. step_one (IsChosen o.rewritten tables (size_of o) (budget_of o) p) (λ plan. ⊥) (λ q. call_of tables texts call (turns_of o) q) (chosen_one o.rewritten tables (size_of o) (budget_of o) p)
    (λ q has. call_of_one tables texts call (turns_of o) q))

pub table_files : (files : Given) (schema folder bytes : List ℕ) (tables : Schema) → IsRead files schema most_schema bytes → IsSchemaOf bytes tables →
    ((name : List ℕ) → IsTableFile files.told schema folder name → IsSome (files.told name)) → (name : List ℕ) → IsFileOf folder tables name → IsSome (files.told name)
table_files files schema folder bytes tables read is told name file = told name (record { bytes = bytes; tables = tables; read = read.1; is_schema = is; file = file })

run_one : (files : Given) (o : Options) (schema source folder : List ℕ) (call : Call) → IsSome (files.told schema) → IsSome (files.told source) →
    ((name : List ℕ) → IsTableFile files.told schema folder name → IsSome (files.told name)) → ((name : List ℕ) → files.failed name → ⊥) → HasOne (run files o schema source folder call)
run_one files o schema source folder call has_schema_file has_source told calm =
    step_one (IsRead files schema most_schema) (IsNotRead files schema most_schema (codes "schema"))
    (λ s. reads files source most_source (codes "source") (λ t. has_schema s (λ tables. reads_tables files folder tables (λ texts. run_of o tables call t texts)))) (read_one files schema most_schema (codes "schema") has_schema_file calm)
    (λ s read. step_one (IsRead files source most_source) (IsNotRead files source most_source (codes "source"))
    (λ t. has_schema s (λ tables. reads_tables files folder tables (λ texts. run_of o tables call t texts))) (read_one files source most_source (codes "source") has_source calm)
    (λ t read_source. step_one (IsSchemaOf s) (refused (BreaksSchema s) schema_refusal)
    (λ tables. reads_tables files folder tables (λ texts. run_of o tables call t texts)) (schema_one s)
    (λ tables is. step_one (AreRead files folder tables most_tables) (AreNotRead files folder tables most_tables)
    (λ texts. run_of o tables call t texts) (tables_one files folder tables most_tables (table_files files schema folder s tables read is told) calm)
    (λ texts are. run_of_one o tables call t texts))))

-- ---- `make`

result_one : (o : Outcome) → IsOne {B = Option Value} (IsResult o) (IsNotDone o)
result_one (Done lines value) = record { same = λ b c x y. x ∙ sym y; stops = λ p q x y. absurd x; apart = λ b p x y. y }
result_one (Faulted fault at) = record { same = λ b c x y. absurd x; stops = λ p q x y. x ∙ sym y; apart = λ b p x y. x }
result_one OutOfTurns = record { same = λ b c x y. absurd x; stops = λ p q x y. x ∙ sym y; apart = λ b p x y. x }
result_one Stuck = record { same = λ b c x y. absurd x; stops = λ p q x y. absurd x; apart = λ b p x y. x }

runs_one : (tables : Schema) (db : Database) (written : List ℕ) (ms : List PlainMethod) → HasOne (runs tables db written ms)
unfolding runs
runs_one tables db written [] = ends_one (summary written)
runs_one tables db written (m ∷ ms) =
    step_one (IsResult (outcome_over tables db m)) (IsNotDone (outcome_over tables db m)) (λ value. runs tables db (written ++ method_text (names_of tables) m.name value) ms) (result_one (outcome_over tables db m))
    (λ value is. runs_one tables db (written ++ method_text (names_of tables) m.name value) ms)

make_one : (n : ℕ) → HasOne (make n)
make_one n =
    let written = loops_text (verdicts_of (all_tried sample_schema 4 20000 sample_program)) in
    step_one (IsChosen true sample_schema 4 20000 sample_program) (λ plan. ⊥) (λ q. runs sample_schema (sample_rows n) written q.methods) (chosen_one true sample_schema 4 20000 sample_program)
    (λ q is. runs_one sample_schema (sample_rows n) written q.methods)

-- ---- `sql`

sql_of_one : (tables : Schema) (query : List ℕ) (texts : List (List ℕ)) → HasOne (sql_of tables query texts)
sql_of_one tables query texts =
    step_one (IsAsked tables query) (refused (AsksNothing tables query) word_refusal) (λ q. has_rows tables texts (λ db. answers tables q db)) (query_one tables query)
    (λ q is. step_one (HasRows tables texts) (refused (LacksRows tables texts) data_refusal) (λ db. answers tables q db) (rows_one tables texts)
    (λ db has. ends_one (answer_plan tables (query_answer db [] q))))

sql_one : (files : Given) (schema folder query : List ℕ) → IsSome (files.told schema) →
    ((name : List ℕ) → IsTableFile files.told schema folder name → IsSome (files.told name)) → ((name : List ℕ) → files.failed name → ⊥) → HasOne (sql files schema folder query)
sql_one files schema folder query has_schema_file told calm =
    step_one (IsRead files schema most_schema) (IsNotRead files schema most_schema (codes "schema"))
    (λ s. has_schema s (λ tables. reads_tables files folder tables (λ texts. sql_of tables query texts))) (read_one files schema most_schema (codes "schema") has_schema_file calm)
    (λ s read. step_one (IsSchemaOf s) (refused (BreaksSchema s) schema_refusal)
    (λ tables. reads_tables files folder tables (λ texts. sql_of tables query texts)) (schema_one s)
    (λ tables is. step_one (AreRead files folder tables most_tables) (AreNotRead files folder tables most_tables)
    (λ texts. sql_of tables query texts) (tables_one files folder tables most_tables (table_files files schema folder s tables read is told) calm)
    (λ texts are. sql_of_one tables query texts)))

-- ---- `schema`

abbrev plan_with : Status → List ℕ → List ℕ → Plan
plan_with status out rep = record { status = status; out = out; rep = rep }

plans_one : (p q : Plan) → p.status ≡ q.status → p.out ≡ q.out → p.rep ≡ q.rep → p ≡ q
plans_one p q x y z =
    ap (λ (s : Status). plan_with s p.out p.rep) x ∙ (ap (λ (text : List ℕ). plan_with q.status text p.rep) y ∙ ap (λ (lines : List ℕ). plan_with q.status q.out lines) z)

draws_alike : (o : Options) (dump : List ℕ) (p q : Plan) → Draws o dump p → Draws o dump q → Alike p q
draws_alike o dump p q a b = inl (plans_one p q (a.status ∙ sym b.status) (a.is.text ∙ sym b.is.text) (a.is.report ∙ sym b.is.report))

draw_one : (files : Given) (o : Options) (dump : List ℕ) → IsSome (files.told dump) → ((name : List ℕ) → files.failed name → ⊥) → HasOne (draw files o dump)
draw_one files o dump has_dump calm =
    step_one (IsRead files dump most_dump) (IsNotRead files dump most_dump (codes "dump")) (λ bytes. Draws o bytes) (read_one files dump most_dump (codes "dump") has_dump calm)
    (λ bytes is. record { alike = draws_alike o bytes })

-- ---- the whole

built_one : (is : Bool) (next : Ends) → HasOne next → HasOne (where_built is next)
built_one true next h = record { alike = h.alike }
built_one false next h = record { alike = λ p q a b. inl (a ∙ sym b) }

plain_one : (view : Option (List ℕ)) (through : List ℕ → Ends) (plainly : Ends) → is_none view ≡ true → HasOne plainly → HasOne (by_view view through plainly)
plain_one None through plainly fixed h = record { alike = h.alike }
plain_one (Some map) through plainly fixed h = absurd cc

command_one : (files : Given) (may : May) (c : Command) → ((name : List ℕ) → MayRead files.told c name → IsSome (files.told name)) → ((name : List ℕ) → files.failed name → ⊥) → is_fixed c ≡ true → HasOne (built files may c)
command_one files may (commands.Rewrite o schema source) told calm fixed =
    record {
      alike = (plain_one o.view (λ map. rewrite_by_view files may o map schema source) (rewrite files may o schema source) fixed
          (rewrite_one files may o schema source (told schema (inr (inl refl))) (told source (inr (inr (inl refl)))) (λ name is. told name (inr (inr (inr is)))) calm)).alike;
    }
command_one files may (commands.Run o schema source folder method words) told calm fixed =
    record {
      alike = (run_one files o schema source folder (record { method = method; words = words }) (told schema (inl refl)) (told source (inr (inl refl))) (λ name file. told name (inr (inr file))) calm).alike;
    }
command_one files may (commands.Sql schema folder query) told calm fixed = record { alike = (sql_one files schema folder query (told schema (inl refl)) (λ name file. told name (inr file)) calm).alike }
command_one files may (commands.Prove o schema source) told calm fixed =
    record {
      alike = (plain_one o.view (λ map. prove_by_view files may o map schema source) (prove files may o schema source) fixed
          (prove_one files may o schema source (told schema (inr (inl refl))) (told source (inr (inr (inl refl)))) (λ name is. told name (inr (inr (inr is)))) calm)).alike;
    }
command_one files may (commands.Check o schema source bundle) told calm fixed =
    record {
      alike = (plain_one o.view (λ map. check_by_view files map schema source bundle) (check files schema source bundle) fixed
          (check_one files schema source bundle (told schema (inr (inl refl))) (told source (inr (inr (inl refl)))) (told bundle (inr (inr (inr refl)))) calm)).alike;
    }
command_one files may (commands.Make n) told calm fixed = record { alike = (make_one n).alike }
command_one files may (commands.Unnest o s t) told calm fixed = record { alike = (unnest_one files o s t (told s (inl refl)) (told t (inr refl)) calm).alike }
command_one files may (commands.Narrow o s t) told calm fixed = record { alike = (narrow_one files s t (told s (inl refl)) (told t (inr refl)) calm).alike }
command_one files may (commands.Inline s t) told calm fixed = record { alike = (inline_one files s t (told s (inl refl)) (told t (inr refl)) calm).alike }
command_one files may (commands.Gather o s t) told calm fixed = record { alike = (gather_one files o s t (told s (inl refl)) (told t (inr refl)) calm).alike }
command_one files may (commands.Schema o d) told calm fixed = record { alike = (draw_one files o d (told d refl) calm).alike }
command_one files may (commands.View m s t) told calm fixed = absurd cc
command_one files may (commands.Map es) told calm fixed = absurd cc
command_one files may (commands.MapSchema es) told calm fixed = absurd cc
command_one files may (commands.CheckMap m s t) told calm fixed = absurd cc

command_same : (o : Option Command) (b c : Command) → o ≡ Some b → o ≡ Some c → b ≡ c
command_same o b c x y = cc

words_one : (words : List (List ℕ)) → IsOne {B = Command} (HasWords words) (EndsUnbuilt words)
words_one words = record {
  same = λ b c x y. command_same (plain words) b c ((reads_plain_words words b).1 x) ((reads_plain_words words c).1 y);
  stops = λ p q x y. x.1 ∙ sym y.1;
  apart = λ b p x y. y.0 b x;
}

pub one_plan : (files : Given) (may : May) (words : List (List ℕ)) → HasOnePlan files may words
one_plan files may words told fixed p q a b =
    (step_one (HasWords words) (EndsUnbuilt words) (command files may) (words_one words)
    (λ c has. record { alike = (built_one (is_built c) (built files may c) (command_one files may c (λ name reads. told.told c name has reads) told.calm (fixed c has))).alike })).alike p q a b
