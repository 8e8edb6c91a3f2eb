-- A run of the rewritten program writes what the run of the program does, wherever that ends without fault.
use Rattle.std.proofs.Common.{◌≡◌, ℕ, zero, suc, inl, inr, true, false, List, [], ◌∷◌, length, map, Option, Some, None, Result, Ok, Err, refl, sym, ap, subst, ◌∙◌, codes}
use Rattle.std.specs.Prelude.{IsSome, position, slice_get}
use Rattle.std.specs.Str.{bytes_eq}
use Rattle.qbs_base.specs.declared.scalar.Scalar.{Scalar}
use Rattle.qbs_base.specs.declared.scalar.Value.{Value}
use Rattle.qbs_base.specs.declared.status.Status.{Status}
use Rattle.qbs_base.specs.declared.status.Status.TheVariants as statuses
use Rattle.qbs_base.specs.Values.{Schema, Database, IsDatabaseOf}
use Rattle.java_ast.specs.Tree.{PlainParam, PlainMethod, PlainProgram}
use Rattle.java_mean.specs.declared.rule.TypeRule.{TypeRule}
use Rattle.java_mean.specs.Keeps.{KeepsMethod, KeepsMethods, Keeps}
use Rattle.java_mean.specs.Outcome.{Outcome, Done, Faulted, OutOfTurns, Stuck, outcome, world_with}
use Rattle.java_mean.specs.Queries.{Reader}
use Rattle.java_types.specs.Texts.{read_by}
use Rattle.java_types.proofs.Found.{found_exactly}
use Rattle.words.specs.declared.command.Options.{Options}
use Rattle.deliveries.specs.Limits.{most_schema, most_source, most_tables}
use Rattle.deliveries.specs.declared.plan.Plan.{Plan}
use Rattle.plans.specs.Calls.{Call, Called, Calls, CallsNothing, arguments, method_at, method_named, word_refusal}
use Rattle.plans.specs.Opening.{IsSchemaOf, schema_refusal}
use Rattle.plans.specs.Lines.{fault_text}
use Rattle.deliveries.specs.Plan.{Given, refusal}
use Rattle.plans.specs.Tables.{AreRead, AreNotRead, over_tables, loaded, HasRows, data_refusal, IsFileOf, IsTableFile}
use Rattle.plans.proofs.Called.{position_mapped}
use Rattle.plans.proofs.Fetched.{as_many}
use Rattle.qbs.specs.Rewrite.{size_of, budget_of}
use Rattle.qbs.specs.Run.{IsChosen, comes_to, comes, call_of, run_of, run, turns_of}
use Rattle.qbs.proofs.Promised.{unread, unread_texts, no_program}
use Rattle.qbs.proofs.OneRead.{read_one, tables_one}
use Rattle.qbs.proofs.OneFound.{schema_one, program_one}
use Rattle.qbs.proofs.OnePlan.{table_files}
use Rattle.qbs.proofs.TypedRuns.{loaded_is_database, arguments_are_typed}

-- ---- a method of the rewritten program

names_kept : (tables : Schema) (ms ns : List PlainMethod) → KeepsMethods tables ms ns → map (λ (m : PlainMethod). m.name) ms ≡ map (λ (m : PlainMethod). m.name) ns
names_kept tables [] [] h = refl
names_kept tables [] (n ∷ ns) h = absurd h
names_kept tables (m ∷ ms) [] h = absurd h
names_kept tables (m ∷ ms) (n ∷ ns) h =
    ap (λ (name : List ℕ). name ∷ map (λ (k : PlainMethod). k.name) ms) h.0.name ∙ ap (λ (names : List (List ℕ)). n.name ∷ names) (names_kept tables ms ns h.1)

place_kept : (tables : Schema) (ms ns : List PlainMethod) (name : List ℕ) → KeepsMethods tables ms ns → position (λ (m : PlainMethod). bytes_eq m.name name) ms ≡ position (λ (m : PlainMethod). bytes_eq m.name name) ns
place_kept tables ms ns name h =
    sym (position_mapped (λ (m : PlainMethod). m.name) (λ (x : List ℕ). bytes_eq x name) ms)
    ∙ ap (position (λ (x : List ℕ). bytes_eq x name)) (names_kept tables ms ns h)
    ∙ position_mapped (λ (m : PlainMethod). m.name) (λ (x : List ℕ). bytes_eq x name) ns

kept_at : (tables : Schema) (ms ns : List PlainMethod) (n : ℕ) (m k : PlainMethod) → KeepsMethods tables ms ns → slice_get ms n ≡ Some m → slice_get ns n ≡ Some k → KeepsMethod tables m k
kept_at tables [] [] n m k h e f = absurd cc
kept_at tables [] (x ∷ ns) n m k h e f = absurd h
kept_at tables (x ∷ ms) [] n m k h e f = absurd h
kept_at tables (x ∷ ms) (y ∷ ns) zero m k h e f =
    let a : x ≡ m = cc in let b : y ≡ k = cc in
    subst (λ (z : PlainMethod). KeepsMethod tables z k) a (subst (KeepsMethod tables x) b h.0)
kept_at tables (x ∷ ms) (y ∷ ns) (suc n) m k h e f = kept_at tables ms ns n m k h.1 e f

kept_placed : (tables : Schema) (ms ns : List PlainMethod) (o : Option ℕ) (m k : PlainMethod) → KeepsMethods tables ms ns → method_at ms o ≡ Some m → method_at ns o ≡ Some k → KeepsMethod tables m k
kept_placed tables ms ns (Some n) m k h e f = kept_at tables ms ns n m k h e f
kept_placed tables ms ns None m k h e f = absurd cc

pub kept_named : (tables : Schema) (p q : PlainProgram) (name : List ℕ) (m k : PlainMethod) → Keeps p q tables → method_named name p.methods ≡ Some m → method_named name q.methods ≡ Some k → KeepsMethod tables m k
kept_named tables p q name m k h e f =
    kept_placed tables p.methods q.methods (position (λ (n : PlainMethod). bytes_eq n.name name) q.methods) m k h
    (subst (λ (o : Option ℕ). method_at p.methods o ≡ Some m) (place_kept tables p.methods q.methods name h) e) f

some_at : (tables : Schema) (ms ns : List PlainMethod) (n : ℕ) (m : PlainMethod) → KeepsMethods tables ms ns → slice_get ms n ≡ Some m → (k : PlainMethod) × (slice_get ns n ≡ Some k)
some_at tables [] [] n m h e = absurd cc
some_at tables [] (y ∷ ns) n m h e = absurd h
some_at tables (x ∷ ms) [] n m h e = absurd h
some_at tables (x ∷ ms) (y ∷ ns) zero m h e = (y, refl)
some_at tables (x ∷ ms) (y ∷ ns) (suc n) m h e = some_at tables ms ns n m h.1 e

some_placed : (tables : Schema) (ms ns : List PlainMethod) (o : Option ℕ) (m : PlainMethod) → KeepsMethods tables ms ns → method_at ms o ≡ Some m → (k : PlainMethod) × (method_at ns o ≡ Some k)
some_placed tables ms ns (Some n) m h e = some_at tables ms ns n m h e
some_placed tables ms ns None m h e = absurd cc

pub some_named : (tables : Schema) (p q : PlainProgram) (name : List ℕ) (m : PlainMethod) → Keeps p q tables → method_named name p.methods ≡ Some m → (k : PlainMethod) × (method_named name q.methods ≡ Some k)
some_named tables p q name m h e =
    some_placed tables p.methods q.methods (position (λ (n : PlainMethod). bytes_eq n.name name) q.methods) m h
    (subst (λ (o : Option ℕ). method_at p.methods o ≡ Some m) (place_kept tables p.methods q.methods name h) e)

-- ---- what it comes to

refusal_fails : (p due : Plan) (status : Status) → p ≡ due → due.status ≡ status → (status ≡ statuses.Ok → ⊥) → p.status ≡ statuses.Ok → ⊥
refusal_fails p due status e is other ok = other (sym is ∙ ap (λ (x : Plan). x.status) (sym e) ∙ ok)

is_done : (tables : Schema) (o : Outcome) (plan : Plan) → comes_to tables o plan → plan.status ≡ statuses.Ok → (lines : List (List ℕ)) × (value : Option Value) × (o ≡ Done lines value)
is_done tables (Done lines value) plan h ok = (lines, value, refl)
is_done tables (Faulted fault at) plan h ok = absurd (refusal_fails plan (refusal statuses.Faulted (fault_text fault at)) statuses.Faulted h refl (λ e. cc) ok)
is_done tables OutOfTurns plan h ok = absurd (refusal_fails plan (refusal statuses.Turns (codes "qbs: turns")) statuses.Turns h refl (λ e. cc) ok)
is_done tables Stuck plan h ok = absurd h

one_outcome : (tables : Schema) (lines : List (List ℕ)) (value : Option Value) (o k : Outcome) (first second : Plan) → o ≡ Done lines value → k ≡ Done lines value → comes_to tables o first → comes_to tables k second → first ≡ second
one_outcome tables lines value o k first second e f a b =
    subst (λ (x : Outcome). comes_to tables x first) e a ∙ sym (subst (λ (x : Outcome). comes_to tables x second) f b)

abbrev reader_of : (tables : Schema) → Reader tables
reader_of tables = record { read = read_by tables; exact = found_exactly tables }

same_outcome : (tables : Schema) (db : Database) (m k : PlainMethod) (args : List Scalar) (turns : ℕ) (call : Call) (first second : Plan) → KeepsMethod tables m k → IsDatabaseOf tables db → arguments m.params call.words ≡ Ok args →
    first.status ≡ statuses.Ok → comes_to tables (outcome (world_with tables (read_by tables) db) m args turns) first → comes_to tables (outcome (world_with tables (read_by tables) db) k args turns) second → first ≡ second
same_outcome tables db m k args turns call first second kept is fit ok a b =
    let ended = is_done tables (outcome (world_with tables (read_by tables) db) m args turns) first a ok in
    one_outcome tables ended.0 ended.1 (outcome (world_with tables (read_by tables) db) m args turns) (outcome (world_with tables (read_by tables) db) k args turns) first second ended.2
    (kept.done (reader_of tables) db is args (arguments_are_typed tables m.params call.words args fit) turns ended.0 ended.1 ended.2) a b

ok_is : {A F : Type 0} (r : Result A F) (x y : A) → r ≡ Ok x → r ≡ Ok y → x ≡ y
ok_is r x y a b = cc

never_both : {A F : Type 0} (r : Result A F) (x : A) (y : F) → r ≡ Ok x → r ≡ Err y → ⊥
never_both r x y a b = cc

module _ (tables : Schema) (texts : List (List ℕ)) (call : Call) (turns : ℕ) (p r : PlainProgram) (keeps : Keeps p r tables) (many : length texts ≡ length tables) (first second : Plan) (ok : first.status ≡ statuses.Ok) where
  both_come : (c d : Called) (db : Database) → Calls p call c → Calls r call d → HasRows tables texts db → comes tables c turns db first → comes tables d turns db second → first ≡ second
  both_come c d db here there rows due other =
      let kept : KeepsMethod tables c.method d.method = kept_named tables p r call.method c.method d.method keeps here.named there.named in
      let args : d.args ≡ c.args = ok_is (arguments d.method.params call.words) d.args c.args there.fit (ap (λ (ps : List PlainParam). arguments ps call.words) (sym kept.params) ∙ here.fit) in
      same_outcome tables db c.method d.method c.args turns call first second kept (loaded_is_database tables texts db many rows) here.fit ok due
      (subst (λ (xs : List Scalar). comes_to tables (outcome (world_with tables (read_by tables) db) d.method xs turns) second) args other)

  nothing_called : (c : Called) (rule : TypeRule) → Calls p call c → CallsNothing r call rule → ⊥
  nothing_called c rule here (inl none) =
      let there = some_named tables p r call.method c.method keeps here.named in
      let e : Some there.0 ≡ None = sym there.1 ∙ none.1 in cc
  nothing_called c rule here (inr (k, named, err)) =
      let kept : KeepsMethod tables c.method k = kept_named tables p r call.method c.method k keeps here.named named in
      let fits : arguments k.params call.words ≡ Ok c.args = ap (λ (ps : List PlainParam). arguments ps call.words) (sym kept.params) ∙ here.fit in
      cc

  calls_alike : (c : Called) → Calls p call c → (db : Database) → HasRows tables texts db → comes tables c turns db first →
      call_of tables texts call turns r second → first ≡ second
  calls_alike c here db rows due (inl h) = absurd (nothing_called c h.0 here h.1)
  calls_alike c here db rows due (inr (d, there, inl h)) = absurd (never_both (loaded tables texts) db h.0 rows h.1)
  calls_alike c here db rows due (inr (d, there, inr (db', rows', other))) =
      let same : db' ≡ db = ok_is (loaded tables texts) db' db rows' rows in
      both_come c d db here there rows due (subst (λ (b : Database). comes tables d turns b second) same other)

  pub runs_alike : call_of tables texts call turns p first → call_of tables texts call turns r second → first ≡ second
  runs_alike (inl h) other = absurd (refusal_fails first (word_refusal h.0) statuses.Types h.2 refl (λ e. cc) ok)
  runs_alike (inr (c, here, inl h)) other = absurd (refusal_fails first (data_refusal h.0) statuses.Data h.2 refl (λ e. cc) ok)
  runs_alike (inr (c, here, inr (db, rows, due))) other = calls_alike c here db rows due other

-- ---- the command

chosen_runs : (o : Options) (tables : Schema) (texts : List (List ℕ)) (call : Call) (p q r : PlainProgram) (first second : Plan) → length texts ≡ length tables → first.status ≡ statuses.Ok →
    IsChosen false tables (size_of o) (budget_of o) p q → IsChosen true tables (size_of o) (budget_of o) p r →
    call_of tables texts call (turns_of o) q first → call_of tables texts call (turns_of o) r second → first ≡ second
chosen_runs o tables texts call p q r first second many ok same other a b =
    runs_alike tables texts call (turns_of o) p r (subst (λ (k : PlainProgram). Keeps p k tables) (sym other.0) other.1.keeps) many first second ok
    (subst (λ (k : PlainProgram). call_of tables texts call (turns_of o) k first) same a) b

programs_alike : (o : Options) (tables : Schema) (call : Call) (source : List ℕ) (texts : List (List ℕ)) (first second : Plan) → length texts ≡ length tables → first.status ≡ statuses.Ok →
    run_of (record o { rewritten = false }) tables call source texts first → run_of (record o { rewritten = true }) tables call source texts second → first ≡ second
programs_alike o tables call source texts first second many ok (inl h) y = absurd (no_program tables source first h ok)
programs_alike o tables call source texts first second many ok (inr (p, is, inl h)) y = absurd h
programs_alike o tables call source texts first second many ok (inr (p, is, inr (q, same, a))) (inl h) = absurd ((program_one tables source).apart p second is h)
programs_alike o tables call source texts first second many ok (inr (p, is, inr (q, same, a))) (inr (p', is', inl h)) = absurd h
programs_alike o tables call source texts first second many ok (inr (p, is, inr (q, same, a))) (inr (p', is', inr (r, other, b))) =
    let one : p' ≡ p = (program_one tables source).same p' p is' is in
    chosen_runs o tables texts call p q r first second many ok same (subst (λ (k : PlainProgram). IsChosen true tables (size_of o) (budget_of o) k r) one other) a b

tables_alike : (files : Given) (o : Options) (folder s t : List ℕ) (call : Call) (first second : Plan) → first.status ≡ statuses.Ok → ((name : List ℕ) → files.failed name → ⊥) →
    ((tables : Schema) → IsSchemaOf s tables → (name : List ℕ) → IsFileOf folder tables name → IsSome (files.told name)) →
    over_tables files folder s (λ tables texts. run_of (record o { rewritten = false }) tables call t texts) first →
    over_tables files folder s (λ tables texts. run_of (record o { rewritten = true }) tables call t texts) second → first ≡ second
tables_alike files o folder s t call first second ok calm told (inl h) y = absurd (refusal_fails first (schema_refusal h.0) statuses.Schema h.2 refl (λ e. cc) ok)
tables_alike files o folder s t call first second ok calm told (inr (tables, is, inl h)) y = absurd (unread_texts files folder tables most_tables first h ok)
tables_alike files o folder s t call first second ok calm told (inr (tables, is, inr (texts, are, a))) (inl h) = absurd ((schema_one s).apart tables second is h)
tables_alike files o folder s t call first second ok calm told (inr (tables, is, inr (texts, are, a))) (inr (tables', is', inl h)) =
    let one : tables' ≡ tables = (schema_one s).same tables' tables is' is in
    absurd ((tables_one files folder tables most_tables (told tables is) calm).apart texts second are (subst (λ (ts : Schema). AreNotRead files folder ts most_tables second) one h))
tables_alike files o folder s t call first second ok calm told (inr (tables, is, inr (texts, are, a))) (inr (tables', is', inr (texts', are', b))) =
    let one : tables' ≡ tables = (schema_one s).same tables' tables is' is in
    let texts_one : texts' ≡ texts = (tables_one files folder tables most_tables (told tables is) calm).same texts' texts (subst (λ (ts : Schema). AreRead files folder ts most_tables texts') one are') are in
    programs_alike o tables call t texts first second (as_many files folder tables most_tables texts are) ok a
    (subst (λ (xs : List (List ℕ)). run_of (record o { rewritten = true }) tables call t xs second) texts_one (subst (λ (ts : Schema). run_of (record o { rewritten = true }) ts call t texts' second) one b))

pub commands_alike : (files : Given) (o : Options) (schema source folder : List ℕ) (call : Call) (first second : Plan) → IsSome (files.told schema) → IsSome (files.told source) →
    ((name : List ℕ) → IsTableFile files.told schema folder name → IsSome (files.told name)) → ((name : List ℕ) → files.failed name → ⊥) → first.status ≡ statuses.Ok →
    run files (record o { rewritten = false }) schema source folder call first → run files (record o { rewritten = true }) schema source folder call second → first ≡ second
commands_alike files o schema source folder call first second has_schema has_source told calm ok (inl h) y = absurd (unread files schema most_schema (codes "schema") first h ok)
commands_alike files o schema source folder call first second has_schema has_source told calm ok (inr (s, read, inl h)) y = absurd (unread files source most_source (codes "source") first h ok)
commands_alike files o schema source folder call first second has_schema has_source told calm ok (inr (s, read, inr (t, has, a))) (inl h) =
    absurd ((read_one files schema most_schema (codes "schema") has_schema calm).apart s second read h)
commands_alike files o schema source folder call first second has_schema has_source told calm ok (inr (s, read, inr (t, has, a))) (inr (s', read', inl h)) =
    absurd ((read_one files source most_source (codes "source") has_source calm).apart t second has h)
commands_alike files o schema source folder call first second has_schema has_source told calm ok (inr (s, read, inr (t, has, a))) (inr (s', read', inr (t', has', b))) =
    let one : s' ≡ s = (read_one files schema most_schema (codes "schema") has_schema calm).same s' s read' read in
    let two : t' ≡ t = (read_one files source most_source (codes "source") has_source calm).same t' t has' has in
    tables_alike files o folder s t call first second ok calm (λ tables is. table_files files schema folder s tables read is told) a
    (subst (λ (x : List ℕ). over_tables files folder x (λ tables texts. run_of (record o { rewritten = true }) tables call t texts) second) one
    (subst (λ (x : List ℕ). over_tables files folder s' (λ tables texts. run_of (record o { rewritten = true }) tables call x texts) second) two b))
