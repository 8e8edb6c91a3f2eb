-- What holds of all plans that are due: a refusal has nothing for the output, and none says that a write failed.
use Rattle.std.proofs.Common.{◌≡◌, ◌≢◌, ℕ, ◌-◌, inl, inr, Bool, true, false, List, [], ◌∷◌, ◌++◌, length, Option, Some, None, subst, sym, refl, ap, codes}
use Rattle.qbs_base.specs.declared.status.Status.{Status}
use Rattle.qbs_base.specs.declared.status.Status.TheVariants as statuses
use Rattle.qbs_base.specs.Status.{KeepsOutput}
use Rattle.qbs_base.specs.declared.columns.Table.{Table}
use Rattle.qbs_base.specs.Values.{Schema, Database}
use Rattle.java_ast.specs.Tree.{PlainMethod, PlainProgram}
use Rattle.deriv_check.specs.Bundles.{Entry}
use Rattle.rewrite_core.specs.Checking.{Checks, All, Refused, checked_from}
use Rattle.java_mean.specs.Outcome.{Outcome, Done, Faulted, OutOfTurns, Stuck, outcome, world_with}
use Rattle.java_types.specs.Texts.{read_by}
use Rattle.rewrite_core.specs.Rewriting.{verdicts_of}
use Rattle.rewrite_core.specs.Trying.{all_tried}
use Rattle.sample.specs.Class.{sample_program}
use Rattle.sample_data.specs.Tables.{sample_schema, sample_rows}
use Rattle.sql_ast.specs.Meaning as meaning
use Rattle.sql_ast.specs.Meaning.{Answered, query_answer}
use Rattle.small_dbs.specs.declared.small.SmallDb.{SmallDb}
use Rattle.words.specs.declared.command.Command.{Command}
use Rattle.words.specs.declared.command.Command.TheVariants as commands
use Rattle.words.specs.declared.command.Options.{Options}
use Rattle.deliveries.specs.Limits.{most_map, most_schema, most_source, most_bundle, most_dump, most_entities, most_store}
use Rattle.deliveries.specs.declared.plan.Plan.{Plan}
use Rattle.plans.specs.Calls.{Call}
use Rattle.plans.specs.Opening.{IsSchemaOf, HasNoProgram}
use Rattle.deliveries.specs.Plan.{Given, not_yet, read_fault}
use Rattle.plans.specs.Results.{names_of}
use Rattle.deliveries.specs.Steps.{Ends, IsRead, IsNotRead}
use Rattle.deliveries.specs.Named.{AreFilesUnread, IsNamed}
use Rattle.plans.specs.Tables.{table_files, AreNotRead, IsFileOf, IsTableFile}
use Rattle.qbs.specs.Check.{tells, check_of, check, reads_evidence}
use Rattle.qbs.specs.CheckByView.{seen_program, check_by_view_of, check_by_view}
use Rattle.qbs.specs.Commands.{is_built, built, where_built, command}
use Rattle.qbs.specs.Top.{MayRead, ReadFailed}
use Rattle.qbs.specs.Draw.{draw}
use Rattle.qbs.specs.Inline.{HasNoProgramWithCalls, inline_of, inline}
use Rattle.qbs.specs.Narrow.{narrow_of, narrow}
use Rattle.qbs.specs.Maps.{draws, source_names, checks_of, checks_source, checks_map}
use Rattle.qbs.specs.Make.{loops_text, method_text, IsNotDone, outcome_over, runs, make}
use Rattle.qbs.specs.Gather.{gather_of, gather}
use Rattle.qbs.specs.Opened.{reads_all, has_all}
use Rattle.qbs.specs.OpenedByView.{reads_by_view, sees_all}
use Rattle.qbs.specs.Pruners.{May, with_bank}
use Rattle.qbs.specs.Prove.{Proves, prove_of, prove}
use Rattle.qbs.specs.ProveByView.{ProvesSeen, prove_by_view_of, prove_by_view}
use Rattle.qbs.specs.Rewrite.{size_of, budget_of, Rewrites, rewrite_of, rewrite}
use Rattle.qbs.specs.RewriteByView.{WritesBack, rewrite_by_view_of, rewrite_by_view}
use Rattle.qbs.specs.Run.{comes_to, call_of, run_of, run}
use Rattle.qbs.specs.Sql.{answer_plan, sql_of, sql}
use Rattle.qbs.specs.Store.{IsStoreName, IsStoreUnread, HasNoBank}
use Rattle.qbs.specs.Unnest.{unnest_of, unnest}
use Rattle.qbs.specs.View.{Seen, views, view_of, view}
use Rattle.qbs.proofs.ByView.{either, is_map_name, proves_well}
use Rattle.view_map.specs.declared.model.ViewMap.{ViewMap}

-- a plan of a command that words name, which reads files of these names
pub record IsFair (files : Given) (Names : List ℕ → Type 0) (plan : Plan) : Type 0 where
  pub out : KeepsOutput plan.status → plan.out ≡ []
  pub write : plan.status ≢ statuses.WriteFault
  pub words : plan.status ≢ statuses.Words
  pub read : plan.status ≡ statuses.ReadFault → ReadFailed files Names plan

module _ (files : Given) (Names : List ℕ → Type 0) where
  fair_as : (p q : Plan) → p ≡ q → IsFair files Names q → IsFair files Names p
  fair_as p q same fair = subst (IsFair files Names) (sym same) fair

  refusal_fair : (status : Status) (rep : List ℕ) → status ≢ statuses.WriteFault → status ≢ statuses.Words → status ≢ statuses.ReadFault → IsFair files Names (record { status = status; out = []; rep = rep })
  refusal_fair status rep write words read = record { out = λ k. refl; write = write; words = words; read = λ e. absurd (read e) }

  done_fair : (plan : Plan) → plan.status ≡ statuses.Ok → IsFair files Names plan
  done_fair plan ok = record { out = λ k. absurd (subst KeepsOutput ok k); write = λ e. cc; words = λ e. cc; read = λ e. absurd cc }

  unread_fair : (name : List ℕ) → Names name → files.failed name → IsFair files Names (read_fault name)
  unread_fair name named failed =
      record { out = λ k. refl; write = λ e. cc; words = λ e. cc; read = λ e. record { name = name; named = named; failed = failed; due = refl } }

  not_read_fair : (name : List ℕ) (limit : ℕ) (label : List ℕ) (plan : Plan) → Names name → IsNotRead files name limit label plan → IsFair files Names plan
  not_read_fair name limit label plan named (inl h) = fair_as plan (read_fault name) h.1 (unread_fair name named h.0)
  not_read_fair name limit label plan named (inr h) = fair_as plan _ h.1 (refusal_fair statuses.Limit _ (λ e. cc) (λ e. cc) (λ e. cc))

  files_fair : (names : List (List ℕ)) (left : ℕ) (label : List ℕ) (plan : Plan) → ((name : List ℕ) → IsNamed names name → Names name) → AreFilesUnread files names left label plan → IsFair files Names plan
  files_fair [] left label plan named h = absurd h
  files_fair (name ∷ names) left label plan named (inl h) = not_read_fair name left label plan (named name (inl refl)) h
  files_fair (name ∷ names) left label plan named (inr h) = files_fair names (left - length h.0) label plan (λ other is. named other (inr is)) h.2

  not_texts_fair : (folder : List ℕ) (tables : List Table) (left : ℕ) (plan : Plan) → ((name : List ℕ) → IsFileOf folder tables name → Names name) → AreNotRead files folder tables left plan → IsFair files Names plan
  not_texts_fair folder tables left plan named h = files_fair (table_files folder tables) left (codes "tables") plan named h

  no_program_fair : (tables : Schema) (bytes : List ℕ) (plan : Plan) → HasNoProgram tables bytes plan → IsFair files Names plan
  no_program_fair tables bytes plan (inl h) = fair_as plan _ h.2 (refusal_fair statuses.Source _ (λ e. cc) (λ e. cc) (λ e. cc))
  no_program_fair tables bytes plan (inr (inl h)) = fair_as plan _ h.2 (refusal_fair statuses.Source _ (λ e. cc) (λ e. cc) (λ e. cc))
  no_program_fair tables bytes plan (inr (inr h)) = fair_as plan _ h.2 (refusal_fair statuses.Types _ (λ e. cc) (λ e. cc) (λ e. cc))

  -- ---- `rewrite` and `prove`

  no_bank_fair : (tables : Schema) (store : Option (List ℕ)) (plan : Plan) → HasNoBank tables store plan → IsFair files Names plan
  no_bank_fair tables None plan h = absurd h
  no_bank_fair tables (Some bytes) plan h = fair_as plan _ h.2 (refusal_fair statuses.Store _ (λ e. cc) (λ e. cc) (λ e. cc))

  no_store_fair : (store : Option (List ℕ)) (plan : Plan) → ((name : List ℕ) → IsStoreName store name → Names name) → IsStoreUnread files store plan → IsFair files Names plan
  no_store_fair None plan named h = absurd h
  no_store_fair (Some name) plan named h = not_read_fair name most_store (codes "store") plan (named name refl) h

  has_all_fair : (s t : List ℕ) (b : Option (List ℕ)) (next : Schema → PlainProgram → Option (List SmallDb) → Ends) → ((tables : Schema) (p : PlainProgram) (bank : Option (List SmallDb)) (plan : Plan) → next tables p bank plan → plan.status ≡ statuses.Ok) →
      (plan : Plan) → has_all s t b next plan → IsFair files Names plan
  has_all_fair s t b next well plan (inl h) = fair_as plan _ h.2 (refusal_fair statuses.Schema _ (λ e. cc) (λ e. cc) (λ e. cc))
  has_all_fair s t b next well plan (inr (tables, is, inl h)) = no_program_fair tables t plan h
  has_all_fair s t b next well plan (inr (tables, is, inr (p, read, inl h))) = no_bank_fair tables b plan h
  has_all_fair s t b next well plan (inr (tables, is, inr (p, read, inr (bank, held, h)))) = done_fair plan (well tables p bank plan h)

  reads_all_fair : (schema source : List ℕ) (store : Option (List ℕ)) (next : List ℕ → List ℕ → Option (List ℕ) → Ends) → Names schema → Names source → ((name : List ℕ) → IsStoreName store name → Names name) →
      ((s t : List ℕ) (b : Option (List ℕ)) (plan : Plan) → next s t b plan → IsFair files Names plan) → (plan : Plan) → reads_all files schema source store next plan → IsFair files Names plan
  reads_all_fair schema source store next first second third fair plan (inl h) = not_read_fair schema most_schema (codes "schema") plan first h
  reads_all_fair schema source store next first second third fair plan (inr (s, read, inl h)) = not_read_fair source most_source (codes "source") plan second h
  reads_all_fair schema source store next first second third fair plan (inr (s, read, inr (t, has, inl h))) = no_store_fair store plan third h
  reads_all_fair schema source store next first second third fair plan (inr (s, read, inr (t, has, inr (b, there, h)))) = fair s t b plan h

  rewrite_fair : (may : May) (o : Options) (schema source : List ℕ) → Names schema → Names source → ((name : List ℕ) → IsStoreName o.store name → Names name) → (plan : Plan) → rewrite files may o schema source plan → IsFair files Names plan
  rewrite_fair may o schema source first second third plan h =
      reads_all_fair schema source o.store (λ s t b. rewrite_of may o s t b) first second third
      (λ s t b x due. has_all_fair s t b (λ tables p bank. Rewrites (with_bank may bank) tables (size_of o) (budget_of o) t p) (λ tables p bank y d. ap (λ (z : Plan). z.status) d.written) x due) plan h

  prove_fair : (may : May) (o : Options) (schema source : List ℕ) → Names schema → Names source → ((name : List ℕ) → IsStoreName o.store name → Names name) → (plan : Plan) → prove files may o schema source plan → IsFair files Names plan
  prove_fair may o schema source first second third plan h =
      reads_all_fair schema source o.store (λ s t b. prove_of may o s t b) first second third
      (λ s t b x due. has_all_fair s t b (λ tables p bank. Proves (with_bank may bank) tables (size_of o) (budget_of o) p) (λ tables p bank y d. ap (λ (z : Plan). z.status) d.written) x due) plan h

  -- ---- by a view

  sees_all_fair : (w s t : List ℕ) (b : Option (List ℕ)) (next : Schema → ViewMap → Seen → Option (List SmallDb) → Ends) →
      ((tables : Schema) (m : ViewMap) (seen : Seen) (bank : Option (List SmallDb)) (plan : Plan) → next tables m seen bank plan → plan.status ≡ statuses.Ok) → (plan : Plan) → sees_all w s t b next plan → IsFair files Names plan
  sees_all_fair w s t b next well plan (inl h) = fair_as plan _ h.2 (refusal_fair statuses.Schema _ (λ e. cc) (λ e. cc) (λ e. cc))
  sees_all_fair w s t b next well plan (inr (tables, is, inl h)) = fair_as plan _ h.2 (refusal_fair statuses.View _ (λ e. cc) (λ e. cc) (λ e. cc))
  sees_all_fair w s t b next well plan (inr (tables, is, inr (m, has, inl h))) = fair_as plan _ h.due (refusal_fair statuses.Limit _ (λ e. cc) (λ e. cc) (λ e. cc))
  sees_all_fair w s t b next well plan (inr (tables, is, inr (m, has, inr (seen, there, inl h)))) = no_bank_fair tables b plan h
  sees_all_fair w s t b next well plan (inr (tables, is, inr (m, has, inr (seen, there, inr (bank, held, h))))) = done_fair plan (well tables m seen bank plan h)

  reads_by_view_fair : (words schema source : List ℕ) (store : Option (List ℕ)) (next : List ℕ → List ℕ → List ℕ → Option (List ℕ) → Ends) → Names words → Names schema → Names source → ((name : List ℕ) → IsStoreName store name → Names name) →
      ((w s t : List ℕ) (b : Option (List ℕ)) (plan : Plan) → next w s t b plan → IsFair files Names plan) → (plan : Plan) → reads_by_view files words schema source store next plan → IsFair files Names plan
  reads_by_view_fair words schema source store next first second third fourth fair plan (inl h) = not_read_fair words most_map (codes "map") plan first h
  reads_by_view_fair words schema source store next first second third fourth fair plan (inr (w, read, h)) = reads_all_fair schema source store (λ s t b. next w s t b) second third fourth (fair w) plan h

  rewrite_by_view_fair : (may : May) (o : Options) (words schema source : List ℕ) → Names words → Names schema → Names source → ((name : List ℕ) → IsStoreName o.store name → Names name) → (plan : Plan) →
      rewrite_by_view files may o words schema source plan → IsFair files Names plan
  rewrite_by_view_fair may o words schema source first second third fourth plan h =
      reads_by_view_fair words schema source o.store (λ w s t b. rewrite_by_view_of may o w s t b) first second third fourth
      (λ w s t b x due. sees_all_fair w s t b (λ tables m seen bank. WritesBack (with_bank may bank) m tables (size_of o) (budget_of o) t seen) (λ tables m seen bank y d. ap (λ (z : Plan). z.status) d.written) x due) plan h

  prove_by_view_fair : (may : May) (o : Options) (words schema source : List ℕ) → Names words → Names schema → Names source → ((name : List ℕ) → IsStoreName o.store name → Names name) → (plan : Plan) →
      prove_by_view files may o words schema source plan → IsFair files Names plan
  prove_by_view_fair may o words schema source first second third fourth plan h =
      reads_by_view_fair words schema source o.store (λ w s t b. prove_by_view_of may o w s t b) first second third fourth
      (λ w s t b x due. sees_all_fair w s t b (λ tables m seen bank. ProvesSeen (with_bank may bank) m tables (size_of o) (budget_of o) t seen)
      (λ tables m seen bank y d. proves_well (with_bank may bank) m tables (size_of o) (budget_of o) t seen y d) x due) plan h

  -- ---- `gather`

  gather_of_fair : (o : Options) (s t : List ℕ) (plan : Plan) → gather_of o s t plan → IsFair files Names plan
  gather_of_fair o s t plan (inl h) = fair_as plan _ h.2 (refusal_fair statuses.Schema _ (λ e. cc) (λ e. cc) (λ e. cc))
  gather_of_fair o s t plan (inr (tables, is, inl h)) = no_program_fair tables t plan h
  gather_of_fair o s t plan (inr (tables, is, inr (p, read, h))) = done_fair plan (ap (λ (x : Plan). x.status) h.written)

  gather_fair : (o : Options) (schema source : List ℕ) → Names schema → Names source → (plan : Plan) → gather files o schema source plan → IsFair files Names plan
  gather_fair o schema source first second plan (inl h) = not_read_fair schema most_schema (codes "schema") plan first h
  gather_fair o schema source first second plan (inr (s, read, inl h)) = not_read_fair source most_source (codes "source") plan second h
  gather_fair o schema source first second plan (inr (s, read, inr (t, has, h))) = gather_of_fair o s t plan h

  -- ---- `view`

  views_fair : (m : ViewMap) (tables : Schema) (t : List ℕ) (plan : Plan) → views m tables t plan → IsFair files Names plan
  views_fair m tables t plan (inl h) = fair_as plan _ h.due (refusal_fair statuses.Limit _ (λ e. cc) (λ e. cc) (λ e. cc))
  views_fair m tables t plan (inr (seen, is, h)) = done_fair plan (ap (λ (x : Plan). x.status) h.written)

  view_of_fair : (w s t : List ℕ) (plan : Plan) → view_of w s t plan → IsFair files Names plan
  view_of_fair w s t plan (inl h) = fair_as plan _ h.2 (refusal_fair statuses.Schema _ (λ e. cc) (λ e. cc) (λ e. cc))
  view_of_fair w s t plan (inr (tables, is, inl h)) = fair_as plan _ h.2 (refusal_fair statuses.View _ (λ e. cc) (λ e. cc) (λ e. cc))
  view_of_fair w s t plan (inr (tables, is, inr (m, has, h))) = views_fair m tables t plan h

  view_fair : (words schema source : List ℕ) → Names words → Names schema → Names source → (plan : Plan) → view files words schema source plan → IsFair files Names plan
  view_fair words schema source first second third plan (inl h) = not_read_fair words most_map (codes "map") plan first h
  view_fair words schema source first second third plan (inr (w, read, inl h)) = not_read_fair schema most_schema (codes "schema") plan second h
  view_fair words schema source first second third plan (inr (w, read, inr (s, has, inl h))) = not_read_fair source most_source (codes "source") plan third h
  view_fair words schema source first second third plan (inr (w, read, inr (s, has, inr (t, is, h)))) = view_of_fair w s t plan h

  -- ---- `map`

  draws_fair : (entities : List (List ℕ)) → ((name : List ℕ) → IsNamed entities name → Names name) → (plan : Plan) → draws files entities plan → IsFair files Names plan
  draws_fair entities named plan (inl h) = files_fair entities most_entities (codes "entities") plan named h
  draws_fair entities named plan (inr (texts, are, h)) = done_fair plan h.status

  checks_of_fair : (w s : List ℕ) (plan : Plan) → checks_of w s plan → IsFair files Names plan
  checks_of_fair w s plan (inl h) = fair_as plan _ h.2 (refusal_fair statuses.Schema _ (λ e. cc) (λ e. cc) (λ e. cc))
  checks_of_fair w s plan (inr (tables, is, inl h)) = fair_as plan _ h.2 (refusal_fair statuses.View _ (λ e. cc) (λ e. cc) (λ e. cc))
  checks_of_fair w s plan (inr (tables, is, inr (m, has, h))) = done_fair plan h.status

  checks_source_fair : (source : Option (List ℕ)) (w s : List ℕ) → ((name : List ℕ) → IsNamed (source_names source) name → Names name) → (plan : Plan) → checks_source files source w s plan → IsFair files Names plan
  checks_source_fair None w s named plan h = checks_of_fair w s plan h
  checks_source_fair (Some source) w s named plan (inl h) = not_read_fair source most_source (codes "source") plan (named source (inl refl)) h
  checks_source_fair (Some source) w s named plan (inr (t, is, h)) = checks_of_fair w s plan h

  checks_map_fair : (words schema : List ℕ) (source : Option (List ℕ)) → Names words → Names schema → ((name : List ℕ) → IsNamed (source_names source) name → Names name) → (plan : Plan) → checks_map files words schema source plan →
      IsFair files Names plan
  checks_map_fair words schema source first second third plan (inl h) = not_read_fair words most_map (codes "map") plan first h
  checks_map_fair words schema source first second third plan (inr (w, read, inl h)) = not_read_fair schema most_schema (codes "schema") plan second h
  checks_map_fair words schema source first second third plan (inr (w, read, inr (s, has, h))) = checks_source_fair source w s third plan h

  -- ---- `check`

  refused_fair : (plan : Plan) → plan.status ≡ statuses.Refused → IsFair files Names plan
  refused_fair plan is = record { out = λ k. absurd (subst KeepsOutput is k); write = λ e. cc; words = λ e. cc; read = λ e. absurd cc }

  tells_fair : (tables : Schema) (entries : List Entry) (p : PlainProgram) (c : Checks) (plan : Plan) → tells tables entries p c plan → IsFair files Names plan
  tells_fair tables entries p (All n q) plan h = done_fair plan (ap (λ (x : Plan). x.status) h.1)
  tells_fair tables entries p (Refused ordinal) plan h = refused_fair plan (ap (λ (x : Plan). x.status) h)

  check_of_fair : (s t b : List ℕ) (plan : Plan) → check_of s t b plan → IsFair files Names plan
  check_of_fair s t b plan (inl h) = fair_as plan _ h.2 (refusal_fair statuses.Schema _ (λ e. cc) (λ e. cc) (λ e. cc))
  check_of_fair s t b plan (inr (tables, is, inl h)) = no_program_fair tables t plan h
  check_of_fair s t b plan (inr (tables, is, inr (p, read, inl h))) = fair_as plan _ h.2 (refusal_fair statuses.Bundle _ (λ e. cc) (λ e. cc) (λ e. cc))
  check_of_fair s t b plan (inr (tables, is, inr (p, read, inr (entries, has, h)))) = tells_fair tables entries p (checked_from tables 0 entries p) plan h

  reads_evidence_fair : (schema source bundle : List ℕ) (next : List ℕ → List ℕ → List ℕ → Ends) → Names schema → Names source → Names bundle → ((s t b : List ℕ) (plan : Plan) → next s t b plan → IsFair files Names plan) → (plan : Plan) →
      reads_evidence files schema source bundle next plan → IsFair files Names plan
  reads_evidence_fair schema source bundle next first second third fair plan (inl h) = not_read_fair schema most_schema (codes "schema") plan first h
  reads_evidence_fair schema source bundle next first second third fair plan (inr (s, read, inl h)) = not_read_fair source most_source (codes "source") plan second h
  reads_evidence_fair schema source bundle next first second third fair plan (inr (s, read, inr (t, has, inl h))) = not_read_fair bundle most_bundle (codes "bundle") plan third h
  reads_evidence_fair schema source bundle next first second third fair plan (inr (s, read, inr (t, has, inr (b, there, h)))) = fair s t b plan h

  check_fair : (schema source bundle : List ℕ) → Names schema → Names source → Names bundle → (plan : Plan) → check files schema source bundle plan → IsFair files Names plan
  check_fair schema source bundle first second third plan h = reads_evidence_fair schema source bundle (λ s t b. check_of s t b) first second third check_of_fair plan h

  check_by_view_of_fair : (w s t b : List ℕ) (plan : Plan) → check_by_view_of w s t b plan → IsFair files Names plan
  check_by_view_of_fair w s t b plan (inl h) = fair_as plan _ h.2 (refusal_fair statuses.Schema _ (λ e. cc) (λ e. cc) (λ e. cc))
  check_by_view_of_fair w s t b plan (inr (tables, is, inl h)) = fair_as plan _ h.2 (refusal_fair statuses.View _ (λ e. cc) (λ e. cc) (λ e. cc))
  check_by_view_of_fair w s t b plan (inr (tables, is, inr (m, has, inl h))) = fair_as plan _ h.due (refusal_fair statuses.Limit _ (λ e. cc) (λ e. cc) (λ e. cc))
  check_by_view_of_fair w s t b plan (inr (tables, is, inr (m, has, inr (seen, there, inl h)))) = fair_as plan _ h.2 (refusal_fair statuses.Bundle _ (λ e. cc) (λ e. cc) (λ e. cc))
  check_by_view_of_fair w s t b plan (inr (tables, is, inr (m, has, inr (seen, there, inr (entries, of, h))))) = tells_fair tables entries (seen_program seen) (checked_from tables 0 entries (seen_program seen)) plan h

  check_by_view_fair : (words schema source bundle : List ℕ) → Names words → Names schema → Names source → Names bundle → (plan : Plan) → check_by_view files words schema source bundle plan → IsFair files Names plan
  check_by_view_fair words schema source bundle first second third fourth plan (inl h) = not_read_fair words most_map (codes "map") plan first h
  check_by_view_fair words schema source bundle first second third fourth plan (inr (w, read, h)) = reads_evidence_fair schema source bundle (λ s t b. check_by_view_of w s t b) second third fourth (check_by_view_of_fair w) plan h

  -- ---- `run`

  -- the files of the tables of a schema that was read are among the names
  abbrev AreNamed : List ℕ → List ℕ → Type 0
  AreNamed schema folder = (bytes : List ℕ) (tables : Schema) → IsRead files schema most_schema bytes → IsSchemaOf bytes tables → (name : List ℕ) → IsFileOf folder tables name → Names name

  outcome_fair : (tables : Schema) (o : Outcome) (plan : Plan) → comes_to tables o plan → IsFair files Names plan
  outcome_fair tables (Done lines value) plan h = done_fair plan (ap (λ (x : Plan). x.status) h)
  outcome_fair tables (Faulted fault at) plan h = fair_as plan _ h (refusal_fair statuses.Faulted _ (λ e. cc) (λ e. cc) (λ e. cc))
  outcome_fair tables OutOfTurns plan h = fair_as plan _ h (refusal_fair statuses.Turns _ (λ e. cc) (λ e. cc) (λ e. cc))
  outcome_fair tables Stuck plan h = absurd h

  call_of_fair : (tables : Schema) (texts : List (List ℕ)) (call : Call) (turns : ℕ) (p : PlainProgram) (plan : Plan) → call_of tables texts call turns p plan → IsFair files Names plan
  call_of_fair tables texts call turns p plan (inl h) = fair_as plan _ h.2 (refusal_fair statuses.Types _ (λ e. cc) (λ e. cc) (λ e. cc))
  call_of_fair tables texts call turns p plan (inr (called, is, inl h)) = fair_as plan _ h.2 (refusal_fair statuses.Data _ (λ e. cc) (λ e. cc) (λ e. cc))
  call_of_fair tables texts call turns p plan (inr (called, is, inr (db, has, h))) =
      outcome_fair tables (outcome (world_with tables (read_by tables) db) called.method called.args turns) plan h

  run_of_fair : (o : Options) (tables : Schema) (call : Call) (source : List ℕ) (texts : List (List ℕ)) (plan : Plan) → run_of o tables call source texts plan → IsFair files Names plan
  run_of_fair o tables call source texts plan (inl h) = no_program_fair tables source plan h
  run_of_fair o tables call source texts plan (inr (p, is, inl h)) = absurd h
  run_of_fair o tables call source texts plan (inr (p, is, inr (q, has, h))) = call_of_fair tables texts call _ q plan h

  run_fair : (o : Options) (schema source folder : List ℕ) (call : Call) → Names schema → Names source → AreNamed schema folder → (plan : Plan) → run files o schema source folder call plan → IsFair files Names plan
  run_fair o schema source folder call first second tables_named plan (inl h) = not_read_fair schema most_schema (codes "schema") plan first h
  run_fair o schema source folder call first second tables_named plan (inr (s, read, inl h)) = not_read_fair source most_source (codes "source") plan second h
  run_fair o schema source folder call first second tables_named plan (inr (s, read, inr (t, has, inl h))) = fair_as plan _ h.2 (refusal_fair statuses.Schema _ (λ e. cc) (λ e. cc) (λ e. cc))
  run_fair o schema source folder call first second tables_named plan (inr (s, read, inr (t, has, inr (tables, is, inl h)))) = not_texts_fair folder tables _ plan (tables_named s tables read is) h
  run_fair o schema source folder call first second tables_named plan (inr (s, read, inr (t, has, inr (tables, is, inr (texts, are, h))))) = run_of_fair o tables call t texts plan h

  -- ---- `make`

  not_done_fair : (o : Outcome) (plan : Plan) → IsNotDone o plan → IsFair files Names plan
  not_done_fair (Done lines value) plan h = absurd h
  not_done_fair (Faulted fault at) plan h = fair_as plan _ h (refusal_fair statuses.Faulted _ (λ e. cc) (λ e. cc) (λ e. cc))
  not_done_fair OutOfTurns plan h = fair_as plan _ h (refusal_fair statuses.Turns _ (λ e. cc) (λ e. cc) (λ e. cc))
  not_done_fair Stuck plan h = absurd h

  runs_fair : (tables : Schema) (db : Database) (written : List ℕ) (ms : List PlainMethod) (plan : Plan) → runs tables db written ms plan → IsFair files Names plan
  unfolding runs
  runs_fair tables db written [] plan h = done_fair plan (ap (λ (x : Plan). x.status) h)
  runs_fair tables db written (m ∷ ms) plan (inl h) = not_done_fair (outcome_over tables db m) plan h
  runs_fair tables db written (m ∷ ms) plan (inr (value, is, h)) = runs_fair tables db (written ++ method_text (names_of tables) m.name value) ms plan h

  make_fair : (n : ℕ) (plan : Plan) → make n plan → IsFair files Names plan
  make_fair n plan (inl h) = absurd h
  make_fair n plan (inr (q, is, h)) = runs_fair sample_schema (sample_rows n) (loops_text (verdicts_of (all_tried sample_schema 4 20000 sample_program))) q.methods plan h

  -- ---- `sql`

  answer_fair : (tables : Schema) (a : Answered) → IsFair files Names (answer_plan tables a)
  answer_fair tables (meaning.Rows rows) = done_fair (answer_plan tables (meaning.Rows rows)) refl
  answer_fair tables (meaning.One x) = done_fair (answer_plan tables (meaning.One x)) refl
  answer_fair tables meaning.TooLarge = refusal_fair statuses.Faulted _ (λ e. cc) (λ e. cc) (λ e. cc)

  sql_of_fair : (tables : Schema) (query : List ℕ) (texts : List (List ℕ)) (plan : Plan) → sql_of tables query texts plan → IsFair files Names plan
  sql_of_fair tables query texts plan (inl h) = fair_as plan _ h.2 (refusal_fair statuses.Types _ (λ e. cc) (λ e. cc) (λ e. cc))
  sql_of_fair tables query texts plan (inr (q, is, inl h)) = fair_as plan _ h.2 (refusal_fair statuses.Data _ (λ e. cc) (λ e. cc) (λ e. cc))
  sql_of_fair tables query texts plan (inr (q, is, inr (db, has, h))) = fair_as plan _ h (answer_fair tables (query_answer db [] q))

  sql_fair : (schema folder query : List ℕ) → Names schema → AreNamed schema folder → (plan : Plan) → sql files schema folder query plan → IsFair files Names plan
  sql_fair schema folder query first tables_named plan (inl h) = not_read_fair schema most_schema (codes "schema") plan first h
  sql_fair schema folder query first tables_named plan (inr (s, read, inl h)) = fair_as plan _ h.2 (refusal_fair statuses.Schema _ (λ e. cc) (λ e. cc) (λ e. cc))
  sql_fair schema folder query first tables_named plan (inr (s, read, inr (tables, is, inl h))) = not_texts_fair folder tables _ plan (tables_named s tables read is) h
  sql_fair schema folder query first tables_named plan (inr (s, read, inr (tables, is, inr (texts, are, h)))) = sql_of_fair tables query texts plan h

  -- ---- `schema`

  draw_fair : (o : Options) (dump : List ℕ) → Names dump → (plan : Plan) → draw files o dump plan → IsFair files Names plan
  draw_fair o dump named plan (inl h) = not_read_fair dump most_dump (codes "dump") plan named h
  draw_fair o dump named plan (inr (bytes, read, h)) = done_fair plan h.status

  -- ---- `inline`

  no_calls_fair : (bytes : List ℕ) (plan : Plan) → HasNoProgramWithCalls bytes plan → IsFair files Names plan
  no_calls_fair bytes plan (inl h) = fair_as plan _ h.2 (refusal_fair statuses.Source _ (λ e. cc) (λ e. cc) (λ e. cc))
  no_calls_fair bytes plan (inr h) = fair_as plan _ h.2 (refusal_fair statuses.Source _ (λ e. cc) (λ e. cc) (λ e. cc))

  inline_of_fair : (s t : List ℕ) (plan : Plan) → inline_of s t plan → IsFair files Names plan
  inline_of_fair s t plan (inl h) = fair_as plan _ h.2 (refusal_fair statuses.Schema _ (λ e. cc) (λ e. cc) (λ e. cc))
  inline_of_fair s t plan (inr (tables, is, inl h)) = no_calls_fair t plan h
  inline_of_fair s t plan (inr (tables, is, inr (p, read, inl h))) = fair_as plan _ h.2 (refusal_fair statuses.Types _ (λ e. cc) (λ e. cc) (λ e. cc))
  inline_of_fair s t plan (inr (tables, is, inr (p, read, inr (q, whole, inl h)))) = fair_as plan _ h.2 (refusal_fair statuses.Types _ (λ e. cc) (λ e. cc) (λ e. cc))
  inline_of_fair s t plan (inr (tables, is, inr (p, read, inr (q, whole, inr (u, typed, h))))) = done_fair plan (ap (λ (x : Plan). x.status) h.written)

  inline_fair : (schema source : List ℕ) → Names schema → Names source → (plan : Plan) → inline files schema source plan → IsFair files Names plan
  inline_fair schema source first second plan (inl h) = not_read_fair schema most_schema (codes "schema") plan first h
  inline_fair schema source first second plan (inr (s, read, inl h)) = not_read_fair source most_source (codes "source") plan second h
  inline_fair schema source first second plan (inr (s, read, inr (t, has, h))) = inline_of_fair s t plan h

  -- ---- `narrow`

  narrow_of_fair : (s t : List ℕ) (plan : Plan) → narrow_of s t plan → IsFair files Names plan
  narrow_of_fair s t plan (inl h) = fair_as plan _ h.2 (refusal_fair statuses.Schema _ (λ e. cc) (λ e. cc) (λ e. cc))
  narrow_of_fair s t plan (inr (tables, is, inl h)) = no_program_fair tables t plan h
  narrow_of_fair s t plan (inr (tables, is, inr (p, read, h))) = done_fair plan (ap (λ (x : Plan). x.status) h.written)

  narrow_fair : (schema source : List ℕ) → Names schema → Names source → (plan : Plan) → narrow files schema source plan → IsFair files Names plan
  narrow_fair schema source first second plan (inl h) = not_read_fair schema most_schema (codes "schema") plan first h
  narrow_fair schema source first second plan (inr (s, read, inl h)) = not_read_fair source most_source (codes "source") plan second h
  narrow_fair schema source first second plan (inr (s, read, inr (t, has, h))) = narrow_of_fair s t plan h

  -- ---- `unnest`

  unnest_of_fair : (o : Options) (s t : List ℕ) (plan : Plan) → unnest_of o s t plan → IsFair files Names plan
  unnest_of_fair o s t plan (inl h) = fair_as plan _ h.2 (refusal_fair statuses.Schema _ (λ e. cc) (λ e. cc) (λ e. cc))
  unnest_of_fair o s t plan (inr (tables, is, inl h)) = no_program_fair tables t plan h
  unnest_of_fair o s t plan (inr (tables, is, inr (p, read, h))) = done_fair plan (ap (λ (x : Plan). x.status) h.written)

  unnest_fair : (o : Options) (schema source : List ℕ) → Names schema → Names source → (plan : Plan) → unnest files o schema source plan → IsFair files Names plan
  unnest_fair o schema source first second plan (inl h) = not_read_fair schema most_schema (codes "schema") plan first h
  unnest_fair o schema source first second plan (inr (s, read, inl h)) = not_read_fair source most_source (codes "source") plan second h
  unnest_fair o schema source first second plan (inr (s, read, inr (t, has, h))) = unnest_of_fair o s t plan h

  -- ---- the whole

  unbuilt_fair : (plan : Plan) → plan ≡ not_yet → IsFair files Names plan
  unbuilt_fair plan h = fair_as plan not_yet h (refusal_fair statuses.NotYet _ (λ e. cc) (λ e. cc) (λ e. cc))

  fair_where : (is : Bool) (next : Ends) (plan : Plan) → (next plan → IsFair files Names plan) → where_built is next plan → IsFair files Names plan
  fair_where true next plan f h = f h
  fair_where false next plan f h = unbuilt_fair plan h

-- the files of the tables of a schema that was read are those that a command may read
tables_of : (files : Given) (schema folder bytes : List ℕ) (tables : Schema) → IsRead files schema most_schema bytes → IsSchemaOf bytes tables → (name : List ℕ) → IsFileOf folder tables name → IsTableFile files.told schema folder name
tables_of files schema folder bytes tables read is name file = record { bytes = bytes; tables = tables; read = read.1; is_schema = is; file = file }

module _ (files : Given) (may : May) where
  built_fair : (c : Command) (plan : Plan) → built files may c plan → IsFair files (MayRead files.told c) plan
  built_fair (commands.Rewrite o s t) plan h =
      either (IsFair files (MayRead files.told (commands.Rewrite o s t)) plan) o.view (λ map. rewrite_by_view files may o map s t) (rewrite files may o s t) plan
      (λ map e g. rewrite_by_view_fair files (MayRead files.told (commands.Rewrite o s t)) may o map s t (inl (is_map_name o.view map e)) (inr (inl refl)) (inr (inr (inl refl))) (λ name is. inr (inr (inr is))) plan g)
      (λ e g. rewrite_fair files (MayRead files.told (commands.Rewrite o s t)) may o s t (inr (inl refl)) (inr (inr (inl refl))) (λ name is. inr (inr (inr is))) plan g) h
  built_fair (commands.Prove o s t) plan h =
      either (IsFair files (MayRead files.told (commands.Prove o s t)) plan) o.view (λ map. prove_by_view files may o map s t) (prove files may o s t) plan
      (λ map e g. prove_by_view_fair files (MayRead files.told (commands.Prove o s t)) may o map s t (inl (is_map_name o.view map e)) (inr (inl refl)) (inr (inr (inl refl))) (λ name is. inr (inr (inr is))) plan g)
      (λ e g. prove_fair files (MayRead files.told (commands.Prove o s t)) may o s t (inr (inl refl)) (inr (inr (inl refl))) (λ name is. inr (inr (inr is))) plan g) h
  built_fair (commands.Check o s t b) plan h =
      either (IsFair files (MayRead files.told (commands.Check o s t b)) plan) o.view (λ map. check_by_view files map s t b) (check files s t b) plan
      (λ map e g. check_by_view_fair files (MayRead files.told (commands.Check o s t b)) map s t b (inl (is_map_name o.view map e)) (inr (inl refl)) (inr (inr (inl refl))) (inr (inr (inr refl))) plan g)
      (λ e g. check_fair files (MayRead files.told (commands.Check o s t b)) s t b (inr (inl refl)) (inr (inr (inl refl))) (inr (inr (inr refl))) plan g) h
  built_fair (commands.Run o s t d method words) plan h =
      run_fair files (MayRead files.told (commands.Run o s t d method words)) o s t d (record { method = method; words = words }) (inl refl) (inr (inl refl))
      (λ bytes tables read is name file. inr (inr (tables_of files s d bytes tables read is name file))) plan h
  built_fair (commands.Sql s d q) plan h =
      sql_fair files (MayRead files.told (commands.Sql s d q)) s d q (inl refl) (λ bytes tables read is name file. inr (tables_of files s d bytes tables read is name file)) plan h
  built_fair (commands.Make n) plan h = make_fair files (MayRead files.told (commands.Make n)) n plan h
  built_fair (commands.Unnest o s t) plan h = unnest_fair files (MayRead files.told (commands.Unnest o s t)) o s t (inl refl) (inr refl) plan h
  built_fair (commands.Narrow o s t) plan h = narrow_fair files (MayRead files.told (commands.Narrow o s t)) s t (inl refl) (inr refl) plan h
  built_fair (commands.Inline s t) plan h = inline_fair files (MayRead files.told (commands.Inline s t)) s t (inl refl) (inr refl) plan h
  built_fair (commands.Gather o s t) plan h = gather_fair files (MayRead files.told (commands.Gather o s t)) o s t (inl refl) (inr refl) plan h
  built_fair (commands.Schema o d) plan h = draw_fair files (MayRead files.told (commands.Schema o d)) o d refl plan h
  built_fair (commands.View m s t) plan h = view_fair files (MayRead files.told (commands.View m s t)) m s t (inl refl) (inr (inl refl)) (inr (inr refl)) plan h
  built_fair (commands.Map es) plan h = draws_fair files (MayRead files.told (commands.Map es)) es (λ name is. is) plan h
  built_fair (commands.MapSchema es) plan h = draws_fair files (MayRead files.told (commands.MapSchema es)) es (λ name is. is) plan h
  built_fair (commands.CheckMap m s t) plan h = checks_map_fair files (MayRead files.told (commands.CheckMap m s t)) m s t (inl refl) (inr (inl refl)) (λ name is. inr (inr is)) plan h

  pub command_fair : (c : Command) (plan : Plan) → command files may c plan → IsFair files (MayRead files.told c) plan
  command_fair c plan h = fair_where files (MayRead files.told c) (is_built c) (built files may c) plan (built_fair c plan) h
