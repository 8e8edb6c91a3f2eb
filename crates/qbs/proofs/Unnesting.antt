-- What is due for `unnest` is one, and what it is worth follows from a plan that is due and was delivered.
use Rattle.std.proofs.Common.{◌≡◌, inl, inr, ℕ, List, ◌++◌, length, Result, Ok, Err, IfOk, sym, refl, ap, ◌∙◌, subst, codes}
use Rattle.std.specs.Prelude.{IsSome}
use Rattle.std.specs.List.{flat_map}
use Rattle.std.proofs.lemmas.List.{length-map}
use Rattle.qbs_base.specs.declared.memory.NoMemory.{NoMemory}
use Rattle.qbs_base.specs.declared.status.Status.{Status}
use Rattle.qbs_base.specs.declared.status.Status.TheVariants as statuses
use Rattle.qbs_base.specs.Values.{Schema}
use Rattle.java_ast.specs.Tree.{PlainProgram}
use Rattle.java_mean.specs.Keeps.{Keeps}
use Rattle.java_mean.specs.WellTyped.{IsWellTyped}
use Rattle.java_mean.proofs.Kept.{keeps_through}
use Rattle.java_types.specs.Texts.{read_by}
use Rattle.java_unplaced.proofs.Kept.{keep_alike}
use Rattle.verdicts.specs.declared.verdict.LoopVerdict.{LoopVerdict}
use Rattle.verdicts.specs.Reports.{verdict_line, unnested_line}
use Rattle.rewrite_core.specs.Patches.{patched_text}
use Rattle.rewrite_core.specs.Rewriting.{verdict_of, verdicts_of}
use Rattle.rewrite_core.specs.Trying.{Tried}
use Rattle.rewrite_core.specs.Unnesting.{all_unnested, unnested as unnested_in, unnest_report}
use Rattle.words.specs.declared.command.Command.TheVariants as commands
use Rattle.words.specs.declared.command.Options.{Options}
use Rattle.deliveries.specs.declared.plan.Plan.{Plan}
use Rattle.deliveries.specs.Deliver.{Change}
use Rattle.deliveries.specs.Limits.{most_schema, most_source}
use Rattle.deliveries.specs.Plan.{Given}
use Rattle.deliveries.specs.Steps.{refused, IsRead, IsNotRead, reads}
use Rattle.plans.specs.Opening.{IsSchemaOf, BreaksSchema, schema_refusal, IsProgramOf, HasNoProgram, has_program}
use Rattle.qbs.specs.Again.{IsReadAgain}
use Rattle.qbs.specs.Commands.{is_built}
use Rattle.qbs.specs.Pruners.{May}
use Rattle.qbs.specs.Rewrite.{size_of, budget_of}
use Rattle.qbs.specs.Top.{IsDone, Alike}
use Rattle.qbs.specs.Unnest.{unnested_plan, Unnests, unnest_of, unnest, IsUnnested, HasUnnesting}
use Rattle.qbs.proofs.Evident.{due_for, written}
use Rattle.qbs.proofs.OneFound.{schema_one, program_one}
use Rattle.qbs.proofs.OneRead.{read_one}
use Rattle.qbs.proofs.OneStep.{HasOne, step_one}
use Rattle.qbs.proofs.Promised.{unread, no_program, where_ends}

-- ---- one plan

unnests_alike : (tables : Schema) (size budget : ℕ) (source : List ℕ) (t : PlainProgram) (p q : Plan) → Unnests tables size budget source t p → Unnests tables size budget source t q → Alike p q
unnests_alike tables size budget source t p q a b =
    inl (a.written ∙ ap (λ (out : List ℕ). unnested_plan out (all_unnested tables size budget t)) (a.output ∙ sym b.output) ∙ sym b.written)

unnest_of_one : (o : Options) (s t : List ℕ) → HasOne (unnest_of o s t)
unnest_of_one o s t =
    step_one (IsSchemaOf s) (refused (BreaksSchema s) schema_refusal) (λ tables. has_program tables t (λ p. Unnests tables (size_of o) (budget_of o) t p)) (schema_one s)
    (λ tables is. step_one (IsProgramOf tables t) (HasNoProgram tables t) (λ p. Unnests tables (size_of o) (budget_of o) t p) (program_one tables t)
    (λ p read. record { alike = unnests_alike tables (size_of o) (budget_of o) t p }))

pub unnest_one : (files : Given) (o : Options) (schema source : List ℕ) → IsSome (files.told schema) → IsSome (files.told source) → ((name : List ℕ) → files.failed name → ⊥) → HasOne (unnest files o schema source)
unnest_one files o schema source has_schema has_source calm =
    step_one (IsRead files schema most_schema) (IsNotRead files schema most_schema (codes "schema")) (λ s. reads files source most_source (codes "source") (λ t. unnest_of o s t)) (read_one files schema most_schema (codes "schema") has_schema calm)
    (λ s is. step_one (IsRead files source most_source) (IsNotRead files source most_source (codes "source")) (λ t. unnest_of o s t) (read_one files source most_source (codes "source") has_source calm)
    (λ t has. unnest_of_one o s t))

-- ---- what is written

-- as many lines as loops gave way
as_many : (ts : List Tried) → length (verdicts_of ts) ≡ length ts
as_many ts = length-map ts verdict_of

abbrev plan_with : List ℕ → List ℕ → Plan
plan_with a b = record { status = Status.Ok; out = a; rep = b }

reported : (ts : List Tried) → flat_map verdict_line (verdicts_of ts) ++ unnested_line (length (verdicts_of ts)) ≡ unnest_report ts
reported ts = ap (λ (n : ℕ). flat_map verdict_line (verdicts_of ts) ++ unnested_line n) (as_many ts)

unnests : (tables : Schema) (size budget : ℕ) (source : List ℕ) (p r : PlainProgram) (out : List ℕ) (verdicts : List LoopVerdict) (plan : Plan) →
    r ≡ unnested_in tables size budget p → verdicts ≡ verdicts_of (all_unnested tables size budget p) →
    IsWellTyped tables (read_by tables) r → Keeps p r tables →
    out ≡ patched_text source (all_unnested tables size budget p) → IsReadAgain tables out r →
    plan ≡ plan_with out (flat_map verdict_line verdicts ++ unnested_line (length verdicts)) →
    Unnests tables size budget source p plan
unnests tables size budget source p r out verdicts plan is said well keeps output back due =
    record {
      well = subst (IsWellTyped tables (read_by tables)) is well;
      keeps = subst (λ (q : PlainProgram). Keeps p q tables) is keeps;
      out = out;
      output = output;
      text = subst (λ (q : PlainProgram). IsReadAgain tables out q) is back;
      written = due ∙ ap (λ (vs : List LoopVerdict). plan_with out (flat_map verdict_line vs ++ unnested_line (length vs))) said ∙ ap (λ (lines : List ℕ). plan_with out lines) (reported (all_unnested tables size budget p));
    }

-- the same for the numbers that options stand for
unnests_as : (tables : Schema) (size size_in budget budget_in : ℕ) (source : List ℕ) (p r : PlainProgram) (out : List ℕ) (verdicts : List LoopVerdict) (plan : Plan) →
    size ≡ size_in → budget ≡ budget_in →
    r ≡ unnested_in tables size budget p → verdicts ≡ verdicts_of (all_unnested tables size budget p) →
    IsWellTyped tables (read_by tables) r → Keeps p r tables →
    out ≡ patched_text source (all_unnested tables size budget p) → IsReadAgain tables out r →
    plan ≡ plan_with out (flat_map verdict_line verdicts ++ unnested_line (length verdicts)) →
    Unnests tables size_in budget_in source p plan
unnests_as tables size size_in budget budget_in source p r out verdicts plan same_size same_budget is said well keeps output back due =
    subst (λ (s : ℕ). Unnests tables s budget_in source p plan) same_size
    (subst (λ (b : ℕ). Unnests tables size b source p plan) same_budget
    (unnests tables size budget source p r out verdicts plan is said well keeps output back due))

pub unnests_found : (tables : Schema) (size size_in budget budget_in : ℕ) (source : List ℕ) (p r : PlainProgram) (out : List ℕ) (verdicts : List LoopVerdict) (result : Result Plan NoMemory) →
    size ≡ size_in → budget ≡ budget_in →
    r ≡ unnested_in tables size budget p → verdicts ≡ verdicts_of (all_unnested tables size budget p) →
    IsWellTyped tables (read_by tables) r → Keeps p r tables →
    out ≡ patched_text source (all_unnested tables size budget p) → IsReadAgain tables out r →
    IfOk result (λ plan. plan ≡ plan_with out (flat_map verdict_line verdicts ++ unnested_line (length verdicts))) →
    IfOk result (Unnests tables size_in budget_in source p)
unnests_found tables size size_in budget budget_in source p r out verdicts (Ok plan) same_size same_budget is said well keeps output back due =
    unnests_as tables size size_in budget budget_in source p r out verdicts plan same_size same_budget is said well keeps output back due
unnests_found tables size size_in budget budget_in source p r out verdicts (Err e) same_size same_budget is said well keeps output back due = tt

-- ---- what it is worth

unnested_of : (o : Options) (s t : List ℕ) (plan : Plan) → unnest_of o s t plan → plan.status ≡ statuses.Ok → IsUnnested (size_of o) (budget_of o) s t plan.out plan.rep
unnested_of o s t plan (inl h) ok = let e : statuses.Schema ≡ statuses.Ok = subst (λ (p : Plan). p.status ≡ statuses.Ok) h.2 ok in absurd cc
unnested_of o s t plan (inr (tables, is, inl h)) ok = absurd (no_program tables t plan h ok)
unnested_of o s t plan (inr (tables, is, inr (p, read, h))) ok =
    let q : PlainProgram = unnested_in tables (size_of o) (budget_of o) p in
    subst (λ (x : Plan). IsUnnested (size_of o) (budget_of o) s t x.out x.rep) (sym h.written)
    (record {
      tables = tables;
      program = p;
      is_schema = is;
      is_program = read;
      tries = all_unnested tables (size_of o) (budget_of o) p;
      are_tries = refl;
      written = h.text.program;
      is_written = h.text.is_program;
      output = h.output;
      keeps = keeps_through tables p q h.text.program h.keeps (keep_alike tables q h.text.program (sym h.text.same));
      report = refl;
    })

-- the bytes that `unnest` read, and what it wrote
record Wrote (files : Given) (o : Options) (schema source : List ℕ) (plan : Plan) : Type 0 where
  schema_read : List ℕ
  source_read : List ℕ
  read_schema : IsRead files schema most_schema schema_read
  read_source : IsRead files source most_source source_read
  is : IsUnnested (size_of o) (budget_of o) schema_read source_read plan.out plan.rep

wrote : (files : Given) (o : Options) (schema source : List ℕ) (plan : Plan) → unnest files o schema source plan → plan.status ≡ statuses.Ok → Wrote files o schema source plan
wrote files o schema source plan (inl h) ok = absurd (unread files schema most_schema (codes "schema") plan h ok)
wrote files o schema source plan (inr (s, read, inl h)) ok = absurd (unread files source most_source (codes "source") plan h ok)
wrote files o schema source plan (inr (s, read, inr (t, has, h))) ok =
    record { schema_read = s; source_read = t; read_schema = read; read_source = has; is = unnested_of o s t plan h ok }

pub unnested : (files : Given) (may : May) (words : List (List ℕ)) (out rep : Change) (result : Status) → IsDone files may words out rep result → HasUnnesting files words out rep result
unnested files may words out rep result done o schema source has ok =
    let w = written files may words out rep result done (λ e. let no : statuses.WriteFault ≡ statuses.Ok = sym e ∙ ok in cc) in
    let well : w.plan.status ≡ statuses.Ok = w.status ∙ ok in
    let due = due_for files may words (commands.Unnest o schema source) w.plan has w.due (λ e. let no : statuses.NoMemory ≡ statuses.Ok = sym e ∙ well in cc) in
    let h : Wrote files o schema source w.plan =
    wrote files o schema source w.plan
    (where_ends (is_built (commands.Unnest o schema source)) (unnest files o schema source) w.plan due (λ e. let no : statuses.NotYet ≡ statuses.Ok = sym e ∙ well in cc)) well in
    record {
      schema_read = h.schema_read;
      source_read = h.source_read;
      text = w.plan.out;
      lines = w.plan.rep;
      read_schema = h.read_schema;
      read_source = h.read_source;
      is = h.is;
      wrote_text = w.wrote_text;
      wrote_lines = w.wrote_lines;
    }
