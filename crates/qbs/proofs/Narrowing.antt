-- What is due for `narrow` is one, and what it is worth follows from a plan that is due and was delivered.
use Rattle.std.proofs.Common.{◌≡◌, inl, inr, ℕ, List, [], ◌∷◌, Bool, true, false, Option, Some, None, Result, Ok, Err, sym, refl, ap, ◌∙◌, subst, codes}
use Rattle.std.specs.Prelude.{IsSome, IfOk}
use Rattle.qbs_base.specs.declared.memory.NoMemory.{NoMemory}
use Rattle.std.specs.List.{flat_map}
use Rattle.qbs_base.specs.declared.status.Status.{Status}
use Rattle.qbs_base.specs.declared.status.Status.TheVariants as statuses
use Rattle.qbs_base.specs.declared.span.Span.{Span}
use Rattle.qbs_base.specs.Values.{Schema}
use Rattle.java_ast.specs.Path.{found_in, statement_at}
use Rattle.java_ast.specs.Tree.{Expression, PlainProgram}
use Rattle.java_grammar.specs.InGrammar.{IsInGrammar}
use Rattle.java_grammar.specs.Written.{IsWritten}
use Rattle.java_mean.specs.Keeps.{Keeps}
use Rattle.java_mean.specs.Numbers.{NumbersFit}
use Rattle.java_mean.specs.Queries.{Reader}
use Rattle.java_mean.specs.WellTyped.{IsWellTyped}
use Rattle.java_mean.proofs.Kept.{keeps_itself, keeps_through}
use Rattle.java_types.specs.Texts.{read_by}
use Rattle.java_types.proofs.Found.{found_exactly}
use Rattle.java_unplaced.proofs.Kept.{keep_alike}
use Rattle.schema_text.proofs.Judged.{is_schema, named}
use Rattle.spreads.specs.Narrowed.{narrowed_at}
use Rattle.narrowings.specs.Words.{HasWords}
use Rattle.narrowings.proofs.Named.{have_words}
use Rattle.narrowings.proofs.Program.{narrowed_keeps}
use Rattle.narrowings.proofs.Query.{all_asked}
use Rattle.narrowings.proofs.Typed.{narrowed_sound}
use Rattle.narrowings.proofs.WrittenProgram.{narrowed_text}
use Rattle.narrowing.specs.Narrowing.{AllNarrowed, is_covered, place_or_none, unless_covered, taken_at, asked_at, narrowed_by, narrowing, walks_of, all_narrowed}
use Rattle.narrowing.specs.declared.walk.Walk.{Walk}
use Rattle.narrowing.specs.Reports as reports
use Rattle.text_patches.specs.declared.patch.TextPatch.{TextPatch}
use Rattle.text_patches.specs.Patching.{with_texts}
use Rattle.kept_texts.specs.Kept.{IsTextFor}
use Rattle.rewrite_core.proofs.SourceFits.{source_fits}
use Rattle.rewrite_core.specs.Rewriting.{verdicts_of}
use Rattle.rewrite_core.specs.Trying.{all_tried}
use Rattle.verdicts.specs.declared.verdict.LoopVerdict.{LoopVerdict}
use Rattle.words.specs.declared.command.Command.TheVariants as commands
use Rattle.deliveries.specs.declared.plan.Plan.{Plan}
use Rattle.deliveries.specs.Deliver.{Change}
use Rattle.deliveries.specs.Limits.{most_schema, most_source}
use Rattle.deliveries.specs.Plan.{Given}
use Rattle.deliveries.specs.Steps.{refused, IsRead, IsNotRead, reads}
use Rattle.plans.specs.Opening.{IsSchemaOf, BreaksSchema, schema_refusal, IsProgramOf, HasNoProgram, has_program}
use Rattle.qbs.specs.Again.{IsReadAgain}
use Rattle.qbs.specs.Commands.{is_built}
use Rattle.qbs.specs.Narrow.{start_found, covered_in, narrowed as narrowed_in, narrowed_plan, Narrows, narrow_of, narrow, IsNarrowing, HasNarrowing}
use Rattle.qbs.specs.Pruners.{May}
use Rattle.qbs.specs.Top.{IsDone, Alike}
use Rattle.qbs.proofs.Evident.{due_for, written}
use Rattle.qbs.proofs.Inlining.{text_one}
use Rattle.qbs.proofs.OneFound.{schema_one, program_one}
use Rattle.qbs.proofs.OneRead.{read_one}
use Rattle.qbs.proofs.OneStep.{HasOne, step_one}
use Rattle.qbs.proofs.Promised.{unread, no_program, where_ends}
use Rattle.qbs.proofs.Rewrote.{is_source}

-- ---- all narrowed walks

abbrev reader_of : (tables : Schema) → Reader tables
reader_of tables = record { read = read_by tables; exact = found_exactly tables }

-- what narrowing keeps
pub record IsSoundFor (tables : Schema) (p q : PlainProgram) : Type 0 where
  pub typed : IsWellTyped tables (read_by tables) q
  pub numbers : NumbersFit q
  pub grammar : IsInGrammar q
  pub written : IsWritten q
  pub keeps : Keeps p q tables

pub starts_sound : (tables : Schema) (p : PlainProgram) → IsWellTyped tables (read_by tables) p → NumbersFit p → IsInGrammar p → IsWritten p → IsSoundFor tables p p
starts_sound tables p well fits grammar written = record { typed = well; numbers = fits; grammar = grammar; written = written; keeps = keeps_itself tables p }

step_sound : (tables : Schema) → HasWords tables → (p q r : PlainProgram) (path : List ℕ) → IsSoundFor tables p q → narrowed_at tables path q ≡ Some r → IsSoundFor tables p r
step_sound tables words p q r path h e =
    let k = narrowed_sound tables (all_asked tables words) (reader_of tables) q r path h.typed h.numbers e in
    let t : IsInGrammar r × IsWritten r = narrowed_text tables words (reader_of tables) q h.typed h.numbers h.grammar h.written r path e in
    record {
      typed = k.typed;
      numbers = k.numbers;
      grammar = t.0;
      written = t.1;
      keeps = keeps_through tables p q r h.keeps (narrowed_keeps tables (all_asked tables words) (reader_of tables) q r path h.typed h.numbers e);
    }

unless_some : (covered : Bool) (o : Option PlainProgram) (r : PlainProgram) → found_in (unless_covered covered) o ≡ Some r → o ≡ Some r
unless_some true None r e = absurd cc
unless_some true (Some q) r e = absurd cc
unless_some false None r e = absurd cc
unless_some false (Some q) r e = e

narrowed_program : (at : Span) (o : Option Expression) (rest : AllNarrowed) → (narrowed_by at o rest).program ≡ rest.program
narrowed_program at (Some e) rest = refl
narrowed_program at None rest = refl

-- one walk, where the walks behind it are sound
one_sound : (tables : Schema) → HasWords tables → (covered path : List ℕ) (paths : List (List ℕ)) (p q : PlainProgram) (o : Option PlainProgram) → taken_at tables covered path q ≡ o → IsSoundFor tables p q →
    IsSoundFor tables p (narrowing tables covered paths q).program → ((r : PlainProgram) → IsSoundFor tables p r → IsSoundFor tables p (narrowing tables covered paths r).program) →
    IsSoundFor tables p (narrowing tables covered (path ∷ paths) q).program
unfolding narrowing
one_sound tables words covered path paths p q (Some r) e h stays further =
    let there : narrowed_at tables path q ≡ Some r = unless_some (is_covered covered (place_or_none (statement_at path q))) (narrowed_at tables path q) r e in
    let rest = further r (step_sound tables words p q r path h there) in
    rw (e, narrowing) (subst (IsSoundFor tables p) (sym (narrowed_program (place_or_none (statement_at path q)) (asked_at tables path q) (narrowing tables covered paths r))) rest)
one_sound tables words covered path paths p q None e h stays further = rw (e, narrowing) stays

all_sound : (tables : Schema) → HasWords tables → (covered : List ℕ) (paths : List (List ℕ)) (p q : PlainProgram) → IsSoundFor tables p q → IsSoundFor tables p (narrowing tables covered paths q).program
unfolding narrowing
all_sound tables words covered [] p q h = h
all_sound tables words covered (path ∷ paths) p q h =
    one_sound tables words covered path paths p q (taken_at tables covered path q) refl h (all_sound tables words covered paths p q h) (λ r sound. all_sound tables words covered paths p r sound)

pub narrowed_is_sound : (bytes : List ℕ) (tables : Schema) (source : List ℕ) (p : PlainProgram) → IsSchemaOf bytes tables → IsProgramOf tables source p → NumbersFit p → IsInGrammar p × IsWritten p → (covered : List ℕ) → IsSoundFor tables p (all_narrowed tables covered p).program
narrowed_is_sound bytes tables source p is read fits grammar covered =
    all_sound tables (have_words tables (is_schema bytes tables is) (named bytes tables is)) covered (walks_of p) p p (starts_sound tables p read.typed fits grammar.0 grammar.1)

-- the same of the program of a source
pub source_is_sound : (bytes : List ℕ) (tables : Schema) (source : List ℕ) (p : PlainProgram) → IsSchemaOf bytes tables → IsProgramOf tables source p → NumbersFit p → (covered : List ℕ) → IsSoundFor tables p (all_narrowed tables covered p).program
source_is_sound bytes tables source p is read fits covered = narrowed_is_sound bytes tables source p is read fits (source_fits source p (is_source tables source p read)) covered

-- ---- one plan

narrows_alike : (tables : Schema) (source : List ℕ) (t : PlainProgram) (p q : Plan) → Narrows tables source t p → Narrows tables source t q → Alike p q
narrows_alike tables source t p q a b =
    inl (a.written
    ∙ ap (λ (out : List ℕ). narrowed_plan out (reports.report_text (narrowed_in tables t).walks)) (text_one (with_texts source 0 (narrowed_in tables t).patches) (narrowed_in tables t).program a.out b.out a.text b.text)
    ∙ sym b.written)

narrow_of_one : (s t : List ℕ) → HasOne (narrow_of s t)
narrow_of_one s t =
    step_one (IsSchemaOf s) (refused (BreaksSchema s) schema_refusal) (λ tables. has_program tables t (λ p. Narrows tables t p)) (schema_one s)
    (λ tables is. step_one (IsProgramOf tables t) (HasNoProgram tables t) (λ p. Narrows tables t p) (program_one tables t)
    (λ p read. record { alike = narrows_alike tables t p }))

pub narrow_one : (files : Given) (schema source : List ℕ) → IsSome (files.told schema) → IsSome (files.told source) → ((name : List ℕ) → files.failed name → ⊥) → HasOne (narrow files schema source)
narrow_one files schema source has_schema has_source calm =
    step_one (IsRead files schema most_schema) (IsNotRead files schema most_schema (codes "schema")) (λ s. reads files source most_source (codes "source") (λ t. narrow_of s t)) (read_one files schema most_schema (codes "schema") has_schema calm)
    (λ s is. step_one (IsRead files source most_source) (IsNotRead files source most_source (codes "source")) (λ t. narrow_of s t) (read_one files source most_source (codes "source") has_source calm)
    (λ t has. narrow_of_one s t))

-- ---- what is written

-- the loops that a query stands for, by what was said of the tries
pub covered_by : (tables : Schema) (p : PlainProgram) (verdicts : List LoopVerdict) (starts : List ℕ) → verdicts ≡ verdicts_of (all_tried tables 4 20000 p) → starts ≡ flat_map start_found verdicts → starts ≡ covered_in tables p
covered_by tables p verdicts starts said is = is ∙ ap (λ (vs : List LoopVerdict). flat_map start_found vs) said

pub covered_found : (tables : Schema) (p : PlainProgram) (verdicts slice : List LoopVerdict) (result : Result (List ℕ) NoMemory) → verdicts ≡ verdicts_of (all_tried tables 4 20000 p) → slice ≡ verdicts →
    IfOk result (λ starts. starts ≡ flat_map start_found slice) → IfOk result (λ starts. starts ≡ covered_in tables p)
covered_found tables p verdicts slice (Ok starts) said lent is = covered_by tables p slice starts (lent ∙ said) is
covered_found tables p verdicts slice (Err e) said lent is = is

pub narrows : (tables : Schema) (source : List ℕ) (p q : PlainProgram) (covered : List ℕ) (patches : List TextPatch) (walks : List Walk) (text out : List ℕ) (plan : Plan) →
    covered ≡ covered_in tables p → IsSoundFor tables p (all_narrowed tables covered p).program →
    q ≡ (all_narrowed tables covered p).program → walks ≡ (all_narrowed tables covered p).walks → patches ≡ (all_narrowed tables covered p).patches →
    text ≡ with_texts source 0 patches → IsTextFor text q out → IsReadAgain tables out q → plan ≡ narrowed_plan out (reports.report_text walks) → Narrows tables source p plan
narrows tables source p q covered patches walks text out plan same sound q_is walks_are patches_are text_is back again due =
    let all = all_narrowed tables covered p in
    let here : IsSoundFor tables p (narrowed_in tables p).program = subst (λ (c : List ℕ). IsSoundFor tables p (all_narrowed tables c p).program) same sound in
    let text_there : text ≡ with_texts source 0 (narrowed_in tables p).patches =
    text_is ∙ ap (λ (ps : List TextPatch). with_texts source 0 ps) patches_are ∙ ap (λ (c : List ℕ). with_texts source 0 (all_narrowed tables c p).patches) same in
    let q_there : q ≡ (narrowed_in tables p).program = q_is ∙ ap (λ (c : List ℕ). (all_narrowed tables c p).program) same in
    let walks_there : walks ≡ (narrowed_in tables p).walks = walks_are ∙ ap (λ (c : List ℕ). (all_narrowed tables c p).walks) same in
    record {
      well = here.typed;
      keeps = here.keeps;
      out = out;
      text = subst (λ (r : PlainProgram). IsTextFor (with_texts source 0 (narrowed_in tables p).patches) r out) q_there (subst (λ (t : List ℕ). IsTextFor t q out) text_there back);
      again = subst (λ (r : PlainProgram). IsReadAgain tables out r) q_there again;
      written = due ∙ ap (λ (ws : List Walk). narrowed_plan out (reports.report_text ws)) walks_there;
    }

-- the same where lists are lent and the program is a copy
module _ (bytes : List ℕ) (tables : Schema) (source : List ℕ) (p copy q lent : PlainProgram) (covered slice : List ℕ) (is : IsSchemaOf bytes tables) (read : IsProgramOf tables source p) (fits : NumbersFit p) (slice_is : slice ≡ covered) (copy_is : copy ≡ p) (q_is : q ≡ (all_narrowed tables slice copy).program) (lent_is : lent ≡ q) where
  narrowed_there : q ≡ (all_narrowed tables covered p).program
  narrowed_there = q_is ∙ ap (λ (c : List ℕ). (all_narrowed tables c copy).program) slice_is ∙ ap (λ (r : PlainProgram). (all_narrowed tables covered r).program) copy_is

  pub lent_is_sound : IsSoundFor tables p lent
  lent_is_sound = subst (IsSoundFor tables p) (sym (lent_is ∙ narrowed_there)) (source_is_sound bytes tables source p is read fits covered)

  pub narrows_lent : (patches patches_lent : List TextPatch) (walks walks_lent : List Walk) (text out rep : List ℕ) → covered ≡ covered_in tables p → walks ≡ (all_narrowed tables slice copy).walks → patches ≡ (all_narrowed tables slice copy).patches →
      patches_lent ≡ patches → walks_lent ≡ walks → text ≡ with_texts source 0 patches_lent → IsTextFor text lent out → IsReadAgain tables out lent → rep ≡ reports.report_text walks_lent → Narrows tables source p (narrowed_plan out rep)
  narrows_lent patches patches_lent walks walks_lent text out rep same walks_are patches_are patches_lent_are walks_lent_are text_is back again rep_is =
      narrows tables source p q covered patches walks text out (narrowed_plan out rep) same (source_is_sound bytes tables source p is read fits covered) narrowed_there
      (walks_are ∙ ap (λ (c : List ℕ). (all_narrowed tables c copy).walks) slice_is ∙ ap (λ (r : PlainProgram). (all_narrowed tables covered r).walks) copy_is)
      (patches_are ∙ ap (λ (c : List ℕ). (all_narrowed tables c copy).patches) slice_is ∙ ap (λ (r : PlainProgram). (all_narrowed tables covered r).patches) copy_is)
      (text_is ∙ ap (λ (ps : List TextPatch). with_texts source 0 ps) patches_lent_are) (subst (λ (r : PlainProgram). IsTextFor text r out) lent_is back) (subst (λ (r : PlainProgram). IsReadAgain tables out r) lent_is again)
      (ap (λ (r : List ℕ). narrowed_plan out r) (rep_is ∙ ap (λ (ws : List Walk). reports.report_text ws) walks_lent_are))

-- ---- what it is worth

narrowing_of : (s t : List ℕ) (plan : Plan) → narrow_of s t plan → plan.status ≡ statuses.Ok → IsNarrowing s t plan.out plan.rep
narrowing_of s t plan (inl h) ok = let e : statuses.Schema ≡ statuses.Ok = subst (λ (p : Plan). p.status ≡ statuses.Ok) h.2 ok in absurd cc
narrowing_of s t plan (inr (tables, is, inl h)) ok = absurd (no_program tables t plan h ok)
narrowing_of s t plan (inr (tables, is, inr (p, read, h))) ok =
    let q : PlainProgram = (narrowed_in tables p).program in
    subst (λ (x : Plan). IsNarrowing s t x.out x.rep) (sym h.written)
    (record {
      tables = tables;
      program = p;
      is_schema = is;
      is_program = read;
      written = h.again.program;
      is_written = h.again.is_program;
      output = h.text;
      keeps = keeps_through tables p q h.again.program h.keeps (keep_alike tables q h.again.program (sym h.again.same));
      report = refl;
    })

-- the bytes that `narrow` read, and what it wrote
record Wrote (files : Given) (schema source : List ℕ) (plan : Plan) : Type 0 where
  schema_read : List ℕ
  source_read : List ℕ
  read_schema : IsRead files schema most_schema schema_read
  read_source : IsRead files source most_source source_read
  is : IsNarrowing schema_read source_read plan.out plan.rep

wrote : (files : Given) (schema source : List ℕ) (plan : Plan) → narrow files schema source plan → plan.status ≡ statuses.Ok → Wrote files schema source plan
wrote files schema source plan (inl h) ok = absurd (unread files schema most_schema (codes "schema") plan h ok)
wrote files schema source plan (inr (s, read, inl h)) ok = absurd (unread files source most_source (codes "source") plan h ok)
wrote files schema source plan (inr (s, read, inr (t, has, h))) ok =
    record { schema_read = s; source_read = t; read_schema = read; read_source = has; is = narrowing_of s t plan h ok }

pub narrowed : (files : Given) (may : May) (words : List (List ℕ)) (out rep : Change) (result : Status) → IsDone files may words out rep result → HasNarrowing files words out rep result
narrowed files may words out rep result done o schema source has ok =
    let w = written files may words out rep result done (λ e. let no : statuses.WriteFault ≡ statuses.Ok = sym e ∙ ok in cc) in
    let well : w.plan.status ≡ statuses.Ok = w.status ∙ ok in
    let due = due_for files may words (commands.Narrow o schema source) w.plan has w.due (λ e. let no : statuses.NoMemory ≡ statuses.Ok = sym e ∙ well in cc) in
    let h : Wrote files schema source w.plan =
    wrote files schema source w.plan
    (where_ends (is_built (commands.Narrow o schema source)) (narrow files schema source) w.plan due (λ e. let no : statuses.NotYet ≡ statuses.Ok = sym e ∙ well in cc)) well in
    record {
      schema_read = h.schema_read;
      source_read = h.source_read;
      text = w.plan.out;
      lines = w.plan.rep;
      read_schema = h.read_schema;
      read_source = h.read_source;
      is = h.is;
      wrote_text = w.wrote_text;
      wrote_lines = w.wrote_lines;
    }
