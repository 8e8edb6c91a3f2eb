-- What is drawn from a dump is what is written, and what it is worth follows from a plan that is due and was delivered.
use Rattle.std.proofs.Common.{◌≡◌, ℕ, List, Option, refl, sym, ◌∙◌, subst, inl, inr, codes}
use Rattle.qbs_base.specs.declared.status.Status.{Status}
use Rattle.qbs_base.specs.declared.status.Status.TheVariants as statuses
use Rattle.schema.specs.Grammar.{HasSchema}
use Rattle.schema.specs.Rules.{IsSchema}
use Rattle.schema.specs.Tokens.{tokens_of, kinds_of}
use Rattle.schema_text.proofs.Judged.{schema_is}
use Rattle.dump_text.specs.Entries.{tables_of}
use Rattle.dump_text.specs.Text.{text_of}
use Rattle.dump_schema.specs.declared.drawn.Drawn.{Drawn}
use Rattle.dump_schema.specs.Entries.{declared_in, drawn_from}
use Rattle.dump_schema.specs.Report.{report_of}
use Rattle.words.specs.declared.command.Command.TheVariants as commands
use Rattle.words.specs.declared.command.Options.{Options}
use Rattle.deliveries.specs.declared.plan.Plan.{Plan}
use Rattle.deliveries.specs.Deliver.{Change}
use Rattle.deliveries.specs.Limits.{most_dump}
use Rattle.deliveries.specs.Plan.{Given}
use Rattle.deliveries.specs.Steps.{IsRead}
use Rattle.qbs.specs.Commands.{is_built}
use Rattle.qbs.specs.Draw.{IsDrawing, Draws, draw, HasDrawn}
use Rattle.qbs.specs.Pruners.{May}
use Rattle.qbs.specs.Top.{IsDone}
use Rattle.qbs.proofs.Evident.{due_for, written}
use Rattle.qbs.proofs.Promised.{unread, where_ends}

pub drawn_so : (o : Options) (tables columns : Option (List ℕ)) (dump text report : List ℕ) (plan : Plan) → tables ≡ o.tables → columns ≡ o.columns →
    text ≡ text_of (drawn_from dump tables columns) →
    report ≡ report_of (tables_of (drawn_from dump tables columns)) (declared_in dump) →
    HasSchema (kinds_of (tokens_of text)) (tables_of (drawn_from dump tables columns)) → IsSchema (tables_of (drawn_from dump tables columns)) →
    plan ≡ record { status = statuses.Ok; out = text; rep = report } → Draws o dump plan
drawn_so o tables columns dump text report plan same_tables same_columns text_is report_is has is due =
    let drawn : Draws o dump (record { status = statuses.Ok; out = text; rep = report }) = rw (sym same_tables, sym same_columns) (record {
      is = record { text = text_is; is_schema = schema_is text (tables_of (drawn_from dump tables columns)) has is; report = report_is };
      status = refl;
    }) in
    subst (Draws o dump) (sym due) drawn

-- the same of what was taken out of a box
pub drawn_out : (o : Options) (tables columns : Option (List ℕ)) (dump : List ℕ) (d e : Drawn) → e ≡ d → tables ≡ o.tables → columns ≡ o.columns →
    d.text ≡ text_of (drawn_from dump tables columns) →
    d.report ≡ report_of (tables_of (drawn_from dump tables columns)) (declared_in dump) →
    HasSchema (kinds_of (tokens_of d.text)) (tables_of (drawn_from dump tables columns)) → IsSchema (tables_of (drawn_from dump tables columns)) →
    Draws o dump (record { status = statuses.Ok; out = e.text; rep = e.report })
drawn_out o tables columns dump d e out same_tables same_columns text report has is =
    subst (λ (x : Drawn). Draws o dump (record { status = statuses.Ok; out = x.text; rep = x.report })) (sym out)
    (drawn_so o tables columns dump d.text d.report (record { status = statuses.Ok; out = d.text; rep = d.report }) same_tables same_columns text report has is refl)

-- the bytes that `schema` read, and what it wrote
record Drew (files : Given) (o : Options) (dump : List ℕ) (plan : Plan) : Type 0 where
  dump_read : List ℕ
  read : IsRead files dump most_dump dump_read
  is : IsDrawing o dump_read plan.out plan.rep

drew : (files : Given) (o : Options) (dump : List ℕ) (plan : Plan) → draw files o dump plan → plan.status ≡ statuses.Ok → Drew files o dump plan
drew files o dump plan (inl h) ok = absurd (unread files dump most_dump (codes "dump") plan h ok)
drew files o dump plan (inr (bytes, read, h)) ok = record { dump_read = bytes; read = read; is = h.is }

pub drawn : (files : Given) (may : May) (words : List (List ℕ)) (out rep : Change) (result : Status) → IsDone files may words out rep result → HasDrawn files words out rep result
drawn files may words out rep result done o dump has ok =
    let w = written files may words out rep result done (λ e. let no : statuses.WriteFault ≡ statuses.Ok = sym e ∙ ok in cc) in
    let well : w.plan.status ≡ statuses.Ok = w.status ∙ ok in
    let due = due_for files may words (commands.Schema o dump) w.plan has w.due (λ e. let no : statuses.NoMemory ≡ statuses.Ok = sym e ∙ well in cc) in
    let h : Drew files o dump w.plan =
    drew files o dump w.plan (where_ends (is_built (commands.Schema o dump)) (draw files o dump) w.plan due (λ e. let no : statuses.NotYet ≡ statuses.Ok = sym e ∙ well in cc)) well in
    record { dump_read = h.dump_read; text = w.plan.out; lines = w.plan.rep; read_dump = h.read; is = h.is; wrote_text = w.wrote_text; wrote_lines = w.wrote_lines }
