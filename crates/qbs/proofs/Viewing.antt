-- What is seen of a file is worth follows from a plan that is due and was delivered.
use Rattle.std.proofs.Common.{◌≡◌, inl, inr, ℕ, List, map, Ok, sym, refl, ◌∙◌, subst, codes}
use Rattle.qbs_base.specs.declared.status.Status.{Status}
use Rattle.qbs_base.specs.declared.status.Status.TheVariants as statuses
use Rattle.qbs_base.specs.Values.{Schema}
use Rattle.words.specs.declared.command.Command.TheVariants as commands
use Rattle.deliveries.specs.declared.plan.Plan.{Plan}
use Rattle.deliveries.specs.Deliver.{Change}
use Rattle.deliveries.specs.Limits.{most_map, most_schema, most_source}
use Rattle.deliveries.specs.Plan.{Given}
use Rattle.deliveries.specs.Steps.{IsRead}
use Rattle.qbs.specs.Commands.{is_built}
use Rattle.qbs.specs.Pruners.{May}
use Rattle.qbs.specs.Top.{IsDone}
use Rattle.qbs.specs.View.{view_of, view, IsViewing, HasViewing}
use Rattle.qbs.proofs.Evident.{due_for, written}
use Rattle.qbs.proofs.Promised.{unread, where_ends}

-- ---- what it is worth

viewed_of : (w s t : List ℕ) (plan : Plan) → view_of w s t plan → plan.status ≡ statuses.Ok → IsViewing w s t plan.out plan.rep
viewed_of w s t plan (inl h) ok = let e : statuses.Schema ≡ statuses.Ok = subst (λ (p : Plan). p.status ≡ statuses.Ok) h.2 ok in absurd cc
viewed_of w s t plan (inr (tables, is, inl h)) ok = let e : statuses.View ≡ statuses.Ok = subst (λ (p : Plan). p.status ≡ statuses.Ok) h.2 ok in absurd cc
viewed_of w s t plan (inr (tables, is, inr (m, has, inl h))) ok = let e : statuses.Limit ≡ statuses.Ok = subst (λ (p : Plan). p.status ≡ statuses.Ok) h.due ok in absurd cc
viewed_of w s t plan (inr (tables, is, inr (m, has, inr (seen, sees, h)))) ok =
    subst (λ (x : Plan). IsViewing w s t x.out x.rep) (sym h.written)
    (record {
      tables = tables;
      is_schema = is;
      map = m;
      is_map = has;
      seen = seen;
      is_seen = sees;
      text = refl;
      lines = h.lines;
      slices = h.slices;
      report = refl;
    })

-- the bytes that `view` read, and what it wrote
record Wrote (files : Given) (words schema source : List ℕ) (plan : Plan) : Type 0 where
  words_read : List ℕ
  schema_read : List ℕ
  source_read : List ℕ
  read_words : IsRead files words most_map words_read
  read_schema : IsRead files schema most_schema schema_read
  read_source : IsRead files source most_source source_read
  is : IsViewing words_read schema_read source_read plan.out plan.rep

wrote : (files : Given) (words schema source : List ℕ) (plan : Plan) → view files words schema source plan → plan.status ≡ statuses.Ok → Wrote files words schema source plan
wrote files words schema source plan (inl h) ok = absurd (unread files words most_map (codes "map") plan h ok)
wrote files words schema source plan (inr (w, read, inl h)) ok = absurd (unread files schema most_schema (codes "schema") plan h ok)
wrote files words schema source plan (inr (w, read, inr (s, has, inl h))) ok = absurd (unread files source most_source (codes "source") plan h ok)
wrote files words schema source plan (inr (w, read, inr (s, has, inr (t, there, h)))) ok =
    record { words_read = w; schema_read = s; source_read = t; read_words = read; read_schema = has; read_source = there; is = viewed_of w s t plan h ok }

pub viewed : (files : Given) (may : May) (words : List (List ℕ)) (out rep : Change) (result : Status) → IsDone files may words out rep result → HasViewing files words out rep result
viewed files may words out rep result done map schema source has ok =
    let w = written files may words out rep result done (λ e. let no : statuses.WriteFault ≡ statuses.Ok = sym e ∙ ok in cc) in
    let well : w.plan.status ≡ statuses.Ok = w.status ∙ ok in
    let due = due_for files may words (commands.View map schema source) w.plan has w.due (λ e. let no : statuses.NoMemory ≡ statuses.Ok = sym e ∙ well in cc) in
    let h : Wrote files map schema source w.plan =
    wrote files map schema source w.plan
    (where_ends (is_built (commands.View map schema source)) (view files map schema source) w.plan due (λ e. let no : statuses.NotYet ≡ statuses.Ok = sym e ∙ well in cc)) well in
    record {
      words_read = h.words_read;
      schema_read = h.schema_read;
      source_read = h.source_read;
      text = w.plan.out;
      lines = w.plan.rep;
      read_words = h.read_words;
      read_schema = h.read_schema;
      read_source = h.read_source;
      is = h.is;
      wrote_text = w.wrote_text;
      wrote_lines = w.wrote_lines;
    }
