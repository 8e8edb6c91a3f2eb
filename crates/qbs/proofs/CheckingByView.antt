-- What `check` by a view is worth follows from a plan that is due and was delivered.
use Rattle.std.proofs.Common.{◌≡◌, ℕ, inl, inr, List, [], Some, codes, sym, refl, ap, ◌∙◌, subst}
use Rattle.std.specs.Io.KnownBytes.{Appends}
use Rattle.qbs_base.specs.declared.status.Status.{Status}
use Rattle.qbs_base.specs.declared.status.Status.TheVariants as statuses
use Rattle.qbs_base.specs.Values.{Schema}
use Rattle.java_ast.specs.Tree.{PlainProgram}
use Rattle.deriv_check.specs.Bundles.{Entry}
use Rattle.deriv_check.specs.Grammar.{HasBundle}
use Rattle.rewrite_core.specs.Checking.{checked_from}
use Rattle.view_map.specs.declared.model.ViewMap.{ViewMap}
use Rattle.words.specs.declared.command.Command.TheVariants as commands
use Rattle.words.specs.declared.command.Options.{Options}
use Rattle.words.specs.Plain.{HasWords}
use Rattle.deliveries.specs.declared.plan.Plan.{Plan}
use Rattle.deliveries.specs.Deliver.{Change}
use Rattle.deliveries.specs.Limits.{most_map, most_schema, most_source, most_bundle}
use Rattle.deliveries.specs.Plan.{Given}
use Rattle.deliveries.specs.Steps.{Ends, IsRead}
use Rattle.plans.specs.Opening.{IsSchemaOf, IsMapOf}
use Rattle.qbs.specs.Check.{tells, check}
use Rattle.qbs.specs.CheckByView.{seen_program, check_by_view_of, check_by_view, IsCheckByView, HasCheckByView}
use Rattle.qbs.specs.Commands.{is_built, by_view}
use Rattle.qbs.specs.Evidence.{IsAccepted, IsRefused}
use Rattle.qbs.specs.Pruners.{May}
use Rattle.qbs.specs.Top.{IsDone}
use Rattle.qbs.specs.View.{Seen, IsSeen}
use Rattle.qbs.proofs.ByView.{as_viewed}
use Rattle.qbs.proofs.Evident.{due_for, IsWritten, written, OfEntries, of_no_other, no_file, told_well, told_not}
use Rattle.qbs.proofs.Promised.{where_ends}

-- what the bytes have, and what is told of them
record Held (w s t b : List ℕ) (plan : Plan) : Type 0 where
  known : Schema
  map : ViewMap
  seen : Seen
  entries : List Entry
  is_schema : IsSchemaOf s known
  is_map : IsMapOf known w map
  is_seen : IsSeen map known t seen
  is_bundle : HasBundle b entries
  told : tells known entries (seen_program seen) (checked_from known 0 entries (seen_program seen)) plan

held : (w s t b : List ℕ) (plan : Plan) → check_by_view_of w s t b plan → OfEntries plan.status → Held w s t b plan
held w s t b plan (inl h) is = absurd (of_no_other plan.status statuses.Schema (ap (λ (p : Plan). p.status) h.2) (λ x. x) is)
held w s t b plan (inr (tables, known, inl h)) is = absurd (of_no_other plan.status statuses.View (ap (λ (p : Plan). p.status) h.2) (λ x. x) is)
held w s t b plan (inr (tables, known, inr (m, has, inl h))) is = absurd (of_no_other plan.status statuses.Limit (ap (λ (p : Plan). p.status) h.due) (λ x. x) is)
held w s t b plan (inr (tables, known, inr (m, has, inr (seen, sees, inl h)))) is = absurd (of_no_other plan.status statuses.Bundle (ap (λ (p : Plan). p.status) h.2) (λ x. x) is)
held w s t b plan (inr (tables, known, inr (m, has, inr (seen, sees, inr (entries, found, h))))) is =
    record { known = tables; map = m; seen = seen; entries = entries; is_schema = known; is_map = has; is_seen = sees; is_bundle = found; told = h }

-- the bytes that `check` by a view read
record Read (files : Given) (words schema source bundle : List ℕ) (plan : Plan) : Type 0 where
  words_read : List ℕ
  schema_read : List ℕ
  source_read : List ℕ
  bundle_read : List ℕ
  read_words : IsRead files words most_map words_read
  read_schema : IsRead files schema most_schema schema_read
  read_source : IsRead files source most_source source_read
  read_bundle : IsRead files bundle most_bundle bundle_read
  has : Held words_read schema_read source_read bundle_read plan

read_all : (files : Given) (words schema source bundle : List ℕ) (plan : Plan) → check_by_view files words schema source bundle plan → OfEntries plan.status → Read files words schema source bundle plan
read_all files words schema source bundle plan (inl h) is = absurd (no_file files words most_map (codes "map") plan h is)
read_all files words schema source bundle plan (inr (w, first, inl h)) is = absurd (no_file files schema most_schema (codes "schema") plan h is)
read_all files words schema source bundle plan (inr (w, first, inr (s, second, inl h))) is = absurd (no_file files source most_source (codes "source") plan h is)
read_all files words schema source bundle plan (inr (w, first, inr (s, second, inr (t, third, inl h)))) is = absurd (no_file files bundle most_bundle (codes "bundle") plan h is)
read_all files words schema source bundle plan (inr (w, first, inr (s, second, inr (t, third, inr (b, fourth, h))))) is =
    record {
      words_read = w;
      schema_read = s;
      source_read = t;
      bundle_read = b;
      read_words = first;
      read_schema = second;
      read_source = third;
      read_bundle = fourth;
      has = held w s t b plan h is;
    }

module _ (files : Given) (may : May) (words : List (List ℕ)) (out rep : Change) (result : Status) (done : IsDone files may words out rep result) (o : Options) (map schema source bundle : List ℕ) (has : HasWords words (commands.Check o schema source bundle)) (viewed : o.view ≡ Some map) where
  entries_read : (w : IsWritten files may words out rep result) → OfEntries result → Read files map schema source bundle w.plan
  entries_read w such =
      let is : OfEntries w.plan.status = subst OfEntries (sym w.status) such in
      let through : List ℕ → Ends = λ (name : List ℕ). check_by_view files name schema source bundle in
      read_all files map schema source bundle w.plan
      (as_viewed o.view through (check files schema source bundle) w.plan map viewed
      (where_ends (is_built (commands.Check o schema source bundle)) (by_view o.view through (check files schema source bundle)) w.plan
      (due_for files may words (commands.Check o schema source bundle) w.plan has w.due (λ e. of_no_other w.plan.status statuses.NoMemory e (λ x. x) is))
      (λ e. of_no_other w.plan.status statuses.NotYet e (λ x. x) is))) is

  said : (Says : Schema → List Entry → PlainProgram → List ℕ → Type 0) (w : IsWritten files may words out rep result) (h : Read files map schema source bundle w.plan) →
      Says h.has.known h.has.entries (seen_program h.has.seen) w.plan.out × (w.plan.rep ≡ []) → IsCheckByView files Says map schema source bundle out rep
  said Says w h s =
      record {
        words_read = h.words_read;
        schema_read = h.schema_read;
        source_read = h.source_read;
        bundle_read = h.bundle_read;
        text = w.plan.out;
        read_words = h.read_words;
        read_schema = h.read_schema;
        read_source = h.read_source;
        read_bundle = h.read_bundle;
        is = record {
          tables = h.has.known;
          is_schema = h.has.is_schema;
          map = h.has.map;
          is_map = h.has.is_map;
          seen = h.has.seen;
          is_seen = h.has.is_seen;
          entries = h.has.entries;
          is_bundle = h.has.is_bundle;
          says = s.0;
        };
        wrote_text = w.wrote_text;
        wrote_lines = subst (λ (text : List ℕ). Appends rep.old rep.new text) s.1 w.wrote_lines;
      }

  well : result ≡ statuses.Ok → IsCheckByView files IsAccepted map schema source bundle out rep
  well ok =
      let w = written files may words out rep result done (λ e. let no : statuses.WriteFault ≡ statuses.Ok = sym e ∙ ok in cc) in
      let h = entries_read w (subst OfEntries (sym ok) tt) in
      let p = seen_program h.has.seen in
      said IsAccepted w h (told_well h.has.known h.has.entries p (checked_from h.has.known 0 h.has.entries p) w.plan refl h.has.told (w.status ∙ ok))

  refuses : result ≡ statuses.Refused → IsCheckByView files IsRefused map schema source bundle out rep
  refuses ok =
      let w = written files may words out rep result done (λ e. let no : statuses.WriteFault ≡ statuses.Refused = sym e ∙ ok in cc) in
      let h = entries_read w (subst OfEntries (sym ok) tt) in
      let p = seen_program h.has.seen in
      said IsRefused w h (told_not h.has.known h.has.entries p (checked_from h.has.known 0 h.has.entries p) w.plan refl h.has.told (w.status ∙ ok))

pub checked_by_view : (files : Given) (may : May) (words : List (List ℕ)) (out rep : Change) (result : Status) → IsDone files may words out rep result → HasCheckByView files words out rep result
checked_by_view files may words out rep result done o map schema source bundle has viewed = record {
  well = well files may words out rep result done o map schema source bundle has viewed;
  refuses = refuses files may words out rep result done o map schema source bundle has viewed;
}
