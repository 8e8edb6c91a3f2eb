-- What `prove` by a view is worth follows from a plan that is due and was delivered.
use Rattle.std.proofs.Common.{◌≡◌, ℕ, inl, inr, List, Option, None, Some, codes, sym, refl, ◌∙◌, subst}
use Rattle.qbs_base.specs.declared.status.Status.{Status}
use Rattle.qbs_base.specs.declared.status.Status.TheVariants as statuses
use Rattle.qbs_base.specs.Values.{Schema}
use Rattle.view_map.specs.declared.model.ViewMap.{ViewMap}
use Rattle.words.specs.declared.command.Command.TheVariants as commands
use Rattle.words.specs.declared.command.Options.{Options}
use Rattle.deliveries.specs.declared.plan.Plan.{Plan}
use Rattle.deliveries.specs.Deliver.{Change}
use Rattle.deliveries.specs.Limits.{most_map, most_schema, most_source}
use Rattle.deliveries.specs.Plan.{Given}
use Rattle.deliveries.specs.Steps.{Ends, IsRead}
use Rattle.qbs.specs.Commands.{is_built, by_view}
use Rattle.qbs.specs.Prove.{prove}
use Rattle.qbs.specs.ProveByView.{ProvesSeen, prove_by_view_of, prove_by_view, IsSeenProved, IsProvedByView, HasProofByView}
use Rattle.qbs.specs.Pruners.{May, with_bank}
use Rattle.qbs.specs.Rewrite.{size_of, budget_of}
use Rattle.qbs.specs.Store.{IsStoreRead}
use Rattle.qbs.specs.Top.{IsDone}
use Rattle.qbs.specs.View.{Seen, Methods, Nothing}
use Rattle.qbs.proofs.ByView.{as_viewed}
use Rattle.qbs.proofs.Evident.{due_for, written}
use Rattle.qbs.proofs.Promised.{unread, store_unread, where_ends}

seen_proved : (may : May) (m : ViewMap) (tables : Schema) (size budget : ℕ) (t : List ℕ) (seen : Seen) (plan : Plan) → ProvesSeen may m tables size budget t seen plan → IsSeenProved may m tables size budget t seen plan.out plan.rep
seen_proved may m tables size budget t (Methods v p) plan h =
    subst (λ (x : Plan). IsSeenProved may m tables size budget t (Methods v p) x.out x.rep) (sym h.written)
    (record {
      bundle = h.evidence.member;
      accepted = record { all = h.evidence.accepted; well = h.evidence.rewriting.well; keeps = h.evidence.rewriting.keeps };
      pruned = h.pruned;
      counted = h.evidence.counted;
      report = h.report;
      standing = h.evidence.rewriting.standing;
    })
seen_proved may m tables size budget t Nothing plan h =
    subst (λ (x : Plan). IsSeenProved may m tables size budget t Nothing x.out x.rep) (sym h.written) (record { bundle = (refl, tt); report = h.report })

proved_of : (may : May) (o : Options) (w s t : List ℕ) (b : Option (List ℕ)) (plan : Plan) → prove_by_view_of may o w s t b plan → plan.status ≡ statuses.Ok → IsProvedByView may (size_of o) (budget_of o) w s t b plan.out plan.rep
proved_of may o w s t b plan (inl h) ok = let e : statuses.Schema ≡ statuses.Ok = subst (λ (p : Plan). p.status ≡ statuses.Ok) h.2 ok in absurd cc
proved_of may o w s t b plan (inr (tables, is, inl h)) ok = let e : statuses.View ≡ statuses.Ok = subst (λ (p : Plan). p.status ≡ statuses.Ok) h.2 ok in absurd cc
proved_of may o w s t b plan (inr (tables, is, inr (m, has, inl h))) ok = let e : statuses.Limit ≡ statuses.Ok = subst (λ (p : Plan). p.status ≡ statuses.Ok) h.due ok in absurd cc
proved_of may o w s t None plan (inr (tables, is, inr (m, has, inr (seen, sees, inl h)))) ok = absurd h
proved_of may o w s t (Some bytes) plan (inr (tables, is, inr (m, has, inr (seen, sees, inl h)))) ok =
    let e : statuses.Store ≡ statuses.Ok = subst (λ (p : Plan). p.status ≡ statuses.Ok) h.2 ok in absurd cc
proved_of may o w s t b plan (inr (tables, is, inr (m, has, inr (seen, sees, inr (bank, of, h))))) ok =
    record {
      tables = tables;
      is_schema = is;
      map = m;
      is_map = has;
      seen = seen;
      is_seen = sees;
      bank = bank;
      is_bank = of;
      proved = seen_proved (with_bank may bank) m tables (size_of o) (budget_of o) t seen plan h;
    }

-- the bytes that `prove` by a view read, and what it wrote
record Evidence (files : Given) (may : May) (o : Options) (words schema source : List ℕ) (plan : Plan) : Type 0 where
  words_read : List ℕ
  schema_read : List ℕ
  source_read : List ℕ
  store_read : Option (List ℕ)
  read_words : IsRead files words most_map words_read
  read_schema : IsRead files schema most_schema schema_read
  read_source : IsRead files source most_source source_read
  read_store : IsStoreRead files o.store store_read
  is : IsProvedByView may (size_of o) (budget_of o) words_read schema_read source_read store_read plan.out plan.rep

evidence : (files : Given) (may : May) (o : Options) (words schema source : List ℕ) (plan : Plan) → prove_by_view files may o words schema source plan → plan.status ≡ statuses.Ok → Evidence files may o words schema source plan
evidence files may o words schema source plan (inl h) ok = absurd (unread files words most_map (codes "map") plan h ok)
evidence files may o words schema source plan (inr (w, read, inl h)) ok = absurd (unread files schema most_schema (codes "schema") plan h ok)
evidence files may o words schema source plan (inr (w, read, inr (s, has, inl h))) ok = absurd (unread files source most_source (codes "source") plan h ok)
evidence files may o words schema source plan (inr (w, read, inr (s, has, inr (t, there, inl h)))) ok = absurd (store_unread files o.store plan h ok)
evidence files may o words schema source plan (inr (w, read, inr (s, has, inr (t, there, inr (b, stored, h))))) ok =
    record {
      words_read = w;
      schema_read = s;
      source_read = t;
      store_read = b;
      read_words = read;
      read_schema = has;
      read_source = there;
      read_store = stored;
      is = proved_of may o w s t b plan h ok;
    }

pub proved_by_view : (files : Given) (may : May) (words : List (List ℕ)) (out rep : Change) (result : Status) → IsDone files may words out rep result → HasProofByView files may words out rep result
proved_by_view files may words out rep result done o map schema source has viewed ok =
    let w = written files may words out rep result done (λ e. let no : statuses.WriteFault ≡ statuses.Ok = sym e ∙ ok in cc) in
    let well : w.plan.status ≡ statuses.Ok = w.status ∙ ok in
    let due = due_for files may words (commands.Prove o schema source) w.plan has w.due (λ e. let no : statuses.NoMemory ≡ statuses.Ok = sym e ∙ well in cc) in
    let through : List ℕ → Ends = λ (name : List ℕ). prove_by_view files may o name schema source in
    let h : Evidence files may o map schema source w.plan =
    evidence files may o map schema source w.plan
    (as_viewed o.view through (prove files may o schema source) w.plan map viewed
    (where_ends (is_built (commands.Prove o schema source)) (by_view o.view through (prove files may o schema source)) w.plan due (λ e. let no : statuses.NotYet ≡ statuses.Ok = sym e ∙ well in cc))) well in
    record {
      words_read = h.words_read;
      schema_read = h.schema_read;
      source_read = h.source_read;
      store_read = h.store_read;
      text = w.plan.out;
      lines = w.plan.rep;
      read_words = h.read_words;
      read_schema = h.read_schema;
      read_source = h.read_source;
      read_store = h.read_store;
      is = h.is;
      wrote_text = w.wrote_text;
      wrote_lines = w.wrote_lines;
    }
