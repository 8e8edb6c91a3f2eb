-- What rewriting by a view is worth follows from a plan that is due.
use Rattle.std.proofs.Common.{◌≡◌, ℕ, inl, inr, List, Option, None, Some, codes, sym, ◌∙◌, subst}
use Rattle.qbs_base.specs.declared.status.Status.{Status}
use Rattle.qbs_base.specs.declared.status.Status.TheVariants as statuses
use Rattle.words.specs.declared.command.Command.TheVariants as commands
use Rattle.words.specs.declared.command.Options.{Options}
use Rattle.deliveries.specs.declared.plan.Plan.{Plan}
use Rattle.deliveries.specs.Deliver.{Change}
use Rattle.deliveries.specs.Limits.{most_map, most_schema, most_source}
use Rattle.deliveries.specs.Plan.{Given}
use Rattle.deliveries.specs.Steps.{Ends, IsRead}
use Rattle.qbs.specs.Commands.{is_built, by_view}
use Rattle.qbs.specs.Pruners.{May}
use Rattle.qbs.specs.Rewrite.{size_of, budget_of, rewrite}
use Rattle.qbs.specs.RewriteByView.{rewrite_by_view_of, rewrite_by_view, IsRewrittenByView, HasHeadlineByView}
use Rattle.qbs.specs.Store.{IsStoreRead}
use Rattle.qbs.specs.Top.{IsDone}
use Rattle.qbs.proofs.ByView.{as_viewed}
use Rattle.qbs.proofs.Evident.{due_for, written}
use Rattle.qbs.proofs.Promised.{unread, store_unread, where_ends}

pub rewritten_of : (may : May) (o : Options) (w s t : List ℕ) (b : Option (List ℕ)) (plan : Plan) → rewrite_by_view_of may o w s t b plan → plan.status ≡ statuses.Ok → IsRewrittenByView may (size_of o) (budget_of o) w s t b plan.out plan.rep
rewritten_of may o w s t b plan (inl h) ok = let e : statuses.Schema ≡ statuses.Ok = subst (λ (p : Plan). p.status ≡ statuses.Ok) h.2 ok in absurd cc
rewritten_of may o w s t b plan (inr (tables, is, inl h)) ok = let e : statuses.View ≡ statuses.Ok = subst (λ (p : Plan). p.status ≡ statuses.Ok) h.2 ok in absurd cc
rewritten_of may o w s t b plan (inr (tables, is, inr (m, has, inl h))) ok = let e : statuses.Limit ≡ statuses.Ok = subst (λ (p : Plan). p.status ≡ statuses.Ok) h.due ok in absurd cc
rewritten_of may o w s t None plan (inr (tables, is, inr (m, has, inr (seen, sees, inl h)))) ok = absurd h
rewritten_of may o w s t (Some bytes) plan (inr (tables, is, inr (m, has, inr (seen, sees, inl h)))) ok =
    let e : statuses.Store ≡ statuses.Ok = subst (λ (p : Plan). p.status ≡ statuses.Ok) h.2 ok in absurd cc
rewritten_of may o w s t b plan (inr (tables, is, inr (m, has, inr (seen, sees, inr (bank, of, h))))) ok =
    subst (λ (x : Plan). IsRewrittenByView may (size_of o) (budget_of o) w s t b x.out x.rep) (sym h.written)
    (record {
      tables = tables;
      is_schema = is;
      map = m;
      is_map = has;
      seen = seen;
      is_seen = sees;
      bank = bank;
      is_bank = of;
      written = h.is;
    })

-- the bytes that `rewrite` by a view read, and what it wrote
record Wrote (files : Given) (may : May) (o : Options) (words schema source : List ℕ) (plan : Plan) : Type 0 where
  words_read : List ℕ
  schema_read : List ℕ
  source_read : List ℕ
  store_read : Option (List ℕ)
  read_words : IsRead files words most_map words_read
  read_schema : IsRead files schema most_schema schema_read
  read_source : IsRead files source most_source source_read
  read_store : IsStoreRead files o.store store_read
  is : IsRewrittenByView may (size_of o) (budget_of o) words_read schema_read source_read store_read plan.out plan.rep

wrote : (files : Given) (may : May) (o : Options) (words schema source : List ℕ) (plan : Plan) → rewrite_by_view files may o words schema source plan → plan.status ≡ statuses.Ok → Wrote files may o words schema source plan
wrote files may o words schema source plan (inl h) ok = absurd (unread files words most_map (codes "map") plan h ok)
wrote files may o words schema source plan (inr (w, read, inl h)) ok = absurd (unread files schema most_schema (codes "schema") plan h ok)
wrote files may o words schema source plan (inr (w, read, inr (s, has, inl h))) ok = absurd (unread files source most_source (codes "source") plan h ok)
wrote files may o words schema source plan (inr (w, read, inr (s, has, inr (t, there, inl h)))) ok = absurd (store_unread files o.store plan h ok)
wrote files may o words schema source plan (inr (w, read, inr (s, has, inr (t, there, inr (b, stored, h))))) ok =
    record {
      words_read = w;
      schema_read = s;
      source_read = t;
      store_read = b;
      read_words = read;
      read_schema = has;
      read_source = there;
      read_store = stored;
      is = rewritten_of may o w s t b plan h ok;
    }

pub rewritten_by_view : (files : Given) (may : May) (words : List (List ℕ)) (out rep : Change) (result : Status) → IsDone files may words out rep result → HasHeadlineByView files may words out rep result
rewritten_by_view files may words out rep result done o map schema source has viewed ok =
    let w = written files may words out rep result done (λ e. let no : statuses.WriteFault ≡ statuses.Ok = sym e ∙ ok in cc) in
    let well : w.plan.status ≡ statuses.Ok = w.status ∙ ok in
    let due = due_for files may words (commands.Rewrite o schema source) w.plan has w.due (λ e. let no : statuses.NoMemory ≡ statuses.Ok = sym e ∙ well in cc) in
    let through : List ℕ → Ends = λ (name : List ℕ). rewrite_by_view files may o name schema source in
    let h : Wrote files may o map schema source w.plan =
    wrote files may o map schema source w.plan
    (as_viewed o.view through (rewrite files may o schema source) w.plan map viewed
    (where_ends (is_built (commands.Rewrite o schema source)) (by_view o.view through (rewrite files may o schema source)) w.plan due (λ e. let no : statuses.NotYet ≡ statuses.Ok = sym e ∙ well in cc))) well in
    record {
      words_read = h.words_read;
      schema_read = h.schema_read;
      source_read = h.source_read;
      store_read = h.store_read;
      text = w.plan.out;
      lines = w.plan.rep;
      read_words = h.read_words;
      read_schema = h.read_schema;
      read_source = h.read_source;
      read_store = h.read_store;
      is = h.is;
      wrote_text = w.wrote_text;
      wrote_lines = w.wrote_lines;
    }
