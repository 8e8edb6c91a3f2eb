-- What the top call promises follows from a plan that is due and was delivered.
use Rattle.std.proofs.Common.{◌≡◌, ◌≢◌, ℕ, ◌⊎◌, inl, inr, Bool, true, false, List, [], ◌∷◌, ◌++◌, subst, sym, refl, ap, ◌∙◌, codes, Option, Some, None}
use Rattle.std.specs.Io.KnownBytes.{Appends}
use Rattle.qbs_base.specs.declared.status.Status.{Status}
use Rattle.qbs_base.specs.declared.status.Status.TheVariants as statuses
use Rattle.qbs_base.specs.Status.{KeepsOutput}
use Rattle.qbs_base.specs.declared.columns.Table.{Table}
use Rattle.qbs_base.specs.Values.{Schema}
use Rattle.kernel_lang.specs.Plain.{Fragment}
use Rattle.small_dbs.specs.declared.small.SmallDb.{SmallDb}
use Rattle.query_search.specs.Counted.{OneIs}
use Rattle.rewrite_core.proofs.PrunedTries.{are_pruned, none_pruned}
use Rattle.rewrite_core.specs.Pruned.{ArePruned}
use Rattle.rewrite_core.specs.Trying.{Tried, all_tried, rewritten}
use Rattle.words.specs.declared.command.Command.{Command}
use Rattle.words.specs.declared.command.Command.TheVariants as commands
use Rattle.words.specs.declared.command.Options.{Options}
use Rattle.words.specs.Plain.{HasWords}
use Rattle.words.specs.Reading.{plain}
use Rattle.words.proofs.Exact.{reads_plain_words}
use Rattle.deliveries.specs.Limits.{most_schema, most_source, most_store}
use Rattle.deliveries.specs.declared.plan.Plan.{Plan}
use Rattle.deliveries.specs.Deliver.{Change}
use Rattle.plans.specs.Opening.{HasNoProgram}
use Rattle.deliveries.specs.Plan.{Given}
use Rattle.deliveries.specs.Steps.{Ends, IsRead, IsNotRead}
use Rattle.plans.specs.Tables.{AreNotRead}
use Rattle.qbs.specs.Commands.{is_built, where_built, by_view, command, HasNoWords, IsDue}
use Rattle.qbs.specs.Headline.{IsRewritten, HasHeadline}
use Rattle.verdicts.specs.Reports.{pruned_line}
use Rattle.qbs.specs.Pruners.{May, with_bank}
use Rattle.qbs.specs.Rewrite.{size_of, budget_of, rewrite_of, rewrite}
use Rattle.qbs.specs.RewriteByView.{rewrite_by_view}
use Rattle.qbs.specs.Store.{IsStoreRead, IsStoreUnread, IsBankOf, HasNoBank}
use Rattle.qbs.specs.Top.{IsDone, CutShort, MayRead, ReadFailed, HasReadFault}
use Rattle.java_mean.proofs.Kept.{keeps_through}
use Rattle.java_unplaced.proofs.Kept.{keep_alike}
use Rattle.qbs.proofs.ByView.{as_plain}
use Rattle.qbs.proofs.Fair.{IsFair, command_fair}

-- ---- all plans that are due

-- a plan that is due leaves the output alone where its status says so, and says of no write that it failed
record IsFine (files : Given) (words : List (List ℕ)) (plan : Plan) : Type 0 where
  out : KeepsOutput plan.status → plan.out ≡ []
  write : plan.status ≢ statuses.WriteFault
  only : plan.status ≡ statuses.Words → HasNoWords words
  all : HasNoWords words → (plan.status ≡ statuses.Words) ⊎ (plan.status ≡ statuses.NoMemory)
  read : plan.status ≡ statuses.ReadFault → (c : Command) × HasWords words c × ReadFailed files (MayRead files.told c) plan

due_fine : (files : Given) (may : May) (words : List (List ℕ)) (plan : Plan) → IsDue files may words plan → IsFine files words plan
due_fine files may words plan (inl memory) =
    subst (IsFine files words) (sym memory) (record { out = λ k. refl; write = λ e. cc; only = λ e. absurd cc; all = λ none. inr refl; read = λ e. absurd cc })
due_fine files may words plan (inr (inl bad)) =
    subst (IsFine files words) (sym bad.1) (record { out = λ k. refl; write = λ e. cc; only = λ e. bad.0; all = λ none. inl refl; read = λ e. absurd cc })
due_fine files may words plan (inr (inr (c, has, h))) =
    let fair : IsFair files (MayRead files.told c) plan = command_fair files may c plan h in
    record { out = fair.out; write = fair.write; only = λ e. absurd (fair.words e); all = λ none. absurd (none c has); read = λ e. (c, has, fair.read e) }

pub record Promised (files : Given) (may : May) (words : List (List ℕ)) (out rep : Change) (result : Status) : Type 0 where
  pub only : result ≡ statuses.Words → HasNoWords words
  pub all : HasNoWords words → (result ≡ statuses.Words) ⊎ (result ≡ statuses.NoMemory) ⊎ (result ≡ statuses.WriteFault)
  pub unchanged : KeepsOutput result → Appends out.old out.new []
  pub cut_short : result ≡ statuses.WriteFault → CutShort files may words out rep
  pub read : HasReadFault files words rep result

whole : (files : Given) (may : May) (words : List (List ℕ)) (out rep : Change) (plan : Plan) → IsFine files words plan → Appends out.old out.new plan.out → Appends rep.old rep.new plan.rep → Promised files may words out rep plan.status
whole files may words out rep plan fine wrote told =
    record {
      only = fine.only;
      all = λ none. elim (fine.all none) [ inl h ↦ inl h | inr h ↦ inr (inl h) ];
      unchanged = λ k. subst (λ text. Appends out.old out.new text) (fine.out k) wrote;
      cut_short = λ e. absurd (fine.write e);
      read = λ e. let f : (c : Command) × HasWords words c × ReadFailed files (MayRead files.told c) plan = fine.read e in (f.0, plan, f.1, f.2, told);
    }

cut : (files : Given) (may : May) (words : List (List ℕ)) (out rep : Change) → CutShort files may words out rep → Promised files may words out rep statuses.WriteFault
cut files may words out rep short =
    record { only = λ e. absurd cc; all = λ none. inr (inr refl); unchanged = λ k. absurd k; cut_short = λ e. short; read = λ e. absurd cc }

pub promised : (files : Given) (may : May) (words : List (List ℕ)) (out rep : Change) (result : Status) → IsDone files may words out rep result → Promised files may words out rep result
promised files may words out rep result done =
    let P : Status → Type 0 = Promised files may words out rep in
    elim done.delivered [
      | inl all ↦ subst P (sym all.0) (whole files may words out rep done.plan (due_fine files may words done.plan done.due) all.1 all.2)
      | inr short ↦ subst P (sym short.0) (cut files may words out rep (record { plan = done.plan; due = done.due; cut = short.1 }))
    ]

-- ---- the headline

-- the bytes that `rewrite` read, and what it wrote
record Rewrote (files : Given) (may : May) (o : Options) (schema source : List ℕ) (plan : Plan) : Type 0 where
  schema_read : List ℕ
  source_read : List ℕ
  store_read : Option (List ℕ)
  read_schema : IsRead files schema most_schema schema_read
  read_source : IsRead files source most_source source_read
  read_store : IsStoreRead files o.store store_read
  is : IsRewritten may (size_of o) (budget_of o) schema_read source_read store_read plan.out plan.rep

pub unread : (files : Given) (name : List ℕ) (limit : ℕ) (label : List ℕ) (plan : Plan) → IsNotRead files name limit label plan → plan.status ≡ statuses.Ok → ⊥
unread files name limit label plan (inl h) ok = let e : statuses.ReadFault ≡ statuses.Ok = subst (λ (p : Plan). p.status ≡ statuses.Ok) h.1 ok in cc
unread files name limit label plan (inr h) ok = let e : statuses.Limit ≡ statuses.Ok = subst (λ (p : Plan). p.status ≡ statuses.Ok) h.1 ok in cc

pub unread_texts : (files : Given) (folder : List ℕ) (tables : List Table) (left : ℕ) (plan : Plan) → AreNotRead files folder tables left plan → plan.status ≡ statuses.Ok → ⊥
unread_texts files folder [] left plan h ok = h
unread_texts files folder (table ∷ tables) left plan (inl h) ok = unread files _ left (codes "tables") plan h ok
unread_texts files folder (table ∷ tables) left plan (inr h) ok = unread_texts files folder tables _ plan h.2 ok

pub no_program : (tables : Schema) (bytes : List ℕ) (plan : Plan) → HasNoProgram tables bytes plan → plan.status ≡ statuses.Ok → ⊥
no_program tables bytes plan (inl h) ok = let e : statuses.Source ≡ statuses.Ok = subst (λ (p : Plan). p.status ≡ statuses.Ok) h.2 ok in cc
no_program tables bytes plan (inr (inl h)) ok = let e : statuses.Source ≡ statuses.Ok = subst (λ (p : Plan). p.status ≡ statuses.Ok) h.2 ok in cc
no_program tables bytes plan (inr (inr h)) ok = let e : statuses.Types ≡ statuses.Ok = subst (λ (p : Plan). p.status ≡ statuses.Ok) h.2 ok in cc

pub store_unread : (files : Given) (name : Option (List ℕ)) (plan : Plan) → IsStoreUnread files name plan → plan.status ≡ statuses.Ok → ⊥
store_unread files None plan h ok = h
store_unread files (Some name) plan h ok = unread files name most_store (codes "store") plan h ok

pub no_bank : (tables : Schema) (store : Option (List ℕ)) (plan : Plan) → HasNoBank tables store plan → plan.status ≡ statuses.Ok → ⊥
no_bank tables None plan h ok = h
no_bank tables (Some bytes) plan h ok = let e : statuses.Store ≡ statuses.Ok = subst (λ (p : Plan). p.status ≡ statuses.Ok) h.2 ok in cc

rewritten_of : (may : May) (o : Options) (s t : List ℕ) (b : Option (List ℕ)) (plan : Plan) → rewrite_of may o s t b plan → plan.status ≡ statuses.Ok → IsRewritten may (size_of o) (budget_of o) s t b plan.out plan.rep
rewritten_of may o s t b plan (inl h) ok = let e : statuses.Schema ≡ statuses.Ok = subst (λ (p : Plan). p.status ≡ statuses.Ok) h.2 ok in absurd cc
rewritten_of may o s t b plan (inr (tables, is, inl h)) ok = absurd (no_program tables t plan h ok)
rewritten_of may o s t b plan (inr (tables, is, inr (p, read, inl h))) ok = absurd (no_bank tables b plan h ok)
rewritten_of may o s t b plan (inr (tables, is, inr (p, read, inr (bank, held, h)))) ok =
    subst (λ (x : Plan). IsRewritten may (size_of o) (budget_of o) s t b x.out x.rep) (sym h.written)
    (record {
      tables = tables;
      program = p;
      is_schema = is;
      is_program = read;
      tries = all_tried tables (size_of o) (budget_of o) p;
      are_tries = refl;
      written = h.text.program;
      is_written = h.text.is_program;
      output = h.output;
      keeps = keeps_through tables p (rewritten tables (size_of o) (budget_of o) p) h.text.program h.rewriting.keeps (keep_alike tables (rewritten tables (size_of o) (budget_of o) p) h.text.program (sym h.text.same));
      pruned = h.pruned;
      bank = bank;
      is_bank = held;
      counted = h.counted;
      report = refl;
      left = rewritten tables (size_of o) (budget_of o) p;
      alike = h.text.same;
      standing = h.rewriting.standing;
    })

rewrote : (files : Given) (may : May) (o : Options) (schema source : List ℕ) (plan : Plan) → rewrite files may o schema source plan → plan.status ≡ statuses.Ok → Rewrote files may o schema source plan
rewrote files may o schema source plan (inl h) ok = absurd (unread files schema most_schema (codes "schema") plan h ok)
rewrote files may o schema source plan (inr (s, read, inl h)) ok = absurd (unread files source most_source (codes "source") plan h ok)
rewrote files may o schema source plan (inr (s, read, inr (t, has, inl h))) ok = absurd (store_unread files o.store plan h ok)
rewrote files may o schema source plan (inr (s, read, inr (t, has, inr (b, there, h)))) ok =
    record { schema_read = s; source_read = t; store_read = b; read_schema = read; read_source = has; read_store = there; is = rewritten_of may o s t b plan h ok }

-- what isn't built ends with no such status
pub where_ends : (is : Bool) (next : Ends) (plan : Plan) → where_built is next plan → (plan.status ≡ statuses.NotYet → ⊥) → next plan
where_ends true next plan h other = h
where_ends false next plan h other = absurd (other (ap (λ (p : Plan). p.status) h))

pub command_is : (o : Option Command) (b c : Command) → o ≡ Some b → o ≡ Some c → b ≡ c
command_is o b c x y = cc

due_rewrote : (files : Given) (may : May) (words : List (List ℕ)) (o : Options) (schema source : List ℕ) (plan : Plan) → HasWords words (commands.Rewrite o schema source) → o.view ≡ None → IsDue files may words plan → plan.status ≡ statuses.Ok →
    Rewrote files may o schema source plan
due_rewrote files may words o schema source plan has without (inl memory) ok = let e : statuses.NoMemory ≡ statuses.Ok = subst (λ (p : Plan). p.status ≡ statuses.Ok) memory ok in absurd cc
due_rewrote files may words o schema source plan has without (inr (inl bad)) ok = absurd (bad.0 (commands.Rewrite o schema source) has)
due_rewrote files may words o schema source plan has without (inr (inr (c, is, h))) ok =
    let same : c ≡ commands.Rewrite o schema source = command_is (plain words) c (commands.Rewrite o schema source) ((reads_plain_words words c).1 is) ((reads_plain_words words (commands.Rewrite o schema source)).1 has) in
    let through : List ℕ → Ends = λ map. rewrite_by_view files may o map schema source in
    rewrote files may o schema source plan
    (as_plain o.view through (rewrite files may o schema source) plan without
    (where_ends (is_built (commands.Rewrite o schema source)) (by_view o.view through (rewrite files may o schema source)) plan (subst (λ (d : Command). command files may d plan) same h) (λ e. let no : statuses.NotYet ≡ statuses.Ok = sym e ∙ ok in cc))) ok

pub headline : (files : Given) (may : May) (words : List (List ℕ)) (out rep : Change) (result : Status) → IsDone files may words out rep result → HasHeadline files may words out rep result
headline files may words out rep result done o schema source has without ok =
    elim done.delivered [
      | inl all ↦ (
          let h : Rewrote files may o schema source done.plan = due_rewrote files may words o schema source done.plan has without done.due (sym all.0 ∙ ok) in
          record {
            schema_read = h.schema_read;
            source_read = h.source_read;
            store_read = h.store_read;
            text = done.plan.out;
            lines = done.plan.rep;
            read_schema = h.read_schema;
            read_source = h.read_source;
            read_store = h.read_store;
            is = h.is;
            wrote_text = all.1;
            wrote_lines = all.2;
          })
      | inr short ↦ (let e : statuses.WriteFault ≡ statuses.Ok = sym short.0 ∙ ok in absurd cc)
    ]

-- ---- without pruners

-- where nothing may be dropped, nothing was
none_dropped : (may : May) (size : ℕ) (ts : List Tried) (n : ℕ) → ((f : Fragment) (c : List ℕ) → may.drops f c → ⊥) → ArePruned may.drops may.keeps size ts n → n ≡ 0
none_dropped may size ts n never counted =
    none_pruned {P = Unit {0}} (λ p f c. ⊥) may.keeps [] refl size ts n
    (are_pruned may.drops may.keeps (λ f c. OneIs {P = Unit {0}} (λ p. ⊥) []) may.keeps never (λ f c k. k) size ts n counted)

none_read : (files : Given) (name read : Option (List ℕ)) → name ≡ None → IsStoreRead files name read → read ≡ None
none_read files None read e h = h
none_read files (Some name) read e h = absurd cc

none_held : (tables : Schema) (store : Option (List ℕ)) (bank : Option (List SmallDb)) → store ≡ None → IsBankOf tables store bank → bank ≡ None
none_held tables None bank e h = h
none_held tables (Some bytes) bank e h = absurd cc

-- where words name no store, there is no bank
pub none_dropped_without : (files : Given) (may : May) (name read : Option (List ℕ)) (tables : Schema) (bank : Option (List SmallDb)) (size : ℕ) (ts : List Tried) (n : ℕ) →
    name ≡ None → IsStoreRead files name read → IsBankOf tables read bank → ((f : Fragment) (c : List ℕ) → may.drops f c → ⊥) → ArePruned (with_bank may bank).drops (with_bank may bank).keeps size ts n → n ≡ 0
none_dropped_without files may name read tables bank size ts n e is held never counted =
    let none : bank ≡ None = none_held tables read bank (none_read files name read e is) held in
    none_dropped may size ts n never (subst (λ (k : Option (List SmallDb)). ArePruned (with_bank may k).drops (with_bank may k).keeps size ts n) none counted)

-- a report that says last how many were dropped says that none was
pub says_none : (front lines : List ℕ) (n : ℕ) (rep : Change) → n ≡ 0 → lines ≡ front ++ pruned_line n → Appends rep.old rep.new lines → (text : List ℕ) × Appends rep.old rep.new (text ++ pruned_line 0)
says_none front lines n rep none report wrote =
    (front, subst (λ (m : ℕ). Appends rep.old rep.new (front ++ pruned_line m)) none (subst (λ (text : List ℕ). Appends rep.old rep.new text) report wrote))

pub no_one : {P : Type 0} (S : P → Type 0) (ps : List P) → ps ≡ [] → OneIs S ps → ⊥
no_one S [] e h = h
no_one S (p ∷ ps) e h = cc
