-- What bundles are worth follows from a plan that is due and was delivered.
use Rattle.std.proofs.Common.{◌≡◌, ℕ, inl, inr, List, [], length, Option, None, subst, sym, refl, ap, ◌∙◌, codes}
use Rattle.std.specs.Io.KnownBytes.{Appends}
use Rattle.qbs_base.specs.declared.status.Status.{Status}
use Rattle.qbs_base.specs.declared.status.Status.TheVariants as statuses
use Rattle.qbs_base.specs.Values.{Schema}
use Rattle.java_ast.specs.Tree.{PlainProgram}
use Rattle.deriv_check.specs.Bundles.{Entry}
use Rattle.deriv_check.specs.Grammar.{HasBundle}
use Rattle.rewrite_core.specs.Checking.{Checks, All, Refused, checked_from}
use Rattle.words.specs.declared.command.Command.{Command}
use Rattle.words.specs.declared.command.Command.TheVariants as commands
use Rattle.words.specs.declared.command.Options.{Options}
use Rattle.words.specs.Plain.{HasWords}
use Rattle.words.specs.Reading.{plain}
use Rattle.words.proofs.Exact.{reads_plain_words}
use Rattle.deliveries.specs.Limits.{most_schema, most_source, most_bundle}
use Rattle.deliveries.specs.declared.plan.Plan.{Plan}
use Rattle.deliveries.specs.Deliver.{Change}
use Rattle.plans.specs.Opening.{IsSchemaOf, IsProgramOf, HasNoProgram}
use Rattle.deliveries.specs.Plan.{Given}
use Rattle.deliveries.specs.Steps.{Ends, IsRead, IsNotRead}
use Rattle.qbs.specs.Check.{accepted_line, tells, check}
use Rattle.qbs.specs.CheckByView.{check_by_view}
use Rattle.qbs.specs.Commands.{is_built, by_view, command, IsDue}
use Rattle.qbs.specs.Evidence.{IsProved, HasProof, IsAccepted, IsRefused, IsCheck, HasCheck}
use Rattle.qbs.specs.Pruners.{May}
use Rattle.qbs.specs.Prove.{prove_of, prove}
use Rattle.qbs.specs.ProveByView.{prove_by_view}
use Rattle.qbs.specs.Rewrite.{size_of, budget_of}
use Rattle.qbs.specs.Store.{IsStoreRead}
use Rattle.qbs.specs.Top.{IsDone}
use Rattle.qbs.proofs.ByView.{as_plain}
use Rattle.qbs.proofs.Checked.{all_same}
use Rattle.qbs.proofs.Promised.{command_is, unread, store_unread, no_program, no_bank, where_ends}

-- the plan of words that name a command, where its status is neither want of memory nor of words
pub due_for : (files : Given) (may : May) (words : List (List ℕ)) (named : Command) (plan : Plan) → HasWords words named → IsDue files may words plan → (plan.status ≡ statuses.NoMemory → ⊥) → command files may named plan
due_for files may words named plan has (inl memory) other = absurd (other (ap (λ (p : Plan). p.status) memory))
due_for files may words named plan has (inr (inl bad)) other = absurd (bad.0 named has)
due_for files may words named plan has (inr (inr (c, is, h))) other =
    let same : c ≡ named = command_is (plain words) c named ((reads_plain_words words c).1 is) ((reads_plain_words words named).1 has) in
    subst (λ (d : Command). command files may d plan) same h

-- what is written where no write failed
pub record IsWritten (files : Given) (may : May) (words : List (List ℕ)) (out rep : Change) (result : Status) : Type 0 where
  pub plan : Plan
  pub due : IsDue files may words plan
  pub status : plan.status ≡ result
  pub wrote_text : Appends out.old out.new plan.out
  pub wrote_lines : Appends rep.old rep.new plan.rep

pub written : (files : Given) (may : May) (words : List (List ℕ)) (out rep : Change) (result : Status) → IsDone files may words out rep result → (result ≡ statuses.WriteFault → ⊥) → IsWritten files may words out rep result
written files may words out rep result done other =
    elim done.delivered [
      | inl all ↦ record { plan = done.plan; due = done.due; status = sym all.0; wrote_text = all.1; wrote_lines = all.2 }
      | inr short ↦ absurd (other short.0)
    ]

-- ---- `prove`

-- the bytes that `prove` read, and what it wrote
record Evidence (files : Given) (may : May) (o : Options) (schema source : List ℕ) (plan : Plan) : Type 0 where
  schema_read : List ℕ
  source_read : List ℕ
  store_read : Option (List ℕ)
  read_schema : IsRead files schema most_schema schema_read
  read_source : IsRead files source most_source source_read
  read_store : IsStoreRead files o.store store_read
  is : IsProved may (size_of o) (budget_of o) schema_read source_read store_read plan.out plan.rep

proved_of : (may : May) (o : Options) (s t : List ℕ) (b : Option (List ℕ)) (plan : Plan) → prove_of may o s t b plan → plan.status ≡ statuses.Ok → IsProved may (size_of o) (budget_of o) s t b plan.out plan.rep
proved_of may o s t b plan (inl h) ok = let e : statuses.Schema ≡ statuses.Ok = subst (λ (p : Plan). p.status ≡ statuses.Ok) h.2 ok in absurd cc
proved_of may o s t b plan (inr (tables, is, inl h)) ok = absurd (no_program tables t plan h ok)
proved_of may o s t b plan (inr (tables, is, inr (p, read, inl h))) ok = absurd (no_bank tables b plan h ok)
proved_of may o s t b plan (inr (tables, is, inr (p, read, inr (bank, held, h)))) ok =
    subst (λ (x : Plan). IsProved may (size_of o) (budget_of o) s t b x.out x.rep) (sym h.written)
    (record {
      tables = tables;
      program = p;
      is_schema = is;
      is_program = read;
      bundle = h.evidence.member;
      accepted = record { all = h.evidence.accepted; well = h.evidence.rewriting.well; keeps = h.evidence.rewriting.keeps };
      pruned = h.pruned;
      bank = bank;
      is_bank = held;
      counted = h.evidence.counted;
      report = refl;
      standing = h.evidence.rewriting.standing;
    })

evidence : (files : Given) (may : May) (o : Options) (schema source : List ℕ) (plan : Plan) → prove files may o schema source plan → plan.status ≡ statuses.Ok → Evidence files may o schema source plan
evidence files may o schema source plan (inl h) ok = absurd (unread files schema most_schema (codes "schema") plan h ok)
evidence files may o schema source plan (inr (s, read, inl h)) ok = absurd (unread files source most_source (codes "source") plan h ok)
evidence files may o schema source plan (inr (s, read, inr (t, has, inl h))) ok = absurd (store_unread files o.store plan h ok)
evidence files may o schema source plan (inr (s, read, inr (t, has, inr (b, there, h)))) ok =
    record { schema_read = s; source_read = t; store_read = b; read_schema = read; read_source = has; read_store = there; is = proved_of may o s t b plan h ok }

pub proved : (files : Given) (may : May) (words : List (List ℕ)) (out rep : Change) (result : Status) → IsDone files may words out rep result → HasProof files may words out rep result
proved files may words out rep result done o schema source has without ok =
    let w = written files may words out rep result done (λ e. let no : statuses.WriteFault ≡ statuses.Ok = sym e ∙ ok in cc) in
    let well : w.plan.status ≡ statuses.Ok = w.status ∙ ok in
    let due = due_for files may words (commands.Prove o schema source) w.plan has w.due (λ e. let no : statuses.NoMemory ≡ statuses.Ok = sym e ∙ well in cc) in
    let through : List ℕ → Ends = λ (map : List ℕ). prove_by_view files may o map schema source in
    let h : Evidence files may o schema source w.plan =
    evidence files may o schema source w.plan
    (as_plain o.view through (prove files may o schema source) w.plan without
    (where_ends (is_built (commands.Prove o schema source)) (by_view o.view through (prove files may o schema source)) w.plan due (λ e. let no : statuses.NotYet ≡ statuses.Ok = sym e ∙ well in cc))) well in
    record {
      schema_read = h.schema_read;
      source_read = h.source_read;
      store_read = h.store_read;
      text = w.plan.out;
      lines = w.plan.rep;
      read_schema = h.read_schema;
      read_source = h.read_source;
      read_store = h.read_store;
      is = h.is;
      wrote_text = w.wrote_text;
      wrote_lines = w.wrote_lines;
    }

-- ---- `check`

-- a status that only a bundle's entries lead to
abbrev pub OfEntries : Status → Type 0
OfEntries statuses.Ok = Unit {0}
OfEntries statuses.Refused = Unit {0}
OfEntries _ = ⊥

pub of_no_other : (status other : Status) → status ≡ other → (OfEntries other → ⊥) → OfEntries status → ⊥
of_no_other status other e never is = never (subst OfEntries e is)

pub no_file : (files : Given) (name : List ℕ) (limit : ℕ) (label : List ℕ) (plan : Plan) → IsNotRead files name limit label plan → OfEntries plan.status → ⊥
no_file files name limit label plan (inl h) is = of_no_other plan.status statuses.ReadFault (ap (λ (p : Plan). p.status) h.1) (λ x. x) is
no_file files name limit label plan (inr h) is = of_no_other plan.status statuses.Limit (ap (λ (p : Plan). p.status) h.1) (λ x. x) is

no_source : (tables : Schema) (bytes : List ℕ) (plan : Plan) → HasNoProgram tables bytes plan → OfEntries plan.status → ⊥
no_source tables bytes plan (inl h) is = of_no_other plan.status statuses.Source (ap (λ (p : Plan). p.status) h.2) (λ x. x) is
no_source tables bytes plan (inr (inl h)) is = of_no_other plan.status statuses.Source (ap (λ (p : Plan). p.status) h.2) (λ x. x) is
no_source tables bytes plan (inr (inr h)) is = of_no_other plan.status statuses.Types (ap (λ (p : Plan). p.status) h.2) (λ x. x) is

-- the bytes that `check` read, what they have, and what is told of them
record Read (files : Given) (schema source bundle : List ℕ) (plan : Plan) : Type 0 where
  schema_read : List ℕ
  source_read : List ℕ
  bundle_read : List ℕ
  read_schema : IsRead files schema most_schema schema_read
  read_source : IsRead files source most_source source_read
  read_bundle : IsRead files bundle most_bundle bundle_read
  known : Schema
  program : PlainProgram
  entries : List Entry
  is_schema : IsSchemaOf schema_read known
  is_program : IsProgramOf known source_read program
  is_bundle : HasBundle bundle_read entries
  told : tells known entries program (checked_from known 0 entries program) plan

read_all : (files : Given) (schema source bundle : List ℕ) (plan : Plan) → check files schema source bundle plan → OfEntries plan.status → Read files schema source bundle plan
read_all files schema source bundle plan (inl h) is = absurd (no_file files schema most_schema (codes "schema") plan h is)
read_all files schema source bundle plan (inr (s, read, inl h)) is = absurd (no_file files source most_source (codes "source") plan h is)
read_all files schema source bundle plan (inr (s, read, inr (t, has, inl h))) is = absurd (no_file files bundle most_bundle (codes "bundle") plan h is)
read_all files schema source bundle plan (inr (s, read, inr (t, has, inr (b, there, inl h)))) is =
    absurd (of_no_other plan.status statuses.Schema (ap (λ (p : Plan). p.status) h.2) (λ x. x) is)
read_all files schema source bundle plan (inr (s, read, inr (t, has, inr (b, there, inr (tables, known, inl h))))) is = absurd (no_source tables t plan h is)
read_all files schema source bundle plan (inr (s, read, inr (t, has, inr (b, there, inr (tables, known, inr (p, program, inl h)))))) is =
    absurd (of_no_other plan.status statuses.Bundle (ap (λ (x : Plan). x.status) h.2) (λ x. x) is)
read_all files schema source bundle plan (inr (s, read, inr (t, has, inr (b, there, inr (tables, known, inr (p, program, inr (entries, found, h))))))) is =
    record {
      schema_read = s;
      source_read = t;
      bundle_read = b;
      read_schema = read;
      read_source = has;
      read_bundle = there;
      known = tables;
      program = p;
      entries = entries;
      is_schema = known;
      is_program = program;
      is_bundle = found;
      told = h;
    }

-- what is said of entries, by the status
pub told_well : (tables : Schema) (entries : List Entry) (p : PlainProgram) (c : Checks) (plan : Plan) → checked_from tables 0 entries p ≡ c → tells tables entries p c plan → plan.status ≡ statuses.Ok → IsAccepted tables entries p plan.out × (plan.rep ≡ [])
told_well tables entries p (All n q) plan e h ok =
    let many : n ≡ length entries = all_same n (length entries) q q (sym e ∙ h.0.all) in
    (record { made = q; accepted = h.0; is = ap (λ (x : Plan). x.out) h.1 ∙ ap accepted_line many }, ap (λ (x : Plan). x.rep) h.1)
told_well tables entries p (Refused ordinal) plan e h ok = let no : statuses.Refused ≡ statuses.Ok = sym (ap (λ (x : Plan). x.status) h) ∙ ok in absurd cc

pub told_not : (tables : Schema) (entries : List Entry) (p : PlainProgram) (c : Checks) (plan : Plan) → checked_from tables 0 entries p ≡ c → tells tables entries p c plan → plan.status ≡ statuses.Refused → IsRefused tables entries p plan.out × (plan.rep ≡ [])
told_not tables entries p (All n q) plan e h ok = let no : statuses.Ok ≡ statuses.Refused = sym (ap (λ (x : Plan). x.status) h.1) ∙ ok in absurd cc
told_not tables entries p (Refused ordinal) plan e h ok = (record { ordinal = ordinal; refused = e; is = ap (λ (x : Plan). x.out) h }, ap (λ (x : Plan). x.rep) h)

module _ (files : Given) (may : May) (words : List (List ℕ)) (out rep : Change) (result : Status) (done : IsDone files may words out rep result) (o : Options) (schema source bundle : List ℕ) (has : HasWords words (commands.Check o schema source bundle)) (without : o.view ≡ None) where
  entries_read : (w : IsWritten files may words out rep result) → OfEntries result → Read files schema source bundle w.plan
  entries_read w such =
      let is : OfEntries w.plan.status = subst OfEntries (sym w.status) such in
      let through : List ℕ → Ends = λ (map : List ℕ). check_by_view files map schema source bundle in
      read_all files schema source bundle w.plan
      (as_plain o.view through (check files schema source bundle) w.plan without
      (where_ends (is_built (commands.Check o schema source bundle)) (by_view o.view through (check files schema source bundle)) w.plan
      (due_for files may words (commands.Check o schema source bundle) w.plan has w.due (λ e. of_no_other w.plan.status statuses.NoMemory e (λ x. x) is))
      (λ e. of_no_other w.plan.status statuses.NotYet e (λ x. x) is))) is

  said : (Says : Schema → List Entry → PlainProgram → List ℕ → Type 0) (w : IsWritten files may words out rep result) (h : Read files schema source bundle w.plan) → Says h.known h.entries h.program w.plan.out × (w.plan.rep ≡ []) → IsCheck files Says schema source bundle out rep
  said Says w h s =
      record {
        schema_read = h.schema_read;
        source_read = h.source_read;
        bundle_read = h.bundle_read;
        text = w.plan.out;
        read_schema = h.read_schema;
        read_source = h.read_source;
        read_bundle = h.read_bundle;
        is = record { tables = h.known; program = h.program; entries = h.entries; is_schema = h.is_schema; is_program = h.is_program; is_bundle = h.is_bundle; says = s.0 };
        wrote_text = w.wrote_text;
        wrote_lines = subst (λ (text : List ℕ). Appends rep.old rep.new text) s.1 w.wrote_lines;
      }

  well : result ≡ statuses.Ok → IsCheck files IsAccepted schema source bundle out rep
  well ok =
      let w = written files may words out rep result done (λ e. let no : statuses.WriteFault ≡ statuses.Ok = sym e ∙ ok in cc) in
      let h = entries_read w (subst OfEntries (sym ok) tt) in
      said IsAccepted w h (told_well h.known h.entries h.program (checked_from h.known 0 h.entries h.program) w.plan refl h.told (w.status ∙ ok))

  refuses : result ≡ statuses.Refused → IsCheck files IsRefused schema source bundle out rep
  refuses ok =
      let w = written files may words out rep result done (λ e. let no : statuses.WriteFault ≡ statuses.Refused = sym e ∙ ok in cc) in
      let h = entries_read w (subst OfEntries (sym ok) tt) in
      said IsRefused w h (told_not h.known h.entries h.program (checked_from h.known 0 h.entries h.program) w.plan refl h.told (w.status ∙ ok))

pub checked : (files : Given) (may : May) (words : List (List ℕ)) (out rep : Change) (result : Status) → IsDone files may words out rep result → HasCheck files words out rep result
checked files may words out rep result done o schema source bundle has without =
    record { well = well files may words out rep result done o schema source bundle has without; refuses = refuses files may words out rep result done o schema source bundle has without }
