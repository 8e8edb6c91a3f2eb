-- With a store `rewrite` and `prove` write what they write without it.
use Rattle.std.proofs.Common.{◌≡◌, ℕ, inl, inr, Bool, true, false, List, Option, None, subst, sym, refl, ap, ◌∙◌, codes}
use Rattle.std.specs.Prelude.{IsSome}
use Rattle.qbs_base.specs.declared.status.Status.TheVariants as statuses
use Rattle.qbs_base.specs.Values.{Schema}
use Rattle.java_ast.specs.Tree.{PlainProgram}
use Rattle.small_dbs.specs.declared.small.SmallDb.{SmallDb}
use Rattle.words.specs.declared.command.Command.{Command}
use Rattle.words.specs.declared.command.Command.TheVariants as commands
use Rattle.words.specs.declared.command.Options.{Options}
use Rattle.words.specs.Plain.{HasWords}
use Rattle.words.specs.Reading.{plain}
use Rattle.words.proofs.Exact.{reads_plain_words}
use Rattle.deliveries.specs.declared.plan.Plan.{Plan}
use Rattle.deliveries.specs.Limits.{most_schema, most_source}
use Rattle.deliveries.specs.Plan.{Given}
use Rattle.deliveries.specs.Steps.{Ends, refused, IsRead, IsNotRead, reads}
use Rattle.plans.specs.Opening.{IsSchemaOf, BreaksSchema, schema_refusal, IsProgramOf, HasNoProgram, has_program}
use Rattle.qbs.specs.Commands.{is_built, where_built, by_view, command, program}
use Rattle.qbs.specs.Opened.{reads_all, has_all}
use Rattle.qbs.specs.Pruners.{May, with_bank}
use Rattle.qbs.specs.Prove.{Proves, prove}
use Rattle.qbs.specs.ProveByView.{prove_by_view}
use Rattle.qbs.specs.Rewrite.{size_of, budget_of, Rewrites, rewrite}
use Rattle.qbs.specs.RewriteByView.{rewrite_by_view}
use Rattle.qbs.specs.Store.{IsStoreRead, IsStoreUnread, reads_store, IsBankOf, HasNoBank, has_store}
use Rattle.qbs.specs.Top.{AreAlike, rewrite as of_rewrite, prove as of_prove, HasNeutralStore}
use Rattle.qbs.proofs.ByView.{as_plain}
use Rattle.qbs.proofs.OneFound.{schema_one, program_one}
use Rattle.qbs.proofs.OnePlan.{rewrites_alike, proves_alike}
use Rattle.qbs.proofs.OneRead.{read_one}
use Rattle.qbs.proofs.OneStep.{goes}
use Rattle.qbs.proofs.OneStore.{store_read_one, bank_one}
use Rattle.qbs.proofs.Promised.{command_is, unread, store_unread, no_program, no_bank, where_ends}

-- what was read and held where a command of both ended well
record Held (files : Given) (schema source : List ℕ) (next : List ℕ → Schema → PlainProgram → Option (List SmallDb) → Ends) (plan : Plan) : Type 0 where
  schema_read : List ℕ
  source_read : List ℕ
  read_schema : IsRead files schema most_schema schema_read
  read_source : IsRead files source most_source source_read
  tables : Schema
  program_read : PlainProgram
  is_schema : IsSchemaOf schema_read tables
  is_program : IsProgramOf tables source_read program_read
  bank : Option (List SmallDb)
  due : next source_read tables program_read bank plan

held : (files : Given) (schema source : List ℕ) (store : Option (List ℕ)) (next : List ℕ → Schema → PlainProgram → Option (List SmallDb) → Ends) (plan : Plan) → plan.status ≡ statuses.Ok →
    reads_all files schema source store (λ s t b. has_all s t b (λ tables p bank. next t tables p bank)) plan → Held files schema source next plan
held files schema source store next plan ok (inl h) = absurd (unread files schema most_schema (codes "schema") plan h ok)
held files schema source store next plan ok (inr (s, read, inl h)) = absurd (unread files source most_source (codes "source") plan h ok)
held files schema source store next plan ok (inr (s, read, inr (t, has, inl h))) = absurd (store_unread files store plan h ok)
held files schema source store next plan ok (inr (s, read, inr (t, has, inr (b, there, inl h)))) =
    let e : statuses.Schema ≡ statuses.Ok = subst (λ (p : Plan). p.status ≡ statuses.Ok) h.2 ok in absurd cc
held files schema source store next plan ok (inr (s, read, inr (t, has, inr (b, there, inr (tables, is, inl h))))) = absurd (no_program tables t plan h ok)
held files schema source store next plan ok (inr (s, read, inr (t, has, inr (b, there, inr (tables, is, inr (p, found, inl h)))))) = absurd (no_bank tables b plan h ok)
held files schema source store next plan ok (inr (s, read, inr (t, has, inr (b, there, inr (tables, is, inr (p, found, inr (bank, is_bank, h))))))) =
    record { schema_read = s; source_read = t; read_schema = read; read_source = has; tables = tables; program_read = p; is_schema = is; is_program = found; bank = bank; due = h }

-- without a store the command goes on with the same
without : (files : Given) (schema source : List ℕ) (first next : List ℕ → Schema → PlainProgram → Option (List SmallDb) → Ends) (p q : Plan) → IsSome (files.told schema) → IsSome (files.told source) → ((name : List ℕ) → files.failed name → ⊥) →
    (w : Held files schema source first p) → reads_all files schema source None (λ s t b. has_all s t b (λ tables r bank. next t tables r bank)) q → next w.source_read w.tables w.program_read None q
without files schema source first next p q has_schema has_source calm w h =
    let read = goes (IsRead files schema most_schema) (IsNotRead files schema most_schema (codes "schema"))
    (λ s. reads files source most_source (codes "source") (λ t. reads_store files None (λ b. has_all s t b (λ tables r bank. next t tables r bank)))) (read_one files schema most_schema (codes "schema") has_schema calm) w.schema_read w.read_schema q h in
    let both = goes (IsRead files source most_source) (IsNotRead files source most_source (codes "source"))
    (λ t. reads_store files None (λ b. has_all w.schema_read t b (λ tables r bank. next t tables r bank))) (read_one files source most_source (codes "source") has_source calm) w.source_read w.read_source q read in
    let all = goes (IsStoreRead files None) (IsStoreUnread files None) (λ b. has_all w.schema_read w.source_read b (λ tables r bank. next w.source_read tables r bank)) (store_read_one files None (λ other is. absurd is) calm) None refl q both in
    let opened = goes (IsSchemaOf w.schema_read) (refused (BreaksSchema w.schema_read) schema_refusal) (λ tables. has_program tables w.source_read (λ r. has_store tables None (λ bank. next w.source_read tables r bank))) (schema_one w.schema_read) w.tables w.is_schema q all in
    let typed = goes (IsProgramOf w.tables w.source_read) (HasNoProgram w.tables w.source_read) (λ r. has_store w.tables None (λ bank. next w.source_read w.tables r bank)) (program_one w.tables w.source_read) w.program_read w.is_program q opened in
    goes (IsBankOf w.tables None) (HasNoBank w.tables None) (λ bank. next w.source_read w.tables w.program_read bank) (bank_one w.tables None) None refl q typed

-- ---- the commands

-- what is due for a command that words name, where a plan is due that ends well
module _ (files : Given) (may : May) where
  named : (words : List (List ℕ)) (c : Command) (plan : Plan) → HasWords words c → program files may words plan → command files may c plan
  named words c plan has (inl bad) = absurd (bad.0 c has)
  named words c plan has (inr (d, is, h)) =
      let same : d ≡ c = command_is (plain words) d c ((reads_plain_words words d).1 is) ((reads_plain_words words c).1 has) in
      subst (λ (x : Command). command files may x plan) same h

is_true : (is : Bool) (next : Ends) (plan : Plan) → where_built is next plan → (plan.status ≡ statuses.NotYet → ⊥) → is ≡ true
is_true true next plan h other = refl
is_true false next plan h other = absurd (other (ap (λ (p : Plan). p.status) h))

as_built : (is : Bool) (next : Ends) (plan : Plan) → is ≡ true → where_built is next plan → next plan
as_built true next plan e h = h
as_built false next plan e h = absurd cc

not_built : (plan : Plan) → plan.status ≡ statuses.Ok → plan.status ≡ statuses.NotYet → ⊥
not_built plan ok e = let no : statuses.NotYet ≡ statuses.Ok = sym e ∙ ok in cc

module _ (files : Given) (may : May) (p q : Plan) (ok : p.status ≡ statuses.Ok) (calm : (name : List ℕ) → files.failed name → ⊥) where
  rewrite_neutral : (o : Options) (schema source : List ℕ) → o.view ≡ None → IsSome (files.told schema) → IsSome (files.told source) → command files may (commands.Rewrite o schema source) p → command files may (commands.Rewrite (record o { store = None }) schema source) q → AreAlike p q
  rewrite_neutral o schema source without_view has_schema has_source a b =
      let through : List ℕ → Ends = λ map. rewrite_by_view files may o map schema source in
      let through_none : List ℕ → Ends = λ map. rewrite_by_view files may (record o { store = None }) map schema source in
      let first = as_plain o.view through (rewrite files may o schema source) p without_view
      (where_ends (is_built (commands.Rewrite o schema source)) (by_view o.view through (rewrite files may o schema source)) p a (not_built p ok)) in
      let here : is_built (commands.Rewrite o schema source) ≡ true = is_true (is_built (commands.Rewrite o schema source)) (by_view o.view through (rewrite files may o schema source)) p a (not_built p ok) in
      let second = as_plain o.view through_none (rewrite files may (record o { store = None }) schema source) q without_view
      (as_built (is_built (commands.Rewrite (record o { store = None }) schema source)) (by_view o.view through_none (rewrite files may (record o { store = None }) schema source)) q here b) in
      let w = held files schema source o.store (λ t tables r bank. Rewrites (with_bank may bank) tables (size_of o) (budget_of o) t r) p ok first in
      rewrites_alike (with_bank may w.bank) may w.tables (size_of o) (budget_of o) w.source_read w.program_read p q w.due
      (without files schema source (λ t tables r bank. Rewrites (with_bank may bank) tables (size_of o) (budget_of o) t r) (λ t tables r bank. Rewrites (with_bank may bank) tables (size_of o) (budget_of o) t r) p q has_schema has_source calm w second)

  prove_neutral : (o : Options) (schema source : List ℕ) → o.view ≡ None → IsSome (files.told schema) → IsSome (files.told source) → command files may (commands.Prove o schema source) p → command files may (commands.Prove (record o { store = None }) schema source) q → AreAlike p q
  prove_neutral o schema source without_view has_schema has_source a b =
      let through : List ℕ → Ends = λ map. prove_by_view files may o map schema source in
      let through_none : List ℕ → Ends = λ map. prove_by_view files may (record o { store = None }) map schema source in
      let first = as_plain o.view through (prove files may o schema source) p without_view
      (where_ends (is_built (commands.Prove o schema source)) (by_view o.view through (prove files may o schema source)) p a (not_built p ok)) in
      let here : is_built (commands.Prove o schema source) ≡ true = is_true (is_built (commands.Prove o schema source)) (by_view o.view through (prove files may o schema source)) p a (not_built p ok) in
      let second = as_plain o.view through_none (prove files may (record o { store = None }) schema source) q without_view
      (as_built (is_built (commands.Prove (record o { store = None }) schema source)) (by_view o.view through_none (prove files may (record o { store = None }) schema source)) q here b) in
      let w = held files schema source o.store (λ t tables r bank. Proves (with_bank may bank) tables (size_of o) (budget_of o) r) p ok first in
      proves_alike (with_bank may w.bank) may w.tables (size_of o) (budget_of o) w.program_read p q w.due
      (without files schema source (λ t tables r bank. Proves (with_bank may bank) tables (size_of o) (budget_of o) r) (λ t tables r bank. Proves (with_bank may bank) tables (size_of o) (budget_of o) r) p q has_schema has_source calm w second)

pub neutral : (files : Given) (may : May) (words : List (List ℕ)) → HasNeutralStore files may words
neutral files may words told c d others has has_not (of_rewrite o schema source name e without_view) p q a ok b =
    rewrite_neutral files may p q ok told.calm o schema source without_view (told.told (commands.Rewrite o schema source) schema has (inr (inl refl))) (told.told (commands.Rewrite o schema source) source has (inr (inr (inl refl))))
    (named files may words (commands.Rewrite o schema source) p has a) (named files may others (commands.Rewrite (record o { store = None }) schema source) q has_not b)
neutral files may words told c d others has has_not (of_prove o schema source name e without_view) p q a ok b =
    prove_neutral files may p q ok told.calm o schema source without_view (told.told (commands.Prove o schema source) schema has (inr (inl refl))) (told.told (commands.Prove o schema source) source has (inr (inr (inl refl))))
    (named files may words (commands.Prove o schema source) p has a) (named files may others (commands.Prove (record o { store = None }) schema source) q has_not b)
