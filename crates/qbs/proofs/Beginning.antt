-- What is due behind the files of a schema, a source and a store, and behind what they hold.
use Rattle.std.proofs.Common.{◌≡◌, ℕ, inl, inr, List, Option, Some, None, Result, Ok, Err, codes}
use Rattle.qbs_base.specs.Values.{Schema}
use Rattle.java_ast.specs.Tree.{PlainProgram}
use Rattle.small_dbs.specs.declared.small.SmallDb.{SmallDb}
use Rattle.deliveries.specs.declared.plan.Plan.{Plan}
use Rattle.deliveries.specs.declared.fetch.Stop.{Stop}
use Rattle.deliveries.specs.Code.{Goes, OrMemory}
use Rattle.deliveries.specs.Limits.{most_schema, most_source, most_store}
use Rattle.deliveries.specs.Plan.{Given}
use Rattle.deliveries.specs.Steps.{Ends, refused, IsRead, IsNotRead}
use Rattle.plans.specs.Opening.{IsSchemaOf, BreaksSchema, schema_refusal, IsProgramOf, HasNoProgram}
use Rattle.plans.proofs.Fetched.{read_there, not_read_there}
use Rattle.qbs.specs.Opened.{reads_all, AreRead, none_due, has_all, AreOpened, none_held}
use Rattle.qbs.specs.Store.{IsStoreRead, IsStoreUnread, HasNoBank}

-- ---- the files

not_read : (files : Given) (schema source : List ℕ) (store : Option (List ℕ)) (next : List ℕ → List ℕ → Option (List ℕ) → Ends) (plan : Plan) →
    reads_all files schema source store none_due plan → reads_all files schema source store next plan
not_read files schema source store next plan (inl h) = inl h
not_read files schema source store next plan (inr (s, read, inl h)) = inr (s, read, inl h)
not_read files schema source store next plan (inr (s, read, inr (t, has, inl h))) = inr (s, read, inr (t, has, inl h))
not_read files schema source store next plan (inr (s, read, inr (t, has, inr (b, there, h)))) = absurd h

-- one of them isn't read
pub unread_due : {A : Type 0} (Is : A → Type 0) (files : Given) (schema source : List ℕ) (store : Option (List ℕ)) (next : List ℕ → List ℕ → Option (List ℕ) → Ends) (stop : Stop) →
    Goes {A = A} (Err stop) Is (reads_all files schema source store none_due) → OrMemory (Err stop) (reads_all files schema source store next)
unread_due Is files schema source store next (Stop.Due plan) h = not_read files schema source store next plan h
unread_due Is files schema source store next Stop.Memory h = tt

-- all are
pub read_due : (files : Given) (schema source : List ℕ) (store : Option (List ℕ)) (next : List ℕ → List ℕ → Option (List ℕ) → Ends) (s t : List ℕ) (b : Option (List ℕ)) (result : Result Plan Stop) →
    AreRead files schema source store s t b → OrMemory result (next s t b) → OrMemory result (reads_all files schema source store next)
read_due files schema source store next s t b (Ok plan) r h = inr (s, r.read_schema, inr (t, r.read_source, inr (b, r.read_store, h)))
read_due files schema source store next s t b (Err (Stop.Due plan)) r h = inr (s, r.read_schema, inr (t, r.read_source, inr (b, r.read_store, h)))
read_due files schema source store next s t b (Err Stop.Memory) r h = tt

-- ---- what they hold

not_held : (s t : List ℕ) (b : Option (List ℕ)) (next : Schema → PlainProgram → Option (List SmallDb) → Ends) (plan : Plan) → has_all s t b none_held plan → has_all s t b next plan
not_held s t b next plan (inl h) = inl h
not_held s t b next plan (inr (tables, is, inl h)) = inr (tables, is, inl h)
not_held s t b next plan (inr (tables, is, inr (p, read, inl h))) = inr (tables, is, inr (p, read, inl h))
not_held s t b next plan (inr (tables, is, inr (p, read, inr (bank, held, h)))) = absurd h

pub unheld_due : {A : Type 0} (Is : A → Type 0) (s t : List ℕ) (b : Option (List ℕ)) (next : Schema → PlainProgram → Option (List SmallDb) → Ends) (stop : Stop) →
    Goes {A = A} (Err stop) Is (has_all s t b none_held) → OrMemory (Err stop) (has_all s t b next)
unheld_due Is s t b next (Stop.Due plan) h = not_held s t b next plan h
unheld_due Is s t b next Stop.Memory h = tt

pub held_due : (s t : List ℕ) (b : Option (List ℕ)) (next : Schema → PlainProgram → Option (List SmallDb) → Ends) (tables : Schema) (p : PlainProgram) (bank : Option (List SmallDb)) (result : Result Plan Stop) →
    AreOpened s t b tables p bank → OrMemory result (next tables p bank) → OrMemory result (has_all s t b next)
held_due s t b next tables p bank (Ok plan) o h = inr (tables, o.is_schema, inr (p, o.is_program, inr (bank, o.is_bank, h)))
held_due s t b next tables p bank (Err (Stop.Due plan)) o h = inr (tables, o.is_schema, inr (p, o.is_program, inr (bank, o.is_bank, h)))
held_due s t b next tables p bank (Err Stop.Memory) o h = tt

-- ---- reading them, one behind the other

-- what is told of a store later, in terms of the whole call
pub store_there : (told later : List ℕ → Option (List ℕ)) (after rose : List ℕ → Type 0) (name : Option (List ℕ)) (read : Option (List ℕ)) → later ≡ told →
    IsStoreRead (record { told = later; failed = after }) name read → IsStoreRead (record { told = told; failed = rose }) name read
store_there told later after rose None read same is = is
store_there told later after rose (Some name) read same is = (is.0, read_there told later after rose name most_store is.0 same is.1, is.2)

pub store_not_there : (told later : List ℕ → Option (List ℕ)) (after rose : List ℕ → Type 0) (name : Option (List ℕ)) (plan : Plan) → later ≡ told → ((name : List ℕ) → after name → rose name) →
    IsStoreUnread (record { told = later; failed = after }) name plan → IsStoreUnread (record { told = told; failed = rose }) name plan
store_not_there told later after rose None plan same f h = h
store_not_there told later after rose (Some name) plan same f h = not_read_there told later after rose name most_store (codes "store") plan same f h

module _ {A : Type 0} (Is : A → Type 0) (told : List ℕ → Option (List ℕ)) (rose : List ℕ → Type 0) (schema source : List ℕ) (store : Option (List ℕ)) where
  abbrev call : Given
  call = record { told = told; failed = rose }

  pub schema_unread : {B : Type 0} (From : B → Type 0) (stop : Stop) → Goes {A = B} (Err stop) From (IsNotRead call schema most_schema (codes "schema")) → Goes {A = A} (Err stop) Is (reads_all call schema source store none_due)
  schema_unread From (Stop.Due plan) h = inl h
  schema_unread From Stop.Memory h = tt

  pub source_unread : {B : Type 0} (From : B → Type 0) (later : List ℕ → Option (List ℕ)) (after : List ℕ → Type 0) (s : List ℕ) (stop : Stop) → later ≡ told → ((name : List ℕ) → after name → rose name) → IsRead call schema most_schema s →
      Goes {A = B} (Err stop) From (IsNotRead (record { told = later; failed = after }) source most_source (codes "source")) → Goes {A = A} (Err stop) Is (reads_all call schema source store none_due)
  source_unread From later after s (Stop.Due plan) same f read h = inr (s, read, inl (not_read_there told later after rose source most_source (codes "source") plan same f h))
  source_unread From later after s Stop.Memory same f read h = tt

  pub store_unread : {B : Type 0} (From : B → Type 0) (later last : List ℕ → Option (List ℕ)) (after end : List ℕ → Type 0) (s t : List ℕ) (stop : Stop) → later ≡ told → last ≡ told → ((name : List ℕ) → end name → rose name) →
      IsRead call schema most_schema s → IsRead (record { told = later; failed = after }) source most_source t →
      Goes {A = B} (Err stop) From (IsStoreUnread (record { told = last; failed = end }) store) → Goes {A = A} (Err stop) Is (reads_all call schema source store none_due)
  store_unread From later last after end s t (Stop.Due plan) same also f read has h =
      inr (s, read, inr (t, read_there told later after rose source most_source t same has, inl (store_not_there told last end rose store plan also f h)))
  store_unread From later last after end s t Stop.Memory same also f read has h = tt

  pub all_read : (later last : List ℕ → Option (List ℕ)) (after end : List ℕ → Type 0) (s t : List ℕ) (b : Option (List ℕ)) → later ≡ told → last ≡ told → IsRead call schema most_schema s → IsRead (record { told = later; failed = after }) source most_source t →
      IsStoreRead (record { told = last; failed = end }) store b → AreRead call schema source store s t b
  all_read later last after end s t b same also read has there =
      record { read_schema = read; read_source = read_there told later after rose source most_source t same has; read_store = store_there told last end rose store b also there }

-- ---- telling them apart

module _ {A : Type 0} (Is : A → Type 0) (s t : List ℕ) (b : Option (List ℕ)) where
  pub schema_unheld : {B : Type 0} (From : B → Type 0) (stop : Stop) → Goes {A = B} (Err stop) From (refused (BreaksSchema s) schema_refusal) → Goes {A = A} (Err stop) Is (has_all s t b none_held)
  schema_unheld From (Stop.Due plan) h = inl h
  schema_unheld From Stop.Memory h = tt

  pub source_unheld : {B : Type 0} (From : B → Type 0) (tables : Schema) (stop : Stop) → IsSchemaOf s tables → Goes {A = B} (Err stop) From (HasNoProgram tables t) → Goes {A = A} (Err stop) Is (has_all s t b none_held)
  source_unheld From tables (Stop.Due plan) is h = inr (tables, is, inl h)
  source_unheld From tables Stop.Memory is h = tt

  pub store_unheld : {B : Type 0} (From : B → Type 0) (tables : Schema) (p : PlainProgram) (stop : Stop) → IsSchemaOf s tables → IsProgramOf tables t p → Goes {A = B} (Err stop) From (HasNoBank tables b) → Goes {A = A} (Err stop) Is (has_all s t b none_held)
  store_unheld From tables p (Stop.Due plan) is read h = inr (tables, is, inr (p, read, inl h))
  store_unheld From tables p Stop.Memory is read h = tt
