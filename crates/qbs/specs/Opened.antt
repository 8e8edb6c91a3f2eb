-- What `rewrite` and `prove` begin with: the files of a schema, a source and a store that words may name, and what these hold.
use Rattle.std.specs.Prelude.{ℕ, List, codes}
use Rattle.std.specs.declared.option.Option.{Option}
use Rattle.qbs_base.specs.Values.{Schema}
use Rattle.java_ast.specs.Tree.{PlainProgram}
use Rattle.small_dbs.specs.declared.small.SmallDb.{SmallDb}
use Rattle.deliveries.specs.Limits.{most_schema, most_source}
use Rattle.deliveries.specs.Plan.{Given}
use Rattle.deliveries.specs.Steps.{Ends, IsRead, reads}
use Rattle.plans.specs.Opening.{IsSchemaOf, IsProgramOf, has_schema, has_program}
use Rattle.qbs.specs.Store.{IsStoreRead, reads_store, IsBankOf, has_store}

-- ---- The files

-- they are read in this order
abbrev pub reads_all : Given → List ℕ → List ℕ → Option (List ℕ) → (List ℕ → List ℕ → Option (List ℕ) → Ends) → Ends
reads_all files schema source store next =
    reads files schema most_schema (codes "schema") (λ s. reads files source most_source (codes "source") (λ t. reads_store files store (λ b. next s t b)))

-- they have these bytes
pub record AreRead (files : Given) (schema source : List ℕ) (store : Option (List ℕ)) (s t : List ℕ) (b : Option (List ℕ)) : Type 0 where
  pub read_schema : IsRead files schema most_schema s
  pub read_source : IsRead files source most_source t
  pub read_store : IsStoreRead files store b

-- no plan is due behind all of them
abbrev pub none_due : List ℕ → List ℕ → Option (List ℕ) → Ends
none_due s t b plan = ⊥

-- ---- What they hold

-- it is told apart in this order
abbrev pub has_all : List ℕ → List ℕ → Option (List ℕ) → (Schema → PlainProgram → Option (List SmallDb) → Ends) → Ends
has_all s t b next = has_schema s (λ tables. has_program tables t (λ p. has_store tables b (λ bank. next tables p bank)))

-- the bytes hold these
pub record AreOpened (s t : List ℕ) (b : Option (List ℕ)) (tables : Schema) (p : PlainProgram) (bank : Option (List SmallDb)) : Type 0 where
  pub is_schema : IsSchemaOf s tables
  pub is_program : IsProgramOf tables t p
  pub is_bank : IsBankOf tables b bank

abbrev pub none_held : Schema → PlainProgram → Option (List SmallDb) → Ends
none_held tables p bank plan = ⊥
