-- The files that a command reads, in their order.
use Rattle.std.proofs.Common.{◌≡◌, ◌≤◌, ◌⊎◌, ℕ, List, [], ◌∷◌, ◌++◌, Option, IfSome, Ok, refl, subst, inl, inr}
use Rattle.qbs_base.specs.declared.columns.Table.{Table}
use Rattle.schema.specs.Schemas.{schema_of}
use Rattle.deliveries.specs.Reads.{Looks, OnlyReads}
use Rattle.deliveries.proofs.Reading.{reads_none, reads_first, reads_then}
use Rattle.plans.specs.Tables.{table_files}
use Rattle.qbs.specs.Top.{ReadsTables, ReadsTablesOf}

-- a schema that isn't one has no tables to read
pub no_tables : {D : Type 0} (l : Looks D) (folder bytes : List ℕ) (files : D) → ReadsTablesOf l folder bytes files files
no_tables l folder bytes files = record { tables = []; of_schema = inl refl; reads = reads_none l [] files }

pub tables_read : {D : Type 0} (l : Looks D) (folder bytes : List ℕ) (tables lent : List Table) (old new : D) → schema_of bytes ≡ Ok tables → lent ≡ tables →
    OnlyReads l (table_files folder lent) old new → ReadsTablesOf l folder bytes old new
tables_read l folder bytes tables lent old new is same h =
    record { tables = tables; of_schema = inr is; reads = subst (λ (ts : List Table). OnlyReads l (table_files folder ts) old new) same h }

-- the first file, or the first two, are read, and no tables
pub one_read : {D : Type 0} (l : Looks D) (first : List ℕ) (others : List (List ℕ)) (folder schema : List ℕ) (old new : D) → l.by_read old first new → l.told new ≡ l.told old → l.faults old ≤ l.faults new →
    ((other : List ℕ) → l.may_fail new other → l.may_fail old other) → ReadsTables l (first ∷ others) folder schema old new
one_read l first others folder schema old new read held later fewer =
    record { tables = []; of_schema = inl refl; reads = reads_first l first (others ++ []) old new read held later fewer }

pub two_read : {D : Type 0} (l : Looks D) (first second folder schema : List ℕ) (old between new : D) → l.by_read old first between → l.told between ≡ l.told old → l.faults old ≤ l.faults between →
    ((other : List ℕ) → l.may_fail between other → l.may_fail old other) → l.by_read between second new → l.told new ≡ l.told between → l.faults between ≤ l.faults new →
    ((other : List ℕ) → l.may_fail new other → l.may_fail between other) → ReadsTables l (first ∷ second ∷ []) folder schema old new
two_read l first second folder schema old between new read held later fewer further stays rises less =
    record {
      tables = [];
      of_schema = inl refl;
      reads = reads_then l first (second ∷ []) old between new read held later fewer (reads_first l second [] between new further stays rises less);
    }

-- the bytes of a schema are those that are told, and then the files of its tables are read
of_told : (told : Option (List ℕ)) (bytes lent : List ℕ) (tables : List Table) → lent ≡ bytes → IfSome told (λ all. bytes ≡ all) → (tables ≡ []) ⊎ (schema_of lent ≡ Ok tables) →
    (tables ≡ []) ⊎ ((s : List ℕ) × IfSome told (λ all. s ≡ all) × (schema_of s ≡ Ok tables))
of_told told bytes lent tables same is (inl none) = inl none
of_told told bytes lent tables same is (inr has) = inr (bytes, is, subst (λ (s : List ℕ). schema_of s ≡ Ok tables) same has)

pub then_tables : {D : Type 0} (l : Looks D) (first folder schema bytes lent : List ℕ) (old between new : D) → l.by_read old first between → l.told between ≡ l.told old → l.faults old ≤ l.faults between →
    ((other : List ℕ) → l.may_fail between other → l.may_fail old other) → lent ≡ bytes → IfSome (l.told old schema) (λ all. bytes ≡ all) → ReadsTablesOf l folder lent between new →
    ReadsTables l (first ∷ []) folder schema old new
then_tables l first folder schema bytes lent old between new read held later fewer same is h =
    record {
      tables = h.tables;
      of_schema = of_told (l.told old schema) bytes lent h.tables same is h.of_schema;
      reads = reads_then l first (table_files folder h.tables) old between new read held later fewer h.reads;
    }

pub two_then_tables : {D : Type 0} (l : Looks D) (first second folder schema bytes lent : List ℕ) (old between later_on new : D) → l.by_read old first between → l.told between ≡ l.told old → l.faults old ≤ l.faults between →
    ((other : List ℕ) → l.may_fail between other → l.may_fail old other) → l.by_read between second later_on → l.told later_on ≡ l.told between → l.faults between ≤ l.faults later_on →
    ((other : List ℕ) → l.may_fail later_on other → l.may_fail between other) → lent ≡ bytes → IfSome (l.told old schema) (λ all. bytes ≡ all) → ReadsTablesOf l folder lent later_on new →
    ReadsTables l (first ∷ second ∷ []) folder schema old new
two_then_tables l first second folder schema bytes lent old between later_on new read held later fewer further stays rises less same is h =
    record {
      tables = h.tables;
      of_schema = of_told (l.told old schema) bytes lent h.tables same is h.of_schema;
      reads = reads_then l first (second ∷ table_files folder h.tables) old between new read held later fewer (reads_then l second (table_files folder h.tables) between later_on new further stays rises less h.reads);
    }
