-- What is so of the files and of both sinks where a command that reads a schema and a source ended well, and wrote a text and a report.
use Rattle.std.specs.Prelude.{ℕ, List}
use Rattle.std.specs.declared.option.Option.{Option}
use Rattle.std.specs.Io.KnownBytes.{Appends}
use Rattle.deliveries.specs.Deliver.{Change}
use Rattle.deliveries.specs.Limits.{most_schema, most_source}
use Rattle.deliveries.specs.Plan.{Given}
use Rattle.deliveries.specs.Steps.{IsRead}
use Rattle.qbs.specs.Store.{IsStoreRead}

-- the bytes read of the schema and the source, the text and the lines are so, and both sinks have grown by these
pub record HasWritten (files : Given) (schema source : List ℕ) (Is : List ℕ → List ℕ → List ℕ → List ℕ → Type 0) (out rep : Change) : Type 0 where
  pub schema_read : List ℕ
  pub source_read : List ℕ
  pub text : List ℕ
  pub lines : List ℕ
  pub read_schema : IsRead files schema most_schema schema_read
  pub read_source : IsRead files source most_source source_read
  pub is : Is schema_read source_read text lines
  pub wrote_text : Appends out.old out.new text
  pub wrote_lines : Appends rep.old rep.new lines

-- the same of a command that may read a store beside them
pub record HasWrittenBeside (files : Given) (schema source : List ℕ) (store : Option (List ℕ)) (Is : List ℕ → List ℕ → Option (List ℕ) → List ℕ → List ℕ → Type 0) (out rep : Change) : Type 0 where
  pub schema_read : List ℕ
  pub source_read : List ℕ
  pub store_read : Option (List ℕ)
  pub text : List ℕ
  pub lines : List ℕ
  pub read_schema : IsRead files schema most_schema schema_read
  pub read_source : IsRead files source most_source source_read
  pub read_store : IsStoreRead files store store_read
  pub is : Is schema_read source_read store_read text lines
  pub wrote_text : Appends out.old out.new text
  pub wrote_lines : Appends rep.old rep.new lines
