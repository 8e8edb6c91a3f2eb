-- Names of a schema that queries may have.
use Rattle.std.specs.Prelude.{◌≡◌, false, codes}
use Rattle.std.specs.List.{AllByRecursion}
use Rattle.std.specs.Str.{bytes_eq}
use Rattle.qbs_base.specs.declared.columns.Column.{Column}
use Rattle.qbs_base.specs.declared.columns.Table.{Table}
use Rattle.qbs_base.specs.Values.{Schema}
use Rattle.sql_ast.specs.Valid.{IsWord}

-- a word, and not that of the position
abbrev pub IsColumnWord : Column → Type 0
IsColumnWord c = IsWord c.name × (bytes_eq c.name (codes "_pos") ≡ false)

-- tables and columns have names that a query may use
pub record HasWords (schema : Schema) : Type 0 where
  pub tables : AllByRecursion (λ (t : Table). IsWord t.name) schema
  pub columns : AllByRecursion (λ (t : Table). AllByRecursion IsColumnWord t.columns) schema
