-- What the numbered rules ask of tables, and what the tokens say of their names.
use Rattle.std.specs.Prelude.{◌≡◌, ◌≤◌, true, false, List, length, map}
use Rattle.std.specs.List.{AllByRecursion, IsDistinct}
use Rattle.std.specs.Str.{bytes_eq}
use Rattle.qbs_base.specs.declared.columns.Column.{Column}
use Rattle.qbs_base.specs.declared.columns.Table.{Table}
use Rattle.schema.specs.Bytes.{is_name}
use Rattle.schema.specs.Words.{is_reserved, is_reserved_table}

-- at most 32 columns, of different names that are not reserved
pub record AreColumns (columns : List Column) : Type 0 where
  pub few : length columns ≤ 32
  pub distinct : IsDistinct bytes_eq (map (λ c. c.name) columns)
  pub free : AllByRecursion (λ c. is_reserved c.name ≡ false) columns

-- at most 64 tables, of different names that are not reserved, each of such columns
pub record IsSchema (tables : List Table) : Type 0 where
  pub few : length tables ≤ 64
  pub distinct : IsDistinct bytes_eq (map (λ t. t.name) tables)
  pub free : AllByRecursion (λ t. is_reserved_table t.name ≡ false) tables
  pub columns : AllByRecursion (λ t. AreColumns t.columns) tables

-- all tables and columns have names of letters, digits and `_`
pub record AreNamed (tables : List Table) : Type 0 where
  pub names : AllByRecursion (λ t. is_name t.name ≡ true) tables
  pub columns : AllByRecursion (λ t. AllByRecursion (λ c. is_name c.name ≡ true) t.columns) tables
