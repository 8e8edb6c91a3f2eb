-- The tables that entries declare, and entries of which a schema can be made.
use Rattle.std.specs.Prelude.{◌<◌, List, [], ◌∷◌, length}
use Rattle.std.specs.List.{AllByRecursion}
use Rattle.qbs_base.specs.declared.columns.Column.{Column}
use Rattle.qbs_base.specs.declared.columns.Table.{Table}
use Rattle.schema.specs.Rules.{IsSchema, AreNamed}
use Rattle.dump_text.specs.declared.entry.Part.{Part}
use Rattle.dump_text.specs.declared.entry.Part.TheVariants as parts
use Rattle.dump_text.specs.declared.entry.Entry.{Entry}
use Rattle.dump_text.specs.declared.entry.Entry.TheVariants as entries

-- the columns among the lines of a table
abbrev pub columns_of : List Part → List Column
columns_of [] = []
columns_of (parts.Column w ∷ ps) = w.column ∷ columns_of ps
columns_of (parts.Comment bs ∷ ps) = columns_of ps

-- the tables among entries
abbrev pub tables_of : List Entry → List Table
tables_of [] = []
tables_of (entries.Table t ∷ es) = record { name = t.name; columns = columns_of t.parts } ∷ tables_of es
tables_of (entries.Comment bs ∷ es) = tables_of es

-- Their tables are those of a schema: at most 64, each of 1 to 32 columns, with names of letters, digits and `_` that differ and
-- aren't reserved.
pub record AreSound (entries : List Entry) : Type 0 where
  pub schema : IsSchema (tables_of entries)
  pub named : AreNamed (tables_of entries)
  pub some : AllByRecursion (λ t. 0 < length t.columns) (tables_of entries)
