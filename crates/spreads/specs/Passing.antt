-- The rows of a select's table that pass its condition.
use Rattle.std.specs.Prelude.{List, [], ◌∷◌, Bool}
use Rattle.std.specs.List.{filter}
use Rattle.qbs_base.specs.declared.scalar.Row.{Row}
use Rattle.qbs_base.specs.declared.scalar.Scalar.{Scalar}
use Rattle.qbs_base.specs.Tables.{rows_of}
use Rattle.qbs_base.specs.Values.{Database}
use Rattle.sql_ast.specs.declared.tree.FromItem.{FromItem}
use Rattle.sql_ast.specs.Meaning.{passes}
use Rattle.sql_ast.specs.Tree.{PlainListing}

-- whether a row passes: its position doesn't matter, a plain condition has none
abbrev pub row_passes : Database → List Scalar → PlainListing → Row → Bool
row_passes db xs q row = passes db xs q.filter ((0, row) ∷ [])

-- the rows of the table that pass, in their order
abbrev pub passing : Database → List Scalar → PlainListing → FromItem → List Row
passing db xs q from = filter (row_passes db xs q) (rows_of db from.table)
