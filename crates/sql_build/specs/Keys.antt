-- Positions of FROM items, and keys of ORDER BY that are positions.
use Rattle.std.specs.Prelude.{ℕ, Bool, false}
use Rattle.sql_ast.specs.declared.tree.SqlCol.{SqlCol}
use Rattle.sql_ast.specs.declared.tree.SqlColumn.TheVariants as columns
use Rattle.sql_ast.specs.declared.tree.SqlKey.{SqlKey}

abbrev pub position : ℕ → SqlCol
position n = record { item = n; column = columns.Pos }

abbrev pub position_key : Bool → ℕ → SqlKey
position_key least n = record { least = least; col = position n; down = false }
