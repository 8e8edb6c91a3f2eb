-- The columns of a row, and conditions in boxes.
use Rattle.std.specs.Prelude.{List}
use Rattle.std.specs.Global.{Box}
use Rattle.qbs_base.specs.declared.columns.Column.{Column}
use Rattle.qbs_base.specs.Columns.{columns_at}
use Rattle.sql_ast.specs.declared.tree.Cond.{Cond}
use Rattle.sql_ast.specs.Reading.{condition}
use Rattle.sql_ast.specs.Tree.{Condition}
use Rattle.narrowing.specs.declared.row.Row.{Row}

abbrev pub columns_of : Row → List Column
columns_of row = columns_at row.schema.now row.table

abbrev pub condition_boxed : Box Cond → Condition
condition_boxed c = condition c.value
