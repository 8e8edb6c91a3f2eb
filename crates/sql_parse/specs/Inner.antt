-- Comparisons, and the SELECTs inside a condition, behind the FROM items that are in sight.
use Rattle.std.specs.Prelude.{List, ◌++◌, length}
use Rattle.std.specs.declared.option.Option.{Option}
use Rattle.std.specs.declared.option.Option.TheVariants.{Some}
use Rattle.qbs_base.specs.Values.{Schema}
use Rattle.sql_ast.specs.declared.tree.Cmp.{Cmp}
use Rattle.sql_ast.specs.declared.tree.FromItem.{FromItem}
use Rattle.sql_ast.specs.declared.tree.SqlCol.{SqlCol}
use Rattle.sql_ast.specs.declared.tree.SqlOpnd.{SqlOpnd}
use Rattle.sql_ast.specs.Names.{◌>>=◌, Known, Scope, known_parts, named_col, named_opnd, froms_of}
use Rattle.sql_ast.specs.Tree.{Condition}
use Rattle.sql_ast.specs.Tree as plain
use Rattle.sql_ast.specs.Written.{WrittenCol, WrittenOpnd, WrittenPart}
use Rattle.sql_parse.specs.Scopes.{scope_of}

abbrev pub compared_in : Scope → Cmp → WrittenOpnd → WrittenOpnd → Option Condition
compared_in scope cmp a b = named_opnd scope a >>= λ x. named_opnd scope b >>= λ y. Some (plain.Compare cmp x y)

-- the FROM items of a SELECT, and all that is in sight inside it
abbrev pub entered_in : Schema → List Known → List WrittenPart → Option (List FromItem × List Known)
entered_in schema outer parts = known_parts schema parts >>= λ own. Some (froms_of own, outer ++ own)

-- the operand before IN, the column and the FROM items of the SELECT behind it, and all that is in
-- sight inside it
abbrev pub membership_in : Schema → Scope → List Known → WrittenOpnd → WrittenCol → List WrittenPart → Option (SqlOpnd × SqlCol × List FromItem × List Known)
membership_in schema scope outer opnd col parts =
    named_opnd scope opnd
    >>= λ x. entered_in schema outer parts
    >>= λ inner. named_col (scope_of (length outer) inner.1) col
    >>= λ c. Some (x, c, inner.0, inner.1)
