-- Queries that are selects, and ones that are not.
use Rattle.std.specs.Prelude.{ℕ, List, [], ◌∷◌, Bool, false, codes}
use Rattle.std.specs.declared.option.Option.TheVariants.{None}
use Rattle.qbs_base.specs.declared.columns.Column.{Column}
use Rattle.qbs_base.specs.declared.scalar.Ty.{Ty}
use Rattle.qbs_base.specs.declared.scalar.Ty.TheVariants as tys
use Rattle.qbs_base.specs.Values.{Schema}
use Rattle.sql_ast.specs.declared.tree.Cmp.TheVariants as tests
use Rattle.sql_ast.specs.declared.tree.SqlCol.{SqlCol}
use Rattle.sql_ast.specs.declared.tree.SqlColumn.TheVariants as columns
use Rattle.sql_ast.specs.declared.tree.SqlItem.TheVariants as items
use Rattle.sql_ast.specs.declared.tree.SqlKey.{SqlKey}
use Rattle.sql_ast.specs.declared.tree.SqlOpnd.TheVariants as opnds
use Rattle.sql_ast.specs.Tree.{Condition, Both, Not, Compare, Bare, Filter, PlainListing}

abbrev column : List ℕ → Ty → Column
column name ty = record { name = name; ty = ty; not_null = false; primary = false }

-- User (id INTEGER, name TEXT, active BOOLEAN)
abbrev pub users : Schema
users = record { name = codes "User"; columns = column (codes "id") tys.Long ∷ column (codes "name") tys.Text ∷ column (codes "active") tys.Bool ∷ [] } ∷ []

abbrev pub id : SqlCol
id = record { item = 1; column = columns.Named (codes "id") 0 }

abbrev pub name : SqlCol
name = record { item = 1; column = columns.Named (codes "name") 1 }

abbrev pub active : SqlCol
active = record { item = 1; column = columns.Named (codes "active") 2 }

abbrev pub position : SqlCol
position = record { item = 1; column = columns.Pos }

abbrev pub by : Bool → List SqlKey
by down = record { least = false; col = position; down = down } ∷ []

-- SELECT t1.* FROM User t1, with that filter, those keys, and parameters of these types
abbrev pub listing_by : List SqlKey → Filter → List Ty → PlainListing
listing_by keys filter_ params =
    record {
      item = items.Whole 1;
      from = record { name = codes "User"; table = 0 } ∷ [];
      filter = filter_;
      group = None;
      keys = keys;
      limit = None;
      params = params;
    }

-- t1.id < ?1 AND NOT t1.active AND t1.name <> ?2
abbrev pub plain : Condition
plain = Both (Both (Compare tests.Lt (opnds.Column id) (opnds.Param 1)) (Not (Bare active))) (Compare tests.Ne (opnds.Column name) (opnds.Param 2))

-- t1.name < ?1
abbrev pub texts_in_order : Condition
texts_in_order = Compare tests.Lt (opnds.Column name) (opnds.Param 1)

-- t1._pos = 0
abbrev pub at_a_position : Condition
at_a_position = Compare tests.Eq (opnds.Column position) (opnds.Param 1)
