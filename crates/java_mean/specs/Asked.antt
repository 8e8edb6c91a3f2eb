-- The worked programs with queries in place of their loops, and what finds the queries.
use Rattle.std.specs.Prelude.{ℕ, pos, true, false, List, [], ◌∷◌, codes, if◌then◌else◌}
use Rattle.std.specs.Str.{bytes_eq}
use Rattle.std.specs.declared.option.Option.TheVariants.{Some, None}
use Rattle.qbs_base.specs.declared.span.Span.{Span}
use Rattle.qbs_base.specs.declared.scalar.Ty.{Ty}
use Rattle.qbs_base.specs.declared.scalar.Ty.TheVariants as tys
use Rattle.java_ast.specs.Tree.{Table, String, Long, SetOf, Var, Fetch, Query, QueryLong, NewSetOf, NoMore, And, Print, PlainMethod}
use Rattle.sql_ast.specs.declared.tree.Cmp.TheVariants as cmps
use Rattle.sql_ast.specs.declared.tree.NumberKind.{NumberKind}
use Rattle.sql_ast.specs.declared.tree.NumberKind.TheVariants as totals
use Rattle.sql_ast.specs.declared.tree.SqlCol.{SqlCol}
use Rattle.sql_ast.specs.declared.tree.SqlColumn.TheVariants as columns
use Rattle.sql_ast.specs.declared.tree.SqlItem.TheVariants as items
use Rattle.sql_ast.specs.declared.tree.SqlOpnd.TheVariants as operands
use Rattle.sql_ast.specs.Tree.{PlainQuery, Listing, Number, Filter, Everything, Where, Compare}
use Rattle.java_mean.specs.FirstForm.{selection}
use Rattle.java_mean.specs.Outcome.{world_with}
use Rattle.java_mean.specs.World.{World}
use Rattle.java_mean.specs.Worked.{User, Role, Pay, somewhere, u, out, users, field, declare, for_each, give, method}

-- the same world, where this text has this query and no other has one
abbrev pub asking : World → List ℕ → PlainQuery → World
asking w text q = world_with w.schema (λ t. if bytes_eq t text then Some q else None) w.db

abbrev pub column : List ℕ → ℕ → SqlCol
column name number = record { item = 1; column = columns.Named name number }

abbrev pub total : NumberKind → List ℕ → ℕ → Filter → List Ty → PlainQuery
total kind name table condition params =
    Number (record { kind = kind; from = record { name = name; table = table } ∷ []; filter = condition; params = params })

abbrev pub staff_text : List ℕ
staff_text = codes "SELECT t1.* FROM User t1 WHERE t1.roleId = 2 ORDER BY t1._pos"

abbrev pub staff_query : PlainQuery
staff_query = selection User 0 (codes "roleId") 2 (pos 2)

abbrev pub class_A_asking : PlainMethod
class_A_asking = method (declare users out (Query somewhere (Table User) staff_text NoMore) ∷ give out ∷ [])

abbrev pub sum_text : List ℕ
sum_text = codes "SELECT COALESCE(SUM(t1.amount), 0) FROM Pay t1"

abbrev pub sum_query : PlainQuery
sum_query = total (totals.Sum (column (codes "amount") 1) (pos 0)) Pay 0 Everything []

-- where the loop of class D stood
abbrev pub loop_place : Span
loop_place = record { line = 4; column = 9; start = 59; end = 138 }

abbrev pub class_D_asking : PlainMethod
class_D_asking = method (declare Long (codes "sum") (QueryLong loop_place sum_text NoMore) ∷ give (codes "sum") ∷ [])

abbrev pub count_text : List ℕ
count_text = codes "SELECT COUNT(*) FROM Role t1 WHERE t1.id = ?1"

abbrev pub count_query : PlainQuery
count_query = total totals.Count Role 1 (Where (Compare cmps.Eq (operands.Column (column (codes "id") 0)) (operands.Param 1))) (tys.Long ∷ [])

abbrev pub class_J_asking : PlainMethod
class_J_asking =
    method
    (for_each User u (Fetch somewhere User)
    (declare Long (codes "n") (QueryLong somewhere count_text (And (field u (codes "roleId")) NoMore))
    ∷ Print somewhere (Var somewhere (codes "n"))
    ∷ [])
    ∷ [])

abbrev pub names_text : List ℕ
names_text = codes "SELECT t1.name FROM User t1 GROUP BY t1.name ORDER BY MIN(t1._pos)"

abbrev pub names_query : PlainQuery
names_query =
    Listing
    (record {
      item = items.Column (column (codes "name") 1);
      from = record { name = User; table = 0 } ∷ [];
      filter = Everything;
      group = Some (column (codes "name") 1);
      keys = record { least = true; col = record { item = 1; column = columns.Pos }; down = false } ∷ [];
      limit = None;
      params = [];
    })

abbrev pub name_set_asking : PlainMethod
name_set_asking =
    method
    (declare (SetOf String) (codes "names") (NewSetOf somewhere (Query somewhere String names_text NoMore))
    ∷ give (codes "names")
    ∷ [])
