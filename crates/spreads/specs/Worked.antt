-- A loop that asks for the roles of each user, and its spread.
use Rattle.std.specs.Prelude.{ℕ, List, [], ◌∷◌, false, codes}
use Rattle.std.specs.declared.option.Option.TheVariants.{Some, None}
use Rattle.qbs_base.specs.declared.scalar.Ty.TheVariants as tys
use Rattle.sql_ast.specs.declared.tree.Cmp.TheVariants as tests
use Rattle.sql_ast.specs.declared.tree.SqlCol.{SqlCol}
use Rattle.sql_ast.specs.declared.tree.SqlColumn.TheVariants as columns
use Rattle.sql_ast.specs.declared.tree.SqlItem.TheVariants as items
use Rattle.sql_ast.specs.declared.tree.SqlOpnd.TheVariants as opnds
use Rattle.sql_ast.specs.Tree.{Compare, Where, PlainQuery, Listing}
use Rattle.java_ast.specs.declared.tree.Op.TheVariants as ops
use Rattle.java_ast.specs.Tree.{Table, ListOf, String, Expression, Var, Binary, Fetch, Query, NewList, NoMore, And, Statement, Declare, Add, ForEach, If, Statements, Nothing, Then, PlainProgram, Field}
use Rattle.java_mean.specs.declared.types.JavaType.TheVariants.{Listed}
use Rattle.java_mean.specs.declared.types.Single.TheVariants.{ScalarOf}
use Rattle.java_mean.specs.Types.{Types, with_type}
use Rattle.java_mean.specs.Worked.{somewhere, User, Role, u, out}
use Rattle.spreads.specs.WorkedNarrow.{program_of}

abbrev pub r : List ℕ
r = codes "r"

abbrev pub roles : List ℕ
roles = codes "roles"

abbrev pub id_of_role : SqlCol
id_of_role = record { item = 1; column = columns.Named (codes "id") 0 }

-- SELECT t1.* FROM Role t1 WHERE t1.id = ?1 ORDER BY t1._pos
abbrev pub by_id : PlainQuery
by_id =
    Listing (record {
      item = items.Whole 1;
      from = record { name = Role; table = 1 } ∷ [];
      filter = Where (Compare tests.Eq (opnds.Column id_of_role) (opnds.Param 1));
      group = None;
      keys = record { least = false; col = record { item = 1; column = columns.Pos }; down = false } ∷ [];
      limit = None;
      params = tys.Long ∷ [];
    })

abbrev pub by_id_text : List ℕ
by_id_text = codes "SELECT t1.* FROM Role t1 WHERE t1.id = ?1 ORDER BY t1._pos"

abbrev pub asked : Expression
asked = Query somewhere (Table Role) by_id_text (And (Field somewhere (Var somewhere u) (codes "roleId")) NoMore)

abbrev pub add_label : Statements
add_label = Then (Add somewhere out (Field somewhere (Var somewhere r) (codes "label"))) Nothing

abbrev pub each_user : Statements → Statement
each_user body = ForEach somewhere (Table User) u (Fetch somewhere User) body

abbrev pub asking : Statement
asking = each_user (Then (ForEach somewhere (Table Role) r asked add_label) Nothing)

-- the list declared before
abbrev pub declare_roles : Statement
declare_roles = Declare somewhere (ListOf (Table Role)) roles asked

abbrev pub walk_roles : Statements
walk_roles = Then (ForEach somewhere (Table Role) r (Var somewhere roles) add_label) Nothing

abbrev pub declaring : Statement
declaring = each_user (Then declare_roles walk_roles)

abbrev pub walk_out : Statements
walk_out =
    Then (ForEach somewhere (Table Role) r (Fetch somewhere Role)
    (Then (If somewhere (Binary somewhere ops.Eq (Field somewhere (Var somewhere r) (codes "id")) (Field somewhere (Var somewhere u) (codes "roleId"))) add_label) Nothing)) Nothing

abbrev pub spread_out : Statement
spread_out = each_user walk_out

-- the list that the loop adds to is visible
abbrev pub with_out : Types
with_out = with_type out (Some (Listed (ScalarOf tys.Text))) (λ x. None)

-- List<String> out = new ArrayList<>(); and then the loop
abbrev pub labelling : Statement → PlainProgram
labelling s = program_of (Then (Declare somewhere (ListOf String) out (NewList somewhere)) (Then s Nothing))
