-- A loop of the kernel form that tests a known list.
use Rattle.std.specs.Prelude.{◌≡◌, ℕ, false, List, [], ◌∷◌, Some, None, codes}
use Rattle.qbs_base.specs.declared.scalar.Ty.TheVariants as tys
use Rattle.sql_ast.specs.declared.tree.Cmp.TheVariants as tests
use Rattle.sql_ast.specs.declared.tree.SqlCol.{SqlCol}
use Rattle.sql_ast.specs.declared.tree.SqlColumn.{SqlColumn}
use Rattle.sql_ast.specs.declared.tree.SqlColumn.TheVariants as columns
use Rattle.sql_ast.specs.declared.tree.SqlItem.TheVariants as items
use Rattle.sql_ast.specs.declared.tree.SqlOpnd.TheVariants as opnds
use Rattle.sql_ast.specs.Tree.{Compare, Where, PlainQuery, Listing}
use Rattle.sql_ast.specs.Worked.{staff_schema}
use Rattle.java_ast.specs.declared.tree.Access.TheVariants as access
use Rattle.java_ast.specs.Tree.{ListOf, BoxedLong, String, Var, Query, Contains, NewList, Fetch, NoMore, And, Add, If, PlainProgram}
use Rattle.java_mean.specs.Worked.{User, Role, users, u, out, somewhere, block, field, declare, for_each, give}
use Rattle.java_types.specs.Texts.{read_by}
use Rattle.java_loops.specs.Kernel.Kernel.{lowering}
use Rattle.java_loops.specs.Kernel.Setting.{Setting}
use Rattle.java_loops.specs.Kernel.Worked.{program_of}
use Rattle.lowering.specs.Asked.{queries_in, IsKernelLoop, HasQueriesOf}

abbrev ids : List ℕ
ids = codes "ids"

abbrev label : List ℕ
label = codes "label"

abbrev pub asked_text : List ℕ
asked_text = codes "SELECT r.id FROM Role r WHERE r.label = ?1 ORDER BY r._pos"

abbrev column : SqlColumn → SqlCol
column c = record { item = 1; column = c }

-- what the text says
abbrev pub asked_query : PlainQuery
asked_query =
    Listing (record {
      item = items.Column (column (columns.Named (codes "id") 0));
      from = record { name = Role; table = 1 } ∷ [];
      filter = Where (Compare tests.Eq (opnds.Column (column (columns.Named label 1))) (opnds.Param 1));
      group = None;
      keys = record { least = false; col = column columns.Pos; down = false } ∷ [];
      limit = None;
      params = tys.Text ∷ [];
    })

-- List<User> run(String label) {
--   List<Long> ids = db.query(Long.class, "SELECT r.id FROM Role r WHERE r.label = ?1 ORDER BY r._pos", label);
--   List<User> out = new ArrayList<>();
--   for (User u : db.fetch(User.class)) { if (ids.contains(u.roleId)) { out.add(u); } }
--   return out;
-- }
abbrev pub asking : PlainProgram
asking =
    program_of (record {
      access = access.Plain;
      fixed = false;
      result = Some users;
      name = codes "run";
      params = record { ty = String; name = label } ∷ [];
      body =
          block
          (declare (ListOf BoxedLong) ids (Query somewhere BoxedLong asked_text (And (Var somewhere label) NoMore))
          ∷ declare users out (NewList somewhere)
          ∷ for_each User u (Fetch somewhere User)
          (If somewhere (Contains somewhere ids (field u (codes "roleId"))) (block (Add somewhere out (Var somewhere u) ∷ []))
          ∷ [])
          ∷ give out
          ∷ []);
      span = somewhere;
    })

-- the loop is of the kernel form, and has this known query
pub record AsksForRoles (w : Setting) : Type 0 where
  pub loop : IsKernelLoop staff_schema (read_by staff_schema) asking (0 ∷ 2 ∷ []) w
  pub asks : queries_in (lowering w).known ≡ asked_query ∷ []
  pub queries : HasQueriesOf staff_schema (lowering w)
