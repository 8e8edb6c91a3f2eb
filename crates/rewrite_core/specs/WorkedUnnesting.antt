-- A program that asks for the roles of each user, and the one that asks once.
use Rattle.std.specs.Prelude.{◌≡◌, [], ◌∷◌, codes}
use Rattle.sql_ast.specs.Worked.{staff_schema}
use Rattle.java_ast.specs.Tree.{Spelled, String, ListOf, Expression, NewList, Query, NoMore, PlainProgram}
use Rattle.java_mean.specs.Keeps.{Keeps}
use Rattle.java_mean.specs.Worked.{somewhere, declare, give, method, out}
use Rattle.spreads.specs.Worked.{asking}
use Rattle.rewrite_core.specs.TriedAsking.{AllMayBeAsked}
use Rattle.rewrite_core.specs.Unnesting.{all_unnested, unnested}
use Rattle.rewrite_core.specs.Worked.{giving}

abbrev pub labels : Spelled
labels = ListOf String

-- List<String> out = new ArrayList<>();
-- for (User u : db.fetch(User.class)) {
--     for (Role r : db.query(Role.class, "SELECT t1.* FROM Role t1 WHERE t1.id = ?1 ORDER BY t1._pos", u.roleId)) { out.add(r.label); }
-- }
-- return out;
abbrev pub asking_each : PlainProgram
asking_each = giving labels (method (declare labels out (NewList somewhere) ∷ asking ∷ give out ∷ []))

abbrev joined : Expression
joined = Query somewhere String (codes "SELECT t2.label FROM User t1, Role t2 WHERE t1.roleId = t2.id ORDER BY t1._pos, t2._pos") NoMore

abbrev pub asking_once : PlainProgram
asking_once = giving labels (method (declare labels out joined ∷ give out ∷ []))

-- The spread of the loop may be asked for, and the program that comes of it does what the first one does.
pub record WorkedUnnesting : Type 0 where
  pub may : AllMayBeAsked staff_schema (all_unnested staff_schema 2 10 asking_each)
  pub becomes : unnested staff_schema 2 10 asking_each ≡ asking_once
  pub keeps : Keeps asking_each asking_once staff_schema
