-- Walks over the users that are narrowed: one over a fetch, and one over a list that is declared before.
use Rattle.std.specs.Prelude.{ℕ, List, [], ◌∷◌, false, codes}
use Rattle.std.specs.declared.option.Option.TheVariants.{None}
use Rattle.java_ast.specs.declared.tree.Access.TheVariants as access
use Rattle.java_ast.specs.declared.tree.Op.TheVariants as ops
use Rattle.java_ast.specs.Tree.{Table, ListOf, Long, Boolean, String, Expression, Var, Field, Binary, Not, Equals, Fetch, Query, NoMore, And, Declare, Add, ForEach, If, Statements, Nothing, Then, PlainMethod, PlainProgram}
use Rattle.java_mean.specs.Worked.{somewhere, User, u, out}

abbrev column : List ℕ → Expression
column f = Field somewhere (Var somewhere u) f

abbrev limit : Expression
limit = Var somewhere (codes "limit")

abbrev name : Expression
name = Var somewhere (codes "name")

-- u.active && u.age > limit && isOdd && !(u.name.equals(name) || u.id == limit)
abbrev pub condition : Expression
condition =
    Binary somewhere ops.And
    (Binary somewhere ops.And (Binary somewhere ops.And (column (codes "active")) (Binary somewhere ops.Gt (column (codes "age")) limit)) (Var somewhere (codes "isOdd")))
    (Not somewhere (Binary somewhere ops.Or (Equals somewhere (column (codes "name")) name) (Binary somewhere ops.Eq (column (codes "id")) limit)))

abbrev pub body : Statements
body = Then (If somewhere condition (Then (Add somewhere out (Var somewhere u)) Nothing)) Nothing

abbrev pub users : Expression
users = Fetch somewhere User

-- one variable has one number; what isn't plain is left to the `if`
abbrev pub users_asked : Expression
users_asked =
    Query somewhere (Table User)
    (codes "SELECT t1.* FROM User t1 WHERE t1.active = TRUE AND t1.age > ?1 AND NOT (t1.name = ?2 OR t1.id = ?1) ORDER BY t1._pos") (And limit (And name NoMore))

abbrev pub walking : Expression → Statements
walking e = Then (ForEach somewhere (Table User) u e body) Nothing

abbrev all : List ℕ
all = codes "all"

abbrev pub declaring : Expression → Statements
declaring e = Then (Declare somewhere (ListOf (Table User)) all e) (walking (Var somewhere all))

abbrev pub method_of : Statements → PlainMethod
method_of p =
    record {
      access = access.Plain;
      fixed = false;
      result = None;
      name = codes "m";
      params = record { ty = Long; name = codes "limit" } ∷ record { ty = Boolean; name = codes "isOdd" } ∷ record { ty = String; name = codes "name" } ∷ [];
      body = p;
      span = somewhere;
    }

abbrev pub program_of : Statements → PlainProgram
program_of p = record { «package» = None; imports = []; public = false; name = codes "C"; methods = method_of p ∷ [] }
