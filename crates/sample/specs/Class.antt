-- The class that `make` runs. All that it has stands nowhere, since it has no text.
use Rattle.std.specs.Prelude.{ℕ, pos, false, List, [], ◌∷◌, codes}
use Rattle.std.specs.declared.option.Option.TheVariants.{Some, None}
use Rattle.qbs_base.specs.declared.scalar.Scalar.TheVariants as scalars
use Rattle.qbs_base.specs.declared.span.Span.{Span}
use Rattle.java_ast.specs.declared.tree.Access.TheVariants as access
use Rattle.java_ast.specs.declared.tree.Op.TheVariants as ops
use Rattle.java_ast.specs.Tree.{Spelled, Long, String, Table, ListOf, SetOf, Expression, Lit, Var, Field, Binary, Fetch, NewList, NewSet, Statement, Declare, Assign, Add, If, ForEach, Return, Statements, Nothing, Then, PlainMethod, PlainProgram}
use Rattle.sample_data.specs.Tables.{User, Role}

abbrev pub nowhere : Span
nowhere = record { line = 0; column = 0; start = 0; end = 0 }

-- ---- Expressions

abbrev pub variable : List ℕ → Expression
variable name = Var nowhere name

-- row.column
abbrev pub field : List ℕ → List ℕ → Expression
field row column = Field nowhere (variable row) column

-- ---- Statements

-- name.add(value);
abbrev pub adding : List ℕ → Expression → Statement
adding name value = Add nowhere name value

-- a block of one statement
abbrev pub one : Statement → Statements
one s = Then s Nothing

-- if (cond) { body }
abbrev pub where_so : Expression → Statements → Statement
where_so cond body = If nowhere cond body

-- for (Table row : db.fetch(Table.class)) { body }
abbrev pub over_rows : List ℕ → List ℕ → Statements → Statement
over_rows table row body = ForEach nowhere (Table table) row (Fetch nowhere table) body

-- ty name() { ty x = start; for (User u : db.fetch(User.class)) { body } return x; }
abbrev pub over_users : Spelled → List ℕ → List ℕ → Expression → Statements → PlainMethod
over_users ty name x start body =
    record {
      access = access.Plain;
      fixed = false;
      result = Some ty;
      name = name;
      params = [];
      body = Then (Declare nowhere ty x start) (Then (over_rows User (codes "u") body) (one (Return nowhere (Some (variable x)))));
      span = nowhere;
    }

-- ---- Methods

-- List<User> evens() {
--     List<User> out = new ArrayList<>();
--     for (User u : db.fetch(User.class)) { if (u.active) { out.add(u); } }
--     return out;
-- }
abbrev pub evens : PlainMethod
evens =
    over_users (ListOf (Table User)) (codes "evens") (codes "out") (NewList nowhere)
    (one (where_so (field (codes "u") (codes "active")) (one (adding (codes "out") (variable (codes "u"))))))

-- List<String> pairs() {
--     List<String> out = new ArrayList<>();
--     for (User u : db.fetch(User.class)) {
--         for (Role r : db.fetch(Role.class)) { if (u.roleId == r.id) { out.add(r.label); } }
--     }
--     return out;
-- }
abbrev pub pairs : PlainMethod
pairs =
    over_users (ListOf String) (codes "pairs") (codes "out") (NewList nowhere)
    (one (over_rows Role (codes "r")
    (one (where_so (Binary nowhere ops.Eq (field (codes "u") (codes "roleId")) (field (codes "r") (codes "id"))) (one (adding (codes "out") (field (codes "r") (codes "label"))))))))

-- long total() {
--     long sum = 0;
--     for (User u : db.fetch(User.class)) { sum = sum + u.age; }
--     return sum;
-- }
abbrev pub total : PlainMethod
total =
    over_users Long (codes "total") (codes "sum") (Lit nowhere (scalars.Long (pos 0)))
    (one (Assign nowhere (codes "sum") (Binary nowhere ops.Add (variable (codes "sum")) (field (codes "u") (codes "age")))))

-- Set<String> names() {
--     Set<String> out = new LinkedHashSet<>();
--     for (User u : db.fetch(User.class)) { out.add(u.name); }
--     return out;
-- }
abbrev pub names : PlainMethod
names = over_users (SetOf String) (codes "names") (codes "out") (NewSet nowhere) (one (adding (codes "out") (field (codes "u") (codes "name"))))

-- class M
unfoldable pub sample_program : PlainProgram
sample_program = record { «package» = None; imports = []; public = false; name = codes "M"; methods = evens ∷ pairs ∷ total ∷ names ∷ [] }
