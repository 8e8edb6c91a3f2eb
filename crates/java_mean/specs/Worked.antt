-- Programs that show what the definitions say, and the tables that they run on.
use Rattle.std.specs.Prelude.{ℕ, ◌+◌, ◌-◌, ◌^◌, ℤ, pos, Bool, true, false, List, [], ◌∷◌, Some, None, codes}
use Rattle.qbs_base.specs.declared.span.Span.{Span}
use Rattle.qbs_base.specs.declared.scalar.Scalar.{Scalar}
use Rattle.qbs_base.specs.declared.scalar.Scalar.TheVariants as scalars
use Rattle.qbs_base.specs.declared.scalar.Ty.{Ty}
use Rattle.qbs_base.specs.declared.scalar.Ty.TheVariants as tys
use Rattle.qbs_base.specs.declared.scalar.Kind.TheVariants as kinds
use Rattle.qbs_base.specs.declared.scalar.Row.{Row}
use Rattle.qbs_base.specs.declared.scalar.Value.TheVariants.{One, Many}
use Rattle.qbs_base.specs.declared.columns.Column.{Column}
use Rattle.sql_ast.specs.Worked.{staff_schema, staff_tables}
use Rattle.java_ast.specs.declared.tree.Access.TheVariants as access
use Rattle.java_ast.specs.declared.tree.Op.{Op}
use Rattle.java_ast.specs.declared.tree.Op.TheVariants as ops
use Rattle.java_ast.specs.Tree.{Spelled, Int, Long, Boolean, String, Table, ListOf, SetOf, Expression, Lit, Var, Field, Binary, Size, Get, Fetch, NewList, NewSet, Statement, Declare, Assign, Add, Sort, If, ForEach, While, Print, Return, Break, Statements, Nothing, Then, PlainMethod}
use Rattle.java_mean.specs.Outcome.{Outcome, Done}
use Rattle.java_mean.specs.World.{World}

-- ---- Tables

abbrev pub long : ℕ → Scalar
long n = scalars.Long (pos n)

abbrev pub text : List ℕ → Scalar
text t = scalars.Text t

abbrev pub User : List ℕ
User = codes "User"

abbrev pub Role : List ℕ
Role = codes "Role"

abbrev pub Pay : List ℕ
Pay = codes "Pay"

abbrev column : List ℕ → Ty → Column
column name ty = record { name = name; ty = ty; not_null = false; primary = false }

abbrev pub staff : World
staff = record { schema = staff_schema; db = staff_tables; ask = λ text args. None }

abbrev pay : ℕ → List ℤ → List Row
pay id [] = []
pay id (n ∷ ns) = record { kind = kinds.Table 0; cells = long id ∷ scalars.Long n ∷ [] } ∷ pay (id + 1) ns

-- one table of payments, of these amounts
abbrev pub payments : List ℤ → World
payments amounts =
    record {
      schema = record { name = Pay; columns = column (codes "id") tys.Long ∷ column (codes "amount") tys.Long ∷ [] } ∷ [];
      db = (Pay, pay 1 amounts) ∷ [];
      ask = λ text args. None;
    }

-- ---- Programs

-- a place that nothing looks at
abbrev pub somewhere : Span
somewhere = record { line = 1; column = 1; start = 0; end = 1 }

abbrev pub block : List Statement → Statements
block [] = Nothing
block (s ∷ ss) = Then s (block ss)

abbrev var : List ℕ → Expression
var x = Var somewhere x

abbrev number : ℕ → Expression
number n = Lit somewhere (long n)

abbrev bool : Bool → Expression
bool b = Lit somewhere (scalars.Bool b)

abbrev pub field : List ℕ → List ℕ → Expression
field x name = Field somewhere (Var somewhere x) name

abbrev fetch : List ℕ → Expression
fetch table = Fetch somewhere table

abbrev binary : Op → Expression → Expression → Expression
binary op a b = Binary somewhere op a b

abbrev pub declare : Spelled → List ℕ → Expression → Statement
declare ty x e = Declare somewhere ty x e

abbrev assign : List ℕ → Expression → Statement
assign x e = Assign somewhere x e

abbrev add : List ℕ → Expression → Statement
add x e = Add somewhere x e

abbrev when : Expression → List Statement → Statement
when c body = If somewhere c (block body)

abbrev pub for_each : List ℕ → List ℕ → Expression → List Statement → Statement
for_each table x e body = ForEach somewhere (Table table) x e (block body)

abbrev while : Expression → List Statement → Statement
while c body = While somewhere c (block body)

abbrev pub give : List ℕ → Statement
give x = Return somewhere (Some (Var somewhere x))

-- a method without parameters
abbrev pub method : List Statement → PlainMethod
method body =
    record {
      access = access.Plain;
      fixed = false;
      result = None;
      name = codes "run";
      params = [];
      body = block body;
      span = somewhere;
    }

abbrev pub users : Spelled
users = ListOf (Table User)

abbrev roles : Spelled
roles = ListOf (Table Role)

abbrev pub out : List ℕ
out = codes "out"

abbrev pub u : List ℕ
u = codes "u"

abbrev r : List ℕ
r = codes "r"

-- List<User> out = new ArrayList<>();
-- for (User u : db.fetch(User.class)) { if (u.roleId == 2) { out.add(u); } }
-- return out;
abbrev pub class_A : PlainMethod
class_A =
    method
    (declare users out (NewList somewhere)
    ∷ for_each User u (fetch User)
    (when (binary ops.Eq (field u (codes "roleId")) (number 2))
    (add out (var u) ∷ [])
    ∷ [])
    ∷ give out
    ∷ [])

-- List<User> users = db.fetch(User.class); List<Role> roles = db.fetch(Role.class);
-- List<User> out = new ArrayList<>();
-- for (User u : users) { for (Role r : roles) { if (u.roleId == r.id) { out.add(u); } } }
-- return out;
abbrev pub class_B : PlainMethod
class_B =
    method
    (declare users (codes "users") (fetch User)
    ∷ declare roles (codes "roles") (fetch Role)
    ∷ declare users out (NewList somewhere)
    ∷ for_each User u (var (codes "users"))
    (for_each Role r (var (codes "roles"))
    (when (binary ops.Eq (field u (codes "roleId")) (field r (codes "id")))
    (add out (var u) ∷ [])
    ∷ [])
    ∷ [])
    ∷ give out
    ∷ [])

-- the same with `for (Role r : roles) { for (User u : users) { .. } }`
abbrev pub class_B_turned : PlainMethod
class_B_turned =
    method
    (declare users (codes "users") (fetch User)
    ∷ declare roles (codes "roles") (fetch Role)
    ∷ declare users out (NewList somewhere)
    ∷ for_each Role r (var (codes "roles"))
    (for_each User u (var (codes "users"))
    (when (binary ops.Eq (field u (codes "roleId")) (field r (codes "id")))
    (add out (var u) ∷ [])
    ∷ [])
    ∷ [])
    ∷ give out
    ∷ [])

-- long best = 10;
-- for (User u : db.fetch(User.class)) { if (u.age > best) { best = u.age; } }
-- return best;
abbrev pub class_C : PlainMethod
class_C =
    method
    (declare Long (codes "best") (number 10)
    ∷ for_each User u (fetch User)
    (when (binary ops.Gt (field u (codes "age")) (var (codes "best")))
    (assign (codes "best") (field u (codes "age")) ∷ [])
    ∷ [])
    ∷ give (codes "best")
    ∷ [])

-- where class D adds
abbrev pub sum_place : Span
sum_place = record { line = 5; column = 19; start = 113; end = 127 }

-- long sum = 0;
-- for (Pay p : db.fetch(Pay.class)) { sum = sum + p.amount; }
-- return sum;
abbrev pub class_D : PlainMethod
class_D =
    method
    (declare Long (codes "sum") (number 0)
    ∷ for_each Pay (codes "p") (fetch Pay)
    (assign (codes "sum") (Binary sum_place ops.Add (var (codes "sum")) (field (codes "p") (codes "amount")))
    ∷ [])
    ∷ give (codes "sum")
    ∷ [])

-- List<User> out = new ArrayList<>(); List<Role> roles = db.fetch(Role.class);
-- for (User u : db.fetch(User.class)) {
--   boolean found = false;
--   for (Role r : roles) { if (r.id == u.roleId) { found = true; break; } }
--   if (found) { out.add(u); }
-- }
-- return out;
abbrev pub class_E : PlainMethod
class_E =
    method
    (declare users out (NewList somewhere)
    ∷ declare roles (codes "roles") (fetch Role)
    ∷ for_each User u (fetch User)
    (declare Boolean (codes "found") (bool false)
    ∷ for_each Role r (var (codes "roles"))
    (when (binary ops.Eq (field r (codes "id")) (field u (codes "roleId")))
    (assign (codes "found") (bool true) ∷ Break somewhere ∷ [])
    ∷ [])
    ∷ when (var (codes "found"))
    (add out (var u) ∷ [])
    ∷ [])
    ∷ give out
    ∷ [])

-- List<User> users = db.fetch(User.class);
-- users.sort(Comparator.comparing(x -> x.name)); or with .reversed()
-- List<User> out = new ArrayList<>(); int i = 0;
-- while (i < limit && i < users.size()) { User u = users.get(i); out.add(u); i = i + 1; }
-- return out;
abbrev pub class_H : ℕ → Bool → PlainMethod
class_H limit down =
    method
    (declare users (codes "users") (fetch User)
    ∷ Sort somewhere (codes "users") (codes "name" ∷ []) (down ∷ [])
    ∷ declare users out (NewList somewhere)
    ∷ declare Int (codes "i") (number 0)
    ∷ while (binary ops.And (binary ops.Lt (var (codes "i")) (number limit)) (binary ops.Lt (var (codes "i")) (Size somewhere (codes "users"))))
    (declare (Table User) u (Get somewhere (codes "users") (var (codes "i")))
    ∷ add out (var u)
    ∷ assign (codes "i") (binary ops.Add (var (codes "i")) (number 1))
    ∷ [])
    ∷ give out
    ∷ [])

-- for (User u : db.fetch(User.class)) {
--   long n = 0;
--   for (Role r : db.fetch(Role.class)) { if (r.id == u.roleId) { n = n + 1; } }
--   System.out.println(n);
-- }
abbrev pub class_J : PlainMethod
class_J =
    method
    (for_each User u (fetch User)
    (declare Long (codes "n") (number 0)
    ∷ for_each Role r (fetch Role)
    (when (binary ops.Eq (field r (codes "id")) (field u (codes "roleId")))
    (assign (codes "n") (binary ops.Add (var (codes "n")) (number 1)) ∷ [])
    ∷ [])
    ∷ Print somewhere (var (codes "n"))
    ∷ [])
    ∷ [])

-- int i = 0; while (i < 3) { i = i + 1; } return i;
abbrev pub class_W : PlainMethod
class_W =
    method
    (declare Int (codes "i") (number 0)
    ∷ while (binary ops.Lt (var (codes "i")) (number 3))
    (assign (codes "i") (binary ops.Add (var (codes "i")) (number 1)) ∷ [])
    ∷ give (codes "i")
    ∷ [])

-- while (true) { }
abbrev pub forever : PlainMethod
forever = method (while (bool true) [] ∷ [])

-- Set<String> names = new LinkedHashSet<>();
-- for (User u : db.fetch(User.class)) { names.add(u.name); }
-- return names;
abbrev pub name_set : PlainMethod
name_set =
    method
    (declare (SetOf String) (codes "names") (NewSet somewhere)
    ∷ for_each User u (fetch User)
    (add (codes "names") (field u (codes "name")) ∷ [])
    ∷ give (codes "names")
    ∷ [])

-- boolean b = first && 9223372036854775807L + 1 < 0; return b;
abbrev pub stops_early : Bool → PlainMethod
stops_early first =
    method
    (declare Boolean (codes "b") (binary ops.And (bool first) (binary ops.Lt (Binary sum_place ops.Add (number (2 ^ 63 - 1)) (number 1)) (number 0)))
    ∷ give (codes "b")
    ∷ [])

-- List<User> users = db.fetch(User.class); User u = users.get(place); return u;
abbrev pub user_at : Expression → PlainMethod
user_at place =
    method
    (declare users (codes "users") (fetch User)
    ∷ declare (Table User) u (Get sum_place (codes "users") place)
    ∷ give u
    ∷ [])

abbrev pub literal : ℤ → Expression
literal n = Lit somewhere (scalars.Long n)

abbrev pub rows_done : List Row → Outcome
rows_done rows = Done [] (Some (Many rows))

abbrev pub scalar_done : Scalar → Outcome
scalar_done x = Done [] (Some (One x))
