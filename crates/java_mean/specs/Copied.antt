-- A loop that copies a table, and statements that stand for it: each leave a variable that the others don't,
-- and what stands behind them mentions the one that both leave.
use Rattle.std.specs.Prelude.{false, [], ◌∷◌, codes}
use Rattle.std.specs.declared.option.Option.{Option}
use Rattle.std.specs.declared.option.Option.TheVariants.{Some, None}
use Rattle.java_ast.specs.Tree.{Long, Table, Var, Size, Fetch, NewList, Add, Print, Statements, Nothing, PlainMethod, PlainProgram}
use Rattle.java_mean.specs.Refines.{Hole, Here, InEach, with_part}
use Rattle.java_mean.specs.Types.{JavaType, Types, with_type, type_spelled}
use Rattle.java_mean.specs.Visible.{Visible}
use Rattle.sql_ast.specs.Worked.{staff_schema}
use Rattle.java_mean.specs.Worked.{User, Role, users, u, out, somewhere, block, declare, for_each, give, method}

-- List<User> users = db.fetch(User.class); List<User> out = new ArrayList<>();
-- for (User u : users) { out.add(u); }
abbrev pub copied : Statements
copied =
    block
    (declare users (codes "users") (Fetch somewhere User)
    ∷ declare users out (NewList somewhere)
    ∷ for_each User u (Var somewhere (codes "users"))
    (Add somewhere out (Var somewhere u) ∷ [])
    ∷ [])

-- List<User> all = db.fetch(User.class); List<User> out = db.fetch(User.class);
abbrev pub fetched : Statements
fetched =
    block
    (declare users (codes "all") (Fetch somewhere User)
    ∷ declare users out (Fetch somewhere User)
    ∷ [])

-- the type of lists of users
abbrev pub of_users : Option JavaType
of_users = type_spelled staff_schema users

-- what both leave alike
abbrev pub only_out : Types
only_out = with_type out of_users (λ x. None)

-- .. return out;
abbrev pub before_return : Hole
before_return = Here (block (give out ∷ []))

-- List<User> run() { .. }
abbrev pub copying : PlainMethod
copying = record (method []) { result = Some users }

-- a class with no methods
abbrev empty_staff : PlainProgram
empty_staff = record { «package» = None; imports = []; public = false; name = codes "Staff"; methods = [] }

-- class Staff { List<User> run() { .. return out; } }
abbrev pub staff_program : Statements → PlainProgram
staff_program part = with_part empty_staff [] [] copying before_return part

-- for (Role r : db.fetch(Role.class)) { .. long n = out.size(); System.out.println(n); }
abbrev pub in_each_role : Hole
in_each_role =
    InEach somewhere (Table Role) (codes "r") (Fetch somewhere Role) (Here (block
    (declare Long (codes "n") (Size somewhere out)
    ∷ Print somewhere (Var somewhere (codes "n"))
    ∷ [])))
    Nothing

-- void run() { .. }
abbrev pub counting : PlainMethod
counting = method []

-- class Staff { void run() { for (Role r : db.fetch(Role.class)) { .. } } }
abbrev pub counting_program : Statements → PlainProgram
counting_program part = with_part empty_staff [] [] counting in_each_role part

-- what each leaves visible
abbrev pub left_by_loop : Visible
left_by_loop = (codes "users", of_users) ∷ (out, of_users) ∷ []

abbrev pub left_by_fetch : Visible
left_by_fetch = (codes "all", of_users) ∷ (out, of_users) ∷ []
