-- Programs of one line that show where the rules are broken.
use Rattle.std.specs.Prelude.{ℕ, ◌-◌, pos, true, false, List, [], ◌∷◌, Some, None, codes}
use Rattle.std.specs.declared.option.Option.{Option}
use Rattle.qbs_base.specs.declared.span.Span.{Span}
use Rattle.qbs_base.specs.declared.scalar.Scalar.TheVariants as scalars
use Rattle.java_ast.specs.declared.tree.Access.TheVariants as access
use Rattle.java_ast.specs.declared.tree.Op.TheVariants as ops
use Rattle.java_ast.specs.Tree.{Spelled, Long, Boolean, String, Expression, Lit, Var, Field, Binary, Fetch, Query, QueryLong, NewList, NoMore, And, Statement, Declare, Add, If, ForEach, Print, Return, Break, PlainParam, PlainMethod, PlainProgram, Table}
use Rattle.java_mean.specs.declared.rule.TypeRule.{TypeRule}
use Rattle.java_mean.specs.declared.rule.TypeFault.{TypeFault}
use Rattle.java_mean.specs.WellTyped.{all_faults}
use Rattle.sql_ast.specs.Worked.{staff_schema}
use Rattle.java_mean.specs.Worked.{User, u, users, block}
use Rattle.java_types.specs.Texts.{read_by}

-- ---- Places and faults

-- what begins at this column; where it ends doesn't matter
abbrev pub at : ℕ → Span
at column = record { line = 1; column = column; start = column - 1; end = column }

abbrev pub breaks : TypeRule → ℕ → TypeFault
breaks rule column = record { rule = rule; at = at column }

-- the faults of a program over users and roles
abbrev pub faults_of : PlainProgram → List TypeFault
faults_of p = all_faults staff_schema (read_by staff_schema) p

-- ---- Programs

abbrev method_at : ℕ → Option Spelled → List PlainParam → List Statement → PlainMethod
method_at column result params body =
    record {
      access = access.Plain;
      fixed = false;
      result = result;
      name = codes "f";
      params = params;
      body = block body;
      span = at column;
    }

abbrev class_of : List PlainMethod → PlainProgram
class_of methods = record { «package» = None; imports = []; public = false; name = codes "T"; methods = methods }

-- a class of one method without parameters
abbrev class_T : Option Spelled → List Statement → PlainProgram
class_T result body = class_of (method_at 11 result [] body ∷ [])

abbrev a : List ℕ
a = codes "a"

abbrev one : ℕ → Expression
one column = Lit (at column) (scalars.Long (pos 1))

abbrev yes : ℕ → Expression
yes column = Lit (at column) (scalars.Bool true)

-- class T { List<User> f() { List<User> a = new ArrayList<>(); for (User u : db.fetch(User.class)) { if (u.roleId == 1) { a.add(u); } } return a; } }
abbrev pub right : PlainProgram
right =
    class_T (Some users)
    (Declare (at 28) users a (NewList (at 43))
    ∷ ForEach (at 62) (Table User) u (Fetch (at 76) User)
    (block (If (at 100) (Binary (at 104) ops.Eq (Field (at 104) (Var (at 104) u) (codes "roleId")) (one 116))
    (block (Add (at 121) a (Var (at 127) u) ∷ []))
    ∷ []))
    ∷ Return (at 135) (Some (Var (at 142) a))
    ∷ [])

-- class T { long f() { if (true) { long a = 1; } return a; } }
abbrev pub past_its_block : PlainProgram
past_its_block =
    class_T (Some Long)
    (If (at 22) (yes 26) (block (Declare (at 34) Long a (one 43) ∷ []))
    ∷ Return (at 48) (Some (Var (at 55) a))
    ∷ [])

-- class T { boolean f() { return 1 < true; } }
abbrev pub less_than_true : PlainProgram
less_than_true = class_T (Some Boolean) (Return (at 25) (Some (Binary (at 32) ops.Lt (one 32) (yes 36))) ∷ [])

-- class T { boolean f() { return 1 == true; } }
abbrev pub one_and_true : PlainProgram
one_and_true = class_T (Some Boolean) (Return (at 25) (Some (Binary (at 32) ops.Eq (one 32) (yes 37))) ∷ [])

-- class T { void f() { for (User u : db.fetch(User.class)) { System.out.println(u); } } }
abbrev pub row_printed : PlainProgram
row_printed = class_T None (ForEach (at 22) (Table User) u (Fetch (at 36) User) (block (Print (at 60) (Var (at 79) u) ∷ [])) ∷ [])

-- class T { void f() { long a = 1; long a = 1; } }
abbrev pub declared_again : PlainProgram
declared_again = class_T None (Declare (at 22) Long a (one 31) ∷ Declare (at 34) Long a (one 43) ∷ [])

-- class T { void f() { } void f() { } }
abbrev pub named_again : PlainProgram
named_again = class_of (method_at 11 None [] [] ∷ method_at 24 None [] [] ∷ [])

-- class T { boolean f(String a) { return a == "x"; } }
abbrev pub text_by_identity : PlainProgram
text_by_identity =
    class_of
    (method_at 11 (Some Boolean) (record { ty = String; name = a } ∷ [])
    (Return (at 33) (Some (Binary (at 40) ops.Eq (Var (at 40) a) (Lit (at 45) (scalars.Text (codes "x"))))) ∷ [])
    ∷ [])

-- class T { void f() { List<User> a = db.fetch(User.class); List<User> b = a; } }
abbrev pub list_of_another : PlainProgram
list_of_another = class_T None (Declare (at 22) users a (Fetch (at 37) User) ∷ Declare (at 59) users (codes "b") (Var (at 74) a) ∷ [])

-- class T { void f() { List<User> a = db.fetch(User.class); for (User u : a) { a.add(u); } } }
abbrev pub added_while_walked : PlainProgram
added_while_walked =
    class_T None
    (Declare (at 22) users a (Fetch (at 37) User)
    ∷ ForEach (at 59) (Table User) u (Var (at 73) a) (block (Add (at 78) a (Var (at 84) u) ∷ []))
    ∷ [])

-- class T { long f() { return db.queryLong("SELECT t1.id FROM Role t1", 1); } }
abbrev pub list_for_a_number : PlainProgram
list_for_a_number = class_T (Some Long) (Return (at 22) (Some (QueryLong (at 29) (codes "SELECT t1.id FROM Role t1") (And (one 71) NoMore))) ∷ [])

-- class T { List<User> f() { return db.query(User.class, "SELECT t1.* FROM User t1"); } }
abbrev pub without_order : PlainProgram
without_order = class_T (Some users) (Return (at 28) (Some (Query (at 35) (Table User) (codes "SELECT t1.* FROM User t1") NoMore)) ∷ [])

-- class T { void f() { return; return; } }
abbrev pub returned_early : PlainProgram
returned_early = class_T None (Return (at 22) None ∷ Return (at 30) None ∷ [])

-- class T { long f() { } }
abbrev pub nothing_returned : PlainProgram
nothing_returned = class_T (Some Long) []

-- class T { long f() { return db.queryLong("SELECT COUNT(*) FROM Role", 1); } }
abbrev pub argument_too_many : PlainProgram
argument_too_many = class_T (Some Long) (Return (at 22) (Some (QueryLong (at 29) (codes "SELECT COUNT(*) FROM Role") (And (one 71) NoMore))) ∷ [])

-- class T { void f() { break; } }
abbrev pub break_alone : PlainProgram
break_alone = class_T None (Break (at 22) ∷ [])

-- class T { void f() { for (User u : db.fetch(User.class)) { break; System.out.println(1); } } }
abbrev pub break_in_the_middle : PlainProgram
break_in_the_middle = class_T None (ForEach (at 22) (Table User) u (Fetch (at 36) User) (block (Break (at 60) ∷ Print (at 67) (one 86) ∷ [])) ∷ [])
