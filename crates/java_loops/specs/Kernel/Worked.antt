-- Programs whose fragments show what the definitions say.
use Rattle.std.specs.Prelude.{ℕ, true, false, List, [], ◌∷◌, codes}
use Rattle.std.specs.declared.option.Option.TheVariants.{None}
use Rattle.qbs_base.specs.declared.span.Span.{Span}
use Rattle.qbs_base.specs.declared.scalar.Scalar.TheVariants as scalars
use Rattle.java_ast.specs.Tree.{Long, Boolean, Table, Lit, Var, Fetch, Field, Declare, Assign, If, ForEach, Print, Statement, Statements, Nothing, Then, PlainMethod, PlainProgram}
use Rattle.loop_text.specs.Statements.Fragment.{Fragment}

abbrev pub program_of : PlainMethod → PlainProgram
program_of m = record { «package» = None; imports = []; public = false; name = codes "C"; methods = m ∷ [] }

abbrev pub w : List ℕ
w = codes "w"

abbrev pub z : List ℕ
z = codes "z"

abbrev pub u : List ℕ
u = codes "u"

abbrev pub v : List ℕ
v = codes "v"

abbrev pub flag : List ℕ
flag = codes "flag"

-- for (User row : db.fetch(User.class)) { boolean flag = false; if (row.active) { flag = true; } }
abbrev pub flagging : Span → Statement
flagging at =
    ForEach at (Table (codes "User")) (codes "row") (Fetch at (codes "User")) (Then (Declare at Boolean flag (Lit at (scalars.Bool false)))
    (Then (If at (Field at (Var at (codes "row")) (codes "active")) (Then (Assign at flag (Lit at (scalars.Bool true))) Nothing)) Nothing))

-- The run `long u = w; long v = u; u = z;` where w and z are visible before it, and `print(v)` behind the loop.
abbrev pub moved_run : Span → Statements
moved_run at = Then (Declare at Long u (Var at w)) (Then (Declare at Long v (Var at u)) (Then (Assign at u (Var at z)) Nothing))

abbrev pub moved : Span → Fragment
moved at = record { visible = w ∷ z ∷ []; run = moved_run at; loop = flagging at; behind = Then (Print at (Var at v)) Nothing }
