-- A program of two methods with its source, and another one whose methods are written in place of those with a call.
use Rattle.std.specs.Prelude.{ℕ, List, [], ◌∷◌, ◌++◌, false, codes}
use Rattle.std.specs.declared.option.Option.TheVariants.{Some, None}
use Rattle.qbs_base.specs.declared.span.Span.{Span}
use Rattle.java_ast.specs.declared.tree.Access.TheVariants as access
use Rattle.java_ast.specs.Tree.{Long, Expression, Var, QueryLong, NoMore, Declare, Nothing, Then, PlainMethod, PlainProgram}
use Rattle.java_ast.specs.Unplaced.{nowhere}

-- long name() { long x = value; }
abbrev pub declaring : List ℕ → Span → Expression → PlainMethod
declaring name at value =
    record { access = access.Plain; fixed = false; result = Some Long; name = name; params = []; body = Then (Declare nowhere Long (codes "x") value) Nothing; span = at }

abbrev pub class_of : List PlainMethod → PlainProgram
class_of methods = record { «package» = None; imports = []; public = false; name = codes "T"; methods = methods }

abbrev pub source : List ℕ
source = codes "class T { first second }"

abbrev pub first_at : Span
first_at = record { line = 1; column = 11; start = 10; end = 15 }

abbrev pub second_at : Span
second_at = record { line = 1; column = 17; start = 16; end = 22 }

-- the first method calls another, the second one doesn't
abbrev pub with_call : PlainProgram
with_call = class_of (declaring (codes "first") first_at (QueryLong nowhere (codes "helper") NoMore) ∷ declaring (codes "second") second_at (Var nowhere (codes "y")) ∷ [])

abbrev pub without_call : PlainProgram
without_call = class_of (declaring (codes "first") first_at (Var nowhere (codes "y")) ∷ declaring (codes "second") second_at (Var nowhere (codes "y")) ∷ [])

-- what is written
abbrev pub written : List ℕ
written = codes "class T { long first() {" ++ 10 ∷ codes "        long x = y;" ++ 10 ∷ codes "    } second }"
