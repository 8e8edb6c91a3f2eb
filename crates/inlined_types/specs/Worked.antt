-- Two classes that are well typed and of no grammar.
use Rattle.std.specs.Prelude.{ℕ, pos, List, [], ◌∷◌, false, codes}
use Rattle.std.specs.declared.option.Option.{Option}
use Rattle.std.specs.declared.option.Option.TheVariants.{Some, None}
use Rattle.qbs_base.specs.declared.scalar.Scalar.TheVariants as scalars
use Rattle.sql_ast.specs.Tree.{PlainQuery}
use Rattle.java_ast.specs.declared.tree.Access.TheVariants as access
use Rattle.java_ast.specs.Tree.{Long, BoxedLong, SetOf, Lit, Var, Size, Declare, Return, Statements, Nothing, Then, PlainParam, PlainMethod, PlainProgram}
use Rattle.java_mean.specs.Worked.{somewhere}

-- no text is a query's
abbrev pub no_query : List ℕ → Option PlainQuery
no_query text = None

abbrev of_long : List PlainParam → Statements → PlainMethod
of_long params body = record { access = access.Plain; fixed = false; result = Some Long; name = codes "f"; params = params; body = body; span = somewhere }

abbrev pub class_of : PlainMethod → PlainProgram
class_of m = record { «package» = None; imports = []; public = false; name = codes "B"; methods = m ∷ [] }

-- long f() { Long n = 2; return n; }
abbrev pub with_a_box : PlainMethod
with_a_box = of_long [] (Then (Declare somewhere BoxedLong (codes "n") (Lit somewhere (scalars.Long (pos 2)))) (Then (Return somewhere (Some (Var somewhere (codes "n")))) Nothing))

-- long f(Set<Long> s) { return s.size(); }
abbrev pub with_a_set : PlainMethod
with_a_set = of_long (record { ty = SetOf BoxedLong; name = codes "s" } ∷ []) (Then (Return somewhere (Some (Size somewhere (codes "s")))) Nothing)
