-- A class whose method faults at a place that is told, so that two of it are the same but for their places.
use Rattle.std.specs.Prelude.{pos, [], ◌∷◌, Some, None, false, codes}
use Rattle.qbs_base.specs.declared.span.Span.{Span}
use Rattle.qbs_base.specs.declared.scalar.Scalar.TheVariants as scalars
use Rattle.java_ast.specs.declared.tree.Access.TheVariants as access
use Rattle.java_ast.specs.declared.tree.Op.TheVariants as ops
use Rattle.java_ast.specs.Tree.{Long, Lit, Binary, Statements, Nothing, Then, Return, PlainMethod, PlainProgram}

-- another place than somewhere
abbrev pub elsewhere : Span
elsewhere = record { line = 7; column = 3; start = 90; end = 120 }

-- return 9223372036854775807 + 1;
abbrev pub too_large : Span → Statements
too_large at =
    Then (Return at (Some (Binary at ops.Add (Lit at (scalars.Long (pos 9223372036854775807))) (Lit at (scalars.Long (pos 1)))))) Nothing

abbrev pub total_at : Span → PlainMethod
total_at at = record { access = access.Plain; fixed = false; result = Some Long; name = codes "total"; params = []; body = too_large at; span = at }

abbrev pub class_at : Span → PlainProgram
class_at at = record { «package» = None; imports = []; public = false; name = codes "T"; methods = total_at at ∷ [] }
