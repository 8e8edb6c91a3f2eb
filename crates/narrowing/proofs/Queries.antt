-- The expressions of a list, and the condition of a body.
use Rattle.std.specs.Prelude.{◌<◌, List, [], ◌∷◌, length, map}
use Rattle.std.specs.declared.option.Option.TheVariants.{None}
use Rattle.std.proofs.Common.{◌≡◌, refl, ap, arith, ◌⊎◌, inl, inr}
use Rattle.java_ast.specs.declared.tree.Expr.{Expr}
use Rattle.java_ast.specs.declared.tree.Stmt.{Stmt}
use Rattle.java_ast.specs.Reading.{expression, statements}
use Rattle.java_ast.specs.Reading as reading
use Rattle.java_ast.specs.Tree.{And}
use Rattle.spreads.specs.Narrowed.{expressions}
use Rattle.narrowing.specs.Bodies.{only_condition}

pub expressions_are : (es : List Expr) → reading.expressions es ≡ expressions (map expression es)
expressions_are [] = refl
expressions_are (e ∷ es) = ap (And (expression e)) (expressions_are es)

pub not_one : (body : List Stmt) → (length body < 1) ⊎ (1 < length body) → None ≡ only_condition (statements body)
not_one [] h = refl
not_one (s ∷ []) (inl h) = absurd (omega arith)
not_one (s ∷ []) (inr h) = absurd (omega arith)
not_one (s ∷ t ∷ body) h = refl
