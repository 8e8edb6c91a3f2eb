-- How many arguments there are.
use Rattle.std.specs.Prelude.{List, [], ◌∷◌, length, suc}
use Rattle.std.proofs.Common.{◌≡◌, refl, ap}
use Rattle.java_ast.specs.declared.tree.Expr.{Expr}
use Rattle.java_ast.specs.Reading.{expressions}
use Rattle.java_calls.specs.Rules.{how_many}

pub how_many_is : (es : List Expr) → how_many (expressions es) ≡ length es
how_many_is [] = refl
how_many_is (e ∷ es) = ap (λ n. suc n) (how_many_is es)
