-- The argument of a number.
use Rattle.std.specs.Prelude.{ℕ, zero, suc, List, [], ◌∷◌}
use Rattle.std.specs.Option.{option_map}
use Rattle.std.specs.declared.option.Option.{Option}
use Rattle.std.proofs.Common.{◌≡◌, refl, ap, ◌∙◌}
use Rattle.java_ast.specs.declared.tree.Expr.{Expr}
use Rattle.java_ast.specs.Reading.{expression, expressions}
use Rattle.sql_ast.specs.Meaning.{nth}
use Rattle.spreads.specs.Conditions.{argument}

numbered : (es : List Expr) (n : ℕ) → option_map expression (nth es n) ≡ argument (expressions es) n
numbered [] zero = refl
numbered [] (suc n) = refl
numbered (e ∷ es) zero = refl
numbered (e ∷ es) (suc zero) = refl
numbered (e ∷ es) (suc (suc n)) = numbered es (suc n)

pub argument_is : (es : List Expr) (n : ℕ) (o : Option Expr) → o ≡ nth es n → option_map expression o ≡ argument (expressions es) n
argument_is es n o e = ap (option_map expression) e ∙ numbered es n
