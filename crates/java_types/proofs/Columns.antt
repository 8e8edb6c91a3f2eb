-- As many arguments as types.
use Rattle.std.proofs.Common.{◌≡◌, suc, List, [], ◌∷◌, length, refl, ◌∙◌, nat_eq, arith}
use Rattle.std.proofs.lemmas.Bool.Decides.{nat_tests}
use Rattle.qbs_base.specs.declared.scalar.Ty.{Ty}
use Rattle.java_ast.specs.declared.tree.Expr.{Expr}
use Rattle.java_ast.specs.Reading.{expressions}
use Rattle.java_mean.specs.Rules.{same_length}

pub same_lengths : (types : List Ty) (es : List Expr) → nat_eq (length types) (length es) ≡ same_length types (expressions es)
same_lengths [] [] = refl
same_lengths [] (e ∷ es) = grind (arith, nat_tests)
same_lengths (t ∷ ts) [] = grind (arith, nat_tests)
same_lengths (t ∷ ts) (e ∷ es) = let h : nat_eq (suc (length ts)) (suc (length es)) ≡ nat_eq (length ts) (length es) = grind (arith, nat_tests) in h ∙ same_lengths ts es
