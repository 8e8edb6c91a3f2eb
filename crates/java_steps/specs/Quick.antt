-- Numbers and truth values that come without a fault. Where none is given nothing is said.
use Rattle.std.specs.Prelude.{◌≡◌, ℤ, Bool, Option, Some, None, Result, Ok, option_map, List, ℕ}
use Rattle.std.specs.Borrow.{Bor}
use Rattle.qbs_base.specs.declared.scalar.Scalar.{Scalar}
use Rattle.qbs_base.specs.declared.scalar.Scalar.TheVariants as scalars
use Rattle.qbs_base.specs.declared.scalar.Value.{Value}
use Rattle.qbs_base.specs.declared.scalar.Value.TheVariants.{One}
use Rattle.qbs_base.specs.declared.span.Span.{Span}
use Rattle.qbs_base.specs.Named.{at_name}
use Rattle.java_ast.specs.declared.tree.Op.{Op}
use Rattle.java_mean.specs.declared.ending.Ending.{Ending}
use Rattle.java_mean.specs.Expression.{applied, or_else, settled, truth}
use Rattle.java_mean.specs.Store.{Store, put}

abbrev pub IfLong : Option ℤ → Result Value Ending → Type 0
IfLong (Some n) run = run ≡ Ok (One (scalars.Long n))
IfLong None run = Unit {0}

abbrev pub IfTruth : Option Bool → Result Value Ending → Type 0
IfTruth (Some b) run = run ≡ Ok (truth b)
IfTruth None run = Unit {0}

-- the same of a scalar that is lent
abbrev pub IfScalar : Option (Bor Scalar) → Result Value Ending → Type 0
IfScalar (Some x) run = run ≡ Ok (One x.now)
IfScalar None run = Unit {0}

-- the operator's value at two operands
abbrev pub operated_on : Op → Span → Scalar → Scalar → Result Value Ending
operated_on op at x y = or_else (settled op x) (applied op at x y)

-- the store in which a variable that is there holds another value
abbrev pub written : Store → List ℕ → Value → Option Store
written s x v = option_map (λ held. put s x (record { value = v; is_set = held.is_set })) (at_name s x)
