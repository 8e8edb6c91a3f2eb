-- How tightly expressions bind in the file: 8 what stands alone, 7 `!`, a minus sign and casts, 6 `*`, 5 `+` and `-`, 4 `<` and the like, 3 `==`
-- and `!=`, 2 `&&`, 1 `||`. What is seen of an expression binds at least as tightly, but for a constant with a minus sign, which no method is called of.
use Rattle.std.specs.Prelude.{ℕ, Bool, true, false}
use Rattle.view_rules.specs.declared.expression.Operator.{Operator}
use Rattle.view_rules.specs.declared.expression.Operator.TheVariants as ops
use Rattle.view_rules.specs.Tree.{PlainExpression}
use Rattle.view_rules.specs.Tree as plain

abbrev pub operator_level : Operator → ℕ
operator_level ops.Or = 1
operator_level ops.And = 2
operator_level ops.Same = 3
operator_level ops.Other = 3
operator_level ops.Less = 4
operator_level ops.LessOrSame = 4
operator_level ops.Greater = 4
operator_level ops.GreaterOrSame = 4
operator_level ops.Plus = 5
operator_level ops.Minus = 5
operator_level ops.Times = 6

-- `&&`, or else `||`
abbrev pub joined_level : Bool → ℕ
joined_level true = 2
joined_level false = 1

-- templates and patterns may begin with a cast, and what follows them would belong to their last part
abbrev pub level_of : PlainExpression → ℕ
level_of (plain.Negative at digits) = 7
level_of (plain.Fetch at number) = 7
level_of (plain.Not at e) = 7
level_of (plain.Binary operator left at right) = operator_level operator
level_of (plain.TestedBefore all tests kept) = joined_level all
level_of (plain.TestedBehind all kept tests) = joined_level all
level_of (plain.Query at cast number text java arguments) = 7
level_of _ = 8
