-- How expressions are seen, as plain trees, which definitions speak of.
use Rattle.std.specs.Prelude.{ℕ, List, Bool}
use Rattle.view_rules.specs.declared.expression.NullTest.{NullTest}
use Rattle.view_rules.specs.declared.expression.Operator.{Operator}
use Rattle.view_rules.specs.declared.java_type.JavaType.{JavaType}

mutual
  pub data PlainExpression : Type 0 where
    Literal : ℕ → PlainExpression
    Negative : ℕ → ℕ → PlainExpression
    Variable : ℕ → PlainExpression
    Parameter : ℕ → ℕ → PlainExpression
    NamedColumn : ℕ → ℕ → ℕ → ℕ → PlainExpression
    ClassConstant : ℕ → ℕ → PlainExpression
    MapConstant : ℕ → ℕ → PlainExpression
    Column : PlainExpression → ℕ → ℕ → ℕ → PlainExpression
    OuterColumn : ℕ → ℕ → ℕ → ℕ → PlainExpression
    Fetch : ℕ → ℕ → PlainExpression
    Group : ℕ → PlainExpression → ℕ → PlainExpression
    Not : ℕ → PlainExpression → PlainExpression
    Binary : Operator → PlainExpression → ℕ → PlainExpression → PlainExpression
    Equals : ℕ → Bool → PlainExpression → ℕ → PlainExpression → ℕ → PlainExpression
    ObjectsEquals : ℕ → Bool → PlainExpression → ℕ → PlainExpression → ℕ → PlainExpression
    Unboxed : PlainExpression → ℕ → PlainExpression
    TestedBefore : Bool → List NullTest → PlainExpression → PlainExpression
    TestedBehind : Bool → PlainExpression → List NullTest → PlainExpression
    Size : ℕ → PlainExpression
    IsEmpty : ℕ → PlainExpression
    Get : ℕ → PlainExpression → ℕ → PlainExpression
    Contains : ℕ → PlainExpression → ℕ → PlainExpression
    NewList : ℕ → JavaType → PlainExpression
    NewSet : ℕ → Bool → JavaType → PlainExpression
    Query : ℕ → Bool → ℕ → ℕ → JavaType → PlainArguments → PlainExpression
    NewSetOf : ℕ → Bool → JavaType → PlainExpression → ℕ → PlainExpression

  pub data PlainArguments : Type 0 where
    End : PlainArguments
    Next : PlainExpression → PlainArguments → PlainArguments
