-- How statements are seen, as plain trees, which definitions speak of.
use Rattle.std.specs.Prelude.{ℕ, List, Bool}
use Rattle.view_rules.specs.declared.java_type.JavaType.{JavaType}
use Rattle.view_rules.specs.Tree.{PlainExpression}
use Rattle.view_statements.specs.declared.statement.Step.{Step}
use Rattle.view_statements.specs.declared.statement.SortPart.{SortPart}

-- The last number of each is that of its last item.
mutual
  pub data PlainStatement : Type 0 where
    Declaration : ℕ → ℕ → JavaType → PlainExpression → ℕ → PlainStatement
    Inferred : ℕ → ℕ → JavaType → PlainExpression → ℕ → PlainStatement
    FirstSet : ℕ → JavaType → PlainExpression → ℕ → PlainStatement
    Assignment : ℕ → PlainExpression → ℕ → PlainStatement
    Added : ℕ → PlainExpression → ℕ → PlainStatement
    Lessened : ℕ → PlainExpression → ℕ → PlainStatement
    Stepped : ℕ → Step → ℕ → ℕ → ℕ → PlainStatement
    Extreme : ℕ → Bool → Bool → PlainExpression → ℕ → PlainStatement
    Add : ℕ → PlainExpression → ℕ → ℕ → PlainStatement
    Sort : ℕ → Bool → ℕ → List SortPart → ℕ → PlainStatement
    If : ℕ → PlainExpression → ℕ → Bool → PlainStatements → ℕ → PlainStatement
    IfElse : ℕ → PlainExpression → ℕ → Bool → PlainStatements → ℕ → Bool → PlainStatements → ℕ → PlainStatement
    ForEach : ℕ → Bool → ℕ → JavaType → PlainExpression → ℕ → Bool → PlainStatements → ℕ → PlainStatement
    ForIndex : ℕ → ℕ → Bool → ℕ → JavaType → PlainStatements → ℕ → ℕ → PlainStatement
    ForIterator : ℕ → ℕ → ℕ → JavaType → PlainStatements → ℕ → ℕ → PlainStatement
    Named : ℕ → ℕ → JavaType → PlainExpression → ℕ → PlainStatement
    While : ℕ → PlainExpression → ℕ → Bool → PlainStatements → ℕ → PlainStatement
    Break : ℕ → ℕ → PlainStatement
    Skip : ℕ → PlainExpression → ℕ → Bool → PlainStatements → ℕ → PlainStatement
    Found : ℕ → ℕ → ℕ → PlainStatement

  pub data PlainStatements : Type 0 where
    Nothing : PlainStatements
    Then : PlainStatement → PlainStatements → PlainStatements
