-- Programs as plain trees, which definitions and contracts speak of. Each node has its place.
use Rattle.std.specs.Prelude.{ℕ, List, Bool}
use Rattle.std.specs.declared.option.Option.{Option}
use Rattle.qbs_base.specs.declared.scalar.Scalar.{Scalar}
use Rattle.qbs_base.specs.declared.span.Span.{Span}
use Rattle.java_ast.specs.declared.tree.Access.{Access}
use Rattle.java_ast.specs.declared.tree.Op.{Op}

-- a type as it is spelled
pub data Spelled : Type 0 where
  Int : Spelled
  Long : Spelled
  Boolean : Spelled
  String : Spelled
  BoxedInteger : Spelled
  BoxedLong : Spelled
  BoxedBoolean : Spelled
  Table : List ℕ → Spelled
  ListOf : Spelled → Spelled
  SetOf : Spelled → Spelled

-- An expression and a list of expressions. `NewSet` is an empty set, `NewSetOf` a set of a query.
mutual
  pub data Expression : Type 0 where
    Lit : Span → Scalar → Expression
    Var : Span → List ℕ → Expression
    Field : Span → Expression → List ℕ → Expression
    Binary : Span → Op → Expression → Expression → Expression
    Not : Span → Expression → Expression
    Equals : Span → Expression → Expression → Expression
    Size : Span → List ℕ → Expression
    Get : Span → List ℕ → Expression → Expression
    Contains : Span → List ℕ → Expression → Expression
    Fetch : Span → List ℕ → Expression
    Query : Span → Spelled → List ℕ → Expressions → Expression
    QueryLong : Span → List ℕ → Expressions → Expression
    QueryBoolean : Span → List ℕ → Expressions → Expression
    NewList : Span → Expression
    NewSet : Span → Expression
    NewSetOf : Span → Expression → Expression

  pub data Expressions : Type 0 where
    NoMore : Expressions
    And : Expression → Expressions → Expressions

-- A statement and a list of statements. The keys of a `Sort` are columns, and for each of them
-- whether it is down.
mutual
  pub data Statement : Type 0 where
    Declare : Span → Spelled → List ℕ → Expression → Statement
    Assign : Span → List ℕ → Expression → Statement
    Add : Span → List ℕ → Expression → Statement
    Sort : Span → List ℕ → List (List ℕ) → List Bool → Statement
    If : Span → Expression → Statements → Statement
    IfElse : Span → Expression → Statements → Statements → Statement
    ForEach : Span → Spelled → List ℕ → Expression → Statements → Statement
    While : Span → Expression → Statements → Statement
    Print : Span → Expression → Statement
    Return : Span → Option Expression → Statement
    Break : Span → Statement

  pub data Statements : Type 0 where
    Nothing : Statements
    Then : Statement → Statements → Statements

pub record PlainParam : Type 0 where
  pub ty : Spelled
  pub name : List ℕ

-- `fixed` is true where the method is static, `result` none where it is void
pub record PlainMethod : Type 0 where
  pub access : Access
  pub fixed : Bool
  pub result : Option Spelled
  pub name : List ℕ
  pub params : List PlainParam
  pub body : Statements
  pub span : Span

pub record PlainProgram : Type 0 where
  pub «package» : Option (List ℕ)
  pub imports : List (List ℕ)
  pub public : Bool
  pub name : List ℕ
  pub methods : List PlainMethod
