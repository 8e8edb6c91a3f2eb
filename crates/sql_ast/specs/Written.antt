-- What a query's tokens say: names and aliases as they are written.
use Rattle.std.specs.Prelude.{ℕ, ℤ, List, Bool}
use Rattle.std.specs.declared.option.Option.{Option}
use Rattle.qbs_base.specs.declared.scalar.Scalar.{Scalar}
use Rattle.sql_ast.specs.declared.tree.Cmp.{Cmp}

pub record WrittenCol : Type 0 where
  pub alias : Option (List ℕ)
  pub name : List ℕ

pub record WrittenPart : Type 0 where
  pub table : List ℕ
  pub alias : Option (List ℕ)

pub data WrittenOpnd : Type 0 where
  Column : WrittenCol → WrittenOpnd
  Lit : Scalar → WrittenOpnd
  Param : ℕ → WrittenOpnd

mutual
  pub data WrittenCondition : Type 0 where
    Both : WrittenCondition → WrittenCondition → WrittenCondition
    Either : WrittenCondition → WrittenCondition → WrittenCondition
    Not : WrittenCondition → WrittenCondition
    Compare : Cmp → WrittenOpnd → WrittenOpnd → WrittenCondition
    Bare : WrittenCol → WrittenCondition
    Exists : List WrittenPart → WrittenFilter → WrittenCondition
    Within : WrittenOpnd → Bool → WrittenCol → List WrittenPart → WrittenFilter → WrittenCondition

  pub data WrittenFilter : Type 0 where
    Everything : WrittenFilter
    Where : WrittenCondition → WrittenFilter

-- `*` with or without an alias, or a column
pub data WrittenItem : Type 0 where
  Whole : Option (List ℕ) → WrittenItem
  Column : WrittenCol → WrittenItem

pub record WrittenKey : Type 0 where
  pub least : Bool
  pub col : WrittenCol
  pub down : Bool

pub data WrittenKind : Type 0 where
  Count : WrittenKind
  Sum : WrittenCol → ℤ → WrittenKind
  Max : WrittenCol → ℤ → WrittenKind
  Min : WrittenCol → ℤ → WrittenKind

pub record WrittenListing : Type 0 where
  pub item : WrittenItem
  pub from : List WrittenPart
  pub filter : WrittenFilter
  pub group : Option WrittenCol
  pub keys : List WrittenKey
  pub limit : Option ℕ

pub record WrittenNumber : Type 0 where
  pub kind : WrittenKind
  pub from : List WrittenPart
  pub filter : WrittenFilter

pub record WrittenTruth : Type 0 where
  pub negated : Bool
  pub from : List WrittenPart
  pub filter : WrittenFilter

pub data WrittenQuery : Type 0 where
  Listing : WrittenListing → WrittenQuery
  Number : WrittenNumber → WrittenQuery
  Truth : WrittenTruth → WrittenQuery
