-- Queries as plain trees, which definitions and contracts speak of. Columns, operands, keys and
-- FROM items are plain as the code declares them.
use Rattle.std.specs.Prelude.{ℕ, List, Bool}
use Rattle.std.specs.declared.option.Option.{Option}
use Rattle.qbs_base.specs.declared.scalar.Ty.{Ty}
use Rattle.sql_ast.specs.declared.tree.Cmp.{Cmp}
use Rattle.sql_ast.specs.declared.tree.FromItem.{FromItem}
use Rattle.sql_ast.specs.declared.tree.NumberKind.{NumberKind}
use Rattle.sql_ast.specs.declared.tree.SqlCol.{SqlCol}
use Rattle.sql_ast.specs.declared.tree.SqlItem.{SqlItem}
use Rattle.sql_ast.specs.declared.tree.SqlKey.{SqlKey}
use Rattle.sql_ast.specs.declared.tree.SqlOpnd.{SqlOpnd}

-- A condition, and the WHERE of a SELECT, which may be left out.
mutual
  pub data Condition : Type 0 where
    Both : Condition → Condition → Condition
    Either : Condition → Condition → Condition
    Not : Condition → Condition
    Compare : Cmp → SqlOpnd → SqlOpnd → Condition
    Bare : SqlCol → Condition
    Exists : List FromItem → Filter → Condition
    Within : SqlOpnd → Bool → SqlCol → List FromItem → Filter → Condition

  pub data Filter : Type 0 where
    Everything : Filter
    Where : Condition → Filter

pub record PlainListing : Type 0 where
  pub item : SqlItem
  pub from : List FromItem
  pub filter : Filter
  pub group : Option SqlCol
  pub keys : List SqlKey
  pub limit : Option ℕ
  pub params : List Ty

pub record PlainNumber : Type 0 where
  pub kind : NumberKind
  pub from : List FromItem
  pub filter : Filter
  pub params : List Ty

pub record PlainTruth : Type 0 where
  pub negated : Bool
  pub from : List FromItem
  pub filter : Filter
  pub params : List Ty

pub data PlainQuery : Type 0 where
  Listing : PlainListing → PlainQuery
  Number : PlainNumber → PlainQuery
  Truth : PlainTruth → PlainQuery
