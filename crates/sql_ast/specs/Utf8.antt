-- Queries whose text literals are UTF-8.
use Rattle.std.specs.Str.{IsUtf8}
use Rattle.qbs_base.specs.declared.scalar.Scalar.{Scalar}
use Rattle.qbs_base.specs.declared.scalar.Scalar.TheVariants as scalars
use Rattle.sql_ast.specs.declared.tree.SqlOpnd.{SqlOpnd}
use Rattle.sql_ast.specs.declared.tree.SqlOpnd.TheVariants as opnds
use Rattle.sql_ast.specs.Tree.{Condition, Both, Either, Not, Compare, Bare, Exists, Within, Filter, Everything, Where, PlainQuery, Listing, Number, Truth}

abbrev pub ScalarIsUtf8 : Scalar → Type 0
ScalarIsUtf8 (scalars.Long n) = Unit {0}
ScalarIsUtf8 (scalars.Bool b) = Unit {0}
ScalarIsUtf8 (scalars.Text text) = IsUtf8 text

abbrev pub OperandIsUtf8 : SqlOpnd → Type 0
OperandIsUtf8 (opnds.Column col) = Unit {0}
OperandIsUtf8 (opnds.Lit scalar) = ScalarIsUtf8 scalar
OperandIsUtf8 (opnds.Param n) = Unit {0}

abbrev mutual
  pub ConditionIsUtf8 : Condition → Type 0
  ConditionIsUtf8 (Both a b) = ConditionIsUtf8 a × ConditionIsUtf8 b
  ConditionIsUtf8 (Either a b) = ConditionIsUtf8 a × ConditionIsUtf8 b
  ConditionIsUtf8 (Not a) = ConditionIsUtf8 a
  ConditionIsUtf8 (Compare cmp a b) = OperandIsUtf8 a × OperandIsUtf8 b
  ConditionIsUtf8 (Bare col) = Unit {0}
  ConditionIsUtf8 (Exists from filter_) = FilterIsUtf8 filter_
  ConditionIsUtf8 (Within opnd negated col from filter_) = OperandIsUtf8 opnd × FilterIsUtf8 filter_

  pub FilterIsUtf8 : Filter → Type 0
  FilterIsUtf8 Everything = Unit {0}
  FilterIsUtf8 (Where a) = ConditionIsUtf8 a

-- literals stand in a query's WHERE alone
abbrev pub LiteralsAreUtf8 : PlainQuery → Type 0
LiteralsAreUtf8 (Listing q) = FilterIsUtf8 q.filter
LiteralsAreUtf8 (Number q) = FilterIsUtf8 q.filter
LiteralsAreUtf8 (Truth q) = FilterIsUtf8 q.filter
