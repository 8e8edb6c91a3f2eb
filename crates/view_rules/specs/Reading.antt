-- The plain tree of each tree of the code.
use Rattle.view_rules.specs.declared.expression.Arguments.{Arguments}
use Rattle.view_rules.specs.declared.expression.Arguments as rows
use Rattle.view_rules.specs.declared.expression.Expression.{Expression}
use Rattle.view_rules.specs.declared.expression.Expression as exprs
use Rattle.view_rules.specs.Tree.{PlainExpression, PlainArguments}
use Rattle.view_rules.specs.Tree as plain

abbrev mutual
  pub expression : Expression → PlainExpression
  expression (exprs.Literal at) = plain.Literal at
  expression (exprs.Negative at digits) = plain.Negative at digits
  expression (exprs.Variable at) = plain.Variable at
  expression (exprs.Parameter at number) = plain.Parameter at number
  expression (exprs.NamedColumn at row class member) = plain.NamedColumn at row class member
  expression (exprs.ClassConstant at number) = plain.ClassConstant at number
  expression (exprs.MapConstant at number) = plain.MapConstant at number
  expression (exprs.Column' _ row dot class member) = plain.Column (expression row) dot class member
  expression (exprs.OuterColumn at class member number) = plain.OuterColumn at class member number
  expression (exprs.Fetch at number) = plain.Fetch at number
  expression (exprs.Group' at _ inner close) = plain.Group at (expression inner) close
  expression (exprs.Not' at _ e) = plain.Not at (expression e)
  expression (exprs.Binary' operator _ left at _ right) = plain.Binary operator (expression left) at (expression right)
  expression (exprs.Equals' at texts _ left dot _ right close) = plain.Equals at texts (expression left) dot (expression right) close
  expression (exprs.ObjectsEquals' at texts _ left comma _ right close) = plain.ObjectsEquals at texts (expression left) comma (expression right) close
  expression (exprs.Unboxed' _ e dot) = plain.Unboxed (expression e) dot
  expression (exprs.TestedBefore' all tests _ kept) = plain.TestedBefore all tests (expression kept)
  expression (exprs.TestedBehind' all _ kept tests) = plain.TestedBehind all (expression kept) tests
  expression (exprs.Size at) = plain.Size at
  expression (exprs.IsEmpty at) = plain.IsEmpty at
  expression (exprs.Get' at _ place close) = plain.Get at (expression place) close
  expression (exprs.Contains' at _ value close) = plain.Contains at (expression value) close
  expression (exprs.NewList at java) = plain.NewList at java
  expression (exprs.NewSet at hashed java) = plain.NewSet at hashed java
  expression (exprs.Query' at cast number text java _ arguments) = plain.Query at cast number text java (arguments_of arguments)
  expression (exprs.NewSetOf' at hashed java _ query close) = plain.NewSetOf at hashed java (expression query) close

  pub arguments_of : Arguments → PlainArguments
  arguments_of rows.End = plain.End
  arguments_of (rows.Next' _ value _ rest) = plain.Next (expression value) (arguments_of rest)
