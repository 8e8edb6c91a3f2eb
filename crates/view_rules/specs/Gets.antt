-- Which expressions hold `get`, which may fault.
use Rattle.std.specs.Prelude.{Bool, true, false, ◌||◌}
use Rattle.view_rules.specs.Tree.{PlainExpression, PlainArguments}
use Rattle.view_rules.specs.Tree as plain

abbrev mutual
  pub holds_get : PlainExpression → Bool
  holds_get (plain.Column row dot class member) = holds_get row
  holds_get (plain.Group at inner close) = holds_get inner
  holds_get (plain.Not at inner) = holds_get inner
  holds_get (plain.Binary operator left at right) = holds_get left || holds_get right
  holds_get (plain.Equals at texts left dot right close) = holds_get left || holds_get right
  holds_get (plain.ObjectsEquals at texts left comma right close) = holds_get left || holds_get right
  holds_get (plain.Unboxed inner dot) = holds_get inner
  holds_get (plain.TestedBefore all tests kept) = holds_get kept
  holds_get (plain.TestedBehind all kept tests) = holds_get kept
  holds_get (plain.Get at place close) = true
  holds_get (plain.Contains at value close) = holds_get value
  holds_get (plain.Query at cast number text java arguments) = some_holds_get arguments
  holds_get (plain.NewSetOf at hashed java query close) = holds_get query
  holds_get _ = false

  pub some_holds_get : PlainArguments → Bool
  some_holds_get plain.End = false
  some_holds_get (plain.Next value rest) = holds_get value || some_holds_get rest
