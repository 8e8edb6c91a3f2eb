-- Expressions in which each node has one place.
use Rattle.qbs_base.specs.declared.span.Span.{Span}
use Rattle.java_ast.specs.Tree.{Expression, Lit, Var, Field, Binary, Not, Equals, Size, Get, Contains, Fetch, Query, QueryLong, QueryBoolean, NewList, NewSet, NewSetOf, Expressions, NoMore, And}

abbrev mutual
  -- the expression with this place at each node, at every depth
  pub placed : Span → Expression → Expression
  placed to (Lit at value) = Lit to value
  placed to (Var at name) = Var to name
  placed to (Field at row name) = Field to (placed to row) name
  placed to (Binary at op a b) = Binary to op (placed to a) (placed to b)
  placed to (Not at e) = Not to (placed to e)
  placed to (Equals at a b) = Equals to (placed to a) (placed to b)
  placed to (Size at name) = Size to name
  placed to (Get at name e) = Get to name (placed to e)
  placed to (Contains at name e) = Contains to name (placed to e)
  placed to (Fetch at table) = Fetch to table
  placed to (Query at element text arguments) = Query to element text (placed_all to arguments)
  placed to (QueryLong at text arguments) = QueryLong to text (placed_all to arguments)
  placed to (QueryBoolean at text arguments) = QueryBoolean to text (placed_all to arguments)
  placed to (NewList at) = NewList to
  placed to (NewSet at) = NewSet to
  placed to (NewSetOf at query) = NewSetOf to (placed to query)

  pub placed_all : Span → Expressions → Expressions
  placed_all to NoMore = NoMore
  placed_all to (And e es) = And (placed to e) (placed_all to es)
