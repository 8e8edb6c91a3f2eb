-- Variables of a helper with names of their own at the place of a call.
use Rattle.std.specs.Prelude.{ℕ, List, ◌++◌, if◌then◌else◌}
use Rattle.std.specs.Str.{bytes_eq}
use Rattle.std.specs.declared.option.Option.{Option}
use Rattle.std.specs.declared.option.Option.TheVariants.{Some, None}
use Rattle.call_parts.specs.Marks.{mark_of}
use Rattle.java_ast.specs.Tree.{Expression, Lit, Var, Field, Binary, Not, Equals, Size, Get, Contains, Fetch, Query, QueryLong, QueryBoolean, NewList, NewSet, NewSetOf, Expressions, NoMore, And}

abbrev pub Renaming : Type 0
Renaming = List ℕ → List ℕ

-- the names stay
abbrev pub as_they_are : Renaming
as_they_are x = x

-- one variable is called so, and all others have the mark of a number
abbrev pub marked_but : Option (List ℕ) → List ℕ → ℕ → Renaming
marked_but None to c x = x ++ mark_of c
marked_but (Some v) to c x = if bytes_eq v x then to else x ++ mark_of c

abbrev mutual
  pub renamed : Renaming → Expression → Expression
  renamed f (Lit at value) = Lit at value
  renamed f (Var at x) = Var at (f x)
  renamed f (Field at row column) = Field at (renamed f row) column
  renamed f (Binary at op a b) = Binary at op (renamed f a) (renamed f b)
  renamed f (Not at e) = Not at (renamed f e)
  renamed f (Equals at a b) = Equals at (renamed f a) (renamed f b)
  renamed f (Size at x) = Size at (f x)
  renamed f (Get at x e) = Get at (f x) (renamed f e)
  renamed f (Contains at x e) = Contains at (f x) (renamed f e)
  renamed f (Fetch at table) = Fetch at table
  renamed f (Query at element text es) = Query at element text (all_renamed f es)
  renamed f (QueryLong at text es) = QueryLong at text (all_renamed f es)
  renamed f (QueryBoolean at text es) = QueryBoolean at text (all_renamed f es)
  renamed f (NewList at) = NewList at
  renamed f (NewSet at) = NewSet at
  renamed f (NewSetOf at query) = NewSetOf at (renamed f query)

  pub all_renamed : Renaming → Expressions → Expressions
  all_renamed f NoMore = NoMore
  all_renamed f (And e es) = And (renamed f e) (all_renamed f es)
