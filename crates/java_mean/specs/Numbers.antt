-- Programs whose integer literals have 64 bits with a sign. A tree of the code has no others, and a plain
-- tree may have any.
use Rattle.std.specs.Prelude.{◌≡◌, Bool, true, ◌&&◌, List, [], ◌∷◌}
use Rattle.std.specs.declared.option.Option.TheVariants.{Some, None}
use Rattle.qbs_base.specs.declared.scalar.Scalar.{Scalar}
use Rattle.qbs_base.specs.declared.scalar.Scalar.TheVariants as scalars
use Rattle.qbs_base.specs.Values.{fits_long}
use Rattle.java_ast.specs.Tree.{Expression, Lit, Var, Field, Binary, Not, Equals, Size, Get, Contains, Fetch, Query, QueryLong, QueryBoolean, NewList, NewSet, NewSetOf, Expressions, NoMore, And, Statement, Declare, Assign, Add, Sort, If, IfElse, ForEach, While, Print, Return, Break, Statements, Nothing, Then, PlainMethod, PlainProgram}

abbrev pub literal_fits : Scalar → Bool
literal_fits (scalars.Long n) = fits_long n
literal_fits (scalars.Bool b) = true
literal_fits (scalars.Text t) = true

abbrev mutual
  pub expression_fits : Expression → Bool
  expression_fits (Lit at x) = literal_fits x
  expression_fits (Var at x) = true
  expression_fits (Field at e f) = expression_fits e
  expression_fits (Binary at op a b) = expression_fits a && expression_fits b
  expression_fits (Not at e) = expression_fits e
  expression_fits (Equals at a b) = expression_fits a && expression_fits b
  expression_fits (Size at x) = true
  expression_fits (Get at x e) = expression_fits e
  expression_fits (Contains at x e) = expression_fits e
  expression_fits (Fetch at t) = true
  expression_fits (Query at ty text es) = expressions_fit es
  expression_fits (QueryLong at text es) = expressions_fit es
  expression_fits (QueryBoolean at text es) = expressions_fit es
  expression_fits (NewList at) = true
  expression_fits (NewSet at) = true
  expression_fits (NewSetOf at e) = expression_fits e

  pub expressions_fit : Expressions → Bool
  expressions_fit NoMore = true
  expressions_fit (And e es) = expression_fits e && expressions_fit es

abbrev mutual
  pub statement_fits : Statement → Bool
  statement_fits (Declare at ty x e) = expression_fits e
  statement_fits (Assign at x e) = expression_fits e
  statement_fits (Add at x e) = expression_fits e
  statement_fits (Sort at x keys down) = true
  statement_fits (If at c a) = expression_fits c && statements_fit a
  statement_fits (IfElse at c a b) = expression_fits c && (statements_fit a && statements_fit b)
  statement_fits (ForEach at ty x e body) = expression_fits e && statements_fit body
  statement_fits (While at c body) = expression_fits c && statements_fit body
  statement_fits (Print at e) = expression_fits e
  statement_fits (Return at None) = true
  statement_fits (Return at (Some e)) = expression_fits e
  statement_fits (Break at) = true

  pub statements_fit : Statements → Bool
  statements_fit Nothing = true
  statements_fit (Then a p) = statement_fits a && statements_fit p

abbrev pub methods_fit : List PlainMethod → Bool
methods_fit [] = true
methods_fit (m ∷ ms) = statements_fit m.body && methods_fit ms

abbrev pub NumbersFit : PlainProgram → Type 0
NumbersFit p = methods_fit p.methods ≡ true
