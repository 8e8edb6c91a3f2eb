-- Trees with all places left aside, so that two trees are the same but for their places where these are equal.
use Rattle.std.specs.Prelude.{List, [], ◌∷◌}
use Rattle.std.specs.Option.{option_map}
use Rattle.qbs_base.specs.declared.span.Span.{Span}
use Rattle.java_ast.specs.Tree.{Expression, Lit, Var, Field, Binary, Not, Equals, Size, Get, Contains, Fetch, Query, QueryLong, QueryBoolean, NewList, NewSet, NewSetOf, Expressions, NoMore, And, Statement, Declare, Assign, Add, Sort, If, IfElse, ForEach, While, Print, Return, Break, Statements, Nothing, Then, PlainMethod, PlainProgram}

-- the place of what stands at no place
abbrev pub nowhere : Span
nowhere = record { line = 0; column = 0; start = 0; end = 0 }

abbrev mutual
  pub unplaced : Expression → Expression
  unplaced (Lit at value) = Lit nowhere value
  unplaced (Var at name) = Var nowhere name
  unplaced (Field at row name) = Field nowhere (unplaced row) name
  unplaced (Binary at op a b) = Binary nowhere op (unplaced a) (unplaced b)
  unplaced (Not at e) = Not nowhere (unplaced e)
  unplaced (Equals at a b) = Equals nowhere (unplaced a) (unplaced b)
  unplaced (Size at name) = Size nowhere name
  unplaced (Get at name e) = Get nowhere name (unplaced e)
  unplaced (Contains at name e) = Contains nowhere name (unplaced e)
  unplaced (Fetch at table) = Fetch nowhere table
  unplaced (Query at element text arguments) = Query nowhere element text (unplaced_all arguments)
  unplaced (QueryLong at text arguments) = QueryLong nowhere text (unplaced_all arguments)
  unplaced (QueryBoolean at text arguments) = QueryBoolean nowhere text (unplaced_all arguments)
  unplaced (NewList at) = NewList nowhere
  unplaced (NewSet at) = NewSet nowhere
  unplaced (NewSetOf at query) = NewSetOf nowhere (unplaced query)

  pub unplaced_all : Expressions → Expressions
  unplaced_all NoMore = NoMore
  unplaced_all (And e es) = And (unplaced e) (unplaced_all es)

abbrev mutual
  pub unplaced_statement : Statement → Statement
  unplaced_statement (Declare at ty name value) = Declare nowhere ty name (unplaced value)
  unplaced_statement (Assign at name value) = Assign nowhere name (unplaced value)
  unplaced_statement (Add at name value) = Add nowhere name (unplaced value)
  unplaced_statement (Sort at name keys downs) = Sort nowhere name keys downs
  unplaced_statement (If at cond first) = If nowhere (unplaced cond) (unplaced_block first)
  unplaced_statement (IfElse at cond first other) = IfElse nowhere (unplaced cond) (unplaced_block first) (unplaced_block other)
  unplaced_statement (ForEach at ty name list body) = ForEach nowhere ty name (unplaced list) (unplaced_block body)
  unplaced_statement (While at cond body) = While nowhere (unplaced cond) (unplaced_block body)
  unplaced_statement (Print at value) = Print nowhere (unplaced value)
  unplaced_statement (Return at value) = Return nowhere (option_map unplaced value)
  unplaced_statement (Break at) = Break nowhere

  pub unplaced_block : Statements → Statements
  unplaced_block Nothing = Nothing
  unplaced_block (Then s ss) = Then (unplaced_statement s) (unplaced_block ss)

abbrev pub unplaced_method : PlainMethod → PlainMethod
unplaced_method m = record m { body = unplaced_block m.body; span = nowhere }

abbrev pub unplaced_methods : List PlainMethod → List PlainMethod
unplaced_methods [] = []
unplaced_methods (m ∷ ms) = unplaced_method m ∷ unplaced_methods ms

abbrev pub unplaced_program : PlainProgram → PlainProgram
unplaced_program p = record p { methods = unplaced_methods p.methods }
