-- The places of a program, each with what is visible there.
use Rattle.std.specs.Prelude.{ℕ, Bool, true, false, List, [], ◌∷◌, ◌++◌}
use Rattle.std.specs.declared.option.Option.TheVariants.{Some, None}
use Rattle.qbs_base.specs.declared.span.Span.{Span}
use Rattle.qbs_base.specs.Values.{Schema}
use Rattle.java_ast.specs.Tree.{Expression, Var, Field, Binary, Not, Equals, Get, Contains, Query, QueryLong, QueryBoolean, NewSetOf, Expressions, NoMore, And, Statement, Declare, Assign, Add, Sort, If, IfElse, ForEach, While, Print, Return, Break, Statements, Nothing, Then, PlainParam, PlainMethod}
use Rattle.java_mean.specs.Types.{type_spelled}
use Rattle.java_mean.specs.Visible.{Visible, declared_in, after, with_params}

-- What stands round a block: the variables that for-each loops walk there, whether it is in a loop,
-- and whether the method ends where the block ends.
pub record Around : Type 0 where
  pub walked : List (List ℕ)
  pub in_loop : Bool
  pub final : Bool

abbrev pub around : List (List ℕ) → Bool → Bool → Around
around walked in_loop final = record { walked = walked; in_loop = in_loop; final = final }

-- An expression with what is visible there; a statement with what is visible before it, what stands round
-- its block, and whether it is the last one of the block; a parameter with those before it and the place of its
-- method; a method, and whether one before it has its name.
pub data Place : Type 0 where
  value : Visible → Expression → Place
  step : Visible → Around → Bool → Statement → Place
  param : Visible → Span → PlainParam → Place
  whole : Bool → PlainMethod → Place

-- the places of an expression's parts, each part before its own
abbrev mutual
  pub in_operands : Visible → Expression → List Place
  in_operands vs (Field at e f) = value vs e ∷ in_operands vs e
  in_operands vs (Binary at op a b) = (value vs a ∷ in_operands vs a) ++ (value vs b ∷ in_operands vs b)
  in_operands vs (Not at e) = value vs e ∷ in_operands vs e
  in_operands vs (Equals at a b) = (value vs a ∷ in_operands vs a) ++ (value vs b ∷ in_operands vs b)
  in_operands vs (Get at x e) = value vs e ∷ in_operands vs e
  in_operands vs (Contains at x e) = value vs e ∷ in_operands vs e
  in_operands vs (Query at ty text es) = in_expressions vs es
  in_operands vs (QueryLong at text es) = in_expressions vs es
  in_operands vs (QueryBoolean at text es) = in_expressions vs es
  in_operands vs (NewSetOf at e) = value vs e ∷ in_operands vs e
  in_operands vs _ = []

  pub in_expressions : Visible → Expressions → List Place
  in_expressions vs NoMore = []
  in_expressions vs (And e es) = (value vs e ∷ in_operands vs e) ++ in_expressions vs es

abbrev pub in_expression : Visible → Expression → List Place
in_expression vs e = value vs e ∷ in_operands vs e

abbrev pub is_nothing : Statements → Bool
is_nothing Nothing = true
is_nothing (Then a p) = false

-- a for-each over a variable walks it
abbrev pub walking : Expression → List (List ℕ) → List (List ℕ)
walking (Var at x) walked = walked ++ x ∷ []
walking _ walked = walked

-- what stands round the body of a loop, and round a branch
abbrev pub in_for_each : Expression → Around → Around
in_for_each e w = around (walking e w.walked) true false

abbrev pub in_while : Around → Around
in_while w = around w.walked true false

abbrev pub in_branch : Around → Around
in_branch w = around w.walked w.in_loop false

-- the places of a statement's parts, and of statements
abbrev mutual
  pub in_parts : Schema → Visible → Around → Statement → List Place
  in_parts schema vs w (Declare at ty x e) = in_expression vs e
  in_parts schema vs w (Assign at x e) = in_expression vs e
  in_parts schema vs w (Add at x e) = in_expression vs e
  in_parts schema vs w (Sort at x keys down) = []
  in_parts schema vs w (If at c a) = in_expression vs c ++ in_statements schema vs (in_branch w) a
  in_parts schema vs w (IfElse at c a b) = in_expression vs c ++ (in_statements schema vs (in_branch w) a ++ in_statements schema vs (in_branch w) b)
  in_parts schema vs w (ForEach at ty x e body) = in_expression vs e ++ in_statements schema (declared_in vs x (type_spelled schema ty)) (in_for_each e w) body
  in_parts schema vs w (While at c body) = in_expression vs c ++ in_statements schema vs (in_while w) body
  in_parts schema vs w (Print at e) = in_expression vs e
  in_parts schema vs w (Return at None) = []
  in_parts schema vs w (Return at (Some e)) = in_expression vs e
  in_parts schema vs w (Break at) = []

  pub in_statements : Schema → Visible → Around → Statements → List Place
  in_statements schema vs w Nothing = []
  in_statements schema vs w (Then a p) = (step vs w (is_nothing p) a ∷ in_parts schema vs w a) ++ in_statements schema (after schema vs a) w p

abbrev pub in_statement : Schema → Visible → Around → Bool → Statement → List Place
in_statement schema vs w last a = step vs w last a ∷ in_parts schema vs w a

abbrev pub in_params : Schema → Visible → Span → List PlainParam → List Place
in_params schema vs at [] = []
in_params schema vs at (p ∷ ps) = param vs at p ∷ in_params schema (declared_in vs p.name (type_spelled schema p.ty)) at ps

-- what stands round a method's body
abbrev pub in_body : Around
in_body = around [] false true

abbrev pub in_method : Schema → PlainMethod → List Place
in_method schema m = in_params schema [] m.span m.params ++ in_statements schema (with_params schema [] m.params) in_body m.body
