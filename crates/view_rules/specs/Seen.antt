-- Which items are seen as an expression, and of which type: one clause a rule.
use Rattle.std.specs.Prelude.{ℕ, List, [], ◌∷◌, true, ◌+◌, Option, Some, None, slice_get, codes, if◌then◌else◌}
use Rattle.view_map.specs.declared.model.Part.{Part}
use Rattle.view_map.specs.declared.model.ScalarKind.TheVariants as kinds
use Rattle.view_rules.specs.declared.sight.Sighted.{Sighted}
use Rattle.view_rules.specs.Decisions.{unboxed_type, truth}
use Rattle.view_rules.specs.Levels.{level_of}
use Rattle.view_rules.specs.Lists.{past_method, past_get, got, contained, new_list, new_set, past_new, set_word, is_query, set_of_query, is_many, many_at}
use Rattle.view_rules.specs.Literals.{literal_kind, number_kind}
use Rattle.view_rules.specs.Names.{Seen, variable_at, own_type, outer_type, column_type, is_outer_row, past_member, constant_at, map_constant_at}
use Rattle.view_rules.specs.Nulls.{past_tests_before, past_tests_behind, has_some}
use Rattle.view_rules.specs.Operators.{operator_sign, binary, negated, tested_before, tested_behind, opened, closed, past_equals, past_objects, past_sign, equalled, equalled_objects, unboxed_at, column_at}
use Rattle.view_rules.specs.Options.{◌>>=◌, where_so}
use Rattle.view_rules.specs.Queries.{fetch_at, template_of, past_query, queried, before_argument, passed}
use Rattle.view_rules.specs.Setting.{Within, past, next, here}
use Rattle.view_rules.specs.Spelled.{bytes_at}
use Rattle.view_rules.specs.Tree.{PlainExpression, PlainArguments}
use Rattle.view_rules.specs.Tree as plain

-- a literal, which has the same value in either language
abbrev pub literal_at : Within → ℕ → ℕ → Option Seen
literal_at w at i = here at i >>= λ h. literal_kind (bytes_at w h) >>= λ kind. next w h >>= λ j. Some (j, unboxed_type kind)

abbrev pub negative_at : Within → ℕ → ℕ → ℕ → Option Seen
negative_at w at digits i =
    here at i >>= λ h. past w (codes "-") h >>= λ j. here digits j >>= λ d. number_kind true (bytes_at w d) >>= λ kind. next w d >>= λ k. Some (k, unboxed_type kind)

abbrev pub own_variable_at : Within → List Sighted → ℕ → ℕ → Option Seen
own_variable_at w s at i = here at i >>= λ h. variable_at w s h >>= λ v. own_type v >>= λ java. next w h >>= λ j. Some (j, java)

abbrev pub parameter_at : Within → List Sighted → ℕ → ℕ → ℕ → Option Seen
parameter_at w s at number i = here at i >>= λ h. variable_at w s h >>= λ v. outer_type w number v >>= λ java. next w h >>= λ j. Some (j, java)

abbrev pub named_column_at : Within → List Sighted → ℕ → ℕ → ℕ → ℕ → ℕ → Option Seen
named_column_at w s at row class member i =
    here at i >>= λ h. variable_at w s h >>= λ v. column_type w row class member v >>= λ java. next w h >>= λ j. Some (j, java)

abbrev pub outer_column_at : Within → List Sighted → ℕ → ℕ → ℕ → ℕ → ℕ → Option Seen
outer_column_at w s at class member number i =
    here at i >>= λ h. variable_at w s h >>= λ v. where_so (is_outer_row w class member number v) h >>= λ g. next w g >>= λ j. past_member w class member j

abbrev pub class_constant_at : Within → ℕ → ℕ → ℕ → Option Seen
class_constant_at w at number i = here at i >>= λ h. constant_at w (slice_get w.constants number) h

abbrev pub map_constant_from : Within → ℕ → ℕ → ℕ → Option Seen
map_constant_from w at number i = here at i >>= λ h. map_constant_at w number h

-- a list's or set's length is an `int`
abbrev pub size_at : Within → List Sighted → ℕ → ℕ → Option Seen
size_at w s at i =
    past_method w s at (codes "." ∷ codes "size" ∷ codes "(" ∷ codes ")" ∷ []) i >>= λ xs. Some (xs.0, unboxed_type kinds.Int)

abbrev pub is_empty_at : Within → List Sighted → ℕ → ℕ → Option Seen
is_empty_at w s at i =
    past_method w s at (codes "." ∷ codes "isEmpty" ∷ codes "(" ∷ codes ")" ∷ []) i >>= λ xs. Some (xs.0, truth)

abbrev pub past_contains : Within → List Sighted → ℕ → ℕ → Option Seen
past_contains w s at i = past_method w s at (codes "." ∷ codes "contains" ∷ codes "(" ∷ []) i

abbrev mutual
  -- The tree says how the items from one on are seen as an expression: the number of the item behind them, and the type that Java has there.
  pub expression_of : Within → List Sighted → PlainExpression → ℕ → Option Seen
  -- both languages give the literal the same value
  expression_of w s (plain.Literal at) i = literal_at w at i
  expression_of w s (plain.Negative at digits) i = negative_at w at digits i
  -- the variable has in what is seen the value that it has in Java
  expression_of w s (plain.Variable at) i = own_variable_at w s at i
  -- and so has a parameter the value that the variable from outside has when the slice begins, which sets the one where it sets the other
  expression_of w s (plain.Parameter at number) i = parameter_at w s at number i
  -- a member gives one value throughout the slice, which sets neither the name nor the row behind the declaration
  expression_of w s (plain.NamedColumn at row class member) i = named_column_at w s at row class member i
  -- Java puts the value in place of the name
  expression_of w s (plain.ClassConstant at number) i = class_constant_at w at number i
  -- the constant has the value that the map says
  expression_of w s (plain.MapConstant at number) i = map_constant_from w at number i
  -- a member gives the value of the row's column and does nothing else
  expression_of w s (plain.Column row dot class member) i = expression_of w s row i >>= λ e. column_at w dot class member (level_of row) e
  -- nothing in a slice changes a row, so a row from outside gives the value throughout that it gives at the beginning
  expression_of w s (plain.OuterColumn at class member number) i = outer_column_at w s at class member number i
  -- the pattern gives a fresh list of all rows of the table
  expression_of w s (plain.Fetch at number) i = fetch_at w number at i
  -- parentheses stay
  expression_of w s (plain.Group at inner close) i = opened w at i >>= λ j. expression_of w s inner j >>= λ e. closed w close e
  -- the other truth value, of an operand that is unboxed
  expression_of w s (plain.Not at inner) i =
      past_sign w (codes "!") at i >>= λ j. expression_of w s inner j >>= λ e. negated (level_of inner) e
  -- the operators are Java's, over operands that are unboxed, and numbers stay within their types
  expression_of w s (plain.Binary operator left at right) i =
      expression_of w s left i >>= λ a. past_sign w (operator_sign operator) at a.0 >>= λ j.
      expression_of w s right j >>= λ b. binary operator (level_of left) a.1 (level_of right) b
  -- a boxed number or truth value equals one of its own type of equal value alone, and texts are compared by their bytes
  expression_of w s (plain.Equals at texts left dot right close) i =
      here at i >>= λ h. expression_of w s left h >>= λ a. past_equals w dot a.0 >>= λ j.
      expression_of w s right j >>= λ b. equalled w texts (level_of left) a.1 b >>= λ e. closed w close e
  -- neither is null, so the first one is asked
  expression_of w s (plain.ObjectsEquals at texts left comma right close) i =
      past_objects w at i >>= λ h. expression_of w s left h >>= λ a. past_sign w (codes ",") comma a.0 >>= λ j.
      expression_of w s right j >>= λ b. equalled_objects w texts (level_of left) a.1 b >>= λ e. closed w close e
  -- the same value, primitive
  expression_of w s (plain.Unboxed inner dot) i = expression_of w s inner i >>= λ e. unboxed_at w dot (level_of inner) e
  -- no column is null that a member gives, so each test is true as a part of `&&`, and false as a part of `||`, and has no effect
  expression_of w s (plain.TestedBefore all tests kept) i =
      (if has_some tests then (past_tests_before w s all tests i >>= λ j. expression_of w s kept j >>= λ e. tested_before all (level_of kept) e) else None)
  expression_of w s (plain.TestedBehind all kept tests) i =
      (if has_some tests then (expression_of w s kept i >>= λ e. past_tests_behind w s all tests e.0 >>= λ j. tested_behind all (level_of kept) e.1 j) else None)
  -- the list or set is the slice's own, and no one else holds it
  expression_of w s (plain.Size at) i = size_at w s at i
  -- it is empty where its size is 0
  expression_of w s (plain.IsEmpty at) i = is_empty_at w s at i
  -- where the place isn't there both fault
  expression_of w s (plain.Get at place close) i =
      past_get w s at i >>= λ xs. expression_of w s place xs.0 >>= λ e. got xs.1 e >>= λ f. closed w close f
  -- Java looks for an equal object: one of the element type, or its primitive, which is boxed to it
  expression_of w s (plain.Contains at value close) i =
      past_contains w s at i >>= λ xs. expression_of w s value xs.0 >>= λ e. contained w xs.1 e >>= λ f. closed w close f
  -- a fresh list that nobody else holds
  expression_of w s (plain.NewList at java) i = new_list w java at i
  -- the order of a hash set isn't seen where nobody walks it, which is to be looked at where one is declared
  expression_of w s (plain.NewSet at hashed java) i = new_set w hashed java at i
  -- the template answers as the meaning of queries says
  expression_of w s (plain.Query at cast number text java arguments) i =
      template_of w number >>= λ t. past_query w t cast text java at i >>= λ j. arguments_of w s t.each arguments 1 j >>= λ k. queried w t cast text java k
  -- a set of a list keeps the first place of each
  expression_of w s (plain.NewSetOf at hashed java query close) i =
      past_new w (set_word hashed) java at i >>= λ j. expression_of w s query j >>= λ e. set_of_query w java (is_query query) e >>= λ f. closed w close f

  -- The arguments of a query from its n-th one on: the number of the item behind them.
  pub arguments_of : Within → List Sighted → List Part → PlainArguments → ℕ → ℕ → Option ℕ
  arguments_of w s each plain.End n i = Some i
  arguments_of w s each (plain.Next value rest) n i =
      before_argument w n each i >>= λ j. expression_of w s value j >>= λ e. passed w n each j (level_of value) e >>= λ k. arguments_of w s each rest (n + 1) k

-- What a for-each walks: a list or set of the slice's own, or a fresh one.
abbrev pub walked_of : Within → List Sighted → PlainExpression → ℕ → Option Seen
walked_of w s (plain.Variable at) i = here at i >>= λ h. many_at w s h >>= λ java. next w h >>= λ j. Some (j, java)
walked_of w s e i = expression_of w s e i >>= λ seen. where_so (is_many seen.1) seen
