-- Statements that are seen, and ones that are not.
use Rattle.std.specs.Prelude.{◌≡◌, ℕ, ◌+◌, List, [], ◌∷◌, ◌++◌, Bool, true, false, map, codes, Option, Some, None, is_some}
use Rattle.qbs_base.specs.declared.columns.Column.{Column}
use Rattle.qbs_base.specs.declared.columns.Table.{Table}
use Rattle.qbs_base.specs.declared.scalar.Ty.{Ty}
use Rattle.qbs_base.specs.declared.scalar.Ty.TheVariants as tys
use Rattle.view_items.specs.Items.{items_of}
use Rattle.view_items.specs.declared.item.ItemKind.TheVariants as items
use Rattle.view_map.specs.declared.model.Member.{Member}
use Rattle.view_map.specs.declared.model.Part.TheVariants as parts
use Rattle.view_map.specs.declared.model.PatternItem.{PatternItem}
use Rattle.view_map.specs.declared.model.QueryKind.TheVariants as queries
use Rattle.view_map.specs.declared.model.RowClass.{RowClass}
use Rattle.view_map.specs.declared.model.ScalarKind.{ScalarKind}
use Rattle.view_map.specs.declared.model.ScalarKind.TheVariants as kinds
use Rattle.view_map.specs.declared.model.Template.{Template}
use Rattle.view_map.specs.declared.model.ViewMap.{ViewMap}
use Rattle.view_rules.specs.declared.expression.Operator.TheVariants as ops
use Rattle.view_rules.specs.declared.java_type.JavaType.{JavaType}
use Rattle.view_rules.specs.declared.java_type.JavaType.TheVariants as types
use Rattle.view_rules.specs.declared.sight.Sighted.{Sighted}
use Rattle.view_rules.specs.Setting.{Within}
use Rattle.view_rules.specs.Tree.{PlainExpression}
use Rattle.view_rules.specs.Tree as exprs
use Rattle.view_statements.specs.declared.statement.KeyForm.TheVariants as forms
use Rattle.view_statements.specs.declared.statement.SortPart.{SortPart}
use Rattle.view_statements.specs.declared.statement.SortPart.TheVariants as order
use Rattle.view_statements.specs.declared.statement.Step.TheVariants as counts
use Rattle.view_statements.specs.Cells.{statement_cells}
use Rattle.view_statements.specs.Places.{Frame, at_top, own_from_here}
use Rattle.view_statements.specs.Statements.{Passed, statement_of}
use Rattle.view_statements.specs.Tree.{PlainStatement, PlainStatements, Nothing, Then}
use Rattle.view_statements.specs.Tree as plain

-- ---- A map, a schema and a sight

abbrev column : List ℕ → Ty → Column
column name ty = record { name = name; ty = ty; not_null = true; primary = false }

abbrev accounts : Table
accounts = record { name = codes "user_account"; columns = column (codes "id") tys.Long ∷ column (codes "enabled") tys.Bool ∷ column (codes "age") tys.Long ∷ [] }

abbrev member : ScalarKind → Bool → List ℕ → ℕ → Member
member kind boxed name column = record { java = record { kind = kind; boxed = boxed }; name = name; is_call = true; column = column }

-- Long getId(), boolean isEnabled(), int getAge()
abbrev account_class : RowClass
account_class =
    record {
      class = codes "UserAccount";
      within = None;
      table = 0;
      by_value = false;
      members = member kinds.Long true (codes "getId") 0 ∷ member kinds.Boolean false (codes "isEnabled") 1 ∷ member kinds.Int false (codes "getAge") 2 ∷ [];
    }

abbrev word : List ℕ → PatternItem
word bytes = record { kind = items.Name; bytes = bytes }

abbrev sign : List ℕ → PatternItem
sign bytes = record { kind = items.Sign; bytes = bytes }

-- db.queryLong($sql {, $arg})
abbrev query_long : Template
query_long =
    record {
      kind = queries.Long;
      front = parts.Item (word (codes "db")) ∷ parts.Item (sign (codes ".")) ∷ parts.Item (word (codes "queryLong")) ∷ parts.Item (sign (codes "(")) ∷ parts.Sql ∷ [];
      each = parts.Item (sign (codes ",")) ∷ parts.Argument ∷ [];
      back = parts.Item (sign (codes ")")) ∷ [];
    }

abbrev accounts_map : ViewMap
accounts_map = record { classes = account_class ∷ []; fetches = []; constants = []; templates = query_long ∷ []; texts_binary = true }

abbrev scalar : ScalarKind → Bool → JavaType
scalar kind boxed = types.Scalar (record { kind = kind; boxed = boxed })

abbrev sighted : List ℕ → JavaType → Bool → Sighted
sighted name java outside = record { name = name; java = java; outside = outside; column = None }

-- of the slice's own an `int n`, two truth values a and b, and lists `us` of rows and `ids` of `Long`; from outside a `List<Long> all`
abbrev pub sight : List Sighted
sight =
    sighted (codes "n") (scalar kinds.Int false) false ∷ sighted (codes "a") (scalar kinds.Boolean false) false ∷ sighted (codes "b") (scalar kinds.Boolean false) false
    ∷ sighted (codes "us") (types.Rows 0) false ∷ sighted (codes "ids") (types.Scalars kinds.Long) false ∷ sighted (codes "all") (types.Scalars kinds.Long) true ∷ []

abbrev within : List ℕ → Within
within source =
    record {
      map = accounts_map;
      tables = accounts ∷ [];
      items = items_of source;
      classes = 0 ∷ [];
      fetches = [];
      templates = 0 ∷ [];
      map_constants = [];
      constants = [];
      params = [];
      tested = [];
      clear = codes "Math" ∷ codes "Comparator" ∷ [];
      gets = true;
    }

abbrev frame : List ℕ → Frame
frame source = record { within = within source; closings = []; end = 0 }

abbrev pub seen : List ℕ → PlainStatement → Option Passed
seen source st = statement_of (frame source) at_top sight st 0

abbrev pub tokens : List ℕ → PlainStatement → List (List ℕ)
tokens source st = map (λ c. c.bytes) (statement_cells (within source) [] st)

abbrev pub words : List ℕ → List (List ℕ)
words source = map (λ i. i.bytes) (items_of source)

-- `u.m()`, u being at an item
abbrev column_at : ℕ → ℕ → PlainExpression
column_at at number = exprs.Column (exprs.Variable at) (at + 1) 0 number

abbrev one : PlainStatement → PlainStatements
one st = Then st Nothing

-- ---- `continue`

abbrev pub skipped : List ℕ
skipped = codes "for (UserAccount u : us) { if (!u.isEnabled()) continue; n++; }"

abbrev pub skipping : PlainStatement
skipping =
    plain.ForEach 0 false 3 (types.Row 0) (exprs.Variable 5) 6 true
    (one (plain.Skip 8 (exprs.Not 10 (column_at 11 1)) 16 false (one (plain.Stepped 19 counts.Up 19 20 21)) 21)) 22

abbrev pub skipped_else : List ℕ
skipped_else = codes "for (UserAccount u : us) { if (u.isEnabled()) { continue; } --n; }"

abbrev pub skipping_else : PlainStatement
skipping_else =
    plain.ForEach 0 false 3 (types.Row 0) (exprs.Variable 5) 6 true
    (one (plain.Skip 8 (column_at 10 1) 15 true (one (plain.Stepped 20 counts.DownFirst 21 20 22)) 22)) 23

-- what is behind a `continue` stands in an `if` that asks the other way round
pub record WorkedSkips : Type 0 where
  pub without_else : seen skipped skipping ≡ Some (23, sight)
  pub its_tokens : tokens skipped skipping ≡ words (codes "for (user_account u : us) { if (u.enabled) { n++; } }")
  pub negated : seen skipped_else skipping_else ≡ Some (24, sight)
  pub negated_tokens : tokens skipped_else skipping_else ≡ words (codes "for (user_account u : us) { if (!(u.enabled)) { n = n - 1; } }")

-- ---- The greater one

abbrev pub greater : List ℕ
greater = codes "n = Math.max(n, 7);"

abbrev pub taking_greater : PlainStatement
taking_greater = plain.Extreme 0 true true (exprs.Literal 8) 10

-- `Math.max` is a comparison, where its value is of the variable's type
pub record WorkedExtremes : Type 0 where
  pub compared : seen greater taking_greater ≡ Some (11, sight)
  pub its_tokens : tokens greater taking_greater ≡ words (codes "if (7 > n) { n = 7; }")

-- ---- What is taken away

abbrev pub difference : List ℕ
difference = codes "n -= n - 1;"

abbrev pub taking_away : PlainStatement
taking_away = plain.Lessened 0 (exprs.Binary ops.Minus (exprs.Variable 2) 3 (exprs.Literal 4)) 5

-- all of it is taken away
pub record WorkedDifferences : Type 0 where
  pub whole : seen difference taking_away ≡ Some (6, sight)
  pub its_tokens : tokens difference taking_away ≡ words (codes "n = n - (n - 1);")

-- ---- `else`

abbrev pub either : List ℕ
either = codes "if (a) if (b) n++; else n--;"

abbrev counted : ℕ → PlainStatement
counted at = plain.Stepped at counts.Up at (at + 1) (at + 2)

abbrev lessened : ℕ → PlainStatement
lessened at = plain.Stepped at counts.Down at (at + 1) (at + 2)

-- the `else` belongs to the inner `if`
abbrev pub inner_else : PlainStatement
inner_else = plain.If 0 (exprs.Variable 2) 3 false (one (plain.IfElse 4 (exprs.Variable 6) 7 false (one (counted 8)) 11 false (one (lessened 12)) 14)) 14

abbrev pub outer_else : PlainStatement
outer_else = plain.IfElse 0 (exprs.Variable 2) 3 false (one (plain.If 4 (exprs.Variable 6) 7 false (one (counted 8)) 10)) 11 false (one (lessened 12)) 14

-- with a semicolon in place of a statement, and with two statements behind it
abbrev pub empty : List ℕ
empty = codes "if (a) ; else n++;"

abbrev pub empty_then : PlainStatement
empty_then = plain.IfElse 0 (exprs.Variable 2) 3 false Nothing 5 false (one (counted 6)) 8

abbrev pub empty_walk : List ℕ
empty_walk = codes "for (UserAccount u : us) ; n++;"

abbrev pub walking_nothing : PlainStatements → ℕ → PlainStatement
walking_nothing body end = plain.ForEach 0 false 3 (types.Row 0) (exprs.Variable 5) 6 false body end

-- an `else` belongs to the nearest `if`
pub record WorkedElse : Type 0 where
  pub inner : seen either inner_else ≡ Some (15, sight)
  pub its_tokens : tokens either inner_else ≡ words (codes "if (a) { if (b) { n++; } else { n = n - 1; } }")
  pub outer : seen either outer_else ≡ None

-- a semicolon is a body in which nothing is done, and what stands behind it isn't in it
pub record WorkedEmpty : Type 0 where
  pub branch : seen empty empty_then ≡ Some (9, sight)
  pub its_tokens : tokens empty empty_then ≡ words (codes "if (a) { } else { n++; }")
  pub walk : seen empty_walk (walking_nothing Nothing 7) ≡ Some (8, sight)
  pub behind : seen empty_walk (walking_nothing (one (counted 8)) 10) ≡ None

-- ---- Sets and lists

abbrev pub walked : List ℕ → List ℕ
walked set = codes "for (Long x : (new " ++ (set ++ codes "<Long>())) n++;")

abbrev pub walking : Bool → PlainStatement
walking hashed =
    plain.ForEach 0 false 3 (scalar kinds.Long true) (exprs.Group 5 (exprs.NewSet 6 hashed (types.Distinct kinds.Long)) 13) 14 false (one (counted 15)) 17

abbrev pub added : List ℕ
added = codes "all.add(7L);"

abbrev pub adding : PlainStatement
adding = plain.Add 0 (exprs.Literal 4) 5 6

abbrev pub first_set : List ℕ
first_set = codes "all = new ArrayList<Long>();"

abbrev pub setting_first : PlainStatement
setting_first = plain.FirstSet 0 (types.Scalars kinds.Long) (exprs.NewList 2 (types.Scalars kinds.Long)) 9

abbrev pub sight_behind : List Sighted
sight_behind = own_from_here (codes "all") sight

-- a hash set isn't walked, in parentheses neither, since its order isn't known
pub record WorkedSets : Type 0 where
  pub hashed : seen (walked (codes "HashSet")) (walking true) ≡ None
  pub linked : seen (walked (codes "LinkedHashSet")) (walking false) ≡ Some (18, sight)

-- a list from outside isn't added to, but may be set; then it is the slice's own
pub record WorkedLists : Type 0 where
  pub from_outside : seen added adding ≡ None
  pub set_first : seen first_set setting_first ≡ Some (10, sight_behind)

-- ---- Queries that are narrowed

abbrev pub narrowed : List ℕ → List ℕ
narrowed type = type ++ codes " x = (int) db.queryLong(\"q\");"

abbrev pub narrowing : ScalarKind → PlainStatement
narrowing kind = plain.Declaration 0 1 (scalar kind false) (exprs.Query 3 true 0 10 (scalar kinds.Long false) exprs.End) 12

abbrev pub assigned : List ℕ
assigned = codes "n = (int) db.queryLong(\"q\");"

-- of a variable n of this kind
abbrev pub seen_of : ScalarKind → Option Passed
seen_of kind =
    statement_of (frame assigned) at_top (sighted (codes "n") (scalar kind false) false ∷ []) (plain.Assignment 0 (exprs.Query 2 true 0 9 (scalar kinds.Long false) exprs.End) 11) 0

-- `(int)` before a query isn't seen as such, so it stands only where the variable is an `int`
pub record WorkedCasts : Type 0 where
  pub as_int : is_some (seen (narrowed (codes "int")) (narrowing kinds.Int)) ≡ true
  pub as_long : seen (narrowed (codes "long")) (narrowing kinds.Long) ≡ None
  pub to_int : is_some (seen_of kinds.Int) ≡ true
  pub to_long : seen_of kinds.Long ≡ None

-- ---- Orders that are turned

abbrev pub sorted : List ℕ
sorted = codes "us.sort(Comparator.comparing(u -> u.getAge()).reversed().thenComparing(u -> u.getId()).reversed().reversed());"

abbrev key : ℕ → ℕ → SortPart
key at member = order.Key (record { at = at; form = forms.Lambda; class = 0; member = member })

abbrev pub sorting : List SortPart → PlainStatement
sorting last = plain.Sort 0 false 0 (key 8 2 ∷ order.Reversed 16 ∷ key 23 0 ∷ order.Reversed 31 ∷ last) 40

-- `.reversed()` turns all before it in both languages, as often as it stands there
pub record WorkedOrders : Type 0 where
  pub turned : seen sorted (sorting (order.Reversed 35 ∷ [])) ≡ Some (41, sight)
  pub its_tokens : tokens sorted (sorting (order.Reversed 35 ∷ [])) ≡ words (codes "us.sort(Comparator.comparing(x -> x.age).reversed().thenComparing(x -> x.id).reversed().reversed());")
  pub once_less : seen sorted (sorting []) ≡ None
