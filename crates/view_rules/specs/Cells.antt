-- The tokens that are seen of an expression.
use Rattle.std.specs.Prelude.{ℕ, List, [], ◌∷◌, ◌++◌, Bool, true, false, nat_lt, Option, Some, None, slice_get, codes}
use Rattle.view_items.specs.declared.cell.Cell.{Cell}
use Rattle.view_items.specs.declared.item.Item.{Item}
use Rattle.view_map.specs.declared.model.Constant.{Constant}
use Rattle.view_map.specs.declared.model.FetchPattern.{FetchPattern}
use Rattle.view_map.specs.declared.model.Literal.{Literal}
use Rattle.view_map.specs.declared.model.QueryKind.{QueryKind}
use Rattle.view_map.specs.declared.model.QueryKind.TheVariants as queries
use Rattle.view_map.specs.declared.model.Template.{Template}
use Rattle.view_rules.specs.declared.java_type.JavaType.{JavaType}
use Rattle.view_rules.specs.declared.sight.ClassConstant.{ClassConstant}
use Rattle.view_rules.specs.declared.sight.Param.{Param}
use Rattle.view_rules.specs.Levels.{level_of}
use Rattle.view_rules.specs.Names.{column_name}
use Rattle.view_rules.specs.Setting.{Within}
use Rattle.view_rules.specs.Spelled.{bytes_at, table_of, element_of_type, type_words}
use Rattle.view_rules.specs.Tree.{PlainExpression, PlainArguments}
use Rattle.view_rules.specs.Tree as plain

-- a token that comes from an item
abbrev pub cell_from : Option Item → List ℕ → List Cell
cell_from (Some item) bytes = record { bytes = bytes; from = item.from; to = item.to } ∷ []
cell_from None bytes = []

-- a token of a rule's, in place of an item
abbrev pub made : Within → ℕ → List ℕ → List Cell
made w i bytes = cell_from (slice_get w.items i) bytes

abbrev pub all_made : Within → ℕ → List (List ℕ) → List Cell
all_made w i [] = []
all_made w i (word ∷ words) = made w i word ++ all_made w i words

-- the item itself
abbrev pub item_cells : Within → ℕ → List Cell
item_cells w i = made w i (bytes_at w i)

-- a name that may be missing
abbrev pub made_of : Within → ℕ → Option (List ℕ) → List Cell
made_of w i (Some bytes) = made w i bytes
made_of w i None = []

-- the tokens of a type, in place of an item
abbrev pub type_cells : Within → ℕ → JavaType → List Cell
type_cells w i java = all_made w i (type_words w java)

abbrev pub minus : Bool → List (List ℕ)
minus true = codes "-" ∷ []
minus false = []

-- the value in place of the name
abbrev pub literal_cells : Within → ℕ → Literal → List Cell
literal_cells w i l = all_made w i (minus l.negative) ++ made w i l.bytes

abbrev pub constant_cells : Within → ℕ → Option ClassConstant → List Cell
constant_cells w i (Some c) = literal_cells w i c.value
constant_cells w i None = []

abbrev pub map_constant_cells : Within → ℕ → Option Constant → List Cell
map_constant_cells w i (Some c) = literal_cells w i c.value
map_constant_cells w i None = []

abbrev pub param_cells : Within → ℕ → Option Param → List Cell
param_cells w i (Some p) = made w i p.name
param_cells w i None = []

abbrev pub in_parentheses : Within → Bool → ℕ → ℕ → List Cell → List Cell
in_parentheses w true front close cells = made w front (codes "(") ++ cells ++ made w close (codes ")")
in_parentheses w false front close cells = cells

-- an expression in parentheses where it binds too loosely, in place of the items beside it
abbrev pub wrapped : Within → ℕ → ℕ → ℕ → ℕ → List Cell → List Cell
wrapped w least level front close cells = in_parentheses w (nat_lt level least) front close cells

abbrev pub list_query_words : List (List ℕ)
list_query_words = codes "db" ∷ codes "." ∷ codes "query" ∷ codes "(" ∷ []

abbrev pub class_words : List (List ℕ)
class_words = codes "." ∷ codes "class" ∷ codes "," ∷ []

-- what stands before the text of a query
abbrev pub query_front : Within → ℕ → QueryKind → JavaType → List Cell
query_front w i queries.List java = all_made w i list_query_words ++ made w i (element_of_type w java) ++ all_made w i class_words
query_front w i queries.Long java = all_made w i (codes "db" ∷ codes "." ∷ codes "queryLong" ∷ codes "(" ∷ [])
query_front w i queries.Boolean java = all_made w i (codes "db" ∷ codes "." ∷ codes "queryBoolean" ∷ codes "(" ∷ [])

abbrev pub query_of : Within → ℕ → Option Template → JavaType → List Cell
query_of w i (Some t) java = query_front w i t.kind java
query_of w i None java = []

abbrev pub query_cells : Within → ℕ → ℕ → JavaType → List Cell
query_cells w i number java = query_of w i (slice_get w.map.templates number) java

abbrev pub fetch_front : List (List ℕ)
fetch_front = codes "db" ∷ codes "." ∷ codes "fetch" ∷ codes "(" ∷ []

abbrev pub fetch_back : List (List ℕ)
fetch_back = codes "." ∷ codes "class" ∷ codes ")" ∷ []

-- the number of the class of a fetch pattern
abbrev pub fetch_cells : Within → ℕ → Option FetchPattern → List Cell
fetch_cells w i (Some f) = all_made w i fetch_front ++ made w i (table_of w f.table) ++ all_made w i fetch_back
fetch_cells w i None = []

-- two values compared, whole, in parentheses: `( a == b )`
abbrev pub compared : Within → ℕ → ℕ → ℕ → List Cell → List Cell → List Cell
compared w at middle close a b = made w at (codes "(") ++ (a ++ (made w middle (codes "==") ++ (b ++ made w close (codes ")"))))

-- two texts compared: `a . equals ( b )`
abbrev pub equal_texts : Within → ℕ → ℕ → List Cell → List Cell → List Cell
equal_texts w middle close a b = a ++ (all_made w middle (codes "." ∷ codes "equals" ∷ codes "(" ∷ []) ++ (b ++ made w close (codes ")")))

abbrev pub new_list_words : List (List ℕ)
new_list_words = codes "new" ∷ codes "ArrayList" ∷ codes "<" ∷ codes ">" ∷ codes "(" ∷ codes ")" ∷ []

abbrev pub new_set_front : List (List ℕ)
new_set_front = codes "new" ∷ codes "LinkedHashSet" ∷ codes "<" ∷ codes ">" ∷ codes "(" ∷ []

abbrev pub size_words : List (List ℕ)
size_words = codes "." ∷ codes "size" ∷ codes "(" ∷ codes ")" ∷ []

abbrev pub is_zero_words : List (List ℕ)
is_zero_words = codes "==" ∷ codes "0" ∷ codes ")" ∷ []

abbrev mutual
  -- The tokens of an expression. Those that are no items of the file come in place of the item beside which they stand.
  pub expression_cells : Within → PlainExpression → List Cell
  expression_cells w (plain.Literal at) = item_cells w at
  expression_cells w (plain.Negative at digits) = item_cells w at ++ item_cells w digits
  expression_cells w (plain.Variable at) = item_cells w at
  expression_cells w (plain.Parameter at number) = param_cells w at (slice_get w.params number)
  expression_cells w (plain.NamedColumn at row class member) =
      made w at (bytes_at w row) ++ (made w at (codes ".") ++ made_of w at (column_name w class member))
  expression_cells w (plain.ClassConstant at number) = constant_cells w at (slice_get w.constants number)
  expression_cells w (plain.MapConstant at number) = map_constant_cells w at (slice_get w.map.constants number)
  expression_cells w (plain.Column row dot class member) = expression_cells w row ++ (item_cells w dot ++ made_of w dot (column_name w class member))
  expression_cells w (plain.OuterColumn at class member number) = param_cells w at (slice_get w.params number)
  expression_cells w (plain.Fetch at number) = fetch_cells w at (slice_get w.map.fetches number)
  expression_cells w (plain.Group at inner close) = item_cells w at ++ (expression_cells w inner ++ item_cells w close)
  expression_cells w (plain.Not at inner) = item_cells w at ++ expression_cells w inner
  expression_cells w (plain.Binary operator left at right) = expression_cells w left ++ (item_cells w at ++ expression_cells w right)
  expression_cells w (plain.Equals at true left dot right close) = equal_texts w dot close (expression_cells w left) (expression_cells w right)
  expression_cells w (plain.Equals at false left dot right close) =
      compared w at dot close (expression_cells w left) (wrapped w 4 (level_of right) dot close (expression_cells w right))
  expression_cells w (plain.ObjectsEquals at true left comma right close) =
      equal_texts w comma close (expression_cells w left) (expression_cells w right)
  expression_cells w (plain.ObjectsEquals at false left comma right close) =
      compared w at comma close (wrapped w 3 (level_of left) at comma (expression_cells w left)) (wrapped w 4 (level_of right) comma close (expression_cells w right))
  -- unboxing leaves nothing
  expression_cells w (plain.Unboxed inner dot) = expression_cells w inner
  -- and nor do tests for null
  expression_cells w (plain.TestedBefore all tests kept) = expression_cells w kept
  expression_cells w (plain.TestedBehind all kept tests) = expression_cells w kept
  expression_cells w (plain.Size at) = item_cells w at ++ all_made w at size_words
  -- `( xs . size ( ) == 0 )`
  expression_cells w (plain.IsEmpty at) = made w at (codes "(") ++ (item_cells w at ++ (all_made w at size_words ++ all_made w at is_zero_words))
  expression_cells w (plain.Get at place close) =
      item_cells w at ++ (all_made w at (codes "." ∷ codes "get" ∷ codes "(" ∷ []) ++ (expression_cells w place ++ item_cells w close))
  expression_cells w (plain.Contains at value close) =
      item_cells w at ++ (all_made w at (codes "." ∷ codes "contains" ∷ codes "(" ∷ []) ++ (expression_cells w value ++ item_cells w close))
  expression_cells w (plain.NewList at java) = all_made w at new_list_words
  expression_cells w (plain.NewSet at hashed java) = all_made w at new_set_front ++ made w at (codes ")")
  -- numbers have one type in what is seen, so a cast leaves nothing
  expression_cells w (plain.Query at cast number text java arguments) =
      query_cells w at number java ++ (item_cells w text ++ (argument_cells w text arguments ++ made w text (codes ")")))
  expression_cells w (plain.NewSetOf at hashed java query close) = all_made w at new_set_front ++ (expression_cells w query ++ item_cells w close)

  pub argument_cells : Within → ℕ → PlainArguments → List Cell
  argument_cells w text plain.End = []
  argument_cells w text (plain.Next value rest) = made w text (codes ",") ++ (expression_cells w value ++ argument_cells w text rest)
