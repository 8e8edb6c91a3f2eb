-- The types of queries' answers, and what a method of a program is typed under.
use Rattle.std.specs.Prelude.{ℕ, List}
use Rattle.std.specs.Option.{option_map}
use Rattle.std.specs.declared.option.Option.{Option}
use Rattle.std.specs.declared.option.Option.TheVariants.{Some, None}
use Rattle.qbs_base.specs.declared.scalar.Ty.TheVariants as tys
use Rattle.qbs_base.specs.Values.{Schema}
use Rattle.java_ast.specs.Tree.{Spelled, PlainMethod}
use Rattle.sql_ast.specs.declared.tree.FromItem.{FromItem}
use Rattle.sql_ast.specs.declared.tree.SqlCol.{SqlCol}
use Rattle.sql_ast.specs.declared.tree.SqlItem.{SqlItem}
use Rattle.sql_ast.specs.declared.tree.SqlItem.TheVariants as items
use Rattle.sql_ast.specs.Meaning.{nth, query_answer}
use Rattle.sql_ast.specs.Tree.{PlainListing, PlainQuery, Listing, Number, Truth}
use Rattle.sql_ast.specs.Typing.{ty_of_col}
use Rattle.sql_ast.specs.Valid.{params_in}
use Rattle.java_mean.specs.Types.{Single, ScalarOf, RowOf, JavaType, Of, Listed, made_of, type_spelled}
use Rattle.java_mean.specs.Typing.{QueryType, Frame}

abbrev pub column_type : Schema → List FromItem → SqlCol → Option Single
column_type schema froms col = option_map ScalarOf (ty_of_col schema froms col)

abbrev pub item_type : Schema → List FromItem → SqlItem → Option Single
item_type schema froms (items.Whole item) = option_map (λ (from : FromItem). RowOf from.table) (nth froms item)
item_type schema froms (items.Column col) = column_type schema froms col

-- the elements of a list query's answer
abbrev pub element_type : Schema → PlainListing → Option SqlCol → Option Single
element_type schema q None = item_type schema q.from q.item
element_type schema q (Some col) = column_type schema q.from col

abbrev pub answer_type : Schema → PlainQuery → Option JavaType
answer_type schema (Listing q) = made_of Listed (element_type schema q q.group)
answer_type schema (Number q) = Some (Of (ScalarOf tys.Long))
answer_type schema (Truth q) = Some (Of (ScalarOf tys.Bool))

abbrev pub query_type : Schema → PlainQuery → Option QueryType
query_type schema q = option_map (λ k. record { params = params_in q; answer = k }) (answer_type schema q)

abbrev pub type_of_found : Schema → Option PlainQuery → Option QueryType
type_of_found schema (Some q) = query_type schema q
type_of_found schema None = None

abbrev pub result_type : Schema → Option Spelled → Option JavaType
result_type schema (Some ty) = type_spelled schema ty
result_type schema None = None

-- the schema, the types and answers of the queries that are found so, and the method's result
abbrev pub frame_of : Schema → (List ℕ → Option PlainQuery) → PlainMethod → Frame
frame_of schema read m = record { schema = schema; asks = λ text. type_of_found schema (read text); answers = λ db text args. option_map (query_answer db args) (read text); result = result_type schema m.result }
