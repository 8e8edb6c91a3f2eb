-- Queries that list no row twice: each table in FROM is bound to one row for each row that is listed.
use Rattle.std.specs.Prelude.{ℕ, zero, suc, Bool, true, false, ◌&&◌, ◌||◌, not, ◌==◌, List, [], ◌∷◌, Option, Some, None, Result, Ok, Err, slice_get}
use Rattle.std.specs.List.{list_any, list_all}
use Rattle.qbs_base.specs.declared.columns.Column.{Column}
use Rattle.qbs_base.specs.Columns.{columns_at}
use Rattle.qbs_base.specs.Values.{Schema}
use Rattle.sql_ast.specs.declared.rule.SqlRule.{SqlRule}
use Rattle.sql_ast.specs.declared.tree.Cmp.TheVariants as cmps
use Rattle.sql_ast.specs.declared.tree.FromItem.{FromItem}
use Rattle.sql_ast.specs.declared.tree.SqlColumn.{SqlColumn}
use Rattle.sql_ast.specs.declared.tree.SqlColumn.TheVariants as columns
use Rattle.sql_ast.specs.declared.tree.SqlItem.{SqlItem}
use Rattle.sql_ast.specs.declared.tree.SqlItem.TheVariants as items
use Rattle.sql_ast.specs.declared.tree.SqlOpnd.{SqlOpnd}
use Rattle.sql_ast.specs.declared.tree.SqlOpnd.TheVariants as operands
use Rattle.sql_ast.specs.Reader.{query_of_text}
use Rattle.sql_ast.specs.Tree.{Condition, Filter, PlainListing, PlainQuery, Listing, Number, Truth, Both, Compare, Everything, Where}

-- Items of FROM are numbered from 1. For each it is known whether it is bound.

abbrev pub is_named : ℕ → SqlColumn → Bool
is_named column (columns.Named name number) = number == column
is_named column columns.Pos = false

-- an operand is this column of an item
abbrev pub is_column : ℕ → ℕ → SqlOpnd → Bool
is_column item column (operands.Column c) = (c.item == item) && is_named column c.column
is_column item column _ = false

abbrev pub holds : Option Bool → Bool
holds None = false
holds (Some b) = b

abbrev pub is_bound_item : List Bool → ℕ → Bool
is_bound_item bound zero = false
is_bound_item bound (suc k) = holds (slice_get bound k)

-- it is a literal, a parameter or a column of an item that is bound
abbrev pub is_fixed : List Bool → SqlOpnd → Bool
is_fixed bound (operands.Column c) = is_bound_item bound c.item
is_fixed bound (operands.Lit value) = true
is_fixed bound (operands.Param number) = true

-- a part of the outermost AND makes the column equal to what is fixed
abbrev pub fixes : List Bool → ℕ → ℕ → Condition → Bool
fixes bound item column (Both a b) = fixes bound item column a || fixes bound item column b
fixes bound item column (Compare cmps.Eq a b) = (is_column item column a && is_fixed bound b) || (is_column item column b && is_fixed bound a)
fixes bound item column _ = false

abbrev pub is_column_fixed : List Bool → ℕ → ℕ → Filter → Bool
is_column_fixed bound item column Everything = false
is_column_fixed bound item column (Where c) = fixes bound item column c

-- a column isn't of the primary key, or it is fixed
abbrev pub is_fixed_where_primary : List Bool → ℕ → ℕ → Column → Filter → Bool
is_fixed_where_primary bound item column c filter = not c.primary || is_column_fixed bound item column filter

abbrev pub are_fixed_from : List Bool → ℕ → ℕ → List Column → Filter → Bool
are_fixed_from bound item column [] filter = true
are_fixed_from bound item column (c ∷ cs) filter = is_fixed_where_primary bound item column c filter && are_fixed_from bound item (suc column) cs filter

abbrev pub has_key : List Column → Bool
has_key cs = list_any (λ c. c.primary) cs

-- there is a primary key, and all of it is fixed
abbrev pub is_key_fixed : List Bool → ℕ → List Column → Filter → Bool
is_key_fixed bound item cs filter = has_key cs && are_fixed_from bound item 0 cs filter

-- what is bound by what was bound before, of items from a number on
abbrev pub bound_from : Schema → Filter → List Bool → ℕ → List FromItem → List Bool → List Bool
bound_from schema filter all item (f ∷ fs) (b ∷ bs) =
    (b || is_key_fixed all item (columns_at schema f.table) filter) ∷ bound_from schema filter all (suc item) fs bs
bound_from schema filter all item fs bs = []

abbrev pub bound_once : Schema → PlainListing → List Bool → List Bool
bound_once schema q bound = bound_from schema q.filter bound 1 q.from bound

-- so many times over: for each item once is enough
abbrev pub bound_after : Schema → PlainListing → List FromItem → List Bool → List Bool
bound_after schema q [] bound = bound
bound_after schema q (f ∷ fs) bound = bound_after schema q fs (bound_once schema q bound)

abbrev pub only_from : ℕ → ℕ → List FromItem → List Bool
only_from listed item [] = []
only_from listed item (f ∷ fs) = (item == listed) ∷ only_from listed (suc item) fs

abbrev pub are_bound : Schema → PlainListing → ℕ → Bool
are_bound schema q listed = list_all (λ b. b) (bound_after schema q q.from (only_from listed 1 q.from))

-- it lists rows of an item, to which all others are bound
abbrev pub lists_bound : Schema → PlainListing → SqlItem → Bool
lists_bound schema q (items.Whole item) = are_bound schema q item
lists_bound schema q (items.Column c) = false

abbrev pub is_once : Schema → PlainQuery → Bool
is_once schema (Listing q) = lists_bound schema q q.item
is_once schema (Number q) = false
is_once schema (Truth q) = false

abbrev pub asked_of : Result PlainQuery SqlRule → Option PlainQuery
asked_of (Ok q) = Some q
asked_of (Err rule) = None

abbrev pub is_once_of : Schema → Option PlainQuery → Bool
is_once_of schema None = false
is_once_of schema (Some q) = is_once schema q

-- the query of a text lists no row twice, as far as keys are unique
abbrev pub lists_once : Schema → List ℕ → Bool
lists_once schema text = is_once_of schema (asked_of (query_of_text schema text))
