-- What the names of a query stand for under a schema: tables, aliases and columns by their numbers.
use Rattle.std.specs.Prelude.{ℕ, suc, Bool, true, not, ◌&&◌, if◌then◌else◌, List, [], ◌∷◌, ◌++◌, map, length, slice_get, codes}
use Rattle.std.specs.List.{list_any}
use Rattle.std.specs.Str.{bytes_eq}
use Rattle.std.specs.declared.option.Option.{Option}
use Rattle.std.specs.declared.option.Option.TheVariants.{Some, None}
use Rattle.qbs_base.specs.declared.columns.Column.{Column}
use Rattle.qbs_base.specs.Columns.{table_number, column_number}
use Rattle.qbs_base.specs.Values.{Schema}
use Rattle.sql_ast.specs.declared.tree.FromItem.{FromItem}
use Rattle.sql_ast.specs.declared.tree.NumberKind.{NumberKind}
use Rattle.sql_ast.specs.declared.tree.NumberKind.TheVariants as kinds
use Rattle.sql_ast.specs.declared.tree.SqlCol.{SqlCol}
use Rattle.sql_ast.specs.declared.tree.SqlColumn.{SqlColumn}
use Rattle.sql_ast.specs.declared.tree.SqlColumn.TheVariants as columns
use Rattle.sql_ast.specs.declared.tree.SqlItem.{SqlItem}
use Rattle.sql_ast.specs.declared.tree.SqlItem.TheVariants as items
use Rattle.sql_ast.specs.declared.tree.SqlKey.{SqlKey}
use Rattle.sql_ast.specs.declared.tree.SqlOpnd.{SqlOpnd}
use Rattle.sql_ast.specs.declared.tree.SqlOpnd.TheVariants as opnds
use Rattle.sql_ast.specs.Tree.{Condition, Filter, PlainListing, PlainNumber, PlainTruth, PlainQuery}
use Rattle.sql_ast.specs.Tree as plain
use Rattle.sql_ast.specs.Written.{WrittenCol, WrittenPart, WrittenOpnd, WrittenCondition, Both, Either, Not, Compare, Bare, Exists, Within, WrittenFilter, Everything, Where, WrittenItem, WrittenKey, WrittenKind, Count, Sum, Max, Min, WrittenListing, WrittenNumber, WrittenTruth, WrittenQuery, Listing, Number, Truth}
use Rattle.sql_ast.specs.Written as written

infixl 10 ◌>>=◌
abbrev pub ◌>>=◌ : {A B : Type 0} → Option A → (A → Option B) → Option B
(Some x) >>= f = f x
None >>= f = None

-- f of each, where each has one
abbrev pub each_of : {A B : Type 0} → (A → Option B) → List A → Option (List B)
each_of f [] = Some []
each_of f (x ∷ xs) = f x >>= λ y. each_of f xs >>= λ ys. Some (y ∷ ys)

-- a FROM item: its alias, the table's columns, and what the query keeps of it
pub record Known : Type 0 where
  pub alias : List ℕ
  pub columns : List Column
  pub from : FromItem

-- the FROM items of the SELECTs around, and of the SELECT itself
pub record Scope : Type 0 where
  pub outer : List Known
  pub own : List Known

-- an item without an alias has its table's name
abbrev pub alias_of : WrittenPart → List ℕ
alias_of part = elim part.alias as (λ _. List ℕ) [ Some alias ↦ alias | None ↦ part.table ]

abbrev pub known_part : Schema → WrittenPart → Option Known
known_part schema part =
    table_number schema part.table
    >>= λ number. slice_get schema number
    >>= λ table. Some (record { alias = alias_of part; columns = table.columns; from = record { name = part.table; table = number } })

-- each alias is another
abbrev pub are_distinct : List (List ℕ) → Bool
are_distinct [] = true
are_distinct (name ∷ names) = not (list_any (bytes_eq name) names) && are_distinct names

-- the items of one FROM, whose aliases differ
abbrev pub known_parts : Schema → List WrittenPart → Option (List Known)
known_parts schema parts = each_of (known_part schema) parts >>= λ own. if are_distinct (map (λ known. known.alias) own) then Some own else None

-- the last item with that alias, which is the innermost one, with its number; the first item has
-- this number
abbrev pub innermost : ℕ → List ℕ → List Known → Option (ℕ × Known)
innermost n alias [] = None
innermost n alias (known ∷ knowns) =
    elim (innermost (suc n) alias knowns) as (λ _. Option (ℕ × Known)) [ Some found ↦ Some found | None ↦ if bytes_eq known.alias alias then Some (n, known) else None ]

-- the only item
abbrev pub only_item : ℕ → List Known → Option (ℕ × Known)
only_item n [] = None
only_item n (known ∷ []) = Some (n, known)
only_item n (known ∷ next ∷ knowns) = None

-- the item that an alias means, or the only one of the SELECT where there is no alias
abbrev pub item_named : Scope → Option (List ℕ) → Option (ℕ × Known)
item_named scope (Some alias) = innermost 1 alias (scope.outer ++ scope.own)
item_named scope None = only_item (suc (length scope.outer)) scope.own

abbrev pub column_named : List Column → List ℕ → Option SqlColumn
column_named held name =
    if bytes_eq name (codes "_pos")
    then Some columns.Pos
    else (column_number held name >>= λ number. Some (columns.Named name number))

abbrev pub named_col : Scope → WrittenCol → Option SqlCol
named_col scope col = item_named scope col.alias >>= λ found. column_named found.1.columns col.name >>= λ column. Some (record { item = found.0; column = column })

abbrev pub named_opnd : Scope → WrittenOpnd → Option SqlOpnd
named_opnd scope (written.Column col) = named_col scope col >>= λ c. Some (opnds.Column c)
named_opnd scope (written.Lit scalar) = Some (opnds.Lit scalar)
named_opnd scope (written.Param n) = Some (opnds.Param n)

abbrev pub froms_of : List Known → List FromItem
froms_of own = map (λ known. known.from) own

abbrev pub inside : Scope → List Known → Scope
inside scope own = record { outer = scope.outer ++ scope.own; own = own }

abbrev mutual
  pub named_condition : Schema → Scope → WrittenCondition → Option Condition
  named_condition schema scope (Both a b) = named_condition schema scope a >>= λ c. named_condition schema scope b >>= λ d. Some (plain.Both c d)
  named_condition schema scope (Either a b) = named_condition schema scope a >>= λ c. named_condition schema scope b >>= λ d. Some (plain.Either c d)
  named_condition schema scope (Not a) = named_condition schema scope a >>= λ c. Some (plain.Not c)
  named_condition schema scope (Compare cmp a b) = named_opnd scope a >>= λ x. named_opnd scope b >>= λ y. Some (plain.Compare cmp x y)
  named_condition schema scope (Bare col) = named_col scope col >>= λ c. Some (plain.Bare c)
  named_condition schema scope (Exists parts filter_) = known_parts schema parts >>= λ own. named_filter schema (inside scope own) filter_ >>= λ f. Some (plain.Exists (froms_of own) f)
  named_condition schema scope (Within opnd negated col parts filter_) =
      named_opnd scope opnd
      >>= λ x. known_parts schema parts
      >>= λ own. named_col (inside scope own) col
      >>= λ c. named_filter schema (inside scope own) filter_
      >>= λ f. Some (plain.Within x negated c (froms_of own) f)

  pub named_filter : Schema → Scope → WrittenFilter → Option Filter
  named_filter schema scope Everything = Some plain.Everything
  named_filter schema scope (Where a) = named_condition schema scope a >>= λ c. Some (plain.Where c)

abbrev pub named_item : Scope → WrittenItem → Option SqlItem
named_item scope (written.Whole alias) = item_named scope alias >>= λ found. Some (items.Whole found.0)
named_item scope (written.Column col) = named_col scope col >>= λ c. Some (items.Column c)

abbrev pub named_group : Scope → Option WrittenCol → Option (Option SqlCol)
named_group scope None = Some None
named_group scope (Some col) = named_col scope col >>= λ c. Some (Some c)

abbrev pub named_key : Scope → WrittenKey → Option SqlKey
named_key scope key = named_col scope key.col >>= λ c. Some (record { least = key.least; col = c; down = key.down })

abbrev pub named_kind : Scope → WrittenKind → Option NumberKind
named_kind scope Count = Some kinds.Count
named_kind scope (Sum col other) = named_col scope col >>= λ c. Some (kinds.Sum c other)
named_kind scope (Max col other) = named_col scope col >>= λ c. Some (kinds.Max c other)
named_kind scope (Min col other) = named_col scope col >>= λ c. Some (kinds.Min c other)

abbrev pub outermost : List Known → Scope
outermost own = record { outer = []; own = own }

abbrev pub named_listing : Schema → WrittenListing → Option PlainListing
named_listing schema q =
    known_parts schema q.from
    >>= λ own. named_item (outermost own) q.item
    >>= λ item. named_filter schema (outermost own) q.filter
    >>= λ filter_. named_group (outermost own) q.group
    >>= λ group. each_of (named_key (outermost own)) q.keys
    >>= λ keys. Some (record { item = item; from = froms_of own; filter = filter_; group = group; keys = keys; limit = q.limit; params = [] })

abbrev pub named_number : Schema → WrittenNumber → Option PlainNumber
named_number schema q =
    known_parts schema q.from
    >>= λ own. named_kind (outermost own) q.kind
    >>= λ kind. named_filter schema (outermost own) q.filter
    >>= λ filter_. Some (record { kind = kind; from = froms_of own; filter = filter_; params = [] })

abbrev pub named_truth : Schema → WrittenTruth → Option PlainTruth
named_truth schema q =
    known_parts schema q.from
    >>= λ own. named_filter schema (outermost own) q.filter
    >>= λ filter_. Some (record { negated = q.negated; from = froms_of own; filter = filter_; params = [] })

-- the query that is written, its parameters' types still to be found
abbrev pub named_query : Schema → WrittenQuery → Option PlainQuery
named_query schema (Listing q) = named_listing schema q >>= λ p. Some (plain.Listing p)
named_query schema (Number q) = named_number schema q >>= λ p. Some (plain.Number p)
named_query schema (Truth q) = named_truth schema q >>= λ p. Some (plain.Truth p)
