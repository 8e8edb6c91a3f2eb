-- Rows that are objects. In the file the rows of two lists may be the same objects, since they came from one fetch; a query has rows of its own. And
-- a list of a join holds one object as often as a row is met, a query as many objects.
use Rattle.std.specs.Prelude.{ℕ, Bool, true, false, ◌&&◌, ◌||◌, not, ◌==◌, List, Option, Some, None, slice_get, if◌then◌else◌}
use Rattle.std.specs.List.{list_any, list_all}
use Rattle.std.specs.Str.{bytes_eq}
use Rattle.qbs_base.specs.Columns.{table_number}
use Rattle.qbs_base.specs.Values.{Schema}
use Rattle.java_ast.specs.Spans.{place_of}
use Rattle.java_ast.specs.Tree.{Expression, Statement, Statements, Nothing, Then, Declare, Assign, Fetch, Query, Table}
use Rattle.java_stretches.specs.Patches.{PlainPatch}
use Rattle.view_items.specs.declared.cell.Cell.{Cell}
use Rattle.view_items.specs.declared.item.Item.{Item}
use Rattle.view_map.specs.declared.model.RowClass.{RowClass}
use Rattle.view_map.specs.declared.model.ViewMap.{ViewMap}
use Rattle.view_rules.specs.declared.java_type.JavaType.{JavaType}
use Rattle.view_rules.specs.declared.java_type.JavaType.TheVariants as types
use Rattle.view_rules.specs.declared.sight.Sighted.{Sighted}
use Rattle.view_rules.specs.Options.{◌>>=◌}
use Rattle.view_shapes.specs.declared.method.Method.{Method}
use Rattle.view_statements.specs.Slices.{PlainSlice}
use Rattle.view_statements.specs.Tree.{PlainStatement, PlainStatements}
use Rattle.view_statements.specs.Tree as plain
use Rattle.view_spell.specs.declared.origins.Origin.{Origin}
use Rattle.view_spell.specs.declared.fetched.Fetched.{Fetched}
use Rattle.view_spell.specs.Fetched.{table_of, fetched_in, is_fetched_elsewhere}
use Rattle.view_spell.specs.Joins.{lists_once}
use Rattle.view_spell.specs.declared.origins.Taken.{Taken}
use Rattle.view_spell.specs.Origins.{has_body, stretch_taken}

-- what a file is seen as: the map, the schema, the items, and the tokens of what is seen
pub record SeenAs : Type 0 where
  pub map : ViewMap
  pub schema : Schema
  pub items : List Item
  pub cells : List Cell

-- ---- What statements list

-- the table whose rows an expression lists, and the text of the query by which it does
abbrev pub table_listed : Expression → Option (List ℕ)
table_listed (Fetch at table) = Some table
table_listed (Query at (Table table) text arguments) = Some table
table_listed _ = None

abbrev pub text_asked : Expression → Option (List ℕ)
text_asked (Query at element text arguments) = Some text
text_asked _ = None

-- what a statement gives a variable
abbrev pub value_of : Statement → Option Expression
value_of (Declare at ty name value) = Some value
value_of (Assign at name value) = Some value
value_of _ = None

abbrev pub is_name : List ℕ → Option (List ℕ) → Bool
is_name table None = false
is_name table (Some t) = bytes_eq t table

abbrev pub lists : List ℕ → Statement → Bool
lists table s = is_name table (value_of s >>= table_listed)

abbrev pub any_lists : List ℕ → Statements → Bool
any_lists table Nothing = false
any_lists table (Then s ss) = lists table s || any_lists table ss

-- more than one statement lists rows of the table
abbrev pub is_listed_twice : List ℕ → Statements → Bool
is_listed_twice table Nothing = false
is_listed_twice table (Then s ss) = if lists table s then any_lists table ss else is_listed_twice table ss

-- ---- What is in sight

abbrev pub is_table : ℕ → Option ℕ → Bool
is_table table None = false
is_table table (Some t) = t == table

-- a row of the table, or a list of rows of it
abbrev pub holds_rows : ViewMap → ℕ → JavaType → Bool
holds_rows m table (types.Row class) = is_table table (table_of m class)
holds_rows m table (types.Rows class) = is_table table (table_of m class)
holds_rows m table _ = false

abbrev pub is_item : List ℕ → Option Item → Bool
is_item name None = false
is_item name (Some i) = bytes_eq i.bytes name

-- the slice sets the list from outside before it names it otherwise
abbrev pub sets : List Item → List ℕ → PlainStatement → Bool
sets items name (plain.FirstSet at java value end) = is_item name (slice_get items at)
sets items name _ = false

abbrev pub is_set_in : List Item → List ℕ → PlainStatements → Bool
is_set_in items name plain.Nothing = false
is_set_in items name (plain.Then st sts) = sets items name st || is_set_in items name sts

abbrev pub is_met : SeenAs → PlainSlice → ℕ → Sighted → Bool
is_met seen s table v = holds_rows seen.map table v.java && not (is_set_in seen.items v.name s.statements)

abbrev pub is_met_outside : SeenAs → PlainSlice → ℕ → Bool
is_met_outside seen s table = list_any (is_met seen s table) s.outside

-- ---- Patches

-- rows of a table are told apart by their columns alone, where each class of it says so
abbrev pub allows : ℕ → RowClass → Bool
allows table c = not (c.table == table) || c.by_value

abbrev pub is_by_value : ViewMap → ℕ → Bool
is_by_value m table = list_all (allows table) m.classes

-- what a patch stands in: a slice, and what is fetched in its method; and what it takes and puts there
pub record Around : Type 0 where
  pub slice : PlainSlice
  pub fetched : List Fetched
  pub at : Origin
  pub block : Statements

-- rows of a table that a query of this text lists anew may be told from others
abbrev pub is_told : SeenAs → Around → List ℕ → ℕ → List ℕ → Bool
is_told seen a name table text =
    is_listed_twice name a.block
    || (is_met_outside seen a.slice table || (is_fetched_elsewhere a.fetched table a.at || not (lists_once seen.schema text)))

abbrev pub is_told_in : SeenAs → Around → List ℕ → List ℕ → Option ℕ → Bool
is_told_in seen a name text None = true
is_told_in seen a name text (Some table) = not (is_by_value seen.map table) && is_told seen a name table text

abbrev pub is_listing_told : SeenAs → Around → Option (List ℕ) → Option (List ℕ) → Bool
is_listing_told seen a (Some table) (Some text) = is_told_in seen a table text (table_number seen.schema table)
is_listing_told seen a table text = false

-- what is kept lists nothing anew
abbrev pub is_statement_told : SeenAs → Around → Statement → Bool
is_statement_told seen a s = has_body seen.cells (place_of s).end && is_listing_told seen a (value_of s >>= table_listed) (value_of s >>= text_asked)

abbrev pub is_any_told : SeenAs → Around → Statements → Bool
is_any_told seen a Nothing = false
is_any_told seen a (Then s ss) = is_statement_told seen a s || is_any_told seen a ss

abbrev pub is_taken_told : SeenAs → PlainSlice → List Fetched → Statements → Option Taken → Bool
is_taken_told seen s fetched block None = false
is_taken_told seen s fetched block (Some t) = is_any_told seen (record { slice = s; fetched = fetched; at = t.at; block = block }) block

abbrev pub is_patch_shared : SeenAs → PlainSlice → List Fetched → PlainPatch → Bool
is_patch_shared seen s fetched p = is_taken_told seen s fetched p.block (stretch_taken seen.cells seen.items s p.from p.to)

abbrev pub any_shared : SeenAs → PlainSlice → List Fetched → List PlainPatch → Bool
any_shared seen s fetched ps = list_any (is_patch_shared seen s fetched) ps

-- A slice isn't written where one of its patches lists rows of a table that isn't `by value` by a new query, and a further statement of the patch
-- lists rows of that table, or a row or a list of rows of it comes from outside, other than a list that the slice sets, or a fetch of it stands
-- elsewhere in the method, or the query has a further table that isn't bound to one row.
abbrev pub is_shared : SeenAs → Method → PlainSlice → List PlainPatch → Bool
is_shared seen method s ps = any_shared seen s (fetched_in seen.map seen.items method) ps
