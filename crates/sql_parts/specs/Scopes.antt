-- The loops that a SELECT sees, and what it calls their tables and columns.
use Rattle.std.specs.Prelude.{if◌then◌else◌, ℕ, suc, ◌+◌, List, [], ◌∷◌, ◌++◌, map, length, slice_get, nat_eq}
use Rattle.std.specs.declared.option.Option.{Option}
use Rattle.std.specs.declared.option.Option.TheVariants.{Some, None}
use Rattle.qbs_base.specs.declared.columns.Table.{Table}
use Rattle.qbs_base.specs.declared.columns.Column.{Column}
use Rattle.qbs_base.specs.Values.{Schema}
use Rattle.tor_terms.specs.declared.term.Atom.{Atom}
use Rattle.kernel_lang.specs.declared.parts.ListDef.{ListDef}
use Rattle.kernel_lang.specs.Plain.{Fragment}
use Rattle.kernel_lang.specs.Pools.{Member, members}
use Rattle.sql_ast.specs.declared.tree.FromItem.{FromItem}
use Rattle.sql_ast.specs.declared.tree.SqlCol.{SqlCol}
use Rattle.sql_ast.specs.declared.tree.SqlColumn.TheVariants as columns
use Rattle.sql_ast.specs.Tree.{PlainQuery}

-- what queries are made from: a fragment's lists, atoms and accumulators with their choices under a
-- schema, its known queries, and for each the entries that are its arguments
pub record Ground : Type 0 where
  pub schema : Schema
  pub lists : List ListDef
  pub atoms : List Atom
  pub members : List Member
  pub known : List PlainQuery
  pub args : List (List ℕ)

abbrev pub ground : Schema → Fragment → List ℕ → List PlainQuery → List (List ℕ) → Ground
ground schema f cand known args = record { schema = schema; lists = f.lists; atoms = f.atoms; members = members f cand; known = known; args = args }

-- the loops that are seen, each with the number of its FROM item, inner ones first, and how many FROM
-- items there are
pub record Scope : Type 0 where
  pub loops : List (ℕ × ℕ)
  pub count : ℕ

-- loops with the numbers after n
abbrev pub numbered : ℕ → List ℕ → List (ℕ × ℕ)
numbered n [] = []
numbered n (j ∷ js) = (j, suc n) ∷ numbered (suc n) js

abbrev pub number_in : List (ℕ × ℕ) → ℕ → ℕ
number_in [] j = 0
number_in (l ∷ ls) j = if nat_eq l.0 j then l.1 else number_in ls j

-- of a query whose FROM has these loops
abbrev pub outermost : List ℕ → Scope
outermost js = record { loops = numbered 0 js; count = length js }

-- of an inner SELECT whose FROM has these loops
abbrev pub inner : Scope → List ℕ → Scope
inner s js = record { loops = numbered s.count js ++ s.loops; count = s.count + length js }

-- a list that isn't there is of the first table
abbrev pub def_of : Option ListDef → ListDef
def_of None = record { table = 0; keys = []; limit = None }
def_of (Some d) = d

abbrev pub list_of : Ground → ℕ → ListDef
list_of g j = def_of (slice_get g.lists j)

abbrev pub table_name : Option Table → List ℕ
table_name None = []
table_name (Some table) = table.name

abbrev pub columns_of : Option Table → List Column
columns_of None = []
columns_of (Some table) = table.columns

abbrev pub column_name : Option Column → List ℕ
column_name None = []
column_name (Some column) = column.name

-- the FROM item of a loop
abbrev pub from_item : Ground → ℕ → FromItem
from_item g j = record { name = table_name (slice_get g.schema (list_of g j).table); table = (list_of g j).table }

abbrev pub from_items : Ground → List ℕ → List FromItem
from_items g js = map (from_item g) js

-- the name of the column c of the loop j
abbrev pub name_of : Ground → ℕ → ℕ → List ℕ
name_of g j c = column_name (slice_get (columns_of (slice_get g.schema (list_of g j).table)) c)

-- the column c of the loop j, whose FROM item has the number n
abbrev pub column : Ground → ℕ → ℕ → ℕ → SqlCol
column g n j c = record { item = n; column = columns.Named (name_of g j c) c }
