-- The tables of a dump's statements.
use Rattle.std.specs.Prelude.{ℕ, suc, Bool, true, false, ◌&&◌, List, [], ◌∷◌, ◌++◌, drop, codes, slice_get, slice_set, if◌then◌else◌}
use Rattle.std.specs.Str.{bytes_eq}
use Rattle.std.specs.List.{prefix_len}
use Rattle.std.specs.declared.option.Option.{Option}
use Rattle.std.specs.declared.option.Option.TheVariants.{Some, None}
use Rattle.dump_items.specs.declared.item.Item.{Item}
use Rattle.dump_tables.specs.declared.table.DumpTable.{DumpTable}
use Rattle.dump_tables.specs.Words.{is_name, is_quoted, is_open, is_dot, is_one_of, begins, without, if_not_exists, meaning}
use Rattle.dump_tables.specs.Parts.{parts}
use Rattle.dump_tables.specs.Columns.{with_elements, with_nulls}

-- ---- Names

-- a dot and a name
abbrev pub goes_on : Item → Item → Bool
goes_on d j = is_dot d.kind && is_name j.kind

-- the last part of a name that begins with this one, and what stands behind it
unfoldable pub last_part : Item → List Item → Item × List Item
last_part i (d ∷ j ∷ is) = if goes_on d j then last_part j is else (i, d ∷ j ∷ is)
last_part i is = (i, is)

abbrev pub qualified : List Item → Option (Item × List Item)
qualified [] = None
qualified (i ∷ is) = if is_name i.kind then Some (last_part i is) else None

-- ---- CREATE TABLE

abbrev pub kind_words : List (List ℕ)
kind_words =
    codes "TEMP" ∷ codes "TEMPORARY" ∷ codes "UNLOGGED" ∷ codes "GLOBAL" ∷ codes "LOCAL" ∷ codes "CACHED" ∷ codes "MEMORY" ∷ codes "OR" ∷ codes "REPLACE" ∷ []

abbrev pub without_words : List (List ℕ) → List Item → List Item
without_words words is = drop (prefix_len (is_one_of words) is) is

-- what stands behind CREATE .. TABLE
abbrev pub behind_table : List Item → Option (List Item)
behind_table is = if begins (codes "TABLE" ∷ []) is then Some (without if_not_exists (drop 1 is)) else None

abbrev pub created : List Item → Option (List Item)
created is = if begins (codes "CREATE" ∷ []) is then behind_table (without_words kind_words (drop 1 is)) else None

abbrev pub new_table : Item → DumpTable
new_table name = record { name = meaning name; quoted = is_quoted name.kind; columns = [] }

abbrev pub made_table : Item → List Item → DumpTable
made_table name elements = with_elements (new_table name) (parts 0 elements)

-- where no parenthesis opens behind the name there is no table
abbrev pub with_declared_by : List DumpTable → Item → List Item → List DumpTable
with_declared_by ts name [] = ts
with_declared_by ts name (i ∷ is) = if is_open i.kind then ts ++ made_table name is ∷ [] else ts

abbrev pub with_declared : List DumpTable → List Item → List DumpTable
with_declared ts is = elim (qualified is) [ None ↦ ts | Some named ↦ with_declared_by ts named.0 named.1 ]

-- ---- ALTER TABLE

-- what stands behind ALTER TABLE
abbrev pub altered : List Item → Option (List Item)
altered is =
    if begins (codes "ALTER" ∷ codes "TABLE" ∷ []) is
    then Some (without_words (codes "IF" ∷ codes "EXISTS" ∷ codes "ONLY" ∷ []) (drop 2 is))
    else None

-- ADD: elements in parentheses, or one
abbrev pub added : List Item → List (List Item)
added [] = []
added (i ∷ is) =
    if is_open i.kind then parts 0 is
    else without if_not_exists (without (codes "COLUMN" ∷ []) (i ∷ is)) ∷ []

abbrev pub with_added : DumpTable → List Item → DumpTable
with_added t is = with_elements t (added is)

-- ALTER COLUMN: SET NOT NULL and DROP NOT NULL count
abbrev pub with_altered_column : DumpTable → List Item → DumpTable
with_altered_column t [] = t
with_altered_column t (i ∷ is) =
    if begins (codes "SET" ∷ codes "NOT" ∷ codes "NULL" ∷ []) is then with_nulls t (meaning i) true
    else (if begins (codes "DROP" ∷ codes "NOT" ∷ codes "NULL" ∷ []) is then with_nulls t (meaning i) false else t)

unfoldable pub with_action : DumpTable → List Item → DumpTable
with_action t is =
    if begins (codes "ADD" ∷ []) is then with_added t (drop 1 is)
    else (if begins (codes "ALTER" ∷ []) is then with_altered_column t (without (codes "COLUMN" ∷ []) (drop 1 is)) else t)

unfoldable pub with_actions : DumpTable → List (List Item) → DumpTable
with_actions t [] = t
with_actions t (a ∷ more) = with_actions (with_action t a) more

-- the number of the last table of a name
abbrev pub last_or : Option ℕ → Bool → Option ℕ
last_or (Some n) here = Some (suc n)
last_or None here = if here then Some 0 else None

unfoldable pub number_of : List ℕ → List DumpTable → Option ℕ
number_of name [] = None
number_of name (t ∷ ts) = last_or (number_of name ts) (bytes_eq t.name name)

abbrev pub with_table_at : List DumpTable → ℕ → List (List Item) → List DumpTable
with_table_at ts n actions = elim (slice_get ts n) [ None ↦ ts | Some t ↦ slice_set ts n (with_actions t actions) ]

abbrev pub with_named : List DumpTable → List ℕ → List (List Item) → List DumpTable
with_named ts name actions = elim (number_of name ts) [ None ↦ ts | Some n ↦ with_table_at ts n actions ]

abbrev pub with_altered : List DumpTable → List Item → List DumpTable
with_altered ts is = elim (qualified is) [ None ↦ ts | Some named ↦ with_named ts (meaning named.0) (parts 0 named.1) ]

-- ---- All statements

abbrev pub with_other : List DumpTable → Option (List Item) → List DumpTable
with_other ts None = ts
with_other ts (Some is) = with_altered ts is

abbrev pub with_created : List DumpTable → Option (List Item) → List Item → List DumpTable
with_created ts None statement = with_other ts (altered statement)
with_created ts (Some is) statement = with_declared ts is

unfoldable pub with_statement : List DumpTable → List Item → List DumpTable
with_statement ts statement = with_created ts (created statement) statement

unfoldable pub with_statements : List DumpTable → List (List Item) → List DumpTable
with_statements ts [] = ts
with_statements ts (s ∷ ss) = with_statements (with_statement ts s) ss

unfoldable pub tables_of : List (List Item) → List DumpTable
tables_of statements = with_statements [] statements
