-- The elements of a table: columns and constraints.
use Rattle.std.specs.Prelude.{ℕ, Bool, false, ◌&&◌, ◌||◌, nat_lt, List, [], ◌∷◌, ◌++◌, take, drop, length, map, codes, if◌then◌else◌}
use Rattle.std.specs.Str.{bytes_eq}
use Rattle.std.specs.List.{list_any}
use Rattle.std.specs.declared.option.Option.{Option}
use Rattle.std.specs.declared.option.Option.TheVariants.{Some, None}
use Rattle.dump_items.specs.declared.item.Item.{Item}
use Rattle.dump_tables.specs.declared.table.DumpColumn.{DumpColumn}
use Rattle.dump_tables.specs.declared.table.DumpTable.{DumpTable}
use Rattle.dump_tables.specs.Words.{is_name, is_quoted, is_one_of, meaning}
use Rattle.dump_tables.specs.Parts.{parts, has_pair, behind_open}
use Rattle.dump_tables.specs.Types.{type_len, sort_of, spelling, is_serial, is_other}

abbrev pub not_null_in : List Item → Bool
not_null_in is = has_pair 0 (codes "NOT") (codes "NULL") is

abbrev pub primary_key_in : List Item → Bool
primary_key_in is = has_pair 0 (codes "PRIMARY") (codes "KEY") is

-- a column by its name, its type and its marks
abbrev pub column_by : Item → List Item → List Item → DumpColumn
column_by name type marks = record {
  name = meaning name;
  quoted = is_quoted name.kind;
  sort = sort_of type;
  spelled = spelling false type;
  not_null = not_null_in marks || is_serial type;
  primary = primary_key_in marks;
}

abbrev pub column_of : Item → List Item → DumpColumn
column_of name is = column_by name (take (type_len 0 is) is) (drop (type_len 0 is) is)

-- ---- Keys

-- the name that a part begins with
abbrev pub names_in : Option (List ℕ) → List (List ℕ)
names_in None = []
names_in (Some name) = name ∷ []

abbrev pub first_name : List Item → List (List ℕ)
first_name [] = []
first_name (i ∷ is) = if is_name i.kind then meaning i ∷ [] else []

unfoldable pub first_names : List (List Item) → List (List ℕ)
first_names [] = []
first_names (p ∷ ps) = first_name p ++ first_names ps

abbrev pub key_names : List Item → List (List ℕ)
key_names constraint = first_names (parts 0 (behind_open constraint))

abbrev pub has_name : List (List ℕ) → List ℕ → Bool
has_name names name = list_any (λ n. bytes_eq n name) names

abbrev pub with_key : List (List ℕ) → DumpColumn → DumpColumn
with_key names c = record {
  name = c.name;
  quoted = c.quoted;
  sort = c.sort;
  spelled = c.spelled;
  not_null = c.not_null;
  primary = c.primary || has_name names c.name;
}

abbrev pub with_columns : DumpTable → List DumpColumn → DumpTable
with_columns t columns = record { name = t.name; quoted = t.quoted; columns = columns }

abbrev pub keyed : DumpTable → List (List ℕ) → DumpTable
keyed t names = with_columns t (map (with_key names) t.columns)

-- ---- Marks that are taken later

abbrev pub with_null : List ℕ → Bool → DumpColumn → DumpColumn
with_null name not_null c = record {
  name = c.name;
  quoted = c.quoted;
  sort = c.sort;
  spelled = c.spelled;
  not_null = if bytes_eq c.name name then not_null else c.not_null;
  primary = c.primary;
}

abbrev pub with_nulls : DumpTable → List ℕ → Bool → DumpTable
with_nulls t name not_null = with_columns t (map (with_null name not_null) t.columns)

-- ---- Elements

-- what always begins a constraint, and what may name a column of a type of the language too
abbrev pub constraint_words : List (List ℕ)
constraint_words =
    codes "CONSTRAINT" ∷ codes "PRIMARY" ∷ codes "UNIQUE" ∷ codes "CHECK" ∷ codes "FOREIGN" ∷ codes "EXCLUDE" ∷ codes "LIKE" ∷ codes "PARTITION" ∷ []

abbrev pub index_words : List (List ℕ)
index_words = codes "KEY" ∷ codes "INDEX" ∷ codes "FULLTEXT" ∷ codes "SPATIAL" ∷ codes "PERIOD" ∷ []

abbrev pub is_constraint : Item → List Item → Bool
is_constraint i is =
    is_one_of constraint_words i || (is_one_of index_words i && is_other (sort_of (take (type_len 0 is) is)))

-- no database has tables with more columns
abbrev pub most_columns : ℕ
most_columns = 4096

abbrev pub with_column : DumpTable → DumpColumn → DumpTable
with_column t c = if nat_lt (length t.columns) most_columns then with_columns t (t.columns ++ c ∷ []) else t

-- a constraint counts where it is a primary key, and what begins with no name is nothing
unfoldable pub with_element : DumpTable → List Item → DumpTable
with_element t [] = t
with_element t (i ∷ is) =
    if is_constraint i is then (if primary_key_in (i ∷ is) then keyed t (key_names (i ∷ is)) else t)
    else (if is_name i.kind then with_column t (column_of i is) else t)

unfoldable pub with_elements : DumpTable → List (List Item) → DumpTable
with_elements t [] = t
with_elements t (e ∷ es) = with_elements (with_element t e) es
