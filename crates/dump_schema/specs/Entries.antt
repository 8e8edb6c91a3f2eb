-- The entries of the tables of a dump.
use Rattle.std.specs.Prelude.{ℕ, ◌+◌, Bool, false, ◌==◌, ◌||◌, List, [], ◌∷◌, ◌++◌, codes, if◌then◌else◌}
use Rattle.std.specs.Fmt.{decimal}
use Rattle.std.specs.declared.option.Option.{Option}
use Rattle.std.specs.declared.option.Option.TheVariants.{Some, None}
use Rattle.std.specs.List.{flat_map}
use Rattle.std.specs.Str.{bytes_eq}
use Rattle.dump_items.specs.Statements.{statements_of}
use Rattle.dump_tables.specs.declared.table.DumpTable.{DumpTable}
use Rattle.dump_tables.specs.Tables as dump
use Rattle.dump_text.specs.declared.entry.Part.{Part}
use Rattle.dump_text.specs.declared.entry.Part.TheVariants as parts
use Rattle.dump_text.specs.declared.entry.Entry.{Entry}
use Rattle.dump_text.specs.declared.entry.Entry.TheVariants as entries
use Rattle.dump_text.specs.Text.{has_column}
use Rattle.dump_schema.specs.declared.reason.Reason.{Reason}
use Rattle.dump_schema.specs.declared.reason.Reason.TheVariants.{NoName, ManyTables, NoColumn}
use Rattle.dump_schema.specs.declared.choice.ColumnChoice.{ColumnChoice}
use Rattle.dump_schema.specs.declared.choice.Choice.{Choice}
use Rattle.dump_schema.specs.Choices.{choice_of, is_chosen, columns_for}
use Rattle.dump_schema.specs.Names.{name_in, is_table_word, reason_of, left_out_text, twin_of, twin_text}
use Rattle.dump_schema.specs.Columns.{parts_from, missing_parts}

-- ---- a table

unfoldable pub left_out_line : DumpTable → Reason → List ℕ
left_out_line t reason = codes "table " ++ (t.name ++ left_out_text reason)

abbrev pub left_out : DumpTable → Reason → Entry
left_out t reason = entries.Comment (left_out_line t reason)

unfoldable pub twin_line : List ℕ → List ℕ
twin_line twin = codes "the name of this table " ++ twin_text twin

abbrev pub twin_part : List ℕ → Part
twin_part twin = parts.Comment (twin_line twin)

abbrev pub twin_parts : Option (List ℕ) → List Part
twin_parts None = []
twin_parts (Some twin) = twin_part twin ∷ []

-- the lines of a table behind tables of these names, of which the options choose these columns
abbrev pub parts_of : List (List ℕ) → DumpTable → Option (List (List ℕ)) → List Part
parts_of taken t chosen = twin_parts (twin_of taken t.name) ++ (parts_from chosen [] t.columns ++ missing_parts chosen t.columns)

abbrev pub filled_entry : DumpTable → List ℕ → List Part → Entry
filled_entry t name ps = if has_column ps then entries.Table (record { name = name; parts = ps }) else left_out t NoColumn

abbrev pub free_entry : List ColumnChoice → List (List ℕ) → DumpTable → List ℕ → Option Reason → Entry
free_entry choices taken t name (Some reason) = left_out t reason
free_entry choices taken t name None = filled_entry t name (parts_of taken t (columns_for choices t.name))

abbrev pub named_entry : List ColumnChoice → List (List ℕ) → DumpTable → Option (List ℕ) → Entry
named_entry choices taken t None = left_out t NoName
named_entry choices taken t (Some name) = free_entry choices taken t name (reason_of (is_table_word name) 64 ManyTables taken name)

-- the entry of a table behind tables of these names
unfoldable pub entry_of : List ColumnChoice → List (List ℕ) → DumpTable → Entry
entry_of choices taken t = named_entry choices taken t (name_in t.name)

-- the names that are taken behind an entry
abbrev pub taken_after : List (List ℕ) → Entry → List (List ℕ)
taken_after taken (entries.Table t) = taken ++ t.name ∷ []
taken_after taken (entries.Comment bs) = taken

-- the entries of the tables that are chosen, behind tables of these names
unfoldable pub entries_from : Choice → List (List ℕ) → List DumpTable → List Entry
entries_from choice taken [] = []
entries_from choice taken (t ∷ ts) =
    if is_chosen choice.tables t.name then entry_of choice.columns taken t ∷ entries_from choice (taken_after taken (entry_of choice.columns taken t)) ts
    else entries_from choice taken ts

-- ---- what the options say besides

abbrev pub unchosen_here : Option (List (List ℕ)) → List ℕ → ℕ
unchosen_here chosen name = if is_chosen chosen name then 0 else 1

-- how many tables aren't chosen
abbrev pub unchosen : Option (List (List ℕ)) → List DumpTable → ℕ
unchosen chosen [] = 0
unchosen chosen (t ∷ ts) = unchosen_here chosen t.name + unchosen chosen ts

unfoldable pub unchosen_line : ℕ → List ℕ
unchosen_line n = decimal n ++ codes " tables that --tables does not name"

abbrev pub unchosen_comment : ℕ → Entry
unchosen_comment n = entries.Comment (unchosen_line n)

abbrev pub unchosen_entry : ℕ → List Entry
unchosen_entry n = if n == 0 then [] else unchosen_comment n ∷ []

abbrev pub has_name : List DumpTable → List ℕ → Bool
has_name [] name = false
has_name (t ∷ ts) name = bytes_eq t.name name || has_name ts name

-- an option names a table that isn't declared
unfoldable pub missing_line : List ℕ → List ℕ → List ℕ
missing_line option name = option ++ (codes " names the table " ++ (name ++ codes ", which is not declared"))

abbrev pub missing : List ℕ → List ℕ → Entry
missing option name = entries.Comment (missing_line option name)

abbrev pub missing_entry : List ℕ → List DumpTable → List ℕ → List Entry
missing_entry option ts name = if has_name ts name then [] else missing option name ∷ []

abbrev pub missing_tables : Option (List (List ℕ)) → List DumpTable → List Entry
missing_tables None ts = []
missing_tables (Some names) ts = flat_map (missing_entry (codes "--tables") ts) names

abbrev pub missing_choices : List ColumnChoice → List DumpTable → List Entry
missing_choices choices ts = flat_map (λ c. missing_entry (codes "--columns") ts c.table) choices

abbrev pub remarks : Choice → List DumpTable → List Entry
remarks choice ts = unchosen_entry (unchosen choice.tables ts) ++ (missing_tables choice.tables ts ++ missing_choices choice.columns ts)

-- ---- all tables

-- the entries of the tables of a dump: those that are chosen, and what the options say besides
unfoldable pub entries_of : Choice → List DumpTable → List Entry
entries_of choice ts = entries_from choice [] ts ++ remarks choice ts

-- the tables that a dump declares
abbrev pub declared_in : List ℕ → List DumpTable
declared_in text = dump.tables_of (statements_of text)

-- the entries of a dump, by the texts of both options
abbrev pub drawn_from : List ℕ → Option (List ℕ) → Option (List ℕ) → List Entry
drawn_from text tables columns = entries_of (choice_of tables columns) (declared_in text)
