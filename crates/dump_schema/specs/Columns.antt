-- The lines of a table.
use Rattle.std.specs.Prelude.{ℕ, Bool, false, ◌||◌, List, [], ◌∷◌, ◌++◌, codes, if◌then◌else◌}
use Rattle.std.specs.declared.option.Option.{Option}
use Rattle.std.specs.declared.option.Option.TheVariants.{Some, None}
use Rattle.std.specs.List.{flat_map}
use Rattle.std.specs.Str.{bytes_eq}
use Rattle.qbs_base.specs.declared.scalar.Ty.{Ty}
use Rattle.qbs_base.specs.declared.scalar.Ty.TheVariants as ty
use Rattle.dump_tables.specs.declared.table.Sort.{Sort}
use Rattle.dump_tables.specs.declared.table.Sort.TheVariants as sorts
use Rattle.dump_tables.specs.declared.table.DumpColumn.{DumpColumn}
use Rattle.dump_text.specs.declared.entry.Part.{Part}
use Rattle.dump_text.specs.declared.entry.Part.TheVariants as parts
use Rattle.dump_schema.specs.declared.reason.Reason.{Reason}
use Rattle.dump_schema.specs.declared.reason.Reason.TheVariants.{NoType, NoName, ManyColumns}
use Rattle.dump_schema.specs.Choices.{is_chosen}
use Rattle.dump_schema.specs.Names.{name_in, is_column_word, reason_of, left_out_text, twin_of, twin_text}

abbrev pub type_of : Sort → Option Ty
type_of sorts.Whole = Some ty.Long
type_of sorts.Unsigned = Some ty.Long
type_of sorts.Truth = Some ty.Bool
type_of sorts.Text = Some ty.Text
type_of sorts.Padded = Some ty.Text
type_of sorts.Other = None

-- ---- notes

abbrev pub separated : List ℕ → List ℕ
separated [] = []
separated (b ∷ bs) = (b ∷ bs) ++ codes "; "

-- one note behind another
abbrev pub with_note : List ℕ → List ℕ → List ℕ
with_note front note = separated front ++ note

-- no value of the language is NULL
unfoldable pub null_note : Bool → List ℕ
null_note never = if never then [] else codes "may hold NULL"

unfoldable pub with_sort_note : List ℕ → Sort → List ℕ
with_sort_note front sorts.Unsigned = with_note front (codes "values up to 9223372036854775807")
with_sort_note front sorts.Padded = with_note front (codes "may be padded with spaces")
with_sort_note front _ = front

abbrev pub with_twin_note : List ℕ → Option (List ℕ) → List ℕ
with_twin_note front None = front
with_twin_note front (Some twin) = with_note front (twin_text twin)

unfoldable pub note_of : List (List ℕ) → DumpColumn → List ℕ
note_of taken c = with_twin_note (with_sort_note (null_note (c.not_null || c.primary)) c.sort) (twin_of taken c.name)

-- ---- columns

-- the name and the type as they are spelled, and why the column is left out
abbrev pub spelled_text : List ℕ → List ℕ
spelled_text [] = []
spelled_text (b ∷ bs) = codes " " ++ (b ∷ bs)

unfoldable pub left_out_line : DumpColumn → Reason → List ℕ
left_out_line c reason = c.name ++ (spelled_text c.spelled ++ left_out_text reason)

abbrev pub left_out : DumpColumn → Reason → Part
left_out c reason = parts.Comment (left_out_line c reason)

-- the line of a column that is taken
abbrev pub written : List (List ℕ) → DumpColumn → Ty → List ℕ → Part
written taken c t name =
    parts.Column (record { column = record { name = name; ty = t; not_null = c.not_null; primary = c.primary }; note = note_of taken c })

abbrev pub free_part : List (List ℕ) → DumpColumn → Ty → List ℕ → Option Reason → Part
free_part taken c t name (Some reason) = left_out c reason
free_part taken c t name None = written taken c t name

abbrev pub named_part : List (List ℕ) → DumpColumn → Ty → Option (List ℕ) → Part
named_part taken c t None = left_out c NoName
named_part taken c t (Some name) = free_part taken c t name (reason_of (is_column_word name) 32 ManyColumns taken name)

abbrev pub typed_part : List (List ℕ) → DumpColumn → Option Ty → Part
typed_part taken c None = left_out c NoType
typed_part taken c (Some t) = named_part taken c t (name_in c.name)

-- the line of a column behind columns of these names
unfoldable pub part_of : List (List ℕ) → DumpColumn → Part
part_of taken c = typed_part taken c (type_of c.sort)

-- the names that are taken behind a line
abbrev pub taken_after : List (List ℕ) → Part → List (List ℕ)
taken_after taken (parts.Column w) = taken ++ w.column.name ∷ []
taken_after taken (parts.Comment bs) = taken

-- the lines of the columns that are chosen, behind columns of these names
unfoldable pub parts_from : Option (List (List ℕ)) → List (List ℕ) → List DumpColumn → List Part
parts_from chosen taken [] = []
parts_from chosen taken (c ∷ cs) =
    if is_chosen chosen c.name then part_of taken c ∷ parts_from chosen (taken_after taken (part_of taken c)) cs else parts_from chosen taken cs

-- ---- names that the table doesn't have

abbrev pub has_name : List DumpColumn → List ℕ → Bool
has_name [] name = false
has_name (c ∷ cs) name = bytes_eq c.name name || has_name cs name

unfoldable pub missing_line : List ℕ → List ℕ
missing_line name = codes "--columns names " ++ (name ++ codes ", which this table does not have")

abbrev pub missing : List ℕ → Part
missing name = parts.Comment (missing_line name)

abbrev pub missing_part : List DumpColumn → List ℕ → List Part
missing_part cs name = if has_name cs name then [] else missing name ∷ []

abbrev pub missing_parts : Option (List (List ℕ)) → List DumpColumn → List Part
missing_parts None cs = []
missing_parts (Some names) cs = flat_map (missing_part cs) names
