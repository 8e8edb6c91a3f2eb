-- The text of entries.
use Rattle.std.specs.Prelude.{ℕ, nat_lt, ◌==◌, ◌||◌, Bool, true, false, List, [], ◌∷◌, ◌++◌, map, codes, if◌then◌else◌}
use Rattle.std.specs.List.{flat_map}
use Rattle.qbs_base.specs.declared.scalar.Ty.{Ty}
use Rattle.qbs_base.specs.declared.scalar.Ty.TheVariants as ty
use Rattle.qbs_base.specs.declared.columns.Column.{Column}
use Rattle.dump_text.specs.declared.entry.WrittenColumn.{WrittenColumn}
use Rattle.dump_text.specs.declared.entry.Part.{Part}
use Rattle.dump_text.specs.declared.entry.Part.TheVariants as parts
use Rattle.dump_text.specs.declared.entry.WrittenTable.{WrittenTable}
use Rattle.dump_text.specs.declared.entry.Entry.{Entry}
use Rattle.dump_text.specs.declared.entry.Entry.TheVariants as entries

-- ---- comments

-- a control byte is a space, so that no comment ends early
abbrev pub plain : ℕ → ℕ
plain b = if nat_lt b 32 || (b == 127) then 32 else b

abbrev pub comment_text : List ℕ → List ℕ
comment_text bs = codes "-- " ++ map plain bs

-- a comment behind a column
abbrev pub note_text : List ℕ → List ℕ
note_text [] = []
note_text (b ∷ bs) = codes " " ++ comment_text (b ∷ bs)

-- ---- columns

abbrev pub type_text : Ty → List ℕ
type_text ty.Long = codes "BIGINT"
type_text ty.Bool = codes "BOOLEAN"
type_text ty.Text = codes "TEXT"

abbrev pub text_if : Bool → List ℕ → List ℕ
text_if wanted text = if wanted then text else []

abbrev pub marks_text : Column → List ℕ
marks_text c = text_if c.not_null (codes " NOT NULL") ++ text_if c.primary (codes " PRIMARY KEY")

abbrev pub column_text : Column → List ℕ
column_text c = c.name ++ (codes " " ++ (type_text c.ty ++ marks_text c))

abbrev pub has_column : List Part → Bool
has_column [] = false
has_column (parts.Column w ∷ ps) = true
has_column (parts.Comment bs ∷ ps) = has_column ps

-- a column before lines: a comma where a column is among them, and its comment behind the comma
abbrev pub written_text : WrittenColumn → List Part → List ℕ
written_text w ps = codes "    " ++ (column_text w.column ++ (text_if (has_column ps) (codes ",") ++ (note_text w.note ++ codes "\n")))

-- ---- lines and tables

abbrev pub remark_text : List ℕ → List ℕ
remark_text bs = codes "    " ++ (comment_text bs ++ codes "\n")

abbrev pub part_text : Part → List Part → List ℕ
part_text (parts.Column w) ps = written_text w ps
part_text (parts.Comment bs) ps = remark_text bs

abbrev pub parts_text : List Part → List ℕ
parts_text [] = []
parts_text (p ∷ ps) = part_text p ps ++ parts_text ps

-- the line that opens a table
abbrev pub head_text : List ℕ → List ℕ
head_text name = codes "CREATE TABLE " ++ (name ++ codes " (\n")

abbrev pub table_text : WrittenTable → List ℕ
table_text t = head_text t.name ++ (parts_text t.parts ++ codes ");\n")

-- ---- entries

abbrev pub entry_text : Entry → List ℕ
entry_text (entries.Table t) = table_text t
entry_text (entries.Comment bs) = comment_text bs ++ codes "\n"

-- an empty line before each
abbrev pub further_text : List Entry → List ℕ
further_text es = flat_map (λ e. codes "\n" ++ entry_text e) es

unfoldable pub text_of : List Entry → List ℕ
text_of [] = []
text_of (e ∷ es) = entry_text e ++ further_text es
