-- The plain form of what the code sees of a file.
use Rattle.std.specs.Prelude.{◌≡◌, ◌≤◌, List, ℕ, length}
use Rattle.qbs_base.specs.Values.{Schema}
use Rattle.java_ast.specs.Reading.{program as plain_program}
use Rattle.deliveries.specs.Limits.{most_source}
use Rattle.view_map.specs.declared.model.ViewMap.{ViewMap}
use Rattle.view_slices.specs.Reading.{all_sliced, opened}
use Rattle.view_slices.specs.Slices.{File}
use Rattle.view_slices.specs.Views.{View}
use Rattle.qbs.specs.declared.seen.Viewed.{Viewed}
use Rattle.qbs.specs.declared.seen.Seen as code
use Rattle.qbs.specs.declared.seen.Seen.TheVariants as found
use Rattle.qbs.specs.View.{Seen, Methods, Nothing, IsSeen, text_of, nothing_seen}

abbrev pub view_by : File → Viewed → View
view_by file v = record { file = file; methods = all_sliced v.found.value.methods.items }

-- a view of a file, and the program of its text, which is kept too and isn't longer than a source may be
pub record IsViewed (m : ViewMap) (tables : Schema) (source : List ℕ) (file : File) (v : Viewed) : Type 0 where
  pub seen : IsSeen m tables source (Methods (view_by file v) (plain_program v.typed.value.program))
  pub text : v.text ≡ text_of m tables (view_by file v)
  pub short : length v.text ≤ most_source

abbrev pub seen_by : code.Seen → Seen
seen_by (found.Methods file viewed) = Methods (view_by (opened file) viewed.value) (plain_program viewed.value.typed.value.program)
seen_by (found.Nothing found) = Nothing

-- what is written of it
abbrev pub text_by : code.Seen → List ℕ
text_by (found.Methods file viewed) = viewed.value.text
text_by (found.Nothing found) = nothing_seen

abbrev pub HasSeen : ViewMap → Schema → List ℕ → code.Seen → Type 0
HasSeen m tables source (found.Methods file viewed) = IsViewed m tables source (opened file) viewed.value
HasSeen m tables source (found.Nothing found) = Unit {0}
