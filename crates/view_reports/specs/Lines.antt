-- The lines of a report on a file that is viewed.
use Rattle.std.specs.Prelude.{ℕ, List, ◌++◌, codes}
use Rattle.std.specs.Fmt.{decimal}
use Rattle.verdicts.specs.Lines.{line, place_text}
use Rattle.verdicts.specs.Reports.{verdict_line}
use Rattle.view_reports.specs.declared.lines.ViewLine.{ViewLine}
use Rattle.view_reports.specs.declared.lines.ViewLine.TheVariants as lines

abbrev pub view_line : ViewLine → List ℕ
view_line (lines.Slice k at) = line (codes "slice " ++ decimal k ++ codes " " ++ place_text at)
view_line (lines.Unseen at rule because) = line (codes "loop " ++ place_text at ++ codes " unseen V" ++ decimal rule ++ codes " at " ++ place_text because)
view_line (lines.Tried v) = verdict_line v
view_line (lines.Shared at) = line (codes "loop " ++ place_text at ++ codes " shared")
view_line (lines.Unlike at) = line (codes "loop " ++ place_text at ++ codes " unlike")
