use Rattle.std.proofs.Common.{◌≡◌, ◌++◌, drop}
use Rattle.std.specs.List.{flat_map}
use Rattle.view_reports.specs.Lines.{view_line}
use Rattle.view_reports.proofs.lines.push_lines.Given as goal

-- what is written and the lines that are left are all lines
abbrev pub invariant-loop-line : goal.invariant-loop-line
invariant-loop-line l = l.out.items ++ flat_map view_line (drop l.line-index l.lines) ≡ l.fn.out.items ++ flat_map view_line l.lines
