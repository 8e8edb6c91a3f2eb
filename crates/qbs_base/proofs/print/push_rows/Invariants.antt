use Rattle.std.proofs.Common.{◌≡◌, ◌++◌, drop}
use Rattle.std.specs.List.{flat_map}
use Rattle.std.specs.String.{string_bytes}
use Rattle.qbs_base.specs.Printed.{row_line}
use Rattle.qbs_base.proofs.print.push_rows.Given as goal

-- what is written and the text of what is left is the text of all
abbrev pub invariant-loop-row : goal.invariant-loop-row
invariant-loop-row l = string_bytes l.out ++ flat_map (row_line l.tables) (drop l.row-index l.rows) ≡ string_bytes l.fn.out ++ flat_map (row_line l.tables) l.rows
