use Rattle.std.proofs.Common.{◌≡◌, ◌++◌, drop}
use Rattle.std.specs.List.{flat_map}
use Rattle.std.specs.String.{string_bytes}
use Rattle.qbs_base.specs.Printed.{further_cell}
use Rattle.qbs_base.proofs.print.push_further_cells.Given as goal

-- what is written and the text of what is left is the text of all
abbrev pub invariant-loop-cell : goal.invariant-loop-cell
invariant-loop-cell l = string_bytes l.out ++ flat_map further_cell (drop l.cell-index l.cells) ≡ string_bytes l.fn.out ++ flat_map further_cell l.cells
