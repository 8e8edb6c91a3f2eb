use Rattle.std.proofs.Common.{◌≡◌, ◌≤◌, ◌++◌, drop}
use Rattle.view_text.specs.Layout.{laid_from, laid_out}
use Rattle.view_text.proofs.layout.lay_out.Given as goal

-- what is written, and the text of the cells behind, are all
abbrev pub invariant-loop-cell : goal.invariant-loop-cell
invariant-loop-cell l = record {
  text : l.out.items ++ laid_from l.before (drop l.cell-index l.cells) ≡ laid_out l.cells;
  depth : l.before.depth ≤ l.cell-index;
}
