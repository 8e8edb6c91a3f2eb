use Rattle.std.proofs.Common.{◌≡◌, ◌≤◌, ◌++◌, drop, length}
use Rattle.view_text.specs.Layout.{laid_from, laid_out, stretches_from, stretches_of}
use Rattle.view_text.proofs.stretches.lay_out_placed.Given as goal

-- what is written, with the text and the stretches of the cells behind, are all
abbrev pub invariant-loop-cell : goal.invariant-loop-cell
invariant-loop-cell l = record {
  text : l.out.items ++ laid_from l.before (drop l.cell-index l.cells) ≡ laid_out l.cells;
  stretches : l.stretches ++ stretches_from l.before (length l.out.items) (drop l.cell-index l.cells) ≡ stretches_of l.cells;
  depth : l.before.depth ≤ l.cell-index;
}
