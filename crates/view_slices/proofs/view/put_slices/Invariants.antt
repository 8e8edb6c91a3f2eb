use Rattle.std.proofs.Common.{◌≡◌, ◌++◌, drop}
use Rattle.view_slices.specs.Reading.{slices}
use Rattle.view_slices.specs.Slices.{file_of}
use Rattle.view_slices.specs.Views.{slices_cells}
use Rattle.view_slices.proofs.view.put_slices.Given as goal

abbrev pub invariant-loop-s : goal.invariant-loop-s
invariant-loop-s l =
    l.cells ++ slices_cells l.map l.tables (file_of l.file) l.words l.number (slices (drop l.s-index l.slices))
    ≡ l.fn.cells ++ slices_cells l.map l.tables (file_of l.file) l.words l.first (slices l.slices)
