use Rattle.std.proofs.Common.{◌≡◌, ◌++◌, drop}
use Rattle.view_slices.specs.Reading.{all_sliced}
use Rattle.view_slices.specs.Slices.{file_of}
use Rattle.view_slices.specs.Views.{methods_cells}
use Rattle.view_slices.proofs.view.put_methods.Given as goal

abbrev pub invariant-loop-s : goal.invariant-loop-s
invariant-loop-s l =
    l.cells ++ methods_cells l.map l.tables (file_of l.file) l.number (all_sliced (drop l.s-index l.methods))
    ≡ l.fn.cells ++ methods_cells l.map l.tables (file_of l.file) 1 (all_sliced l.methods)
