use Rattle.std.proofs.Common.{◌≡◌, ◌&&◌, drop}
use Rattle.view_slices.specs.Reading.{slices}
use Rattle.view_slices.specs.Slices.{file_of}
use Rattle.view_slices.specs.Views.{are_slices_by}
use Rattle.view_slices.proofs.view.are_slices.Given as goal

abbrev pub invariant-loop-s : goal.invariant-loop-s
invariant-loop-s l =
    (l.all && are_slices_by l.map l.tables (file_of l.file) l.read l.standing l.tested (slices (drop l.s-index l.slices)))
    ≡ are_slices_by l.map l.tables (file_of l.file) l.read l.standing l.tested (slices l.slices)
