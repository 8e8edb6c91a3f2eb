use Rattle.std.proofs.Common.{◌≡◌, ◌&&◌, drop}
use Rattle.view_slices.specs.Reading.{all_sliced}
use Rattle.view_slices.specs.Slices.{file_of}
use Rattle.view_slices.specs.Views.{are_sliced}
use Rattle.view_slices.proofs.view.are_sliced.Given as goal

abbrev pub invariant-loop-member : goal.invariant-loop-member
invariant-loop-member l =
    (l.all && are_sliced l.map l.tables (file_of l.file) (drop l.member-index l.members) (all_sliced l.rest))
    ≡ are_sliced l.map l.tables (file_of l.file) l.members (all_sliced l.methods)
