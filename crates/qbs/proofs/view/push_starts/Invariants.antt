use Rattle.std.proofs.Common.{◌≡◌, ◌++◌, drop, map}
use Rattle.view_slices.specs.Reading.{slices as plain_slices}
use Rattle.view_slices.specs.Slices.{file_of}
use Rattle.qbs.specs.View.{slice_start}
use Rattle.qbs.proofs.view.push_starts.Given as goal

-- the starts so far and those of the slices that are left are all of them
abbrev pub invariant-loop-slice : goal.invariant-loop-slice
invariant-loop-slice l = l.starts ++ map (slice_start (file_of l.file)) (plain_slices (drop l.slice-index l.slices)) ≡ l.fn.starts ++ map (slice_start (file_of l.file)) (plain_slices l.slices)
