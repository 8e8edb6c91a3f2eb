use Rattle.std.proofs.Common.{◌≡◌, ◌++◌, List, drop, length, map}
use Rattle.view_slices.specs.Reading.{sliced, slices as plain_slices}
use Rattle.qbs.specs.Fates.{fates_from, slices_of}
use Rattle.qbs.specs.SeenAgain.{Stood, stood_in}
use Rattle.qbs.proofs.by_view_lines.push_fates.Given as goal

-- the fates so far and those of the slices that are left are all of them
abbrev pub invariant-loop-slice : goal.invariant-loop-slice
invariant-loop-slice l =
    (sts : List Stood)
    → l.fates ++ fates_from l.items l.behind (length l.fates) (map (stood_in l.method.read) (plain_slices (drop l.slice-index l.method.slices)) ++ sts) l.spelled
    ≡ l.fn.fates ++ fates_from l.items l.before (length l.fn.fates) (slices_of (sliced l.method) ++ sts) l.spelled
