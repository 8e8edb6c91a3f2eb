use Rattle.std.proofs.Common.{◌≡◌, ◌++◌, drop, length}
use Rattle.view_slices.specs.Reading.{all_sliced}
use Rattle.qbs.specs.Fates.{fates_from}
use Rattle.qbs.specs.SeenAgain.{slices_in}
use Rattle.qbs.proofs.by_view_lines.fates_of.Given as goal

-- the fates so far and those of the methods that are left are all of them
abbrev pub invariant-loop-method : goal.invariant-loop-method
invariant-loop-method l =
    l.fates ++ fates_from l.items l.behind (length l.fates) (slices_in (all_sliced (drop l.method-index l.methods))) l.spelled
    ≡ fates_from l.items 0 0 (slices_in (all_sliced l.methods)) l.spelled
