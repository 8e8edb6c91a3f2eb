use Rattle.std.proofs.Common.{◌≡◌, drop}
use Rattle.view_slices.specs.Kept.{begin_alike}
use Rattle.view_slices.proofs.kept.begin_alike.Given as goal

abbrev pub invariant-loop-item : goal.invariant-loop-item
invariant-loop-item l = begin_alike (drop l.item-index l.items) l.rest ≡ begin_alike l.items l.written
