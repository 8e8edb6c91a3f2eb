use Rattle.std.proofs.Common.{◌≡◌, take}
use Rattle.view_slices.proofs.seen.copied_sight.Given as goal

abbrev pub invariant-loop-v : goal.invariant-loop-v
invariant-loop-v l = l.sight.items ≡ take l.v-index l.outside
