use Rattle.std.proofs.Common.{◌≡◌, ◌+◌, ◌≤◌, drop}
use Rattle.narrowing.specs.Reports.{narrowed_among}
use Rattle.narrowing.proofs.lines.count.Given as goal

abbrev pub invariant-loop-w : goal.invariant-loop-w
invariant-loop-w l = record {
  below : l.n ≤ l.w-index;
  left : l.n + narrowed_among (drop l.w-index l.walks) ≡ narrowed_among l.walks;
}
