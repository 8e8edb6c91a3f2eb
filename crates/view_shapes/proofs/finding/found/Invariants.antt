use Rattle.std.proofs.Common.{◌≡◌, ◌≤◌, ◌-◌, length}
use Rattle.view_shapes.specs.Found.{found_in}
use Rattle.view_shapes.proofs.finding.found.Given as goal

abbrev pub invariant-loop : goal.invariant-loop
invariant-loop l = record {
  so_far : found_in (l.end - l.counter) l.sought l.items l.closings l.number ≡ found_in (length l.items) l.sought l.items l.closings l.first;
  behind : l.first ≤ l.number;
}
