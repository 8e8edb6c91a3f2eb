use Rattle.std.proofs.Common.{◌≡◌, ◌<◌, ◌-◌, ◌^◌, length}
use Rattle.view_shapes.specs.Statements.{try_end}
use Rattle.view_shapes.proofs.statements.try_end.Given as goal

abbrev pub invariant-loop : goal.invariant-loop
invariant-loop l = record {
  so_far : try_end (l.end - l.counter) l.items l.closings l.number ≡ try_end (length l.items) l.items l.closings l.first;
  room : l.number < 2 ^ 63;
}
