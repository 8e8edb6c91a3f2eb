use Rattle.std.proofs.Common.{◌≡◌, ◌<◌, ◌+◌, ◌-◌, ◌^◌, length}
use Rattle.view_shapes.specs.Statements.{modifiers_end}
use Rattle.view_shapes.proofs.statements.modifiers_end.Given as goal

abbrev pub invariant-loop : goal.invariant-loop
invariant-loop l = record {
  so_far : modifiers_end (l.end - l.counter) l.items l.closings l.number ≡ modifiers_end (length l.items) l.items l.closings l.first;
  room : l.number + 2 < 2 ^ 64;
}
