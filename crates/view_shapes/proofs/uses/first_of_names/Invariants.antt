use Rattle.std.proofs.Common.{◌≡◌, ◌-◌, length}
use Rattle.view_shapes.specs.Uses.{first_of_names}
use Rattle.view_shapes.proofs.uses.first_of_names.Given as goal

abbrev pub invariant-loop : goal.invariant-loop
invariant-loop l = first_of_names (l.end - l.counter) l.items l.number ≡ first_of_names (length l.items) l.items l.last
