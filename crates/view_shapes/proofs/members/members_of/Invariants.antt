use Rattle.std.proofs.Common.{◌≡◌, ◌-◌, ◌++◌, length}
use Rattle.view_shapes.specs.Members.{members_in}
use Rattle.view_shapes.proofs.members.members_of.Given as goal

abbrev pub invariant-loop : goal.invariant-loop
invariant-loop l = l.list ++ members_in (l.end - l.counter) l.items l.closings l.number ≡ members_in (length l.items) l.items l.closings l.first
