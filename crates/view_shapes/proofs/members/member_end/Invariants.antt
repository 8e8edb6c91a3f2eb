use Rattle.std.proofs.Common.{◌≡◌, ◌-◌, false, length}
use Rattle.view_shapes.specs.Members.{member_end_in}
use Rattle.view_shapes.proofs.members.member_end.Given as goal

abbrev pub invariant-loop : goal.invariant-loop
invariant-loop l = member_end_in (l.end - l.counter) l.valued l.items l.closings l.number ≡ member_end_in (length l.items) false l.items l.closings l.first
