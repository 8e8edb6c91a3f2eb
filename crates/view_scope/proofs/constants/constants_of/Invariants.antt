use Rattle.std.proofs.Common.{◌≡◌, ◌++◌, drop}
use Rattle.std.specs.List.{flat_map}
use Rattle.view_scope.specs.Constants.{constants_in}
use Rattle.view_scope.proofs.constants.constants_of.Given as goal

abbrev pub invariant-loop-member : goal.invariant-loop-member
invariant-loop-member l = l.list ++ flat_map (constants_in l.items l.closings) (drop l.member-index l.members) ≡ flat_map (constants_in l.items l.closings) l.members
