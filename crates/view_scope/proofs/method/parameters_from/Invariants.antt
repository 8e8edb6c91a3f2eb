use Rattle.std.proofs.Common.{◌≡◌, [], length}
use Rattle.view_scope.specs.Methods.{parameters_from}
use Rattle.view_scope.proofs.method.parameters_from.Given as goal

abbrev pub invariant-loop-left : goal.invariant-loop-left
invariant-loop-left l = parameters_from l.left l.parameters l.items l.closings l.number l.to ≡ parameters_from (length l.items) [] l.items l.closings l.first l.to

abbrev pub decreases-loop-left : goal.decreases-loop-left
decreases-loop-left l = l.left
