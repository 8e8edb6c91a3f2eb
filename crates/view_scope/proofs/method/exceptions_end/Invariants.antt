use Rattle.std.proofs.Common.{◌≡◌, length}
use Rattle.view_scope.specs.Methods.{exceptions_end}
use Rattle.view_scope.proofs.method.exceptions_end.Given as goal

abbrev pub invariant-loop-left : goal.invariant-loop-left
invariant-loop-left l = exceptions_end l.left l.items l.number ≡ exceptions_end (length l.items) l.items l.fn.first

abbrev pub decreases-loop-left : goal.decreases-loop-left
decreases-loop-left l = l.left
