use Rattle.std.proofs.Common.{◌≡◌, length}
use Rattle.view_scope.specs.Obscured.{is_in_import}
use Rattle.view_scope.proofs.obscured.is_in_import.Given as goal

abbrev pub invariant-loop-left : goal.invariant-loop-left
invariant-loop-left l = is_in_import l.left l.items l.number ≡ is_in_import (length l.items) l.items l.last

abbrev pub decreases-loop-left : goal.decreases-loop-left
decreases-loop-left l = l.left
