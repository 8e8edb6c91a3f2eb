use Rattle.std.proofs.Common.{◌≡◌, length}
use Rattle.view_shapes.specs.Prefixes.{dotted_end}
use Rattle.view_shapes.proofs.prefixes.dotted_end.Given as goal

abbrev pub invariant-loop-left : goal.invariant-loop-left
invariant-loop-left l = dotted_end l.left l.items l.number ≡ dotted_end (length l.items) l.items l.fn.first

abbrev pub decreases-loop-left : goal.decreases-loop-left
decreases-loop-left l = l.left
