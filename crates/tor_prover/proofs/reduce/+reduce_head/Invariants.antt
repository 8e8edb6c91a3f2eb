use Rattle.std.proofs.Common.{◌+◌, ◌*◌}
use Rattle.tor_terms.specs.Plain.{tree_of}
use Rattle.tor_axioms.specs.Weight.{weight}
use Rattle.tor_prover.specs.Seen.{parts_of}
use Rattle.tor_prover.proofs.Made.{room}
use Rattle.tor_prover.proofs.reduce.+reduce_head.Given as goal

abbrev pub decreases-reduce_head : goal.decreases-reduce_head
decreases-reduce_head l = 3 * weight (tree_of l.t.value)

abbrev pub decreases-reduce_made : goal.decreases-reduce_made
decreases-reduce_made l = 3 * weight (tree_of l.t.value) + 2

abbrev pub decreases-reduce_heads : goal.decreases-reduce_heads
decreases-reduce_heads l = room (parts_of l.parts)

abbrev pub decreases-reduce_child : goal.decreases-reduce_child
decreases-reduce_child l = 3 * weight (tree_of l.t.value) + 1
