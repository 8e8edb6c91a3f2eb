use Rattle.std.proofs.Common.{◌+◌, ◌*◌}
use Rattle.tor_terms.specs.Plain.{tree_of}
use Rattle.tor_axioms.specs.Weight.{weight}
use Rattle.tor_prover.specs.Seen.{parts_of}
use Rattle.tor_prover.proofs.Made.{room}
use Rattle.tor_prover.proofs.reduce.+reduce.Given as goal

abbrev pub decreases-reduce : goal.decreases-reduce
decreases-reduce l = 3 * weight (tree_of l.t.value) + 2

abbrev pub decreases-reduce_children : goal.decreases-reduce_children
decreases-reduce_children l = room (parts_of l.parts)
