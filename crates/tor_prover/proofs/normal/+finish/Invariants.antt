use Rattle.std.proofs.Common.{◌+◌, ◌*◌}
use Rattle.tor_terms.specs.Plain.{tree_of}
use Rattle.tor_axioms.specs.Weight.{weight}
use Rattle.tor_prover.specs.Seen.{parts_of}
use Rattle.tor_prover.proofs.Made.{room}
use Rattle.tor_prover.proofs.normal.+finish.Given as goal

abbrev pub decreases-finish : goal.decreases-finish
decreases-finish l = 3 * weight (tree_of l.t.value)

abbrev pub decreases-normalise_made : goal.decreases-normalise_made
decreases-normalise_made l = 3 * weight (tree_of l.t.value) + 2

abbrev pub decreases-finish_children : goal.decreases-finish_children
decreases-finish_children l = room (parts_of l.parts)

abbrev pub decreases-finish_child : goal.decreases-finish_child
decreases-finish_child l = 3 * weight (tree_of l.t.value) + 1
