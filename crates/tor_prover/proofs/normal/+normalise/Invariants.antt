use Rattle.std.proofs.Common.{◌+◌, ◌*◌}
use Rattle.tor_terms.specs.Plain.{tree_of}
use Rattle.tor_axioms.specs.Weight.{weight}
use Rattle.tor_prover.specs.Seen.{parts_of}
use Rattle.tor_prover.proofs.Made.{room}
use Rattle.tor_prover.proofs.normal.+normalise.Given as goal

abbrev pub decreases-normalise : goal.decreases-normalise
decreases-normalise l = 3 * weight (tree_of l.t.value) + 2

abbrev pub decreases-normal_children : goal.decreases-normal_children
decreases-normal_children l = room (parts_of l.parts)
