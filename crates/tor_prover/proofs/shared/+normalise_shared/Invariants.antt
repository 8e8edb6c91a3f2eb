use Rattle.std.proofs.Common.{◌+◌, ◌*◌}
use Rattle.tor_terms.specs.Plain.{tree_of}
use Rattle.tor_axioms.specs.Weight.{weight}
use Rattle.tor_prover.specs.Seen.{parts_of}
use Rattle.tor_prover.proofs.Made.{room}
use Rattle.tor_prover.proofs.shared.+normalise_shared.Given as goal

abbrev pub decreases-normalise_shared : goal.decreases-normalise_shared
decreases-normalise_shared l = 6 * weight (tree_of l.t.value) + 5

abbrev pub decreases-normalise_anew : goal.decreases-normalise_anew
decreases-normalise_anew l = 6 * weight (tree_of l.t.value) + 4

abbrev pub decreases-shared_children : goal.decreases-shared_children
decreases-shared_children l = 2 * room (parts_of l.parts)
