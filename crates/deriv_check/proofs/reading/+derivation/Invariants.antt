use Rattle.deriv_check.proofs.reading.+derivation.Given as goal

abbrev pub decreases-derivation : goal.decreases-derivation
decreases-derivation l = l.room
