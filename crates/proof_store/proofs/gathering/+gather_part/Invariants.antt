use Rattle.proof_store.proofs.gathering.+gather_part.Given as goal

abbrev pub decreases-gather_part : goal.decreases-gather_part
decreases-gather_part l = l.n
