use Rattle.view_shapes.proofs.statements.+end_within.Given as goal

abbrev pub decreases-end_within : goal.decreases-end_within
decreases-end_within l = l.levels
