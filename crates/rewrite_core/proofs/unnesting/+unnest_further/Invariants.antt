use Rattle.rewrite_core.proofs.unnesting.+unnest_further.Given as goal

-- each call tries fewer loops
abbrev pub decreases-unnest_further : goal.decreases-unnest_further
decreases-unnest_further g l = l.left
