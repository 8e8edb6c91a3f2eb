use Rattle.rewrite_core.proofs.progress.+try_further.Given as goal

-- each call tries fewer loops
abbrev pub decreases-try_further : goal.decreases-try_further
decreases-try_further g l = l.left
