use Rattle.std.proofs.Common.{◌≡◌}
use Rattle.templates.proofs.Ranks.{shorter}
use Rattle.templates.proofs.numbered.count_of.Given as goal

abbrev pub invariant-loop-length : goal.invariant-loop-length
invariant-loop-length l = l.all ≡ shorter l.pool l.length
