use Rattle.std.proofs.Common.{◌≡◌, ◌+◌}
use Rattle.templates.proofs.Ranks.{shorter}
use Rattle.templates.proofs.numbered.place_of.Given as goal

abbrev pub invariant-loop-length : goal.invariant-loop-length
invariant-loop-length l = l.k ≡ shorter l.pool l.length + l.rank
