use Rattle.std.proofs.Common.{◌≤◌, ◌-◌}
use Rattle.templates.specs.Numbered.{candidates}
use Rattle.templates.proofs.Ranks.{IsLeft}
use Rattle.templates.proofs.numbered.nth_of.Given as goal

abbrev pub invariant-loop-needed : goal.invariant-loop-needed
invariant-loop-needed l = IsLeft l.pool (candidates l.pool 8) l.k l.numbers l.number l.needed l.rank × (l.needed ≤ 8)

abbrev pub decreases-loop-needed : goal.decreases-loop-needed
decreases-loop-needed l = l.pool - l.number
