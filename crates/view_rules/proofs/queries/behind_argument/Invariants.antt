use Rattle.std.proofs.Common.{◌≡◌, length}
use Rattle.view_rules.specs.Queries.{behind_argument}
use Rattle.view_rules.proofs.queries.behind_argument.Given as goal

-- the argument hasn't been come to
abbrev pub invariant-loop-rest : goal.invariant-loop-rest
invariant-loop-rest l = behind_argument l.parts ≡ behind_argument l.rest

abbrev pub decreases-loop-rest : goal.decreases-loop-rest
decreases-loop-rest l = length l.rest
