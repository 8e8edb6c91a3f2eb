-- Accepted candidates may be asked for.
use Rattle.rewrite_core.proofs.May.{accepted_ends, accepted_may}
use Rattle.rewrite_core.proofs.laws.accepted_candidates_may_be_asked.Goals as goal

pub returns-clause-ends : goal.returns-clause-ends
returns-clause-ends c = accepted_ends

pub returns-clause-may : goal.returns-clause-may
returns-clause-may c = accepted_may
