use Rattle.templates.proofs.Shorter.{shorter-first, shorter-each, shorter-fewer}
use Rattle.templates.proofs.laws.shorter_candidates_come_first.Goals as goal

pub returns-clause-first : goal.returns-clause-first
returns-clause-first c = shorter-first

pub returns-clause-each : goal.returns-clause-each
returns-clause-each c = shorter-each

pub returns-clause-fewer : goal.returns-clause-fewer
returns-clause-fewer c = shorter-fewer
