-- Faults of statements with other variables visible.
use Rattle.java_mean.proofs.ByNames.{faults_by_names, first_by_names}
use Rattle.java_mean.proofs.laws.faults_go_by_names.Goals as goal

pub returns-clause-block : goal.returns-clause-block
returns-clause-block c = faults_by_names

pub returns-clause-first : goal.returns-clause-first
returns-clause-first c = first_by_names
