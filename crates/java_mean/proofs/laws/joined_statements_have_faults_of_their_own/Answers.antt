-- Statements one after the other.
use Rattle.java_mean.proofs.Fitting.{faults_joined, ends_too, first_whole}
use Rattle.java_mean.proofs.laws.joined_statements_have_faults_of_their_own.Goals as goal

pub returns-clause-joined : goal.returns-clause-joined
returns-clause-joined c = faults_joined

pub returns-clause-ends : goal.returns-clause-ends
returns-clause-ends c = ends_too

pub returns-clause-block : goal.returns-clause-block
returns-clause-block c = first_whole
