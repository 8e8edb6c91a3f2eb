-- The places of a well-typed program.
use Rattle.java_mean.proofs.Fitting.{part_fine, behind_fine, type_there, visible_there, refilled}
use Rattle.java_mean.proofs.laws.places_have_faults_of_their_own.Goals as goal

pub returns-clause-parts : goal.returns-clause-parts
returns-clause-parts c = part_fine

pub returns-clause-behind : goal.returns-clause-behind
returns-clause-behind c = behind_fine

pub returns-clause-types : goal.returns-clause-types
returns-clause-types c = type_there

pub returns-clause-visible : goal.returns-clause-visible
returns-clause-visible c = visible_there

pub returns-clause-whole : goal.returns-clause-whole
returns-clause-whole c = refilled
