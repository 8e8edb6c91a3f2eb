-- A method, and a program, with other statements at a place.
use Rattle.java_mean.proofs.Replaced.{replaced_kept, program_kept}
use Rattle.java_mean.proofs.laws.replaced_statements_keep.Goals as goal

pub returns-clause-outcomes : goal.returns-clause-outcomes
returns-clause-outcomes c = replaced_kept

pub returns-clause-programs : goal.returns-clause-programs
returns-clause-programs c = program_kept
