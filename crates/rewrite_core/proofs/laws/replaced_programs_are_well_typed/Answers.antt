-- The program in which asks stand for a loop is well typed.
use Rattle.rewrite_core.proofs.StaysTyped.{replaced_well, replaced_numbers_fit}
use Rattle.rewrite_core.proofs.laws.replaced_programs_are_well_typed.Goals as goal

pub returns-clause-typed : goal.returns-clause-typed
returns-clause-typed c = replaced_well

pub returns-clause-numbers : goal.returns-clause-numbers
returns-clause-numbers c = replaced_numbers_fit
