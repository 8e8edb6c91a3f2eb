-- Conditions and their formulas.
use Rattle.java_loops.proofs.Walks.ChainEnds.{formulas_tested}
use Rattle.java_loops.proofs.Walks.ChainStays.{formulas_stay}
use Rattle.java_loops.proofs.chains.formulas_are_tests.Goals as goal

pub returns-clause-tests : goal.returns-clause-tests
returns-clause-tests c = formulas_tested

pub returns-clause-stay : goal.returns-clause-stay
returns-clause-stay c = formulas_stay
