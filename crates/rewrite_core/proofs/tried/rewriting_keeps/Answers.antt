-- The program after all tries keeps what the program does.
use Rattle.rewrite_core.proofs.Turns.{rewritten_keeps, rewritten_typed, rewritten_fits}
use Rattle.rewrite_core.proofs.tried.rewriting_keeps.Goals as goal

pub returns-clause-keeps : goal.returns-clause-keeps
returns-clause-keeps c = rewritten_keeps

pub returns-clause-typed : goal.returns-clause-typed
returns-clause-typed c = rewritten_typed

pub returns-clause-numbers : goal.returns-clause-numbers
returns-clause-numbers c = rewritten_fits
