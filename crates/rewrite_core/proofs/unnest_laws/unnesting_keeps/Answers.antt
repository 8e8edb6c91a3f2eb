-- The program after all loops are unnested keeps what the program does.
use Rattle.rewrite_core.proofs.UnnestTries.{unnesting_keeps, unnesting_typed, unnesting_fits}
use Rattle.rewrite_core.proofs.unnest_laws.unnesting_keeps.Goals as goal

pub returns-clause-keeps : goal.returns-clause-keeps
returns-clause-keeps c = unnesting_keeps

pub returns-clause-typed : goal.returns-clause-typed
returns-clause-typed c = unnesting_typed

pub returns-clause-numbers : goal.returns-clause-numbers
returns-clause-numbers c = unnesting_fits
