-- The example of statements that fit in.
use Rattle.java_mean.proofs.Copying.{fits_in_block, fits_in_loop, before_in_loop, after_in_loop}
use Rattle.java_mean.proofs.worked.fetches_fit_in.Goals as goal

pub returns-clause-in_block : goal.returns-clause-in_block
returns-clause-in_block c = fits_in_block

pub returns-clause-in_loop : goal.returns-clause-in_loop
returns-clause-in_loop c = fits_in_loop

pub returns-clause-before : goal.returns-clause-before
returns-clause-before c = before_in_loop

pub returns-clause-after : goal.returns-clause-after
returns-clause-after c = after_in_loop
