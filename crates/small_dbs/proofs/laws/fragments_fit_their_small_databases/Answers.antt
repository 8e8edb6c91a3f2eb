use Rattle.small_dbs.proofs.Fitted.{small_is_of, small_fits}
use Rattle.small_dbs.proofs.laws.fragments_fit_their_small_databases.Goals as goal

pub returns-clause-databases : goal.returns-clause-databases
returns-clause-databases c = small_is_of

pub returns-clause-fit : goal.returns-clause-fit
returns-clause-fit c = small_fits
