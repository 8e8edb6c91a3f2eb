-- The states in which a place is reached.
use Rattle.java_mean.proofs.Reached.{stores_typed, typed_at, replaced_reached}
use Rattle.java_mean.proofs.laws.well_typed_methods_reach_typed_stores.Goals as goal

pub returns-clause-stores : goal.returns-clause-stores
returns-clause-stores c = stores_typed

pub returns-clause-places : goal.returns-clause-places
returns-clause-places c = typed_at

pub returns-clause-replaced : goal.returns-clause-replaced
returns-clause-replaced c = replaced_reached
