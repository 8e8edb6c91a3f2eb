-- The places of a program that was checked.
use Rattle.java_types.proofs.Checked.{checked_place, checked_stores}
use Rattle.java_types.proofs.laws.checked_programs_reach_typed_stores.Goals as goal

pub returns-clause-places : goal.returns-clause-places
returns-clause-places c = checked_place

pub returns-clause-stores : goal.returns-clause-stores
returns-clause-stores c = checked_stores
