-- What a method of a well-typed program comes to.
use Rattle.java_mean.proofs.Bridge.{never_stuck, result_is}
use Rattle.java_mean.proofs.laws.well_typed_methods_are_never_stuck.Goals as goal

pub returns-clause-never : goal.returns-clause-never
returns-clause-never c = never_stuck

pub returns-clause-result : goal.returns-clause-result
returns-clause-result c = result_is
