-- What a well-typed method comes to.
use Rattle.java_mean.proofs.Answered.{worlds_are_typed}
use Rattle.java_mean.proofs.Replaced.{typed_never_stuck, typed_result}
use Rattle.java_mean.proofs.laws.typed_methods_are_never_stuck.Goals as goal

pub returns-clause-worlds : goal.returns-clause-worlds
returns-clause-worlds c = worlds_are_typed

pub returns-clause-never : goal.returns-clause-never
returns-clause-never c = typed_never_stuck

pub returns-clause-result : goal.returns-clause-result
returns-clause-result c = typed_result
