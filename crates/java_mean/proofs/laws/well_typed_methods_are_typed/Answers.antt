-- The typing of a method in which no rule is broken.
use Rattle.java_mean.proofs.Bridge.{methods_typed}
use Rattle.java_mean.proofs.laws.well_typed_methods_are_typed.Goals as goal

pub returns : goal.returns
returns c = methods_typed
