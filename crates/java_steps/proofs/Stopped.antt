-- Stops of runs that are the same.
use Rattle.std.proofs.Common.{◌≡◌, Result, sym, subst}
use Rattle.java_mean.specs.declared.ending.Ending.{Ending}
use Rattle.java_steps.specs.declared.stop.Stop.{Stop}
use Rattle.java_steps.specs.Gives.{Stops}

pub stops_same : {A : Type 0} (stop : Stop) (r q : Result A Ending) → r ≡ q → Stops stop q → Stops stop r
stops_same stop r q e h = subst (Stops stop) (sym e) h
