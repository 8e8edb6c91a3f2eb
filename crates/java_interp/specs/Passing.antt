-- How statements pass.
use Rattle.std.specs.Prelude.{◌≡◌, Result, Ok, Err}
use Rattle.std.specs.Option.{option_map}
use Rattle.java_mean.specs.declared.ending.Ending.{Ending}
use Rattle.java_mean.specs.Statement as meant
use Rattle.java_mean.specs.Statement.{Passed}
use Rattle.java_interp.specs.declared.way.Way.{Way}
use Rattle.java_interp.specs.declared.way.Way.TheVariants.{On, Leaves, Returns}
use Rattle.java_steps.specs.declared.machine.Machine.{Machine}
use Rattle.java_steps.specs.declared.stop.Stop.{Stop}
use Rattle.java_steps.specs.Gives.{Stops}
use Rattle.java_steps.specs.Held.{value_in}
use Rattle.java_steps.specs.Running.{state}

-- the way of a machine, with what it holds as returned where it leaves the method
abbrev pub passed : Way → Machine → Passed
passed On m = meant.GoesOn (state m)
passed Leaves m = meant.Leaves (state m)
passed Returns m = meant.Returns (state m) (option_map value_in m.returned)

abbrev pub Passes : Result Way Stop → Machine → Result Passed Ending → Type 0
Passes (Ok way) m run = run ≡ Ok (passed way m)
Passes (Err stop) m run = Stops stop run
