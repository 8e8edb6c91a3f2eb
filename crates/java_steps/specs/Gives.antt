-- What a function of the interpreter gives: what the meaning gives, unless memory ran out.
use Rattle.std.specs.Prelude.{◌≡◌, Result, Ok, Err}
use Rattle.std.specs.Option.{option_map}
use Rattle.java_mean.specs.declared.ending.Ending.{Ending}
use Rattle.java_mean.specs.Statement.{State, Passed, GoesOn, Returns}
use Rattle.java_steps.specs.declared.machine.Machine.{Machine}
use Rattle.java_steps.specs.declared.stop.Stop.{Stop}
use Rattle.java_steps.specs.declared.stop.Stop.TheVariants.{Memory, Ends}
use Rattle.java_steps.specs.Held.{value_in}
use Rattle.java_steps.specs.Running.{state}

abbrev pub Stops : {A : Type 0} → Stop → Result A Ending → Type 0
Stops Memory run = Unit {0}
Stops (Ends e) run = run ≡ Err e

abbrev pub Gives : {A : Type 0} → Result A Stop → Result A Ending → Type 0
Gives (Ok x) run = run ≡ Ok x
Gives (Err stop) run = Stops stop run

-- the same where the code's value stands for one of the meaning
abbrev pub GivesBy : {A B : Type 0} → (B → A) → Result B Stop → Result A Ending → Type 0
GivesBy value (Ok x) run = run ≡ Ok (value x)
GivesBy value (Err stop) run = Stops stop run

-- the same where what it leaves stands behind a reference
abbrev pub Leaves : {A B : Type 0} → Result B Stop → A → Result A Ending → Type 0
Leaves (Ok u) state run = run ≡ Ok state
Leaves (Err stop) state run = Stops stop run

-- what a statement does is to go on from this state
abbrev pub Goes : {B : Type 0} → Result B Stop → State → Result Passed Ending → Type 0
Goes (Ok u) s run = run ≡ Ok (GoesOn s)
Goes (Err stop) s run = Stops stop run

-- it is to return what the machine holds as returned
abbrev pub GivesBack : {B : Type 0} → Result B Stop → Machine → Result Passed Ending → Type 0
GivesBack (Ok u) m run = run ≡ Ok (Returns (state m) (option_map value_in m.returned))
GivesBack (Err stop) m run = Stops stop run
