-- Readers that need no memory.
use Rattle.std.specs.Prelude.{◌≡◌, Result, Ok, Err}
use Rattle.readers.specs.declared.fault.Fault.{Fault}

-- what a function returned, seen by view, is what reading gives
abbrev pub GivesExactly : {X Y : Type 0} → (X → Y) → Result X Fault → Result Y Fault → Type 0
GivesExactly view (Ok x) read = read ≡ Ok (view x)
GivesExactly view (Err f) read = read ≡ Err f
