-- What a call gave: a value, or a fault.
use Rattle.std.specs.Prelude.{◌≡◌, Result, Ok, Err}
use Rattle.std.specs.declared.option.Option.{Option}
use Rattle.std.specs.declared.option.Option.TheVariants.{Some, None}
use Rattle.qbs_base.specs.declared.memory.Fail.{Fail}
use Rattle.qbs_base.specs.declared.memory.Fail.TheVariants as fails
use Rattle.qbs_base.specs.declared.memory.NoMemory.{NoMemory}

-- the fault of what a call gave, and none where it gave a value
abbrev pub IsFaultOf : {T F : Type 0} → Result T (Fail F) → Result (Option F) NoMemory → Type 0
IsFaultOf {T} given (Ok None) = (x : T) × (given ≡ Ok x)
IsFaultOf given (Ok (Some fault)) = given ≡ Err (fails.Fault fault)
IsFaultOf given (Err e) = given ≡ Err fails.NoMemory

-- the value of what a call gave, and none where it gave a fault
abbrev pub IsValueOf : {T F : Type 0} → Result T (Fail F) → Result (Option T) NoMemory → Type 0
IsValueOf given (Ok (Some x)) = given ≡ Ok x
IsValueOf {T} {F} given (Ok None) = (fault : F) × (given ≡ Err (fails.Fault fault))
IsValueOf given (Err e) = given ≡ Err fails.NoMemory
