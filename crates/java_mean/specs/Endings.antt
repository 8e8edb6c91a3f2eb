-- A run that goes on with what a run before it gave.
use Rattle.std.specs.Prelude.{Result, Ok, Err, Option, Some, None}
use Rattle.java_mean.specs.declared.ending.Ending.{Ending}
use Rattle.java_mean.specs.declared.ending.Ending.TheVariants.{Stuck}

infixl 10 ◌>>=◌
abbrev pub ◌>>=◌ : {A B : Type 0} → Result A Ending → (A → Result B Ending) → Result B Ending
(Ok x) >>= f = f x
(Err e) >>= f = Err e

-- what must be there in a well-typed program
abbrev pub found : {A : Type 0} → Option A → Result A Ending
found (Some x) = Ok x
found None = Err Stuck
