-- Why runs stop before their end, and what they give.
use Rattle.std.specs.Prelude.{◌≡◌, if◌then◌else◌, ℤ, true, false, List}
use Rattle.std.specs.declared.option.Option.{Option}
use Rattle.std.specs.declared.option.Option.TheVariants.{Some, None}
use Rattle.std.specs.declared.result.Result.{Result}
use Rattle.std.specs.declared.result.Result.TheVariants.{Ok, Err}
use Rattle.qbs_base.specs.declared.scalar.Value.{Value}
use Rattle.qbs_base.specs.Values.{fits_long}
use Rattle.kernel_steps.specs.declared.end.FragmentEnd.{FragmentEnd}
use Rattle.kernel_steps.specs.declared.end.FragmentEnd.TheVariants as ends
use Rattle.kernel_steps.specs.declared.end.Stop.{Stop}
use Rattle.kernel_steps.specs.declared.end.Stop.TheVariants as stops

abbrev pub IsNoMemory : Stop → Type 0
IsNoMemory stops.NoMemory = Unit {0}
IsNoMemory stops.Overflow = ⊥

abbrev pub long_or_none : ℤ → Option ℤ
long_or_none n = if fits_long n then Some n else None

-- a number of 64 bits
abbrev pub GivesNumber : Result ℤ Stop → ℤ → Type 0
GivesNumber (Ok n) m = (n ≡ m) × (fits_long m ≡ true)
GivesNumber (Err stops.NoMemory) m = ⊥
GivesNumber (Err stops.Overflow) m = fits_long m ≡ false

-- what a fragment ends with, from the values of its accumulators or why there are none
abbrev pub EndsWith : Result (List Value) Stop → FragmentEnd → Type 0
EndsWith (Ok vs) end = end ≡ ends.Store vs
EndsWith (Err stops.Overflow) end = end ≡ ends.Overflow
EndsWith (Err stops.NoMemory) end = ⊥
