-- The least of the faults that are kept one after the other.
use Rattle.std.specs.Prelude.{◌≡◌, List, [], ◌∷◌, if◌then◌else◌}
use Rattle.std.specs.declared.option.Option.{Option}
use Rattle.std.specs.declared.option.Option.TheVariants.{Some, None}
use Rattle.java_mean.specs.declared.rule.TypeFault.{TypeFault}
use Rattle.qbs_base.specs.declared.memory.Fail.{Fail}
use Rattle.qbs_base.specs.declared.memory.Fail.TheVariants.{Fault, NoMemory}
use Rattle.java_mean.specs.WellTyped.{is_before, IsLeast}

-- the lesser of a fault that is kept so far and one more
abbrev pub lesser : Option TypeFault → TypeFault → Option TypeFault
lesser None f = Some f
lesser (Some g) f = if is_before f g then Some f else Some g

abbrev pub least : Option TypeFault → List TypeFault → Option TypeFault
least k [] = k
least k (f ∷ fs) = least (lesser k f) fs

-- what a refusal says: the fault is a least one, or memory ran out
abbrev pub IsRight : List TypeFault → Fail TypeFault → Type 0
IsRight fs NoMemory = Unit {0}
IsRight fs (Fault f) = IsLeast f fs

-- the fault is the one that is kept of all, or memory ran out
abbrev pub IsKept : List TypeFault → Fail TypeFault → Type 0
IsKept fs NoMemory = Unit {0}
IsKept fs (Fault f) = least None fs ≡ Some f
