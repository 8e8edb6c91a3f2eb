-- Types of parameters.
use Rattle.std.specs.declared.option.Option.{Option}
use Rattle.std.specs.declared.option.Option.TheVariants.{Some, None}
use Rattle.qbs_base.specs.declared.scalar.Ty.{Ty}
use Rattle.qbs_base.specs.declared.scalar.Ty.TheVariants as tys

-- the type of an entry; one that isn't there is a Long
abbrev pub type_of : Option Ty → Ty
type_of None = tys.Long
type_of (Some ty) = ty
