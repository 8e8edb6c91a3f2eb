-- The list of values of a type.
use Rattle.std.specs.Prelude.{ℤ, List, [], ◌∷◌}
use Rattle.std.specs.declared.option.Option.{Option}
use Rattle.std.specs.declared.option.Option.TheVariants.{Some, None}
use Rattle.qbs_base.specs.declared.scalar.Scalar.{Scalar}
use Rattle.qbs_base.specs.declared.scalar.Scalar.TheVariants as scalars
use Rattle.qbs_base.specs.declared.scalar.Ty.{Ty}
use Rattle.qbs_base.specs.declared.scalar.Ty.TheVariants as tys
use Rattle.small_dbs.specs.declared.choice.Values.{Values}

abbrev pub held : Values → Ty → List Scalar
held v tys.Long = v.longs
held v tys.Bool = v.bools
held v tys.Text = v.texts

abbrev pub long_or_none : Option ℤ → List Scalar
long_or_none None = []
long_or_none (Some n) = scalars.Long n ∷ []
