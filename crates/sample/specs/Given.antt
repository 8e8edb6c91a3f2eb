-- What a method of the class gives.
use Rattle.std.specs.Prelude.{pos}
use Rattle.qbs_base.specs.declared.scalar.Scalar.TheVariants as scalars
use Rattle.java_ast.specs.Tree.{Spelled, Long, String, Table, ListOf, SetOf, Expression, Lit, NewList, NewSet}
use Rattle.sample.specs.declared.build.Given.{Given}
use Rattle.sample.specs.declared.build.Given.TheVariants as given
use Rattle.sample.specs.Class.{nowhere}
use Rattle.sample_data.specs.Tables.{User}

abbrev pub given_type : Given → Spelled
given_type given.Users = ListOf (Table User)
given_type given.Texts = ListOf String
given_type given.DistinctTexts = SetOf String
given_type given.Sum = Long

-- what it starts from
abbrev pub given_start : Given → Expression
given_start given.Users = NewList nowhere
given_start given.Texts = NewList nowhere
given_start given.DistinctTexts = NewSet nowhere
given_start given.Sum = Lit nowhere (scalars.Long (pos 0))
