-- Operands that begin with no word.
use Rattle.std.specs.Prelude.{List}
use Rattle.std.specs.declared.option.Option.TheVariants.{Some}
use Rattle.qbs_base.specs.declared.scalar.Scalar.TheVariants as scalars
use Rattle.sql_ast.specs.Names.{◌>>=◌}
use Rattle.sql_ast.specs.Reader.{Read, long_at}
use Rattle.sql_ast.specs.Tokens.{Token}
use Rattle.sql_ast.specs.Written.{WrittenOpnd}
use Rattle.sql_ast.specs.Written as written

-- a literal number
abbrev pub long_opnd_at : List Token → Read WrittenOpnd
long_opnd_at ts = long_at ts >>= λ x. Some (written.Lit (scalars.Long x.0), x.1)
