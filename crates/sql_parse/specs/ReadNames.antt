-- What columns, tables and operands say whose names stand among the tokens.
use Rattle.std.specs.Option.{option_map}
use Rattle.qbs_base.specs.declared.scalar.Scalar.TheVariants as scalars
use Rattle.sql_ast.specs.Written as written
use Rattle.sql_parse.specs.declared.begun.ReadCol.{ReadCol}
use Rattle.sql_parse.specs.declared.begun.ReadPart.{ReadPart}
use Rattle.sql_parse.specs.declared.begun.ReadOpnd.{ReadOpnd}
use Rattle.sql_parse.specs.declared.begun.ReadOpnd.TheVariants as reads

abbrev pub read_col_of : ReadCol → written.WrittenCol
read_col_of c = record { alias = option_map (λ a. a.now) c.alias; name = c.name.now }

abbrev pub read_part_of : ReadPart → written.WrittenPart
read_part_of p = record { table = p.table.now; alias = option_map (λ a. a.now) p.alias }

abbrev pub read_opnd_of : ReadOpnd → written.WrittenOpnd
read_opnd_of (reads.Column col) = written.Column (read_col_of col)
read_opnd_of (reads.Truth b) = written.Lit (scalars.Bool b)
read_opnd_of (reads.Long n) = written.Lit (scalars.Long n)
read_opnd_of (reads.Text text) = written.Lit (scalars.Text text.now)
read_opnd_of (reads.Param n) = written.Param n
