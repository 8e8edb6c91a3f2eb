-- The select that the code holds.
use Rattle.java_ast.specs.Reading.{expressions}
use Rattle.sql_ast.specs.Reading.{listing}
use Rattle.spreads.specs.declared.select.Select.{Select}
use Rattle.spreads.specs.Spread as spec

abbrev pub select_read : Select → spec.Select
select_read s = record { query = listing s.query.value; arguments = expressions s.arguments.now }
