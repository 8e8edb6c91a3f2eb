-- What is in sight.
use Rattle.std.specs.Prelude.{List}
use Rattle.sql_ast.specs.declared.known.Known.{Known}
use Rattle.sql_ast.specs.declared.sight.Sight.{Sight}
use Rattle.sql_ast.specs.Sights.{items_in}

abbrev pub in_sight : Sight → List Known
in_sight sight = items_in sight.held.items
