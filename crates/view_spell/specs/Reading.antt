-- The plain form of what the code has.
use Rattle.java_ast.specs.Reading.{statements}
use Rattle.view_statements.specs.Slices.{slice}
use Rattle.view_spell.specs.declared.origins.Seen.{Seen}
use Rattle.view_spell.specs.declared.shared.Around as code
use Rattle.view_spell.specs.Shared.{SeenAs, Around}

abbrev pub seen_as : Seen → SeenAs
seen_as s = record { map = s.map.now; schema = s.schema.now; items = s.items.now; cells = s.cells.now }

abbrev pub around : code.Around → Around
around a = record { slice = slice a.slice.now; fetched = a.fetched.now; at = a.at; block = statements a.block.now }
