-- What the code's emitted queries are read as.
use Rattle.sql_ast.specs.Reading.{query}
use Rattle.sql_parts.specs.Numbered.{Emission}
use Rattle.sql_emit.specs.declared.emission.Emitted.{Emitted}

abbrev pub emission_of : Emitted → Emission
emission_of e = record { query = query e.query; entries = e.entries }
