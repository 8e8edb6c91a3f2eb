-- What the interpreter runs on, and its machine as a state of the meaning.
use Rattle.java_mean.specs.Outcome.{world_with}
use Rattle.java_mean.specs.Statement.{State}
use Rattle.java_mean.specs.World.{World}
use Rattle.java_types.specs.Texts.{read_by}
use Rattle.java_steps.specs.declared.source.Source.{Source}
use Rattle.java_steps.specs.declared.machine.Machine.{Machine}

abbrev pub world : Source → World
world s = world_with s.queries.schema (read_by s.queries.schema) s.tables

abbrev pub state : Machine → State
state m = record { store = m.store; lines = m.lines; turns = m.turns }
