-- A place, filled.
use Rattle.java_loops.proofs.Walks.Placed.{replaced_fills, whole_fills, types_behind}
use Rattle.java_loops.proofs.places.paths_lead_to_places.Goals as goal

pub returns-clause-whole : goal.returns-clause-whole
returns-clause-whole c = whole_fills

pub returns-clause-replaced : goal.returns-clause-replaced
returns-clause-replaced c = replaced_fills

pub returns-clause-visible : goal.returns-clause-visible
returns-clause-visible c = types_behind
