-- The program with others in place of the run and the loop.
use Rattle.java_loops.proofs.Walks.PlacedPrograms.{replaced_keeps}
use Rattle.java_loops.proofs.places.programs_keep_where_paths_lead.Goals as goal

pub returns : goal.returns
returns c = replaced_keeps
