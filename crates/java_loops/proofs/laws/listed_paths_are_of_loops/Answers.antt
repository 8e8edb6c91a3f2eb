-- A path in the list of a program's loops is that of a loop.
use Rattle.java_loops.proofs.Placing.PathsLead.{listed_is_loop}
use Rattle.java_loops.proofs.laws.listed_paths_are_of_loops.Goals as goal

pub returns : goal.returns
returns c = listed_is_loop
