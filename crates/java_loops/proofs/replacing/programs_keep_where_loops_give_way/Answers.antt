-- The program with the kept statements and those that ask.
use Rattle.java_loops.proofs.Walks.Visibility.{programs_give_way}
use Rattle.java_loops.proofs.replacing.programs_keep_where_loops_give_way.Goals as goal

pub returns : goal.returns
returns c = programs_give_way
