use Rattle.java_loops.proofs.Walks.Becoming.{each_left}
use Rattle.java_loops.proofs.alone.loops_leave_variables_alone.Goals as goal

pub returns : goal.returns
returns c = each_left
