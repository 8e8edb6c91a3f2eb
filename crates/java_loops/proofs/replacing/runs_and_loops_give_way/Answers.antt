-- The kept statements and those that ask, and what is visible after them.
use Rattle.java_loops.proofs.Walks.Asking.{gives_way}
use Rattle.java_loops.proofs.Walks.Visibility.{all_known}
use Rattle.java_loops.proofs.replacing.runs_and_loops_give_way.Goals as goal

pub returns-clause-replaces : goal.returns-clause-replaces
returns-clause-replaces c = gives_way

pub returns-clause-known : goal.returns-clause-known
returns-clause-known c = all_known
