use Rattle.java_loops.proofs.Walks.Becoming.{left_by, becomes, all_left_by, all_left_at}
use Rattle.java_loops.proofs.alone.nests_leave_variables_alone.Goals as goal

pub returns-clause-statement : goal.returns-clause-statement
returns-clause-statement c = left_by

pub returns-clause-becomes : goal.returns-clause-becomes
returns-clause-becomes c = becomes

pub returns-clause-block : goal.returns-clause-block
returns-clause-block c = all_left_by

pub returns-clause-leaving : goal.returns-clause-leaving
returns-clause-leaving c = all_left_at
