-- The walk over the list that a loop counts through.
use Rattle.java_loops.proofs.Walks.Counted.{counting_walks, counting_follows, counts_by_text}
use Rattle.java_loops.proofs.counting.loops_that_count_walk.Goals as goal

pub returns-clause-walks : goal.returns-clause-walks
returns-clause-walks c = counting_walks

pub returns-clause-by_text : goal.returns-clause-by_text
returns-clause-by_text c = counts_by_text

pub returns-clause-follows : goal.returns-clause-follows
returns-clause-follows c = counting_follows
