-- The rows of a variable that is fetched.
use Rattle.java_loops.proofs.Walks.Given.{fetched, fetched_sorted, sorted}
use Rattle.java_loops.proofs.runs.fetched_rows_are_the_tables.Goals as goal

pub returns-clause-fetched : goal.returns-clause-fetched
returns-clause-fetched c = fetched

pub returns-clause-fetched_sorted : goal.returns-clause-fetched_sorted
returns-clause-fetched_sorted c = fetched_sorted

pub returns-clause-sorted : goal.returns-clause-sorted
returns-clause-sorted c = sorted
