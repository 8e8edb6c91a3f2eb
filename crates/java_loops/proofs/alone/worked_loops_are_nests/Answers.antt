use Rattle.java_loops.proofs.Walks.Worked.{early_is_nest, flagged_is_nest, greatest_is_nest}
use Rattle.java_loops.proofs.alone.worked_loops_are_nests.Goals as goal

pub returns-clause-flagged : goal.returns-clause-flagged
returns-clause-flagged c = flagged_is_nest

pub returns-clause-greatest : goal.returns-clause-greatest
returns-clause-greatest c = greatest_is_nest

pub returns-clause-early : goal.returns-clause-early
returns-clause-early c = early_is_nest
