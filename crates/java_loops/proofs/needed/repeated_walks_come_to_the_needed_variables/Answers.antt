-- What walks add, and where they end.
use Rattle.java_loops.proofs.Walks.Walks.{needed_in_closed, walk_needed, walked_covers, walked_closed}
use Rattle.java_loops.proofs.needed.repeated_walks_come_to_the_needed_variables.Goals as goal

pub returns-clause-least : goal.returns-clause-least
returns-clause-least c = needed_in_closed

pub returns-clause-adds_needed : goal.returns-clause-adds_needed
returns-clause-adds_needed c = walk_needed

pub returns-clause-covers : goal.returns-clause-covers
returns-clause-covers c = walked_covers

pub returns-clause-closed : goal.returns-clause-closed
returns-clause-closed c = walked_closed
