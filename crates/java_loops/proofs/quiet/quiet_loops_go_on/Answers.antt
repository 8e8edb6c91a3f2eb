-- Loops that go on, and that give way by their text.
use Rattle.java_loops.proofs.Walks.Quieted.{loops_go, gives_way_by_text}
use Rattle.java_loops.proofs.quiet.quiet_loops_go_on.Goals as goal

pub returns-clause-go : goal.returns-clause-go
returns-clause-go c = loops_go

pub returns-clause-by_text : goal.returns-clause-by_text
returns-clause-by_text c = gives_way_by_text
