use Rattle.java_steps.proofs.Stored.{cells_differ}
use Rattle.java_steps.proofs.rows.same_cells.Goals as goal

pub returns-then-a-b : goal.returns-then-a-b
returns-then-a-b c = cells_differ c.args.a.now c.args.b.now c.if-a-b.true
