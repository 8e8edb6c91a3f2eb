use Rattle.java_steps.proofs.Seen.{met_next}
use Rattle.java_steps.proofs.met.met_rows.Goals as goal

pub loop-row-preserved : goal.loop-row-preserved
loop-row-preserved c = met_next c.loop-row.met c.meet.new.met c.row-item.result c.in_ok-meet.field-0 c.in_ok-meet.ensures c.args.rows.now c.loop-row.row-index c.loop-row-test.true c.row-item.is c.loop-row.invariant
