use Rattle.kernel_interp.specs.Claiming.{chosen_world}
use Rattle.kernel_interp.specs.Members.{forms_lent}
use Rattle.kernel_interp.specs.Reading.{rows_in, plain_of}
use Rattle.kernel_interp.proofs.Visited.{taken_at, taken_more}
use Rattle.kernel_interp.proofs.claim.+push_taken.Goals as goal

pub loop-row-preserved : goal.loop-row-preserved
loop-row-preserved t c =
    taken_more (taken_at (chosen_world c.args.claims) (plain_of c.args.claims.setting).atoms (forms_lent c.args.fs.now) c.args.e c.in-Some.over.now c.in-Some.inner.now (rows_in c.args.place.now))
    c.rows_of-rows.result.now c.loop-row.row-index c.row-item.result c.args.all.now c.loop-row.all _ c.loop-row-test.true c.row-item.is c.loop-row.invariant c.in_ok-push_taken-in-Some.ensures
