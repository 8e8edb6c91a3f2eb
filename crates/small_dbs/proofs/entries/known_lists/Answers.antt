use Rattle.std.proofs.Common.{refl}
use Rattle.kernel_lang.specs.Whole.{fragment_of}
use Rattle.small_dbs.specs.Held.{held}
use Rattle.small_dbs.proofs.Entered.{known_on}
use Rattle.small_dbs.proofs.entries.known_lists.Goals as goal

pub loop-q-preserved : goal.loop-q-preserved
loop-q-preserved c = known_on c.args.tables.now (fragment_of c.args.frag.now) (held c.args.values.now) c.args.d c.loop-q.q c.args.frag.now.known c.loop-q.all c.push_known.new.all _ _ c.loop-q-test.true c.loop-q.invariant c.in_ok-push_known.ensures refl
