use Rattle.std.proofs.Common.{ap}
use Rattle.loop_text.specs.Sites.Groups.{under_number}
use Rattle.loop_text.specs.Sites.Indexed.{is_number, ends}
use Rattle.loop_text.proofs.Indexed.IndexedSites.{next_passing}
use Rattle.loop_text.proofs.sites.marks.breaks_of.Goals as goal

pub loop-n-preserved : goal.loop-n-preserved
loop-n-preserved c k =
    next_passing (ends k) (under_number c.loop-n.found k) (under_number c.push_number.new.found k) (is_number c.ended_by.result k) c.loop-n.n c.args.all.now c.index-all-n.result _ c.loop-n-test.true c.index-all-n.is
    (ap (λ o. is_number o k) c.ended_by.ensures)
    (c.in_ok-push_number.ensures k)
    (c.loop-n.invariant k)
