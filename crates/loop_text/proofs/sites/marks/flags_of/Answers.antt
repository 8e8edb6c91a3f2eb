use Rattle.std.proofs.Common.{map}
use Rattle.loop_text.specs.Sites.Groups.{under_number}
use Rattle.loop_text.specs.Sites.Indexed.{is_number}
use Rattle.loop_text.specs.Kernel.KernelStatements.{updates_local}
use Rattle.loop_text.specs.Sites.Reading.{site_of}
use Rattle.loop_text.proofs.Indexed.BoundFound.{lists_rise}
use Rattle.loop_text.proofs.Indexed.IndexedFlags.{flag_tested}
use Rattle.loop_text.proofs.Indexed.IndexedSites.{next_passing}
use Rattle.loop_text.proofs.sites.marks.flags_of.Goals as goal

pub flag_at-requires : goal.flag_at-requires
flag_at-requires c = lists_rise c.args.binders.now (map site_of c.args.all.now) c.requires

pub loop-n-preserved : goal.loop-n-preserved
loop-n-preserved c d =
    next_passing (updates_local (map site_of c.args.all.now) d) (under_number c.loop-n.found d) (under_number c.push_number.new.found d) (is_number c.flag_at.result d) c.loop-n.n c.args.all.now c.index-all-n.result _ c.loop-n-test.true c.index-all-n.is
    (flag_tested (map site_of c.args.all.now) c.loop-n.n d (site_of c.index-all-n.result) c.flag_at.result (c.flag_at.ensures (map site_of c.args.all.now) c.requires))
    (c.in_ok-push_number.ensures d)
    (c.loop-n.invariant d)
