use Rattle.std.proofs.Common.{map}
use Rattle.loop_text.specs.Sites.Reading.{site_of}
use Rattle.loop_text.proofs.Indexed.BoundFound.{lists_rise}
use Rattle.loop_text.proofs.Indexed.IndexedFlags.{next_guarded}
use Rattle.loop_text.proofs.sites.marks.guards_of.Goals as goal

pub flag_at-requires : goal.flag_at-requires
flag_at-requires c = lists_rise c.args.binders.now (map site_of c.args.all.now) c.requires

pub loop-n-preserved : goal.loop-n-preserved
loop-n-preserved c i =
    next_guarded (map site_of c.args.all.now) c.loop-n.found c.put_guards.new.found c.flag_at.result i c.loop-n.n c.args.all.now c.index-all-n.result _ c.loop-n-test.true c.index-all-n.is
    (c.flag_at.ensures (map site_of c.args.all.now) c.requires)
    (c.in_ok-put_guards.ensures i)
    (c.loop-n.invariant i)
