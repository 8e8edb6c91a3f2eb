use Rattle.std.proofs.Common.{arith}
use Rattle.vc_gen.proofs.Joined.{each-step}
use Rattle.vc_gen.proofs.paths.each_with.Goals as goal

pub loop-p-preserved : goal.loop-p-preserved
loop-p-preserved c =
    each-step c.args.ps.now c.args.qs.now c.loop-p.p-index c.p-item.result c.loop-p.all c.add_each.new.all (omega arith) c.p-item.is c.loop-p.invariant c.in_ok-add_each.ensures
