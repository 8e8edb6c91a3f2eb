use Rattle.std.proofs.Common.{◌∙◌, arith}
use Rattle.vc_gen.proofs.Added.{added}
use Rattle.vc_gen.proofs.own.add_fails.Goals as goal

pub loop-path-preserved : goal.loop-path-preserved
loop-path-preserved c =
    added c.args.chosen.now.atoms.now c.args.way.now _ _ c.args.fails.now c.loop-path.path-index c.path-item.result c.as_slice.result.now c.as_slice-in-loop-path.result.now c.loop-path.all c.push.new.self c.into_inner.result c.in_ok-condition.condition.value _
    (omega arith) c.path-item.is c.as_slice.ensures (c.as_slice-in-loop-path.ensures ∙ c.in_ok-tests.ensures) c.in_ok-condition.ensures c.into_inner.ensures c.in_ok-push.ensures.ok c.loop-path.invariant
