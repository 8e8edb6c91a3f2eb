use Rattle.std.proofs.Common.{map, length, refl, sym, ap, subst, arith}
use Rattle.kernel_lang.specs.Plain.{accumulator}
use Rattle.query_search.specs.Remembered.{AreOutlinesOf}
use Rattle.query_search.proofs.Choosing.{acc_at, short_at}
use Rattle.query_search.proofs.Kept.{outlines-more, outlines-none, one-longer}
use Rattle.query_search.proofs.choices.outlines.Goals as goal

pub outline_of-requires : goal.outline_of-requires
outline_of-requires c = short_at c.args.accs.now c.args.accs.now c.loop-a.a-index c.a-item.result c.a-item.result refl c.requires (omega arith) c.a-item.is

pub loop-a-init : goal.loop-a-init
loop-a-init c = (subst (AreOutlinesOf (map accumulator c.args.accs.now)) (sym c.new-all.ensures) (outlines-none (map accumulator c.args.accs.now)), ap length c.new-all.ensures)

pub loop-a-preserved : goal.loop-a-preserved
loop-a-preserved c = (
  outlines-more c.args.accs.now c.loop-a.a-index c.a-item.result c.loop-a.all c.push.new.self c.in_ok-one.one c.loop-a.invariant.0 c.loop-a.invariant.1
      (acc_at c.args.accs.now c.args.accs.now c.loop-a.a-index c.a-item.result c.a-item.result refl (omega arith) c.a-item.is) c.in_ok-one.ensures c.in_ok-push.ensures.ok,
  one-longer c.loop-a.all c.push.new.self c.loop-a.a-index _ c.loop-a.invariant.1 c.in_ok-push.ensures.ok,
)
