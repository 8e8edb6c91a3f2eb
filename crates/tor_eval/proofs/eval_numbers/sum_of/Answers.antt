use Rattle.std.proofs.Common.{arith}
use Rattle.std.proofs.lemmas.Int.{ints}
use Rattle.tor_terms.proofs.Sums.{sum-more}
use Rattle.tor_eval.proofs.eval_numbers.sum_of.Goals as goal

pub loop-row-preserved : goal.loop-row-preserved
loop-row-preserved c = record {
  same = sum-more c.args.rows.now c.loop-row.row-index c.row-item.result _ c.in-Some.n _ (omega arith) c.row-item.is c.loop-row.invariant.same c.in-Some.ensures (omega (arith, ints));
  low = omega (arith, ints);
  high = omega (arith, ints);
}
