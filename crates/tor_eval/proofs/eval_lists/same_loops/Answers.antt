use Rattle.std.proofs.Common.{◌∙◌, sym, arith}
use Rattle.tor_eval.proofs.Steps.{cut-short}
use Rattle.tor_eval.proofs.eval_lists.same_loops.Goals as goal

pub returns-in-None : goal.returns-in-None
returns-in-None c = cut-short c.args.a.now c.loop-j.rest.now c.loop-j.j-index (omega arith) c.in-None.ensures.cases ∙ sym c.loop-j.invariant
