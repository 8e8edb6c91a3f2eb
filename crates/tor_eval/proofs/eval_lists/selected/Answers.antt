use Rattle.std.proofs.Common.{arith}
use Rattle.tor_terms.specs.Plain.{forms_of}
use Rattle.tor_terms.specs.Evaluation as found
use Rattle.tor_eval.proofs.Steps.{selected-step}
use Rattle.tor_eval.proofs.eval_lists.selected.Goals as goal

pub loop-t-preserved : goal.loop-t-preserved
loop-t-preserved c = selected-step (found.selects c.args.env.now c.args.atoms.now (forms_of c.args.fs.now)) c.loop-t.kept c.push_where.new.kept c.args.ts.now c.loop-t.t-index c.t-item.result c.as_slice.result.now c.as_slice-in-loop-t.result.now c.all_hold-holds.result (omega arith) c.t-item.is c.loop-t.invariant c.as_slice.ensures c.as_slice-in-loop-t.ensures c.all_hold-holds.ensures c.in_ok-push_where.ensures
