use Rattle.kernel_lang.specs.Whole.{fragment_of}
use Rattle.proof_store.proofs.Asking.{justified}
use Rattle.proof_store.proofs.asked.AskedBank.answer.Goals as goal

pub returns-clause-justified : goal.returns-clause-justified
returns-clause-justified g c = justified (fragment_of c.args.frag.now) c.args.cand.now g.B.Held.items c.refutes.result c.answered.result c.refutes.ensures c.answered.ensures
