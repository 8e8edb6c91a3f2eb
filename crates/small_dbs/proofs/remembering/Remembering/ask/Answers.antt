use Rattle.kernel_lang.specs.Whole.{fragment_of}
use Rattle.small_dbs.proofs.Recalled.{pruned}
use Rattle.small_dbs.proofs.remembering.Remembering.ask.Goals as goal

pub returns-clause-exact : goal.returns-clause-exact
returns-clause-exact c = pruned c.args.self.now.schema (fragment_of c.args.frag.now) c.args.cand.now c.drops.result c.answered.result c.drops.ensures.exact c.answered.ensures
