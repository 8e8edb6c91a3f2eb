use Rattle.kernel_lang.specs.Whole.{fragment_of}
use Rattle.small_dbs.proofs.Known.{refutes_there}
use Rattle.small_dbs.proofs.readied.refutes_at.Goals as goal

pub returns-clause-exact : goal.returns-clause-exact
returns-clause-exact c =
    refutes_there (fragment_of c.args.frag.now) c.args.cand.now c.args.items.now c.args.i c.index-items-i.result c.refutes_by.result c.requires.below c.index-items-i.is c.refutes_by.ensures.exact
