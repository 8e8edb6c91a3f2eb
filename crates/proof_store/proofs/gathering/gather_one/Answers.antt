use Rattle.kernel_lang.specs.Whole.{fragment_of}
use Rattle.proof_store.proofs.Gathered.{none_put, some_put, below_eight}
use Rattle.proof_store.proofs.gathering.gather_one.Goals as goal

pub returns-in-None-clause-put : goal.returns-in-None-clause-put
returns-in-None-clause-put c =
    none_put c.args.searched.schema.now (fragment_of c.args.searched.frag.now) c.args.searched.size c.args.k c.in_ok-cand.cand c.args.searched.smalls.now _ c.args.bank.now c.args.marks.now.items c.args.searched.own c.in_ok-cand.ensures.exact
    c.in-None.is c.in_ok-first_refuting.ensures.first c.requires.marked

pub put_small-requires-clause-low : goal.put_small-requires-clause-low
put_small-requires-clause-low c =
    below_eight c.args.searched.schema.now (fragment_of c.args.searched.frag.now) c.args.searched.size c.args.searched.smalls.now _ c.in-Some.d c.args.searched.own c.in-Some.is c.in_ok-first_refuting.ensures.within

pub returns-clause-put : goal.returns-clause-put
returns-clause-put c =
    some_put c.args.searched.schema.now (fragment_of c.args.searched.frag.now) c.args.searched.size c.args.k c.in_ok-cand.cand c.args.searched.smalls.now _ c.in-Some.d c.args.bank.now c.put_small.new.bank c.put_small.new.marks.items c.put_small.result
    c.args.searched.own
    (below_eight c.args.searched.schema.now (fragment_of c.args.searched.frag.now) c.args.searched.size c.args.searched.smalls.now _ c.in-Some.d c.args.searched.own c.in-Some.is c.in_ok-first_refuting.ensures.within) c.in_ok-cand.ensures.exact
    c.in-Some.is c.in_ok-first_refuting.ensures.first c.put_small.ensures.puts c.put_small.ensures.marked
