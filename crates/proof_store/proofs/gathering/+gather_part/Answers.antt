use Rattle.std.proofs.Common.{◌/◌, arith}
use Rattle.kernel_lang.specs.Whole.{fragment_of}
use Rattle.proof_store.proofs.Gathered.{none_gathered, one_put, both_put}
use Rattle.proof_store.proofs.gathering.+gather_part.Goals as goal

pub returns-then-n-eq0-clause-put : goal.returns-then-n-eq0-clause-put
returns-then-n-eq0-clause-put t c = none_gathered c.args.searched.schema.now (fragment_of c.args.searched.frag.now) c.args.searched.size c.args.k c.args.n c.args.bank.now c.args.marks.now.items c.if-n-eq0.true c.requires.marked

pub returns-then-n-eq1-clause-put : goal.returns-then-n-eq1-clause-put
returns-then-n-eq1-clause-put t c =
    one_put c.args.searched.schema.now (fragment_of c.args.searched.frag.now) c.args.searched.size c.args.k c.args.n c.args.bank.now c.gather_one.new.bank c.gather_one.new.marks.items c.gather_one.result c.if-n-eq1.true c.gather_one.ensures.put

pub returns-clause-put : goal.returns-clause-put
returns-clause-put t c =
    both_put c.args.searched.schema.now (fragment_of c.args.searched.frag.now) c.args.searched.size c.args.k c.args.n (c.args.n / 2) c.args.bank.now c.gather_part.new.bank c.gather_part-2.new.bank c.gather_part.new.marks.items c.gather_part-2.new.marks.items c.gather_part-2.result (omega arith)
    c.in_ok-gather_part.ensures.put c.gather_part-2.ensures.put
