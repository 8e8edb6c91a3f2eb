use Rattle.std.proofs.Common.{subst}
use Rattle.kernel_lang.specs.Whole.{fragment_of}
use Rattle.small_dbs.specs.declared.small.SmallDb.{SmallDb}
use Rattle.proof_store.specs.Banks.{Puts}
use Rattle.proof_store.proofs.Gathered.{already, one_marked}
use Rattle.proof_store.proofs.gathering.put_small.Goals as goal

pub returns-then-is_marked-clause-puts : goal.returns-then-is_marked-clause-puts
returns-then-is_marked-clause-puts c = already c.args.searched.schema.now (fragment_of c.args.searched.frag.now) c.args.bank.now c.args.d c.args.marks.now.items (c.is_marked.ensures c.if-is_marked.true) c.requires.marked

pub returns-clause-puts : goal.returns-clause-puts
returns-clause-puts c = subst (λ (s : SmallDb). Puts c.args.bank.now s c.put.new.self) c.in_ok-item.ensures c.in_ok-put.ensures.puts

pub returns-clause-marked : goal.returns-clause-marked
returns-clause-marked c =
    one_marked c.args.searched.schema.now (fragment_of c.args.searched.frag.now) c.args.bank.now c.put.new.self c.args.d c.args.marks.now.items
    (subst (λ (s : SmallDb). Puts c.args.bank.now s c.put.new.self) c.in_ok-item.ensures c.in_ok-put.ensures.puts) c.requires.marked
