use Rattle.std.proofs.Common.{arith}
use Rattle.kernel_lang.specs.Whole.{fragment_of}
use Rattle.small_dbs.proofs.Known.{one_found, one_passed}
use Rattle.small_dbs.proofs.readied.one_refutes.Goals as goal

pub returns-then-branch-clause-exact : goal.returns-then-branch-clause-exact
returns-then-branch-clause-exact c =
    one_found (fragment_of c.args.frag.now) c.args.cand.now c.args.items.now c.loop-i.i c.loop-i.invariant.2 c.in_ok-refutes_at.field-0 c.in_ok-refutes_at.ensures.exact c.if-branch.true

pub loop-i-preserved : goal.loop-i-preserved
loop-i-preserved c =
    let next = c.in_ok-refutes_at.ensures.next in (
      c.in_ok-refutes_at.ensures.known,
      omega (arith, next),
      one_passed (fragment_of c.args.frag.now) c.args.cand.now c.args.items.now c.loop-i.i c.loop-i.invariant.2 c.in_ok-refutes_at.field-0 c.in_ok-refutes_at.ensures.exact c.if-branch.false,
    )
