use Rattle.kernel_lang.specs.Whole.{fragment_of}
use Rattle.proof_store.proofs.Gathered.{first_none, first_here, none_behind, some_behind}
use Rattle.proof_store.proofs.gathering.+first_refuting.Goals as goal

pub returns-in-None-clause-first : goal.returns-in-None-clause-first
returns-in-None-clause-first t c = first_none (fragment_of c.args.searched.frag.now) c.args.cand.now c.args.smalls.now c.in-None.ensures.cases

pub returns-then-branch-clause-first : goal.returns-then-branch-clause-first
returns-then-branch-clause-first t c =
    first_here (fragment_of c.args.searched.frag.now) c.args.cand.now c.args.smalls.now c.in-Some.small.now c.in-Some.rest.now _ c.in-Some.ensures.cases.0 c.if-branch.true c.in_ok-refutes_by-in-Some-split_first.ensures.exact

pub returns-in-None-2-clause-first : goal.returns-in-None-2-clause-first
returns-in-None-2-clause-first t c =
    none_behind (fragment_of c.args.searched.frag.now) c.args.cand.now c.args.smalls.now c.in-Some.small.now c.in-Some.rest.now _ _ c.in-Some.ensures.cases.0 c.if-branch.false c.in_ok-refutes_by-in-Some-split_first.ensures.exact c.in-None-2.is c.in_ok-first_refuting-in-Some-split_first.ensures.first

pub returns-in-Some-2-clause-first : goal.returns-in-Some-2-clause-first
returns-in-Some-2-clause-first t c =
    some_behind (fragment_of c.args.searched.frag.now) c.args.cand.now c.args.smalls.now c.in-Some.small.now c.in-Some.rest.now _ _ _ c.in-Some.ensures.cases.0 c.if-branch.false c.in_ok-refutes_by-in-Some-split_first.ensures.exact c.in-Some-2.is c.in_ok-first_refuting-in-Some-split_first.ensures.first
