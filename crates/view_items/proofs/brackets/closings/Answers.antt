use Rattle.std.proofs.Common.{arith}
use Rattle.view_items.proofs.Matched.{closed_first, closed_next, closed_never, closed_all}
use Rattle.view_items.proofs.brackets.closings.Goals as goal

pub loop-number-init : goal.loop-number-init
loop-number-init c = record {
  so_far = closed_first c.args.items.now _ _ c.new.ensures.items c.new-2.ensures.items;
  within = omega arith;
}

pub returns-then-not-branch : goal.returns-then-not-branch
returns-then-not-branch c =
    closed_never c.args.items.now _ _ _ _ _ _ c.loop-number-test.true c.loop-number.invariant.within c.index-items-number.is c.sign_of.ensures c.loop-number.invariant.so_far c.in_ok-take.ensures c.if-not-branch.true

pub loop-number-preserved : goal.loop-number-preserved
loop-number-preserved c = record {
  so_far = closed_next c.args.items.now _ _ _ _ _ _ c.loop-number-test.true c.loop-number.invariant.within c.index-items-number.is c.sign_of.ensures c.loop-number.invariant.so_far c.in_ok-take.ensures c.if-not-branch.false;
  within = omega (arith, c.loop-number.invariant.within);
}

pub returns : goal.returns
returns c = closed_all c.args.items.now _ _ _ c.loop-number.invariant.so_far (omega (arith, c.loop-number-test.false)) c.finished.ensures
