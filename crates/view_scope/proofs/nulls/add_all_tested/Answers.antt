use Rattle.view_scope.proofs.Flat.{flat_next, flat_end}
use Rattle.view_scope.specs.Nulls.{tested_at}
use Rattle.view_scope.proofs.nulls.add_all_tested.Goals as goal

pub loop-number-preserved : goal.loop-number-preserved
loop-number-preserved c =
    flat_next (tested_at c.args.items.now c.args.closings.now c.args.rounds.now) _ _ _ _ _ c.loop-number.invariant c.loop-number-test.true c.in_ok-add_tested.ensures

pub returns : goal.returns
returns c = flat_end (tested_at c.args.items.now c.args.closings.now c.args.rounds.now) _ _ _ _ c.loop-number.invariant c.loop-number-test.false
