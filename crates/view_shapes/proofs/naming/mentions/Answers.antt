use Rattle.view_shapes.proofs.Numbers.{filter_next, filter_end}
use Rattle.view_shapes.specs.Mentions.{is_mention}
use Rattle.view_shapes.proofs.naming.mentions.Goals as goal

pub loop-number-preserved : goal.loop-number-preserved
loop-number-preserved c =
    filter_next (is_mention c.args.items.now c.args.name.now) _ _ _ _ _ _ c.loop-number.invariant c.loop-number-test.true c.is_mention.ensures.value c.in_ok-add_if.ensures

pub returns : goal.returns
returns c = filter_end (is_mention c.args.items.now c.args.name.now) _ _ _ _ c.loop-number.invariant c.loop-number-test.false
