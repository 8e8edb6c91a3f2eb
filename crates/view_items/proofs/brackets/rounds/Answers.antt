use Rattle.view_items.proofs.Matched.{rounds_first, rounds_next, rounds_all}
use Rattle.view_items.proofs.brackets.rounds.Goals as goal

pub loop-number-init : goal.loop-number-init
loop-number-init c = rounds_first c.args.items.now _ _ c.new-opened.ensures.items c.new-numbers.ensures

pub loop-number-preserved : goal.loop-number-preserved
loop-number-preserved c =
    rounds_next c.args.items.now c.loop-number.opened.items c.note_open.new.opened.items _ _ _ _ _ _ _ _ c.loop-number.invariant c.loop-number-test.true c.index-items-number.is c.sign_of.ensures
    c.as_slice.ensures.value c.last_or.ensures c.in_ok-push.ensures.ok c.in_ok-note_open.ensures

pub returns : goal.returns
returns c = rounds_all c.args.items.now c.loop-number.opened.items _ _ _ c.loop-number.invariant c.loop-number-test.false
