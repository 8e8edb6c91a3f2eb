use Rattle.view_slices.proofs.Numbered.{no_other_left}
use Rattle.view_slices.proofs.words.same_numbers.Goals as goal

pub returns-in-empty : goal.returns-in-empty
returns-in-empty c =
    no_other_left c.args.numbers.now c.loop-m.m-index c.loop-m.rest.now _ c.loop-m.invariant c.loop-m-test.true c.in-empty.len_below
