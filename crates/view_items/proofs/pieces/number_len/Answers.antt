use Rattle.view_items.proofs.Marks.{number_over, number_next, number_end, left_on}
use Rattle.view_items.proofs.pieces.number_len.Goals as goal

pub returns-then-not-goes_on-clause-value : goal.returns-then-not-goes_on-clause-value
returns-then-not-goes_on-clause-value c = number_over _ _ _ _ c.loop-rest.rest.now c.loop-rest.invariant.so_far c.in-len1-up.len_at_least c.if-not-goes_on.ensures

pub loop-rest-preserved : goal.loop-rest-preserved
loop-rest-preserved c = record {
  so_far = number_next _ _ _ _ c.loop-rest.rest.now c.loop-rest.invariant.so_far c.in-len1-up.len_at_least c.if-not-goes_on.ensures;
  left = left_on c.loop-rest.rest.now _ _ c.in-len1-up.len_at_least c.loop-rest.invariant.left;
}

pub returns-clause-value : goal.returns-clause-value
returns-clause-value c = number_end _ _ _ _ c.loop-rest.rest.now c.loop-rest.invariant.so_far c.in_default.len_below
