use Rattle.view_items.proofs.Marks.{closing_broken, closing_here, closing_next, closing_end, left_on}
use Rattle.view_items.proofs.opened.closing.Goals as goal

pub loop-rest-preserved : goal.loop-rest-preserved
loop-rest-preserved c = record {
  so_far = closing_next _ _ _ _ c.loop-rest.rest.now _ c.loop-rest.invariant.so_far c.in-len1-up.len_at_least c.if-breaks.ensures c.if-is_closed.ensures.value c.escapes-escaped.ensures;
  left = left_on c.loop-rest.rest.now _ _ c.in-len1-up.len_at_least c.loop-rest.invariant.left;
}

pub returns-then-breaks-clause-value : goal.returns-then-breaks-clause-value
returns-then-breaks-clause-value c = closing_broken _ _ _ c.loop-rest.rest.now _ c.loop-rest.invariant.so_far c.in-len1-up.len_at_least c.if-breaks.ensures

pub returns-clause-value : goal.returns-clause-value
returns-clause-value c = closing_end _ _ _ c.loop-rest.rest.now _ c.loop-rest.invariant.so_far c.in_default.len_below

pub returns-then-is_closed-clause-value : goal.returns-then-is_closed-clause-value
returns-then-is_closed-clause-value c =
    closing_here _ _ _ c.loop-rest.rest.now _ _ c.loop-rest.invariant.so_far c.in-len1-up.len_at_least c.if-breaks.ensures c.if-is_closed.ensures.value c.closing_mark.ensures
