use Rattle.std.proofs.Common.{◌∙◌, sym}
use Rattle.loop_text.proofs.Indexed.BoundBelow.{second_half, first_half, before_rises, rest_rises, shorter_behind, shorter_before}
use Rattle.loop_text.proofs.sites.binders.+last_below.Goals as goal

pub last_below-requires : goal.last_below-requires
last_below-requires t c = (
  shorter_behind c.args.bindings.now c.in-Some.before.now c.in-Some.middle c.in-Some.behind.now t c.in-Some.ensures.some c.decreases,
  rest_rises c.args.n c.args.last c.args.bindings.now c.in-Some.before.now c.in-Some.middle c.in-Some.behind.now c.in-Some.ensures.some c.requires,
)

pub last_below-requires-else-number_of-n : goal.last_below-requires-else-number_of-n
last_below-requires-else-number_of-n t c = (
  shorter_before c.args.bindings.now c.in-Some.before.now c.in-Some.middle c.in-Some.behind.now t c.in-Some.ensures.some c.decreases,
  before_rises c.args.n c.args.last c.args.bindings.now c.in-Some.before.now c.in-Some.middle c.in-Some.behind.now c.in-Some.ensures.some c.requires,
)

pub returns-then-number_of-n : goal.returns-then-number_of-n
returns-then-number_of-n t c =
    c.last_below.ensures
    ∙ sym (second_half c.args.n c.args.last c.args.bindings.now c.in-Some.before.now c.in-Some.middle c.in-Some.behind.now c.in-Some.ensures.some c.number_of.result c.number_of.ensures c.if-number_of-n.true)

pub returns-else-number_of-n : goal.returns-else-number_of-n
returns-else-number_of-n t c =
    c.last_below-else-number_of-n.ensures
    ∙ sym (first_half c.args.n c.args.last c.args.bindings.now c.in-Some.before.now c.in-Some.middle c.in-Some.behind.now c.in-Some.ensures.some c.number_of.result c.number_of.ensures c.if-number_of-n.false c.requires)
