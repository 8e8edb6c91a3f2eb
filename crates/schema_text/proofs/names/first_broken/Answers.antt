use Rattle.std.proofs.Common.{sym, ◌∙◌}
use Rattle.schema.specs.declared.names.Where.TheVariants.{Create}
use Rattle.schema.specs.Naming.{declared_before, first_broken, nothing_seen}
use Rattle.schema_text.proofs.Declaring.{goes_on, stops, is_left, ends}
use Rattle.schema_text.proofs.names.first_broken.Goals as goal

pub returns-then-after-left : goal.returns-then-after-left
returns-then-after-left c =
    is_left c.args.left c.loop-token.seen c.loop-token.place c.in-Some.token.now c.loop-token.rest.now c.in-Some.after.now (first_broken nothing_seen (declared_before c.args.left Create c.args.tokens.now))
    c.in-Some.ensures.cases.0 c.if-after-left.true c.loop-token.invariant

pub returns-then-is_some : goal.returns-then-is_some
returns-then-is_some c =
    stops c.args.left c.loop-token.seen c.judge.new.seen c.loop-token.place c.in-Some.token.now c.loop-token.rest.now c.in-Some.after.now c.in_ok-fault.fault (first_broken nothing_seen (declared_before c.args.left Create c.args.tokens.now))
    c.in-Some.ensures.cases.0 c.if-after-left.false c.in_ok-fault.ensures c.loop-token.invariant (sym c.is_some.ensures ∙ c.if-is_some.true)

pub loop-token-preserved : goal.loop-token-preserved
loop-token-preserved c =
    rw c.next-place.ensures
    (goes_on c.args.left c.loop-token.seen c.judge.new.seen c.loop-token.place c.in-Some.token.now c.loop-token.rest.now c.in-Some.after.now c.in_ok-fault.fault (first_broken nothing_seen (declared_before c.args.left Create c.args.tokens.now))
    c.in-Some.ensures.cases.0 c.if-after-left.false c.in_ok-fault.ensures c.loop-token.invariant (sym c.is_some.ensures ∙ c.if-is_some.false))

pub returns : goal.returns
returns c = ends c.args.left c.loop-token.seen c.loop-token.place c.loop-token.rest.now (first_broken nothing_seen (declared_before c.args.left Create c.args.tokens.now)) c.in_default.ensures.cases c.loop-token.invariant
