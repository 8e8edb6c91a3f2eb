use Rattle.view_scope.proofs.Parts.{parameters_from_stuck, parameters_from_last, parameters_from_other, parameters_from_next}
use Rattle.view_scope.proofs.method.parameters_from.Goals as goal

pub returns-in_default : goal.returns-in_default
returns-in_default c = parameters_from_stuck _ _ _ _ _ _ _ c.loop-left.invariant c.loop-left-test.true c.in_default.ensures.value

pub returns-then-parameter-to : goal.returns-then-parameter-to
returns-then-parameter-to c =
    parameters_from_last _ _ _ _ _ _ _ _ _ c.loop-left.invariant c.loop-left-test.true c.in-Some.ensures.value c.in_ok-push.ensures.ok c.if-parameter-to.true

pub returns-then-not-is_sign : goal.returns-then-not-is_sign
returns-then-not-is_sign c =
    parameters_from_other _ _ _ _ _ _ _ _ c.loop-left.invariant c.loop-left-test.true c.in-Some.ensures.value c.if-parameter-to.false c.if-not-is_sign.ensures.value

pub loop-left-preserved : goal.loop-left-preserved
loop-left-preserved c =
    parameters_from_next _ _ _ _ _ _ _ _ _ c.loop-left.invariant c.loop-left-test.true c.in-Some.ensures.value c.in_ok-push.ensures.ok c.if-parameter-to.false c.if-not-is_sign.ensures.value
