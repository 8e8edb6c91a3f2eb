use Rattle.std.proofs.Common.{length, refl, sym, ◌∙◌}
use Rattle.std.proofs.lemmas.Result.{err_from_is_err_and}
use Rattle.deriv_check.specs.Reading.{is_line_end, right_at, rights_at}
use Rattle.readers.proofs.Loops.{many_begin, many_go_on, many_fail, many_stop, many_run_out}
use Rattle.deriv_check.proofs.reading.right_steps.Goals as goal
use Rattle.deriv_check.proofs.reading.right_steps.Goals.{else-loop-test, then-loop-test+then-is_over_at}

pub loop-init : goal.loop-init
unfolding rights_at
loop-init c = rw c.new-steps.ensures.items (many_begin is_line_end right_at (length c.args.bytes.now) c.args.bytes.now refl)

pub returns-in_err-step : goal.returns-in_err-step
returns-in_err-step c =
    let p = err_from_is_err_and c.from_residual.result c.from_residual.ensures.1 in
    rw (p.1, p.2) (many_fail is_line_end right_at c.loop.steps.items (length c.args.bytes.now) c.loop.counter c.loop.rest.now (rights_at c.args.bytes.now) c.in_err-step.field-0.0 c.loop-test.true (sym c.is_over_at.ensures ∙ c.if-is_over_at.false) c.in_err-step.ensures c.loop.invariant)

pub loop-preserved : goal.loop-preserved
loop-preserved c =
    rw c.in_ok-push.ensures.items (many_go_on is_line_end right_at c.loop.steps.items (length c.args.bytes.now) c.loop.counter c.loop.rest.now (rights_at c.args.bytes.now) c.in_ok-step.step c.in_ok-step.after.now c.loop-test.true (sym c.is_over_at.ensures ∙ c.if-is_over_at.false) c.in_ok-step.ensures c.loop.invariant)

pub returns : goal.returns
returns c =
    elim c.loop-test.branch [
      | else-loop-test w ↦ many_run_out is_line_end right_at c.loop.steps.items (length c.args.bytes.now) c.loop.counter c.loop.rest.now (rights_at c.args.bytes.now) w.loop-test.false c.loop.invariant
      | then-loop-test+then-is_over_at w ↦ many_stop is_line_end right_at c.loop.steps.items (length c.args.bytes.now) c.loop.counter c.loop.rest.now (rights_at c.args.bytes.now) w.loop-test.true (sym w.is_over_at.ensures ∙ w.if-is_over_at.true) c.loop.invariant
    ]
