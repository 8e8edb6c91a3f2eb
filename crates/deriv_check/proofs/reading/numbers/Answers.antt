use Rattle.std.proofs.Common.{length, refl, sym, ◌∙◌}
use Rattle.std.proofs.lemmas.Result.{err_from_is_err_and}
use Rattle.deriv_check.specs.Reading.{ends_path, further_at, numbers_at, numbers_behind}
use Rattle.readers.proofs.Loops.{many_behind, many_go_on, many_fail, many_stop, many_run_out}
use Rattle.deriv_check.proofs.reading.numbers.Goals as goal
use Rattle.deriv_check.proofs.reading.numbers.Goals.{else-loop-test, then-loop-test+then-ends_path}

pub loop-init : goal.loop-init
unfolding numbers_behind numbers_at
loop-init c = many_behind ends_path further_at c.args.path.items (length c.args.bytes.now) c.args.bytes.now refl

pub returns-in_err-number : goal.returns-in_err-number
returns-in_err-number c =
    let p = err_from_is_err_and c.from_residual.result c.from_residual.ensures.1 in
    rw (p.1, p.2) (many_fail ends_path further_at c.loop.path.items (length c.args.bytes.now) c.loop.counter c.loop.rest.now (numbers_behind c.args.path.items c.args.bytes.now) c.in_err-number.field-0.0 c.loop-test.true (sym c.ends_path.ensures ∙ c.if-ends_path.false) c.in_err-number.ensures.exact c.loop.invariant)

pub loop-preserved : goal.loop-preserved
loop-preserved c =
    rw c.in_ok-push.ensures.items (many_go_on ends_path further_at c.loop.path.items (length c.args.bytes.now) c.loop.counter c.loop.rest.now (numbers_behind c.args.path.items c.args.bytes.now) c.in_ok-number.number c.in_ok-number.after.now c.loop-test.true (sym c.ends_path.ensures ∙ c.if-ends_path.false) c.in_ok-number.ensures.exact c.loop.invariant)

pub returns : goal.returns
returns c =
    elim c.loop-test.branch [
      | else-loop-test w ↦ many_run_out ends_path further_at c.loop.path.items (length c.args.bytes.now) c.loop.counter c.loop.rest.now (numbers_behind c.args.path.items c.args.bytes.now) w.loop-test.false c.loop.invariant
      | then-loop-test+then-ends_path w ↦ many_stop ends_path further_at c.loop.path.items (length c.args.bytes.now) c.loop.counter c.loop.rest.now (numbers_behind c.args.path.items c.args.bytes.now) w.loop-test.true (sym w.ends_path.ensures ∙ w.if-ends_path.true) c.loop.invariant
    ]
