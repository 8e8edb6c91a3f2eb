use Rattle.std.proofs.Common.{arith, ap, ◌∙◌}
use Rattle.std.proofs.lemmas.Result.{err_from_is_err_and}
use Rattle.store_readers.specs.Into.{pushed}
use Rattle.store_readers.specs.Reading.{spaced_at}
use Rattle.store_readers.proofs.Onto.{times_none, times_on, times_fail}
use Rattle.store_readers.proofs.values.+put_values.Goals as goal

pub returns-then-count-eq0 : goal.returns-then-count-eq0
returns-then-count-eq0 t c = times_none pushed c.args.values.now.items (spaced_at c.args.kind) c.args.count c.args.bytes.now c.if-count-eq0.true

pub returns-in_err-x : goal.returns-in_err-x
returns-in_err-x t c =
    let p = err_from_is_err_and c.from_residual.result c.from_residual.ensures.1 in
    rw (p.1, p.2) (times_fail pushed c.args.values.now.items (spaced_at c.args.kind) c.args.count c.args.bytes.now (omega (arith, c.if-count-eq0.false)) c.in_err-x.field-0.0 c.in_err-x.ensures)

pub returns : goal.returns
returns t c =
    rw (times_on pushed c.args.values.now.items (spaced_at c.args.kind) c.args.count c.args.bytes.now (omega (arith, c.if-count-eq0.false)) c.in_ok-x.x c.in_ok-x.rest.now c.in_ok-x.ensures) (rw c.in_ok-push.ensures.items at c.put_values.ensures)
