use Rattle.std.proofs.Common.{arith, ap, ◌∙◌}
use Rattle.std.proofs.lemmas.Result.{err_from_is_err_and}
use Rattle.store_readers.specs.Into.{pushed}
use Rattle.store_readers.specs.Reading.{list_at}
use Rattle.store_readers.proofs.Onto.{times_none, times_on, times_fail}
use Rattle.store_readers.proofs.lists.+put_lists.Goals as goal

pub returns-then-count-eq0 : goal.returns-then-count-eq0
returns-then-count-eq0 t c = times_none pushed c.args.lists.now.items list_at c.args.count c.args.bytes.now c.if-count-eq0.true

pub returns-in_err-list : goal.returns-in_err-list
returns-in_err-list t c =
    let p = err_from_is_err_and c.from_residual.result c.from_residual.ensures.1 in
    rw (p.1, p.2) (times_fail pushed c.args.lists.now.items list_at c.args.count c.args.bytes.now (omega (arith, c.if-count-eq0.false)) c.in_err-list.field-0.0 c.in_err-list.ensures)

pub returns : goal.returns
returns t c =
    rw (times_on pushed c.args.lists.now.items list_at c.args.count c.args.bytes.now (omega (arith, c.if-count-eq0.false)) c.in_ok-list.list c.in_ok-list.rest.now c.in_ok-list.ensures) (rw c.in_ok-push.ensures.items at c.put_lists.ensures)
