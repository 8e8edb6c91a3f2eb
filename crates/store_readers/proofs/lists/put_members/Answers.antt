use Rattle.std.proofs.Common.{arith}
use Rattle.std.proofs.lemmas.Result.{err_from_is_err_and}
use Rattle.store_readers.specs.Into.{pushed}
use Rattle.store_readers.proofs.Onto.{members_none, members_on, members_fail}
use Rattle.store_readers.proofs.lists.put_members.Goals as goal

pub returns-then-count-eq0 : goal.returns-then-count-eq0
returns-then-count-eq0 c = members_none pushed c.args.members.now.items c.args.count c.args.bytes.now c.if-count-eq0.true

pub returns-in_err-x : goal.returns-in_err-x
returns-in_err-x c =
    let p = err_from_is_err_and c.from_residual.result c.from_residual.ensures.1 in
    rw (p.1, p.2) (members_fail pushed c.args.members.now.items c.args.count c.args.bytes.now (omega (arith, c.if-count-eq0.false)) c.in_err-x.field-0.0 c.in_err-x.ensures)

pub returns : goal.returns
returns c =
    rw (members_on pushed c.args.members.now.items c.args.count c.args.bytes.now (omega (arith, c.if-count-eq0.false)) c.in_ok-x.x c.in_ok-x.rest.now c.in_ok-x.ensures, ← c.ty_of-ty.ensures) (rw c.in_ok-push.ensures.items at c.put_values.ensures)
