use Rattle.std.proofs.Common.{subst, sym, ◌∙◌}
use Rattle.std.proofs.lemmas.Result.{err_from_is_err_and}
use Rattle.readers.specs.Reading.{Fails}
use Rattle.store_readers.specs.Reading.{members_at}
use Rattle.store_readers.proofs.Onto.{fresh}
use Rattle.store_readers.proofs.lists.members.Goals as goal

pub returns-in_err-rest : goal.returns-in_err-rest
returns-in_err-rest c =
    let p = err_from_is_err_and c.from_residual.result c.from_residual.ensures.1 in
    rw (p.1, p.2) (subst (Fails c.in_err-rest.field-0.0) (fresh (members_at c.args.count c.args.bytes.now)) (rw c.new-members.ensures.items at c.in_err-rest.ensures))

pub returns : goal.returns
returns c = sym (fresh (members_at c.args.count c.args.bytes.now)) ∙ (rw c.new-members.ensures.items at c.in_ok-rest.ensures)
