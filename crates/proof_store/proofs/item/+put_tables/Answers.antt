use Rattle.std.proofs.Common.{length}
use Rattle.std.proofs.lemmas.Result.{err_from_is_err_and}
use Rattle.proof_store.proofs.Putting.{tables_none, tables_go_on, tables_fail}
use Rattle.proof_store.proofs.item.+put_tables.Goals as goal

pub returns-in-None : goal.returns-in-None
returns-in-None t c = tables_none (length c.args.db.now) c.args.db.now c.args.tables.now c.args.bytes.now c.in-None.ensures.cases

pub returns-in_err-rest-in-Some : goal.returns-in_err-rest-in-Some
returns-in_err-rest-in-Some t c =
    let p = err_from_is_err_and c.from_residual.result c.from_residual.ensures.1 in
    rw (p.1, p.2) (tables_fail c.args.db.now c.in-Some.table.now c.in-Some.further.now c.args.tables.now c.args.bytes.now c.in-Some.ensures.cases.0 c.in_err-rest-in-Some.field-0.0 c.in_err-rest-in-Some.ensures)

pub returns-in_ok-rest-in-Some : goal.returns-in_ok-rest-in-Some
returns-in_ok-rest-in-Some t c =
    rw (tables_go_on c.args.db.now c.in-Some.table.now c.in-Some.further.now c.args.tables.now c.args.bytes.now c.in-Some.ensures.cases.0 c.put_table.new.db c.in_ok-rest-in-Some.rest.now c.in_ok-rest-in-Some.ensures) c.put_tables.ensures
