use Rattle.std.proofs.Common.{◌≡◌, Some, rules}
use Rattle.std.specs.Prelude.{slice_get}
use Rattle.plans.proofs.Loading.{held_in, next_loaded, next_refused}
use Rattle.plans.proofs.tables.load_next.Goals as goal

pub returns-in_ok-put_rows-in-Ok : goal.returns-in_ok-put_rows-in-Ok
returns-in_ok-put_rows-in-Ok c =
    let held : slice_get c.args.schema.now c.args.number ≡ Some c.index-tables-number.result = held_in c.tables.result.now c.args.schema.now c.args.number c.index-tables-number.result c.tables.ensures.value c.requires.within c.index-tables-number.is in
    let named : c.in_ok-clone-in-Ok.field-0 ≡ c.index-tables-number.result.name = search rules in
    next_loaded c.args.schema.now c.args.number c.args.text.now c.args.db.now c.add_table.new.self c.put_rows.new.db c.index-tables-number.result c.in-Ok.rows c.in_ok-clone-in-Ok.field-0 c.in_ok-number-in-Ok.number
    held c.in-Ok.ensures.value c.in-Ok.ensures.rows c.in-Ok.ensures.few named c.in_ok-number-in-Ok.ensures.number c.in_ok-number-in-Ok.ensures.ok c.in_ok-put_rows-in-Ok.ensures

pub returns-in-Err-Fault : goal.returns-in-Err-Fault
returns-in-Err-Fault c =
    let held : slice_get c.args.schema.now c.args.number ≡ Some c.index-tables-number.result = held_in c.tables.result.now c.args.schema.now c.args.number c.index-tables-number.result c.tables.ensures.value c.requires.within c.index-tables-number.is in
    next_refused (Unit {0}) c.args.schema.now c.args.number c.args.text.now c.args.db.now c.args.db.now c.index-tables-number.result c.in-Err-Fault.fault c.data_refused.result held (rw c.in-Err-Fault.field-0-is at c.in-Err-Fault.ensures.value) c.data_refused.ensures
