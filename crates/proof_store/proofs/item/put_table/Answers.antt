use Rattle.std.proofs.Common.{sym}
use Rattle.proof_store.proofs.Putting.{table_is_put}
use Rattle.proof_store.proofs.item.put_table.Goals as goal

pub returns : goal.returns
returns c =
    rw (sym (table_is_put c.args.db.now c.add_table.new.db c.args.table.now.name c.in_ok-number.number c.as_slice.result.now c.args.table.now.columns c.args.bytes.now c.in_ok-number.ensures.number c.in_ok-number.ensures.ok c.as_slice.ensures)) c.put_rows.ensures
