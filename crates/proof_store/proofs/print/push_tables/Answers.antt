use Rattle.std.proofs.Common.{◌++◌}
use Rattle.std.specs.List.{flat_map}
use Rattle.std.specs.String.{string_bytes}
use Rattle.store_parts.specs.Texts.{table_text}
use Rattle.proof_store.proofs.Printed.{next_written}
use Rattle.proof_store.proofs.print.push_tables.Goals as goal

pub loop-number-preserved : goal.loop-number-preserved
loop-number-preserved c =
    next_written (string_bytes c.loop-number.out) (string_bytes c.push_table.new.out) (string_bytes c.args.out.now ++ flat_map table_text c.args.db.now) c.args.db.now c.loop-number.number c.in_ok-push_table.ensures c.loop-number.invariant
