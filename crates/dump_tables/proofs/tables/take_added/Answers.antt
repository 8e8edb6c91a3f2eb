use Rattle.dump_tables.proofs.Named.{nothing_added}
use Rattle.dump_tables.proofs.tables.take_added.Goals as goal

pub returns-in-empty : goal.returns-in-empty
returns-in-empty c = nothing_added c.args.table.now c.args.items.now c.in-empty.len_below
