use Rattle.proof_store.proofs.Equal.{none_left, other_table, same_so_far}
use Rattle.proof_store.proofs.same.+same_tables_from.Goals as goal

pub returns-then-not-is_there : goal.returns-then-not-is_there
returns-then-not-is_there t c = none_left c.args.a.now c.args.b.now c.args.n c.is_there.result c.is_there-then-not-is_there.result c.is_there.ensures c.if-not-is_there.true c.is_there-then-not-is_there.ensures

pub returns-then-same_table_at : goal.returns-then-same_table_at
returns-then-same_table_at t c = same_so_far c.args.a.now c.args.b.now c.args.n c.is_there.result c.same_table_at.result c.same_tables_from.result c.is_there.ensures c.if-not-is_there.false c.same_table_at.ensures c.if-same_table_at.true c.same_tables_from.ensures

pub returns-else-same_table_at : goal.returns-else-same_table_at
returns-else-same_table_at t c = other_table c.args.a.now c.args.b.now c.args.n c.is_there.result c.same_table_at.result c.is_there.ensures c.if-not-is_there.false c.same_table_at.ensures c.if-same_table_at.false
