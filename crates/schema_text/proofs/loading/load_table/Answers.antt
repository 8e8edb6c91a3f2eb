use Rattle.schema_text.proofs.Typed.{answered_rows, answered_few}
use Rattle.schema_text.proofs.loading.load_table.Goals as goal

pub returns-clause-rows : goal.returns-clause-rows
returns-clause-rows c = answered_rows c.args.schema.now c.args.table c.args.bytes.now c.rows_of.result c.rows_of.ensures

pub returns-clause-few : goal.returns-clause-few
returns-clause-few c = answered_few c.args.schema.now c.args.table c.args.bytes.now c.rows_of.result c.rows_of.ensures
