use Rattle.dump_schema.proofs.Steps.{took_table, passed_table}
use Rattle.dump_schema.proofs.tables.Drawing.add.Goals as goal

pub returns-in_ok-entry : goal.returns-in_ok-entry
returns-in_ok-entry c =
    took_table c.push.result c.args.choice.now c.args.table.now c.args.self.now c.push.new.self _ c.if-is_table_chosen.ensures c.in_ok-entry.ensures c.push.ensures.entries c.push.ensures.taken

pub returns-else-is_table_chosen : goal.returns-else-is_table_chosen
returns-else-is_table_chosen c = passed_table c.args.choice.now c.args.table.now c.args.self.now c.if-is_table_chosen.ensures
