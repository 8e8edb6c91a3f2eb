use Rattle.std.specs.Option.{option_copied}
use Rattle.dump_schema.proofs.Steps.{took_column, passed_column}
use Rattle.dump_schema.proofs.columns.Lines.add.Goals as goal

pub returns-in_ok-part : goal.returns-in_ok-part
returns-in_ok-part c =
    took_column c.push.result (option_copied c.args.chosen) c.args.column.now c.args.self.now c.push.new.self _ c.if-is_column_chosen.ensures c.in_ok-part.ensures c.push.ensures.parts c.push.ensures.taken

pub returns-else-is_column_chosen : goal.returns-else-is_column_chosen
returns-else-is_column_chosen c = passed_column (option_copied c.args.chosen) c.args.column.now c.args.self.now c.if-is_column_chosen.ensures
