use Rattle.std.proofs.Common.{List, ap}
use Rattle.dump_tables.specs.declared.table.DumpTable.{DumpTable}
use Rattle.dump_tables.specs.Tables.{with_statements, tables_of}
use Rattle.dump_tables.proofs.Named.{begun}
use Rattle.dump_tables.proofs.tables.tables_of.Goals as goal

pub loop-statement-init : goal.loop-statement-init
unfolding tables_of
loop-statement-init c = record {
  so_far = ap (λ (ts : List DumpTable). with_statements ts c.args.statements.now) c.new.ensures.items;
  numbered = begun c.new.result.items c.new-2.result c.new.ensures.items c.new-2.ensures;
}
