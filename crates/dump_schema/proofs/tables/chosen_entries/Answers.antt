use Rattle.std.proofs.Common.{◌+◌, List, drop, sym, ap, ◌∙◌, arith}
use Rattle.dump_tables.specs.declared.table.DumpTable.{DumpTable}
use Rattle.dump_schema.specs.Going.{all_entries}
use Rattle.dump_schema.proofs.Steps.{drop_item, finish_tables}
use Rattle.dump_schema.proofs.tables.chosen_entries.Goals as goal

pub loop-table-preserved : goal.loop-table-preserved
loop-table-preserved c =
    c.in_ok-add.ensures (drop (c.loop-table.table-index + 1) c.args.tables.now)
    ∙ ap (λ (ts : List DumpTable). all_entries c.args.choice.now c.loop-table.drawing ts)
    (sym (drop_item c.args.tables.now c.loop-table.table-index c.table-item.result c.loop-table-test.true c.table-item.is))
    ∙ c.loop-table.invariant

pub returns : goal.returns
returns c = finish_tables c.args.choice.now c.loop-table.drawing c.args.tables.now c.loop-table.table-index _ (omega arith) c.loop-table.invariant
