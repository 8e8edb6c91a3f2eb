use Rattle.std.proofs.Common.{◌+◌, List, drop, sym, ap, ◌∙◌, arith}
use Rattle.std.specs.Option.{option_copied}
use Rattle.dump_tables.specs.declared.table.DumpColumn.{DumpColumn}
use Rattle.dump_schema.specs.Going.{all_parts}
use Rattle.dump_schema.proofs.Steps.{drop_item, finish_columns}
use Rattle.dump_schema.proofs.columns.push_columns.Goals as goal

pub loop-column-preserved : goal.loop-column-preserved
loop-column-preserved c =
    c.in_ok-add.ensures (drop (c.loop-column.column-index + 1) c.args.columns.now)
    ∙ ap (λ (cs : List DumpColumn). all_parts (option_copied c.args.chosen) c.loop-column.lines cs)
    (sym (drop_item c.args.columns.now c.loop-column.column-index c.column-item.result c.loop-column-test.true c.column-item.is))
    ∙ c.loop-column.invariant

pub returns : goal.returns
returns c =
    finish_columns (option_copied c.args.chosen) c.loop-column.lines c.args.columns.now c.loop-column.column-index c.args.parts _ _ (omega arith) c.loop-column.invariant c.in_ok-push_all_missing.ensures
