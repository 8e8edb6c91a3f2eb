use Rattle.std.proofs.Common.{◌+◌, ◌*◌, ◌%◌, ℕ, List, ap, ap₂, sym, ◌∙◌}
use Rattle.qbs_base.specs.declared.columns.Column.{Column}
use Rattle.qbs_base.specs.Named.{at_name}
use Rattle.small_dbs.specs.Adding.{with_rows}
use Rattle.small_dbs.specs.Chosen.{rows}
use Rattle.small_dbs.specs.Held.{held}
use Rattle.small_dbs.proofs.Adding.{not_held, table_added}
use Rattle.small_dbs.proofs.Entered.{on_ok}
use Rattle.small_dbs.proofs.tables.add_table.Goals as goal

pub add_table-requires-clause-fresh : goal.add_table-requires-clause-fresh
add_table-requires-clause-fresh c = ap (at_name c.args.db.now) c.in_ok-copy_text.ensures ∙ not_held c.args.db.now c.args.table.now.name c.requires.fresh

pub returns : goal.returns
returns c =
    on_ok c.put_rows.result
    (λ put. table_added c.args.db.now c.add_table.new.self c.put_rows.new.db c.args.table.now.name c.in_ok-copy_text.field-0 (rows (held c.args.values.now) (c.args.d + 3 * c.args.number) c.args.number c.args.table.now.columns (c.args.d % 4)) c.in_ok-at.at
    c.in_ok-copy_text.ensures c.in_ok-at.ensures.number c.in_ok-at.ensures.ok
    (put ∙ ap₂ (λ (number : ℕ) (columns : List Column). with_rows c.add_table.new.self c.in_ok-at.at (rows (held c.args.values.now) (c.args.d + 3 * c.args.number) number columns (c.args.d % 4))) (c.in_ok-at.ensures.number ∙ sym c.requires.next) c.as_slice.ensures))
    c.put_rows.ensures
