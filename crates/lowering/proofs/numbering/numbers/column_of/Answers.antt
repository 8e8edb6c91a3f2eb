use Rattle.std.proofs.Common.{ℕ, ◌∙◌, ap}
use Rattle.qbs_base.specs.Columns.{column_number, columns_at}
use Rattle.java_loops.specs.Lowering.Numbering.{found_number}
use Rattle.lowering.proofs.numbering.numbers.column_of.Goals as goal

pub returns : goal.returns
returns c =
    c.found_number.ensures
    ∙ ap found_number c.column.ensures
    ∙ ap (λ (n : ℕ). found_number (column_number (columns_at c.args.w.now.schema.now n) c.args.c.column.now)) c.table_of_site.ensures
