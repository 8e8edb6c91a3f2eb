use Rattle.std.proofs.Common.{◌∙◌, ap}
use Rattle.qbs_base.specs.Values.{Schema}
use Rattle.qbs_base.specs.Columns.{columns_at}
use Rattle.qbs_base.proofs.ColumnNumbers.{columns_some, columns_none}
use Rattle.lowering.proofs.lowering.parts.columns_at.Goals as goal

pub returns-in-Some : goal.returns-in-Some
returns-in-Some c =
    c.as_slice.ensures
    ∙ columns_some c.tables.result.now c.args.table c.in-Some.table.now c.in-Some.table.now c.in-Some.ensures.lookup.3.0 c.in-Some.ensures.lookup.1
    ∙ ap (λ (schema : Schema). columns_at schema c.args.table) c.tables.ensures.value

pub returns-in-None : goal.returns-in-None
returns-in-None c =
    columns_none c.tables.result.now c.args.table c.in-None.ensures.lookup.3
    ∙ ap (λ (schema : Schema). columns_at schema c.args.table) c.tables.ensures.value
