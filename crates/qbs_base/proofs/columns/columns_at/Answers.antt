use Rattle.std.proofs.Common.{◌∙◌}
use Rattle.qbs_base.proofs.ColumnNumbers.{columns_some, columns_none}
use Rattle.qbs_base.proofs.columns.columns_at.Goals as goal

pub returns-in-Some : goal.returns-in-Some
returns-in-Some c =
    c.as_slice.ensures
    ∙ columns_some c.args.tables.now c.args.number c.in-Some.table.now c.in-Some.table.now c.in-Some.ensures.lookup.3.0 c.in-Some.ensures.lookup.1

pub returns-in-None : goal.returns-in-None
returns-in-None c = columns_none c.args.tables.now c.args.number c.in-None.ensures.lookup.3
