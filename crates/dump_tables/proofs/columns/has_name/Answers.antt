use Rattle.std.proofs.Common.{◌∙◌}
use Rattle.dump_tables.proofs.Marked.{any_lent}
use Rattle.dump_tables.proofs.columns.has_name.Goals as goal

pub returns : goal.returns
returns c = c.is_among.ensures ∙ any_lent c.args.names.now c.args.name.now
