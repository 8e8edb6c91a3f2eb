use Rattle.std.proofs.Common.{ap, ◌∙◌}
use Rattle.qbs_base.specs.Named.{at_name}
use Rattle.small_dbs.proofs.Adding.{not_held}
use Rattle.proof_store.proofs.item.add_table.Goals as goal

pub add_table-requires-clause-fresh : goal.add_table-requires-clause-fresh
add_table-requires-clause-fresh c = ap (at_name c.args.db.now) c.in-Ok.ensures ∙ not_held c.args.db.now c.args.name.now c.requires.fresh
