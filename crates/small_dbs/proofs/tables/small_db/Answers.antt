use Rattle.std.proofs.Common.{sym, subst, List, [], ℕ, ap}
use Rattle.qbs_base.specs.declared.columns.Table.{Table}
use Rattle.small_dbs.specs.Adding.{AreNew, names_in}
use Rattle.small_dbs.proofs.Adding.{all_new}
use Rattle.small_dbs.proofs.tables.small_db.Goals as goal

pub add_tables-requires-clause-fresh : goal.add_tables-requires-clause-fresh
add_tables-requires-clause-fresh c =
    subst (λ (names : List (List ℕ)). AreNew names c.tables.result.now) (sym (ap names_in c.new-db.ensures))
    (subst (λ (ts : List Table). AreNew [] ts) (sym c.tables.ensures.value) (all_new c.args.schema.now c.tables.ensures.sound.distinct))
