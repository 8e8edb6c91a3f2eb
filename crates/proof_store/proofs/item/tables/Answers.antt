use Rattle.std.proofs.Common.{sym, subst, List, [], ℕ, ap, ◌∙◌}
use Rattle.std.proofs.lemmas.Result.{err_from_is_err_and}
use Rattle.readers.specs.Reading.{Fails}
use Rattle.qbs_base.specs.declared.columns.Table.{Table}
use Rattle.small_dbs.specs.Adding.{AreNew, names_in}
use Rattle.small_dbs.proofs.Adding.{all_new}
use Rattle.store_readers.proofs.Onto.{fresh}
use Rattle.proof_store.specs.Reading.{tables_at}
use Rattle.proof_store.proofs.item.tables.Goals as goal

pub put_tables-requires-clause-fresh : goal.put_tables-requires-clause-fresh
put_tables-requires-clause-fresh c =
    subst (λ (names : List (List ℕ)). AreNew names c.tables.result.now) (sym (ap names_in c.new-db.ensures))
    (subst (λ (ts : List Table). AreNew [] ts) (sym c.tables.ensures.value) (all_new c.args.schema.now c.tables.ensures.sound.distinct))

pub returns-in_err-rest : goal.returns-in_err-rest
returns-in_err-rest c =
    let p = err_from_is_err_and c.from_residual.result c.from_residual.ensures.1 in
    rw (p.1, p.2) (subst (Fails c.in_err-rest.field-0.0) (fresh (tables_at 0 c.args.schema.now c.args.bytes.now)) (rw (c.new-db.ensures, c.tables.ensures.value) at c.in_err-rest.ensures))

pub returns : goal.returns
returns c = sym (fresh (tables_at 0 c.args.schema.now c.args.bytes.now)) ∙ (rw (c.new-db.ensures, c.tables.ensures.value) at c.in_ok-rest.ensures)
