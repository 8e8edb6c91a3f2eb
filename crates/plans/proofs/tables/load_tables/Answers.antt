use Rattle.std.proofs.Common.{◌≡◌, List, length, arith, ap, add-one}
use Rattle.qbs_base.specs.declared.columns.Table.{Table}
use Rattle.std.proofs.lemmas.Result.{err_from_is_err_and}
use Rattle.plans.proofs.Loading.{loaded_on, tables_next, not_loaded, number_is, fresh_next, text_at, within_texts, loaded_end}
use Rattle.plans.proofs.tables.load_tables.Goals as goal

pub load_next-requires-clause-next : goal.load_next-requires-clause-next
load_next-requires-clause-next c =
    let within = within_texts c.tables-number-end.result.now c.args.schema.now c.args.texts.now c.loop-number.number c.tables-number-end.ensures.value c.requires c.loop-number-test.true in
    number_is c.args.schema.now c.loop-number.number c.loop-number.db (omega (arith, within.0)) c.loop-number.invariant.1

pub load_next-requires-clause-fresh : goal.load_next-requires-clause-fresh
load_next-requires-clause-fresh c = fresh_next c.args.schema.now c.loop-number.number c.loop-number.db c.tables-number-end.ensures.sound c.loop-number.invariant.1

pub returns-in_err-load_next-clause-loaded : goal.returns-in_err-load_next-clause-loaded
returns-in_err-load_next-clause-loaded c =
    let p = err_from_is_err_and c.from_residual.result c.from_residual.ensures.1 in
    let within = within_texts c.tables-number-end.result.now c.args.schema.now c.args.texts.now c.loop-number.number c.tables-number-end.ensures.value c.requires c.loop-number-test.true in
    rw (p.1, p.2)
    (not_loaded (Unit {0}) c.args.schema.now c.loop-number.number c.args.texts.now c.as_slice.result.now c.loop-number.db c.load_next.new.db c.in_err-load_next.field-0.0
    (text_at c.args.texts.now c.loop-number.number c.index-texts-number.result c.as_slice.result.now within.1 c.index-texts-number.is c.as_slice.ensures)
    c.in_err-load_next.ensures c.loop-number.invariant.0)

pub loop-number-preserved : goal.loop-number-preserved
loop-number-preserved c =
    let within = within_texts c.tables-number-end.result.now c.args.schema.now c.args.texts.now c.loop-number.number c.tables-number-end.ensures.value c.requires c.loop-number-test.true in
    rw add-one (
      loaded_on c.args.schema.now c.loop-number.number c.args.texts.now c.as_slice.result.now c.loop-number.db c.load_next.new.db
          (text_at c.args.texts.now c.loop-number.number c.index-texts-number.result c.as_slice.result.now within.1 c.index-texts-number.is c.as_slice.ensures)
          c.in_ok-load_next.ensures c.loop-number.invariant.0,
      tables_next c.args.schema.now c.loop-number.number c.as_slice.result.now c.loop-number.db c.load_next.new.db c.in_ok-load_next.ensures c.loop-number.invariant.1,
    )

pub returns-clause-loaded : goal.returns-clause-loaded
returns-clause-loaded c =
    let same : length c.tables-number-end.result.now ≡ length c.args.schema.now = ap (λ (ts : List Table). length ts) c.tables-number-end.ensures.value in
    loaded_end c.args.schema.now c.args.texts.now c.loop-number.db c.loop-number.number c.requires (omega (arith, same)) c.loop-number.invariant.0
