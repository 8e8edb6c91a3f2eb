use Rattle.std.proofs.lemmas.Result.{err_from_is_err_and}
use Rattle.plans.specs.Opening.{IsSchemaOf, IsMapOf}
use Rattle.qbs.specs.Seen.{HasSeen}
use Rattle.qbs.proofs.Seeing.{schema_lacks, map_lacks, view_lacks}
use Rattle.qbs.proofs.opened_by_view.see_source.Goals as goal

pub returns-in_err-tables : goal.returns-in_err-tables
returns-in_err-tables c =
    let p = err_from_is_err_and c.from_residual.result c.from_residual.ensures.1 in
    rw (p.1, p.2)
    (schema_lacks _ c.args.map.now c.args.schema.now c.args.source.now (IsSchemaOf c.args.schema.now) c.in_err-tables.field-0.0 c.in_err-tables.ensures)

pub returns-in_err-map : goal.returns-in_err-map
returns-in_err-map c =
    let p = err_from_is_err_and c.from_residual-in_err-map.result c.from_residual-in_err-map.ensures.1 in
    rw (p.1, p.2)
    (map_lacks _ c.args.map.now c.args.schema.now c.args.source.now (IsMapOf c.in_ok-tables.tables c.args.map.now) c.in_ok-tables.tables c.in_err-map.field-0.0 c.in_ok-tables.ensures c.in_err-map.ensures)

pub returns-in_err-seen : goal.returns-in_err-seen
returns-in_err-seen c =
    let p = err_from_is_err_and c.from_residual-in_err-seen.result c.from_residual-in_err-seen.ensures.1 in
    rw (p.1, p.2)
    (view_lacks _ c.args.map.now c.args.schema.now c.args.source.now (HasSeen c.in_ok-map.map c.in_ok-tables.tables c.args.source.now) c.in_ok-tables.tables c.in_ok-map.map c.in_err-seen.field-0.0 c.in_ok-tables.ensures c.in_ok-map.ensures c.in_err-seen.ensures)

pub returns : goal.returns
returns c =
    rw c.in_ok-new.ensures.ok
    (record { is_schema = c.in_ok-tables.ensures; is_map = c.in_ok-map.ensures; has = c.in_ok-seen.ensures })
