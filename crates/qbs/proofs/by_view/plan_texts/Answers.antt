use Rattle.std.proofs.lemmas.Result.{err_from_is_err_and}
use Rattle.qbs.proofs.WrittenBack.{schema_stops, map_stops, seen_stops, store_stops, goes_back}
use Rattle.qbs.proofs.by_view.plan_texts.Goals as goal

pub returns-in_err-schema : goal.returns-in_err-schema
returns-in_err-schema g c =
    let p = err_from_is_err_and c.from_residual.result c.from_residual.ensures.1 in
    rw (p.1, p.2)
    (schema_stops _ c.args.options.now c.args.map.now c.args.files.now.schema c.args.files.now.source c.args.files.now.store c.in_err-schema.field-0.0
    (rw c.as_slice.ensures at c.in_err-schema.ensures))

pub returns-in_err-map : goal.returns-in_err-map
returns-in_err-map g c =
    let p = err_from_is_err_and c.from_residual-in_err-map.result c.from_residual-in_err-map.ensures.1 in
    rw (p.1, p.2)
    (map_stops _ c.args.options.now c.args.map.now c.args.files.now.schema c.args.files.now.source c.args.files.now.store c.in_ok-schema.schema c.in_err-map.field-0.0
    (rw c.as_slice.ensures at c.in_ok-schema.ensures) c.in_err-map.ensures)

pub returns-in_err-seen : goal.returns-in_err-seen
returns-in_err-seen g c =
    let p = err_from_is_err_and c.from_residual-in_err-seen.result c.from_residual-in_err-seen.ensures.1 in
    rw (p.1, p.2)
    (seen_stops _ c.args.options.now c.args.map.now c.args.files.now.schema c.args.files.now.source c.args.files.now.store c.in_ok-schema.schema c.in_ok-map.map c.in_err-seen.field-0.0
    (rw c.as_slice.ensures at c.in_ok-schema.ensures) c.in_ok-map.ensures (rw c.as_slice-source.ensures at c.in_err-seen.ensures))

pub returns-in_err-bank : goal.returns-in_err-bank
returns-in_err-bank g c =
    let p = err_from_is_err_and c.from_residual-in_err-bank.result c.from_residual-in_err-bank.ensures.1 in
    rw (p.1, p.2)
    (store_stops _ c.args.options.now c.args.map.now c.args.files.now.schema c.args.files.now.source c.args.files.now.store c.in_ok-schema.schema c.in_ok-map.map c.in_ok-seen.seen c.in_err-bank.field-0.0
    (rw c.as_slice.ensures at c.in_ok-schema.ensures) c.in_ok-map.ensures (rw c.as_slice-source.ensures at c.in_ok-seen.ensures) c.in_err-bank.ensures)

pub returns : goal.returns
returns g c =
    goes_back _ c.args.options.now c.args.map.now c.args.files.now.schema c.args.files.now.source c.args.files.now.store c.in_ok-schema.schema c.in_ok-map.map c.in_ok-seen.seen c.in_ok-bank.bank c.in_ok-plan_seen.field-0
    (rw c.as_slice.ensures at c.in_ok-schema.ensures) c.in_ok-map.ensures (rw c.as_slice-source.ensures at c.in_ok-seen.ensures) c.in_ok-bank.ensures (rw c.as_slice-source.ensures at c.in_ok-plan_seen.ensures)
