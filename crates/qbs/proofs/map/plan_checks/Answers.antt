use Rattle.std.proofs.Common.{Result, Ok, Err}
use Rattle.std.proofs.lemmas.Result.{err_from_is_err_and}
use Rattle.plans.specs.Opening.{IsSchemaOf, BreaksSchema, schema_refusal, IsMapOf, BreaksMap, map_refusal, has_map}
use Rattle.deliveries.specs.declared.fetch.Stop.{Stop}
use Rattle.deliveries.specs.declared.plan.Plan.{Plan}
use Rattle.deliveries.specs.Steps.{refused}
use Rattle.qbs.specs.Maps.{IsText}
use Rattle.qbs.proofs.Going.{goes_on, stops_at}
use Rattle.qbs.proofs.map.plan_checks.Goals as goal

pub returns-in_err-tables : goal.returns-in_err-tables
returns-in_err-tables c =
    let p = err_from_is_err_and c.from_residual.result c.from_residual.ensures.1 in
    rw (p.1, p.2)
    (stops_at (IsSchemaOf c.args.schema.now) (IsSchemaOf c.args.schema.now) (refused (BreaksSchema c.args.schema.now) schema_refusal)
    (λ tables. has_map tables c.args.map.now (λ m. IsText)) c.in_err-tables.field-0.0 c.in_err-tables.ensures)

pub returns-in_err-map : goal.returns-in_err-map
returns-in_err-map c =
    let tables = c.in_ok-tables.tables in
    let p = err_from_is_err_and c.from_residual-in_err-map.result c.from_residual-in_err-map.ensures.1 in
    rw (p.1, p.2)
    (goes_on (IsSchemaOf c.args.schema.now) (refused (BreaksSchema c.args.schema.now) schema_refusal)
    (λ tables. has_map tables c.args.map.now (λ m. IsText)) tables (Err c.in_err-map.field-0.0) c.in_ok-tables.ensures
    (stops_at (IsMapOf tables c.args.map.now) (IsMapOf tables c.args.map.now) (refused (BreaksMap tables c.args.map.now) (map_refusal c.args.map.now))
    (λ m. IsText) c.in_err-map.field-0.0 c.in_err-map.ensures))

pub returns : goal.returns
returns c =
    let tables = c.in_ok-tables.tables in
    let plan : Result Plan Stop = Ok c.text_plan.result in
    goes_on (IsSchemaOf c.args.schema.now) (refused (BreaksSchema c.args.schema.now) schema_refusal)
    (λ tables. has_map tables c.args.map.now (λ m. IsText)) tables plan c.in_ok-tables.ensures
    (goes_on (IsMapOf tables c.args.map.now) (refused (BreaksMap tables c.args.map.now) (map_refusal c.args.map.now))
    (λ m. IsText) c.in_ok-map.map plan c.in_ok-map.ensures c.text_plan.ensures)
