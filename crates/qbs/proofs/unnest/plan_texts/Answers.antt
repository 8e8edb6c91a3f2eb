use Rattle.std.proofs.Common.{Ok, Err}
use Rattle.std.proofs.lemmas.Result.{err_from_is_err_and}
use Rattle.java_ast.specs.Reading.{program as plain_program}
use Rattle.java_types.specs.declared.checking.Typed.{Typed}
use Rattle.plans.specs.Opening.{IsSchemaOf, BreaksSchema, schema_refusal, IsProgramOf, HasNoProgram, has_program}
use Rattle.deliveries.specs.Steps.{refused}
use Rattle.qbs.specs.Rewrite.{size_of, budget_of}
use Rattle.qbs.specs.Unnest.{Unnests}
use Rattle.qbs.proofs.Going.{goes_on, stops_at}
use Rattle.qbs.proofs.unnest.plan_texts.Goals as goal

pub returns-in_err-tables : goal.returns-in_err-tables
returns-in_err-tables c =
    let p = err_from_is_err_and c.from_residual.result c.from_residual.ensures.1 in
    rw (p.1, p.2)
    (stops_at (IsSchemaOf c.args.schema.now) (IsSchemaOf c.args.schema.now) (refused (BreaksSchema c.args.schema.now) schema_refusal)
    (λ tables. has_program tables c.args.source.now (λ p. Unnests tables (size_of c.args.options.now) (budget_of c.args.options.now) c.args.source.now p)) c.in_err-tables.field-0.0 c.in_err-tables.ensures)

pub returns-in_err-typed : goal.returns-in_err-typed
returns-in_err-typed c =
    let source = c.args.source.now in
    let tables = c.in_ok-tables.tables in
    let p = err_from_is_err_and c.from_residual-in_err-typed.result c.from_residual-in_err-typed.ensures.1 in
    rw (p.1, p.2)
    (goes_on (IsSchemaOf c.args.schema.now) (refused (BreaksSchema c.args.schema.now) schema_refusal)
    (λ tables. has_program tables source (λ p. Unnests tables (size_of c.args.options.now) (budget_of c.args.options.now) source p)) tables (Err c.in_err-typed.field-0.0) c.in_ok-tables.ensures
    (stops_at (λ (t : Typed). IsProgramOf tables source (plain_program t.program)) (IsProgramOf tables source) (HasNoProgram tables source)
    (λ p. Unnests tables (size_of c.args.options.now) (budget_of c.args.options.now) source p) c.in_err-typed.field-0.0 c.in_err-typed.ensures))

pub returns : goal.returns
returns c =
    let source = c.args.source.now in
    let tables = c.in_ok-tables.tables in
    goes_on (IsSchemaOf c.args.schema.now) (refused (BreaksSchema c.args.schema.now) schema_refusal)
    (λ tables. has_program tables source (λ p. Unnests tables (size_of c.args.options.now) (budget_of c.args.options.now) source p)) tables (Ok c.in_ok-plan_program.field-0) c.in_ok-tables.ensures
    (goes_on (IsProgramOf tables source) (HasNoProgram tables source)
    (λ p. Unnests tables (size_of c.args.options.now) (budget_of c.args.options.now) source p) (plain_program c.in_ok-typed.typed.program) (Ok c.in_ok-plan_program.field-0) c.in_ok-typed.ensures c.in_ok-plan_program.ensures)
