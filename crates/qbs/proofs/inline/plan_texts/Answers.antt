use Rattle.std.proofs.Common.{Box, Err, subst}
use Rattle.std.proofs.lemmas.Result.{err_from_is_err_and}
use Rattle.std.specs.declared.alloc.Global.{Global}
use Rattle.java_ast.specs.declared.tree.Program.{Program}
use Rattle.deliveries.specs.Code.{OrMemory}
use Rattle.java_ast.specs.Reading.{program as plain_program}
use Rattle.plans.specs.Opening.{IsSchemaOf, BreaksSchema, schema_refusal}
use Rattle.deliveries.specs.Steps.{refused}
use Rattle.qbs.specs.Inline.{IsProgramWithCallsOf, HasNoProgramWithCalls, has_program_with_calls, has_no_calls_left, types_and_writes}
use Rattle.qbs.proofs.Going.{goes_on, stops_at}
use Rattle.qbs.proofs.inline.plan_texts.Goals as goal

pub returns-in_err-schema : goal.returns-in_err-schema
returns-in_err-schema c =
    let source = c.args.source.now in
    let p = err_from_is_err_and c.from_residual.result c.from_residual.ensures.1 in
    rw (p.1, p.2)
    (stops_at (IsSchemaOf c.args.schema.now) (IsSchemaOf c.args.schema.now) (refused (BreaksSchema c.args.schema.now) schema_refusal)
    (λ tables. has_program_with_calls source (λ p. has_no_calls_left source p (λ q. types_and_writes tables source p q))) c.in_err-schema.field-0.0 c.in_err-schema.ensures)

pub returns-in_err-read : goal.returns-in_err-read
returns-in_err-read c =
    let source = c.args.source.now in
    let tables = c.in_ok-schema.schema in
    let p = err_from_is_err_and c.from_residual-in_err-read.result c.from_residual-in_err-read.ensures.1 in
    rw (p.1, p.2)
    (goes_on (IsSchemaOf c.args.schema.now) (refused (BreaksSchema c.args.schema.now) schema_refusal)
    (λ tables. has_program_with_calls source (λ p. has_no_calls_left source p (λ q. types_and_writes tables source p q))) tables (Err c.in_err-read.field-0.0) c.in_ok-schema.ensures
    (stops_at (λ (t : Box Program Global). IsProgramWithCallsOf source (plain_program t.value)) (IsProgramWithCallsOf source) (HasNoProgramWithCalls source)
    (λ p. has_no_calls_left source p (λ q. types_and_writes tables source p q)) c.in_err-read.field-0.0 c.in_err-read.ensures))

pub returns : goal.returns
returns c =
    let source = c.args.source.now in
    let tables = c.in_ok-schema.schema in
    let program = plain_program c.in_ok-read.read.value in
    goes_on (IsSchemaOf c.args.schema.now) (refused (BreaksSchema c.args.schema.now) schema_refusal)
    (λ tables. has_program_with_calls source (λ p. has_no_calls_left source p (λ q. types_and_writes tables source p q))) tables c.plan_read.result c.in_ok-schema.ensures
    (goes_on (IsProgramWithCallsOf source) (HasNoProgramWithCalls source)
    (λ p. has_no_calls_left source p (λ q. types_and_writes tables source p q)) program c.plan_read.result c.in_ok-read.ensures
    (subst (λ (x : Program). OrMemory c.plan_read.result (has_no_calls_left source (plain_program x) (λ q. types_and_writes tables source (plain_program x) q))) c.deref.ensures c.plan_read.ensures))
