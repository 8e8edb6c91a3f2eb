use Rattle.std.proofs.Common.{Err}
use Rattle.std.proofs.lemmas.Result.{err_from_is_err_and}
use Rattle.qbs_base.specs.Values.{Schema}
use Rattle.java_ast.specs.Reading.{program as plain_program}
use Rattle.java_types.specs.declared.checking.Typed.{Typed}
use Rattle.deriv_check.specs.Bundles.{entries_of}
use Rattle.deriv_check.specs.Grammar.{HasBundle}
use Rattle.plans.specs.Opening.{BreaksBundle, bundle_refusal, has_bundle, IsSchemaOf, BreaksSchema, schema_refusal, IsProgramOf, HasNoProgram, has_program}
use Rattle.deliveries.specs.Steps.{refused}
use Rattle.qbs.specs.Check.{checks}
use Rattle.qbs.proofs.Going.{goes_on, stops_at}
use Rattle.qbs.proofs.check.plan_source.Goals as goal

pub returns-in_err-schema : goal.returns-in_err-schema
returns-in_err-schema c =
    let p = err_from_is_err_and c.from_residual.result c.from_residual.ensures.1 in
    let s = c.args.schema.now in
    rw (p.1, p.2)
    (stops_at (IsSchemaOf s) (IsSchemaOf s) (refused (BreaksSchema s) schema_refusal) (λ tables. has_program tables c.args.source.now (λ q. has_bundle c.args.bundle.now (λ entries. checks tables q entries))) c.in_err-schema.field-0.0 c.in_err-schema.ensures)

pub returns-in_err-typed : goal.returns-in_err-typed
returns-in_err-typed c =
    let p = err_from_is_err_and c.from_residual-in_err-typed.result c.from_residual-in_err-typed.ensures.1 in
    let s = c.args.schema.now in
    let t = c.args.source.now in
    let tables : Schema = c.in_ok-schema.schema in
    rw (p.1, p.2)
    (goes_on (IsSchemaOf s) (refused (BreaksSchema s) schema_refusal) (λ tables. has_program tables t (λ q. has_bundle c.args.bundle.now (λ entries. checks tables q entries))) tables (Err c.in_err-typed.field-0.0) c.in_ok-schema.ensures
    (stops_at (λ (x : Typed). IsProgramOf tables t (plain_program x.program)) (IsProgramOf tables t) (HasNoProgram tables t) (λ q. has_bundle c.args.bundle.now (λ entries. checks tables q entries)) c.in_err-typed.field-0.0 c.in_err-typed.ensures))

pub returns-in_err-bundle : goal.returns-in_err-bundle
returns-in_err-bundle c =
    let p = err_from_is_err_and c.from_residual-in_err-bundle.result c.from_residual-in_err-bundle.ensures.1 in
    let s = c.args.schema.now in
    let t = c.args.source.now in
    let b = c.args.bundle.now in
    let tables : Schema = c.in_ok-schema.schema in
    let program = plain_program c.in_ok-typed.typed.program in
    rw (p.1, p.2)
    (goes_on (IsSchemaOf s) (refused (BreaksSchema s) schema_refusal) (λ tables. has_program tables t (λ q. has_bundle b (λ entries. checks tables q entries))) tables (Err c.in_err-bundle.field-0.0) c.in_ok-schema.ensures
    (goes_on (IsProgramOf tables t) (HasNoProgram tables t) (λ q. has_bundle b (λ entries. checks tables q entries)) program (Err c.in_err-bundle.field-0.0) c.in_ok-typed.ensures
    (stops_at (λ x. HasBundle b (entries_of x)) (HasBundle b) (refused (BreaksBundle b) bundle_refusal) (λ entries. checks tables program entries) c.in_err-bundle.field-0.0 c.in_err-bundle.ensures)))

pub plan_bundle-requires : goal.plan_bundle-requires
plan_bundle-requires c = c.in_ok-typed.ensures.typed

pub returns : goal.returns
returns c =
    let s = c.args.schema.now in
    let t = c.args.source.now in
    let b = c.args.bundle.now in
    let tables : Schema = c.in_ok-schema.schema in
    let program = plain_program c.in_ok-typed.typed.program in
    goes_on (IsSchemaOf s) (refused (BreaksSchema s) schema_refusal) (λ tables. has_program tables t (λ q. has_bundle b (λ entries. checks tables q entries))) tables c.plan_bundle.result c.in_ok-schema.ensures
    (goes_on (IsProgramOf tables t) (HasNoProgram tables t) (λ q. has_bundle b (λ entries. checks tables q entries)) program c.plan_bundle.result c.in_ok-typed.ensures
    (goes_on (HasBundle b) (refused (BreaksBundle b) bundle_refusal) (λ entries. checks tables program entries) (entries_of c.in_ok-bundle.bundle) c.plan_bundle.result c.in_ok-bundle.ensures c.plan_bundle.ensures))
