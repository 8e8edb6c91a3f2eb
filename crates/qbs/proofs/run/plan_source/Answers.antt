use Rattle.std.proofs.lemmas.Result.{err_from_is_err_and}
use Rattle.java_ast.specs.Reading.{program as plain_program}
use Rattle.java_types.specs.declared.checking.Typed.{Typed}
use Rattle.plans.specs.Opening.{IsProgramOf}
use Rattle.qbs.specs.Code.{call_in}
use Rattle.qbs.proofs.Rewritten.{run_lacking, run_found}
use Rattle.qbs.proofs.Rewrote.{is_source}
use Rattle.qbs.proofs.run.plan_source.Goals as goal

pub returns-in_err-typed : goal.returns-in_err-typed
returns-in_err-typed g c =
    let p = err_from_is_err_and c.from_residual.result c.from_residual.ensures.1 in
    rw (p.1, p.2)
    (run_lacking (λ (t : Typed). IsProgramOf c.args.schema.now c.args.source.now (plain_program t.program)) c.args.options.now c.args.schema.now (call_in c.args.call.now) c.args.source.now c.args.texts.now c.in_err-typed.field-0.0 c.in_err-typed.ensures)

pub plan_chosen-requires-clause-typed : goal.plan_chosen-requires-clause-typed
plan_chosen-requires-clause-typed g c = c.in_ok-typed.ensures.typed

pub plan_chosen-requires-clause-source : goal.plan_chosen-requires-clause-source
plan_chosen-requires-clause-source g c = is_source c.args.schema.now c.args.source.now (plain_program c.in_ok-typed.typed.program) c.in_ok-typed.ensures

pub returns : goal.returns
returns g c = run_found c.args.options.now c.args.schema.now (call_in c.args.call.now) c.args.source.now c.args.texts.now (plain_program c.in_ok-typed.typed.program) c.plan_chosen.result c.in_ok-typed.ensures c.plan_chosen.ensures
