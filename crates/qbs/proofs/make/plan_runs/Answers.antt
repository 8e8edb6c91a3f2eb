use Rattle.std.proofs.Common.{add-one, arith}
use Rattle.std.proofs.lemmas.Result.{err_from_is_err_and}
use Rattle.java_ast.specs.Reading.{program as plain_program}
use Rattle.qbs.specs.Code.{HasRun}
use Rattle.qbs.proofs.Made.{runs_on, runs_stop, runs_end}
use Rattle.qbs.proofs.make.plan_runs.Goals as goal

pub loop-number-init : goal.loop-number-init
loop-number-init c = λ plan h. h

pub loop-number-preserved : goal.loop-number-preserved
loop-number-preserved c =
    rw add-one
    (runs_on c.args.schema.now c.args.db.now (plain_program c.args.typed.now.program).methods c.args.written.items c.loop-number.number c.loop-number.out.items c.push_run.new.out.items c.in_ok-push_run.ensures c.loop-number.invariant)

pub returns-in_err-push_run : goal.returns-in_err-push_run
returns-in_err-push_run c =
    let p = err_from_is_err_and c.from_residual-in_err-push_run.result c.from_residual-in_err-push_run.ensures.1 in
    rw (p.1, p.2)
    (runs_stop c.args.schema.now c.args.db.now (plain_program c.args.typed.now.program).methods c.args.written.items c.loop-number.number c.loop-number.out.items c.in_err-push_run.field-0.0
    (λ u. HasRun c.args.schema.now c.args.db.now (plain_program c.args.typed.now.program).methods c.loop-number.number c.loop-number.out.items c.push_run.new.out.items) c.in_err-push_run.ensures c.loop-number.invariant)

pub returns : goal.returns
returns c =
    runs_end c.args.schema.now c.args.db.now (plain_program c.args.typed.now.program).methods c.args.written.items c.loop-number.number c.loop-number.out.items c.from_vec.result c.new.result
    (omega (arith, c.count_methods-number-end.ensures)) c.from_vec.ensures c.new.ensures c.loop-number.invariant
