use Rattle.std.proofs.Common.{◌∷◌, [], length, sym, ◌∙◌}
use Rattle.std.proofs.lemmas.Result.{err_from_is_err_and}
use Rattle.view_map.specs.Constants.{names_behind}
use Rattle.view_map.proofs.Counted.{names_go_on, names_fail, names_stop, names_run_out}
use Rattle.view_map.proofs.constants.names_behind.Goals as goal
use Rattle.view_map.proofs.constants.names_behind.Goals.{else-loop-test, then-loop-test+then-not-begins}

pub returns-in_err-name : goal.returns-in_err-name
returns-in_err-name c =
    let p = err_from_is_err_and c.from_residual-in_err-name.result c.from_residual-in_err-name.ensures.1 in
    rw (p.1, p.2) (names_fail c.loop.names (length c.args.items.now) c.loop.counter c.args.end c.loop.rest.now (names_behind (c.args.first ∷ []) (length c.args.items.now) c.args.end c.args.items.now)
    c.in_err-name.field-0.0 c.loop-test.true (sym c.begins.ensures ∙ c.if-not-begins.false) c.in_err-name.ensures c.loop.invariant)

pub loop-preserved : goal.loop-preserved
loop-preserved c =
    rw c.in_ok-push-2.ensures.ok
    (names_go_on c.loop.names (length c.args.items.now) c.loop.counter c.args.end c.loop.rest.now (names_behind (c.args.first ∷ []) (length c.args.items.now) c.args.end c.args.items.now)
    c.in_ok-name.name c.in_ok-name.after.now c.loop-test.true (sym c.begins.ensures ∙ c.if-not-begins.false) c.in_ok-name.ensures c.loop.invariant)

pub returns : goal.returns
returns c =
    elim c.loop-test.branch [
      | else-loop-test w ↦ names_run_out c.loop.names (length c.args.items.now) c.loop.counter c.args.end c.loop.rest.now (names_behind (c.args.first ∷ []) (length c.args.items.now) c.args.end c.args.items.now) w.loop-test.false c.loop.invariant
      | then-loop-test+then-not-begins w ↦ names_stop c.loop.names (length c.args.items.now) c.loop.counter c.args.end c.loop.rest.now (names_behind (c.args.first ∷ []) (length c.args.items.now) c.args.end c.args.items.now) w.loop-test.true (sym w.begins.ensures ∙ w.if-not-begins.true) c.loop.invariant
    ]
