use Rattle.std.proofs.Common.{Some, sym, ap, ◌∙◌}
use Rattle.sql_parse.specs.Types.{param_at}
use Rattle.sql_parse.proofs.Parameters.{known_more, unknown_all}
use Rattle.sql_parse.proofs.params.known_tys.Goals as goal

pub returns-in_default : goal.returns-in_default
returns-in_default c = unknown_all (param_at c.args.params.now) c.loop-number.number c.args.last c.loop-number.tys c.loop-number-test.true c.loop-number.invariant (sym c.in_default.ensures)

pub loop-number-preserved : goal.loop-number-preserved
loop-number-preserved c =
    known_more (param_at c.args.params.now) c.loop-number.number c.loop-number.tys c.in-Some.ty c.loop-number.invariant (sym c.in-Some.ensures) ∙ ap (λ tys. Some tys) (sym c.in_ok-push.ensures.ok)
