use Rattle.std.proofs.Common.{sym, ap, ◌∙◌, arith}
use Rattle.std.specs.Option.{option_map}
use Rattle.tor_axioms.specs.Accepts.{proof_of}
use Rattle.query_search.proofs.Judged.{turn, stop, finish}
use Rattle.query_search.proofs.judge.derive_all.Goals as goal

pub returns-in-None : goal.returns-in-None
returns-in-None c =
    stop c.args.atoms.now c.args.conditions.now c.loop-condition.condition-index c.loop-condition.all _ c.loop-condition.invariant c.condition-item.result (omega arith) c.condition-item.is
    (sym c.in_ok-derivation.ensures.exact ∙ ap (option_map proof_of) c.in-None.is)

pub loop-condition-preserved : goal.loop-condition-preserved
loop-condition-preserved c =
    turn c.args.atoms.now c.args.conditions.now c.loop-condition.condition-index c.loop-condition.all _ c.loop-condition.invariant c.condition-item.result c.in-Some.derivation c.push.new.self (omega arith) c.condition-item.is
    (sym c.in_ok-derivation.ensures.exact ∙ ap (option_map proof_of) c.in-Some.is) c.in_ok-push-in-Some.ensures.ok

pub returns : goal.returns
returns c = finish c.args.atoms.now c.args.conditions.now c.loop-condition.condition-index c.loop-condition.all _ c.loop-condition.invariant (omega arith)
