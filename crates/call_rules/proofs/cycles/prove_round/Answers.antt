use Rattle.std.proofs.Common.{◌∙◌, sym}
use Rattle.call_rules.proofs.Ways.{leads}
use Rattle.call_rules.proofs.cycles.prove_round.Goals as goal

pub returns-then-is_way : goal.returns-then-is_way
returns-then-is_way c = leads c.args.calls.now c.args.i c.as_slice.result.now c.args.i (sym c.is_way.ensures ∙ c.if-is_way.true)
