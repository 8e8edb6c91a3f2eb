-- The asks for a loop break no rule.
use Rattle.rewrite_core.proofs.FaultlessAsks.{asks_are_faultless}
use Rattle.rewrite_core.proofs.laws.asks_break_no_rule.Goals as goal

pub returns : goal.returns
returns c = asks_are_faultless
