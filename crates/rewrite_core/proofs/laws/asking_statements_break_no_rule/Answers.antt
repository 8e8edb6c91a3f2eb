-- The statements that ask break no rule.
use Rattle.rewrite_core.proofs.AskedFaultless.{asks_fine}
use Rattle.rewrite_core.proofs.laws.asking_statements_break_no_rule.Goals as goal

pub returns : goal.returns
returns c = asks_fine
