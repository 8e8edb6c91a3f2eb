-- Kept statements break no rule.
use Rattle.rewrite_core.proofs.KeptFaultless.{kept_statements_fine}
use Rattle.rewrite_core.proofs.laws.kept_statements_break_no_rule.Goals as goal

pub returns : goal.returns
returns c = kept_statements_fine
