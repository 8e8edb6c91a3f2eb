use Rattle.std.proofs.Common.{length}
use Rattle.view_statements.proofs.orders.+past_parts.Given as goal

abbrev pub decreases-past_parts : goal.decreases-past_parts
decreases-past_parts l = length l.parts.now
