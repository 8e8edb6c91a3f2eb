use Rattle.std.proofs.Common.{length}
use Rattle.view_statements.proofs.tokens.+put_further_parts.Given as goal

abbrev pub decreases-put_further_parts : goal.decreases-put_further_parts
decreases-put_further_parts l = length l.parts.now
