use Rattle.std.proofs.Common.{length}
use Rattle.view_spell.proofs.fetched.+begin.Given as goal

abbrev pub decreases-begin : goal.decreases-begin
decreases-begin l = length l.pattern.now
