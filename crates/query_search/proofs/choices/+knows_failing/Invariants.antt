use Rattle.std.proofs.Common.{◌-◌, length}
use Rattle.query_search.proofs.choices.+knows_failing.Given as goal

abbrev pub decreases-knows_failing : goal.decreases-knows_failing
decreases-knows_failing l = length l.frag.now.accs - l.i
