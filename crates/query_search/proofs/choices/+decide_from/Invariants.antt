use Rattle.std.proofs.Common.{◌-◌, length}
use Rattle.query_search.proofs.choices.+decide_from.Given as goal

abbrev pub decreases-decide_from : goal.decreases-decide_from
decreases-decide_from l = length l.frag.now.accs - l.i
