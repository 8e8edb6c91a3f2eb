use Rattle.std.proofs.Common.{length}
use Rattle.query_search.proofs.asking.+ask_pruners.Given as goal

abbrev pub decreases-ask_pruners : goal.decreases-ask_pruners
decreases-ask_pruners g l = length l.pruners.now
