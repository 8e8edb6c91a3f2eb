use Rattle.query_search.proofs.Firsts.{verdict-first}
use Rattle.query_search.proofs.laws.verdicts_are_the_first_accepted.Goals as goal

pub returns : goal.returns
returns c = verdict-first
