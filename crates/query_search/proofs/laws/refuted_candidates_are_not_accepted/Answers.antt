use Rattle.query_search.proofs.Refuted.{dropped-none}
use Rattle.query_search.proofs.laws.refuted_candidates_are_not_accepted.Goals as goal

pub returns : goal.returns
returns c = dropped-none
