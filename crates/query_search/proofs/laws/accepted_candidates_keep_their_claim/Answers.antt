use Rattle.query_search.proofs.Refuted.{proofs-accepted}
use Rattle.query_search.proofs.laws.accepted_candidates_keep_their_claim.Goals as goal

pub returns : goal.returns
returns c = proofs-accepted
