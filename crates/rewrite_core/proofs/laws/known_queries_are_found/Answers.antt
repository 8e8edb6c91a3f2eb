-- The query of each known list is found.
use Rattle.rewrite_core.proofs.KnownFound.{queries_found}
use Rattle.rewrite_core.proofs.laws.known_queries_are_found.Goals as goal

pub returns : goal.returns
returns c = queries_found
