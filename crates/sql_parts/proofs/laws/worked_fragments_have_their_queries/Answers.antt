use Rattle.sql_parts.proofs.Computed.{worked}
use Rattle.sql_parts.proofs.laws.worked_fragments_have_their_queries.Goals as goal

pub returns : goal.returns
returns c = worked
