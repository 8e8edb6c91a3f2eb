-- Emitted queries are of the schema.
use Rattle.rewrite_core.proofs.May.{emitted_valid}
use Rattle.rewrite_core.proofs.laws.emitted_queries_of_loops_are_valid.Goals as goal

pub returns : goal.returns
returns c = emitted_valid
