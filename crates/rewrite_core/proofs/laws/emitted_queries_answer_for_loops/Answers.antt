-- The asks for a loop ask for what it makes.
use Rattle.rewrite_core.proofs.Asked.{asks_are_for_loops}
use Rattle.rewrite_core.proofs.laws.emitted_queries_answer_for_loops.Goals as goal

pub returns : goal.returns
returns c = asks_are_for_loops
