-- The asks for a loop are typed.
use Rattle.rewrite_core.proofs.TypedAsks.{asks_are_typed}
use Rattle.rewrite_core.proofs.laws.asks_have_the_types_of_their_variables.Goals as goal

pub returns : goal.returns
returns c = asks_are_typed
