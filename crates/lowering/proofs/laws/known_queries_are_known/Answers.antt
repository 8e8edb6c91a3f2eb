-- The known queries of a loop of the kernel form are those that emission asks for.
use Rattle.lowering.proofs.Known.KnownLoop.{known_to}
use Rattle.lowering.proofs.laws.known_queries_are_known.Goals as goal

pub returns : goal.returns
returns c = known_to
