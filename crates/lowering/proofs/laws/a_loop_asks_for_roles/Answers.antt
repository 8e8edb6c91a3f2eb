-- The worked loop.
use Rattle.lowering.proofs.Known.KnownWorked.{asks_for_roles}
use Rattle.lowering.proofs.laws.a_loop_asks_for_roles.Goals as goal

pub returns : goal.returns
returns c = asks_for_roles
