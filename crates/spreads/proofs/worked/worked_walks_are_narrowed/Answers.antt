use Rattle.std.proofs.Common.{refl}
use Rattle.spreads.proofs.Computed.{narrowed_direct, narrowed_declared}
use Rattle.spreads.proofs.worked.worked_walks_are_narrowed.Goals as goal

pub returns : goal.returns
returns c = record { direct = narrowed_direct; declared = narrowed_declared; none = refl }
