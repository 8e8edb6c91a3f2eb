use Rattle.std.proofs.Common.{refl}
use Rattle.spreads.proofs.Computed.{direct, declared}
use Rattle.spreads.proofs.worked.worked_loops_are_spread.Goals as goal

pub returns : goal.returns
returns c = record { direct = direct; declared = declared; none = λ reader. refl }
