use Rattle.std.proofs.Common.{refl}
use Rattle.qbs.proofs.Seeing.{nothing_proved}
use Rattle.qbs.proofs.prove_by_view.plan_nothing.Goals as goal

pub returns : goal.returns
returns c = nothing_proved c.in_ok-out.out c.in_ok-rep.rep _ c.in_ok-out.ensures c.in_ok-rep.ensures refl
