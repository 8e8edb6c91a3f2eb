use Rattle.inlining.proofs.Computed.{whole}
use Rattle.inlining.proofs.worked.worked_class_is_inlined.Goals as goal

pub returns : goal.returns
returns c = whole
