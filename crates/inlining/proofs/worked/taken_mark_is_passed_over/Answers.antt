use Rattle.inlining.proofs.Computed.{marked}
use Rattle.inlining.proofs.worked.taken_mark_is_passed_over.Goals as goal

pub returns : goal.returns
returns c = marked
