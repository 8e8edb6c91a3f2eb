use Rattle.java_calls.proofs.Witness.{fits, breaks_none, kept}
use Rattle.java_calls.proofs.worked.worked_classes_are_kept.Goals as goal

pub returns : goal.returns
returns c = record { rules = breaks_none; fitting = fits; kept = kept }
