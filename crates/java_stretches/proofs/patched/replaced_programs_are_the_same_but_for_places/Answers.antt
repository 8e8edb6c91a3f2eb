use Rattle.java_stretches.proofs.Unplacing.{same_replaced}
use Rattle.java_stretches.proofs.patched.replaced_programs_are_the_same_but_for_places.Goals as goal

pub returns : goal.returns
returns c = same_replaced
