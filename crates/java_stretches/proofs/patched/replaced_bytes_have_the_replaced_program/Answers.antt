use Rattle.java_stretches.proofs.Kept.{kept}
use Rattle.java_stretches.proofs.patched.replaced_bytes_have_the_replaced_program.Goals as goal

pub returns : goal.returns
returns c = kept
