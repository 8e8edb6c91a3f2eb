use Rattle.java_stretches.proofs.Programs.{stretch}
use Rattle.java_stretches.proofs.replaced.replaced_tokens_have_the_replaced_program.Goals as goal

pub returns : goal.returns
returns c = stretch
