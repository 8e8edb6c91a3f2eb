use Rattle.java_calls.proofs.Grown.{one_inlined}
use Rattle.java_calls.proofs.laws.inlined_programs_are_one.Goals as goal

pub returns : goal.returns
returns c = one_inlined
