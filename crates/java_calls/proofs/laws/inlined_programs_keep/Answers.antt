use Rattle.java_calls.proofs.Keeping.{inlined_keeps}
use Rattle.java_calls.proofs.laws.inlined_programs_keep.Goals as goal

pub returns : goal.returns
returns c = inlined_keeps
