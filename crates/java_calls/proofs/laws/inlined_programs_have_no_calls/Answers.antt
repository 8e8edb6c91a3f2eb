use Rattle.java_calls.proofs.NoneLeft.{none_left}
use Rattle.java_calls.proofs.laws.inlined_programs_have_no_calls.Goals as goal

pub returns : goal.returns
returns c p q none is = none_left p none q is
