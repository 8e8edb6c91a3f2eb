use Rattle.java_calls.proofs.Computed.{inlined, before, after}
use Rattle.java_calls.proofs.worked.worked_calls_are_replaced.Goals as goal

pub returns : goal.returns
returns c = record { inlined = inlined; before = before; after = after }
