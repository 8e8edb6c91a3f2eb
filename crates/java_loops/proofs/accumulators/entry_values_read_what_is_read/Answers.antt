use Rattle.java_loops.proofs.Kept.EntryNames.{entry_read}
use Rattle.java_loops.proofs.accumulators.entry_values_read_what_is_read.Goals as goal

pub returns : goal.returns
returns c = entry_read
