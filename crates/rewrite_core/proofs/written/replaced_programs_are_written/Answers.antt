use Rattle.rewrite_core.proofs.Writable.Asks.{replaced_fine}
use Rattle.rewrite_core.proofs.written.replaced_programs_are_written.Goals as goal

pub returns : goal.returns
returns c = λ schema reader l may grammar written. replaced_fine schema reader l may (grammar, written)
