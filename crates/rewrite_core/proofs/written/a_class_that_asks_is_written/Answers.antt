use Rattle.rewrite_core.proofs.Writable.Worked.{asking_once_fine}
use Rattle.rewrite_core.proofs.written.a_class_that_asks_is_written.Goals as goal

pub returns : goal.returns
returns c = asking_once_fine
