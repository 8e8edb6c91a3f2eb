use Rattle.dump_text.proofs.Declared.{declared}
use Rattle.dump_text.proofs.laws.written_tables_are_declared.Goals as goal

pub returns : goal.returns
returns c entries sound = declared entries sound
