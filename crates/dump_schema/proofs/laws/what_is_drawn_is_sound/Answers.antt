use Rattle.dump_schema.proofs.Sound.{sound}
use Rattle.dump_schema.proofs.laws.what_is_drawn_is_sound.Goals as goal

pub returns : goal.returns
returns c choice tables = sound choice tables
