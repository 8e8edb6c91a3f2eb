use Rattle.narrowings.proofs.Program.{narrowed_keeps}
use Rattle.narrowings.proofs.Query.{all_asked}
use Rattle.narrowings.proofs.laws.narrowed_programs_keep.Goals as goal

pub returns : goal.returns
returns c = λ schema reader p q path words well fits h. narrowed_keeps schema (all_asked schema words) reader p q path well fits h
