use Rattle.narrowings.proofs.WrittenProgram.{narrowed_text}
use Rattle.narrowings.proofs.laws.narrowed_programs_are_written.Goals as goal

pub returns : goal.returns
returns c = λ schema reader p q path words well fits h grammar written. narrowed_text schema words reader p well fits grammar written q path h
