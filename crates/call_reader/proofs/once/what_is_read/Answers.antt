use Rattle.call_reader.proofs.Answered.{read_is_program, program_is_read, read_is_fault}
use Rattle.call_reader.proofs.once.what_is_read.Goals as goal

pub returns : goal.returns
returns c = record { found = read_is_program; only = program_is_read; fault = read_is_fault }
