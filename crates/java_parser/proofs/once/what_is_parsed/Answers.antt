use Rattle.java_parser.proofs.ParsedLaws.{parsed_is_program, program_is_parsed, fault_is_kept}
use Rattle.java_parser.proofs.once.what_is_parsed.Goals as goal

pub returns : goal.returns
returns c = record { found = parsed_is_program; only = program_is_parsed; fault = fault_is_kept }
