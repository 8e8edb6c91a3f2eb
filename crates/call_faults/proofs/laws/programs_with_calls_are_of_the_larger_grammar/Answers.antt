use Rattle.call_reader.specs.SpelledOut.{Elsewhere}
use Rattle.call_faults.proofs.Faults.{larger_is_program, program_is_larger}
use Rattle.call_faults.proofs.Positions.{strict_spelled}
use Rattle.call_faults.proofs.laws.programs_with_calls_are_of_the_larger_grammar.Goals as goal

pub returns : goal.returns
returns c = record { spelled = strict_spelled Elsewhere; found = larger_is_program; only = program_is_larger }
