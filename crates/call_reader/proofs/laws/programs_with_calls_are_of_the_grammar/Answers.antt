use Rattle.call_reader.proofs.Fits.{program_with_calls_fits}
use Rattle.call_reader.proofs.laws.programs_with_calls_are_of_the_grammar.Goals as goal

pub returns : goal.returns
returns c = program_with_calls_fits
