use Rattle.call_faults.proofs.Faults.{fault_is_larger, read_is_larger}
use Rattle.call_faults.proofs.laws.faults_with_calls_are_of_the_larger_grammar.Goals as goal

pub returns : goal.returns
returns c = record { kept = fault_is_larger; read = read_is_larger }
