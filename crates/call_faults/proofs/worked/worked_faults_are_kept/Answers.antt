use Rattle.call_faults.proofs.Computed.{behind_read, within_read, behind_kept, within_kept}
use Rattle.call_faults.proofs.worked.worked_faults_are_kept.Goals as goal

pub returns : goal.returns
returns c = record { behind = behind_read; within = within_read; behind_grammar = behind_kept; within_grammar = within_kept }
