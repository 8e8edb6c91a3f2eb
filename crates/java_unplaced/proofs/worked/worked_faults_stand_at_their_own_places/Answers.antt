use Rattle.java_unplaced.proofs.Computed.{differ, alike, first, second, there, back}
use Rattle.java_unplaced.proofs.worked.worked_faults_stand_at_their_own_places.Goals as goal

pub returns : goal.returns
returns c = record { differ = differ; alike = alike; first = first; second = second; there = there; back = back }
