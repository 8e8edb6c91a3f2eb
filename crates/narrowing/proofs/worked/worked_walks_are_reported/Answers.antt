use Rattle.narrowing.proofs.Computed.{reported}
use Rattle.narrowing.proofs.worked.worked_walks_are_reported.Goals as goal

pub returns : goal.returns
returns c = reported
