use Rattle.view_scope.proofs.Computed.{worked}
use Rattle.view_scope.proofs.laws.worked_scopes_are_as_found.Goals as goal

pub returns : goal.returns
returns c = worked
