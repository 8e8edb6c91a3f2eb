-- Kept statements and asks leave types alike.
use Rattle.rewrite_core.proofs.Standing.{left_alike}
use Rattle.rewrite_core.proofs.laws.replacements_leave_types_alike.Goals as goal

pub returns : goal.returns
returns c = left_alike
