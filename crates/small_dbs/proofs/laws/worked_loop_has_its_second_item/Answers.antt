use Rattle.std.proofs.Common.{refl}
use Rattle.small_dbs.proofs.laws.worked_loop_has_its_second_item.Goals as goal

pub returns-clause-typed : goal.returns-clause-typed
returns-clause-typed c = refl

pub returns-clause-item : goal.returns-clause-item
returns-clause-item c = refl
