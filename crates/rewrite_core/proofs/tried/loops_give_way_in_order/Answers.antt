use Rattle.std.proofs.Common.{[]}
use Rattle.rewrite_core.proofs.PutInOrder.{tried_puts, tried_patches}
use Rattle.rewrite_core.proofs.tried.loops_give_way_in_order.Goals as goal

pub returns-clause-program : goal.returns-clause-program
returns-clause-program c schema size budget p = tried_puts schema size budget [] p

pub returns-clause-patches : goal.returns-clause-patches
returns-clause-patches c schema size budget source p = tried_patches schema size budget source p
