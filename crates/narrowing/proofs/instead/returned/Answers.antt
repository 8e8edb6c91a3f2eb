use Rattle.narrowing.proofs.Made.{returned_made}
use Rattle.narrowing.proofs.instead.returned.Goals as goal

pub returns : goal.returns
returns c = returned_made c.in_ok-all.all.items c.return_of.result c.args.e.now c.in_ok-copy.copy c.in_ok-all.ensures c.return_of.ensures c.in_ok-copy.ensures
