use Rattle.tor_terms.proofs.Scalars.{scalar_same-is}
use Rattle.tor_terms.proofs.compared.same_cell.Goals as goal

pub returns : goal.returns
returns c = scalar_same-is c.same_scalar.result c.args.x.now c.args.y.now c.same_scalar.ensures
