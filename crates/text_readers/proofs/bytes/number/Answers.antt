use Rattle.text_readers.proofs.Numbers.{given_below}
use Rattle.text_readers.proofs.bytes.number.Goals as goal

pub returns-clause-below : goal.returns-clause-below
returns-clause-below c = given_below (λ x. (x.0, x.1.now)) c.args.limit c.requires c.args.bytes.now c.number_below.result c.number_below.ensures.exact
