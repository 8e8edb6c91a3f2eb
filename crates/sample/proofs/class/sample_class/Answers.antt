use Rattle.sample.proofs.Classes.{made_is}
use Rattle.sample.proofs.class.sample_class.Goals as goal

pub returns : goal.returns
returns c = made_is _ _ _ c.new-imports.ensures c.in_ok-name.ensures c.in_ok-put_methods.ensures
