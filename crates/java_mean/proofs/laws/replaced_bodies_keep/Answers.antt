-- A program whose one method is done alike.
use Rattle.java_mean.proofs.Kept.{keeps_replaced}
use Rattle.java_mean.proofs.laws.replaced_bodies_keep.Goals as goal

pub returns : goal.returns
returns c = keeps_replaced
