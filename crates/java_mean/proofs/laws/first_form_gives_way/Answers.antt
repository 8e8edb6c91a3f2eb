-- The program of the first form, with the query.
use Rattle.java_mean.proofs.First.{first_form_kept}
use Rattle.java_mean.proofs.laws.first_form_gives_way.Goals as goal

pub returns : goal.returns
returns c = first_form_kept
