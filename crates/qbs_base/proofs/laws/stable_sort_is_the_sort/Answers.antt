use Rattle.qbs_base.proofs.Lawful.{is_the_stable_sort}
use Rattle.qbs_base.proofs.laws.stable_sort_is_the_sort.Goals as goal

pub returns : goal.returns
returns g c = λ lt o xs. is_the_stable_sort lt o xs
