use Rattle.qbs_base.proofs.Lawful.{choices_of_sorted}
use Rattle.qbs_base.proofs.laws.choices_from_sorted_lists.Goals as goal

pub returns : goal.returns
returns g c = λ lt xss. choices_of_sorted lt xss
