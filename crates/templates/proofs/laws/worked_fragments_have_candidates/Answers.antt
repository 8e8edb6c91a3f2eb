use Rattle.std.proofs.Common.{refl}
use Rattle.templates.specs.Numbered.{increasing, candidates}
use Rattle.templates.proofs.laws.worked_fragments_have_candidates.Goals as goal

pub returns : goal.returns
unfolding increasing candidates
returns c =
    record {
      none = refl;
      two = refl;
      two_at_one = refl;
      four_at_none = refl;
      four_at_one = refl;
      four_at_two = refl;
      four_at_three = refl;
      four_at_four = refl;
      conjuncts = refl;
      first = refl;
      last_of_one = refl;
      first_of_two = refl;
      next_of_two = refl;
      last_of_two = refl;
      first_of_three = refl;
      first_ones = refl;
      last = refl;
    }
