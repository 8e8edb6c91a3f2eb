use Rattle.std.proofs.Common.{refl}
use Rattle.tor_prover.specs.Derive.{derivation_of}
use Rattle.tor_prover.specs.Normal.{normal_form}
use Rattle.templates.specs.Numbered.{increasing, candidates}
use Rattle.query_search.specs.Verdicts.{all_derived, first_hit, verdict}
use Rattle.query_search.proofs.laws.worked_fragments_have_their_verdicts.Goals as goal

pub returns : goal.returns
unfolding derivation_of normal_form increasing candidates all_derived first_hit verdict
returns c =
    record {
      first = refl;
      enough = refl;
      too_few = refl;
      joined = refl;
      no_budget = refl;
      none = refl;
      none_of_four = refl;
      both = refl;
      no_formula = refl;
    }
