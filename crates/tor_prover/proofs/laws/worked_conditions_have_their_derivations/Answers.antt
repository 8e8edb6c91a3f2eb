use Rattle.std.proofs.Common.{refl}
use Rattle.tor_prover.specs.Derive.{derivation_of}
use Rattle.tor_prover.specs.Normal.{normal_form}
use Rattle.tor_prover.proofs.laws.worked_conditions_have_their_derivations.Goals as goal

pub returns : goal.returns
unfolding derivation_of normal_form
returns c =
    record {
      first = refl;
      second = refl;
      third = refl;
      fourth = refl;
      not_without_the_test = refl;
      contradicted = refl;
      split = refl;
      one_sided = refl;
      one_branch_fails = refl;
      ten_splits = refl;
      no_eleventh_split = refl;
    }
