use Rattle.std.proofs.Common.{refl}
use Rattle.tor_axioms.proofs.laws.worked_derivations_are_accepted.Goals as goal

pub returns : goal.returns
returns c =
    record {
      before = refl;
      selected = refl;
      not_left_out = refl;
      no_such_rule = refl;
      without_facts = refl;
      split = refl;
      not_absurd = refl;
      contradicted = refl;
    }
