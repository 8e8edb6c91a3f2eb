-- Conditions that have accepted derivations.
use Rattle.std.specs.Prelude.{List, [], ◌∷◌, Bool, true, false, ◌&&◌}
use Rattle.tor_axioms.specs.Accepts.{Claim, Proof, accepts}

-- as many derivations as there are conditions, and each is accepted
abbrev pub are_accepted : List Claim → List Proof → Bool
are_accepted [] [] = true
are_accepted [] (d ∷ ds) = false
are_accepted (c ∷ cs) [] = false
are_accepted (c ∷ cs) (d ∷ ds) = accepts c d && are_accepted cs ds
