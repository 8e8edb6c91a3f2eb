-- The worked derivations, computed.
use Rattle.std.proofs.Common.{refl}
use Rattle.std.specs.Fmt.{digits}
use Rattle.tor_prover.specs.Derive.{derivation_of}
use Rattle.tor_prover.specs.Normal.{normal_form}
use Rattle.loop_cases.specs.Derived.{Worked}

pub worked : Worked
unfolding digits derivation_of normal_form
worked = record { one_loop = refl; wrong = refl; nest = refl; greatest = refl; sum = refl; flag = refl; set = refl }
