-- The worked classes compute.
use Rattle.std.proofs.Common.{◌≡◌, Some, refl, arith}
use Rattle.java_calls.specs.Inlining.{expand_at, inlined_within}
use Rattle.java_calls.specs.Worked.{class_with, calling, replaced}
use Rattle.java_calls.proofs.Computed.{inlined}
use Rattle.java_calls.proofs.Witness.{breaks_none}
use Rattle.inlining.specs.Inlined.{IsWhole}
use Rattle.inlining.specs.Worked.{calling_marked, replaced_marked}

pub whole : IsWhole (class_with calling) (class_with replaced)
whole = record { inlined = (1, inlined); rules = breaks_none; small = omega arith }

pub marked : inlined_within 1 (class_with calling_marked) ≡ Some (class_with replaced_marked)
unfolding expand_at
marked = refl
