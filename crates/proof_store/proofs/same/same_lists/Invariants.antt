use Rattle.std.proofs.Common.{◌≡◌, drop}
use Rattle.proof_store.specs.Same as spec
use Rattle.proof_store.proofs.same.same_lists.Given as goal

abbrev pub invariant-loop-x : goal.invariant-loop-x
invariant-loop-x l = spec.same_lists l.xs l.ys ≡ spec.same_lists (drop l.x-index l.xs) l.rest
