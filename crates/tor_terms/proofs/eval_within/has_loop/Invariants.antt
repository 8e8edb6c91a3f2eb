use Rattle.std.proofs.Common.{◌≡◌, drop}
use Rattle.tor_terms.specs.Truth as spec
use Rattle.tor_terms.proofs.eval_within.has_loop.Given as goal

abbrev pub invariant-loop-k : goal.invariant-loop-k
invariant-loop-k l = spec.has_loop l.loops l.j ≡ spec.has_loop (drop l.k-index l.loops) l.j
