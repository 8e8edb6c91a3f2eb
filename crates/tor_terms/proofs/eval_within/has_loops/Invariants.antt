use Rattle.std.proofs.Common.{◌≡◌, drop}
use Rattle.tor_terms.specs.Truth as spec
use Rattle.tor_terms.proofs.eval_within.has_loops.Given as goal

abbrev pub invariant-loop-j : goal.invariant-loop-j
invariant-loop-j l = spec.has_loops l.loops l.own ≡ spec.has_loops l.loops (drop l.j-index l.own)
