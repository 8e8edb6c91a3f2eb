use Rattle.std.proofs.Common.{◌≡◌, drop, map}
use Rattle.tor_axioms.specs.Accepts.{proof_of, claim_of}
use Rattle.deriv_accept.specs.Accepted.{are_accepted}
use Rattle.deriv_accept.proofs.accept_all.are_accepted.Given as goal

abbrev pub invariant-loop-vc : goal.invariant-loop-vc
invariant-loop-vc l = are_accepted (map claim_of (drop l.vc-index l.vcs)) (map proof_of l.further) ≡ are_accepted (map claim_of l.vcs) (map proof_of l.fn.proofs)
