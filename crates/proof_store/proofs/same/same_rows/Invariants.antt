use Rattle.std.proofs.Common.{◌≡◌, drop}
use Rattle.tor_terms.specs.Worlds as spec
use Rattle.proof_store.proofs.same.same_rows.Given as goal

abbrev pub invariant-loop-r : goal.invariant-loop-r
invariant-loop-r l = spec.same_rows l.rs l.ss ≡ spec.same_rows (drop l.r-index l.rs) l.rest
