use Rattle.std.proofs.Common.{◌≡◌, ◌-◌, length, map}
use Rattle.readers.specs.Reading.{up_to}
use Rattle.tor_axioms.specs.Accepts.{proof_of}
use Rattle.deriv_parts.specs.Limits.{most_splits}
use Rattle.deriv_check.specs.Reading.{ends_proofs, derivation_at, proofs_at}
use Rattle.readers.proofs.Loops.{with_front}
use Rattle.deriv_check.proofs.entries.proofs.Given as goal

-- what was read and what is read of the rest is what is read of all
abbrev pub invariant-loop : goal.invariant-loop
invariant-loop l = with_front (map proof_of l.proofs.items) (up_to ends_proofs (derivation_at most_splits) (length l.bytes - l.counter) l.rest) ≡ proofs_at l.bytes
