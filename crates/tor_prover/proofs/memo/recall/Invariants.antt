use Rattle.std.proofs.Common.{◌≡◌, drop}
use Rattle.tor_prover.specs.Remembered.{remembered}
use Rattle.tor_prover.specs.Memos.{known_at}
use Rattle.tor_prover.proofs.memo.recall.Given as goal

abbrev pub invariant-loop-known : goal.invariant-loop-known
invariant-loop-known l = known_at (remembered l.memo) l.number ≡ known_at (remembered (drop l.known-index l.memo)) l.number
