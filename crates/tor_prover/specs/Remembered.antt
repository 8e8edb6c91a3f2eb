-- What the memo of the code is seen as.
use Rattle.std.specs.Prelude.{ℕ, List, map}
use Rattle.tor_prover.specs.declared.memo.Known.{Known}
use Rattle.tor_prover.specs.Normal.{Outcome}
use Rattle.tor_prover.specs.Seen.{outcome_of}

abbrev pub place_known : Known → ℕ × Outcome
place_known k = (k.number, outcome_of k.outcome)

abbrev pub remembered : List Known → List (ℕ × Outcome)
remembered ks = map place_known ks
