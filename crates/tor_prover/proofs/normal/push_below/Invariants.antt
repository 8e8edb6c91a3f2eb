use Rattle.std.proofs.Common.{◌≡◌, ◌++◌, take}
use Rattle.tor_prover.specs.Normal.{below}
use Rattle.tor_prover.proofs.normal.push_below.Given as goal

-- the steps so far are appended
abbrev pub invariant-loop-step : goal.invariant-loop-step
invariant-loop-step l = l.steps ≡ l.fn.steps ++ below l.child (take l.step-index l.more)
