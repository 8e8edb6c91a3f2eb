use Rattle.std.proofs.Common.{◌≡◌, take}
use Rattle.tor_prover.proofs.memo.copy_steps.Given as goal

abbrev pub invariant-loop-step : goal.invariant-loop-step
invariant-loop-step l = l.all ≡ take l.step-index l.steps
