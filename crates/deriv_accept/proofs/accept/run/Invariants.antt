use Rattle.std.proofs.Common.{◌≡◌, drop}
use Rattle.tor_terms.specs.Plain.{tree_of}
use Rattle.tor_axioms.specs.Paths.{run}
use Rattle.deriv_accept.proofs.accept.run.Given as goal

-- the steps that are left lead to where all of them lead
abbrev pub invariant-loop-step : goal.invariant-loop-step
invariant-loop-step l = run l.atoms l.facts l.steps (tree_of l.fn.term) ≡ run l.atoms l.facts (drop l.step-index l.steps) (tree_of l.term)
