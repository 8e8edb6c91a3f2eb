use Rattle.std.proofs.Common.{◌≡◌, drop}
use Rattle.tor_terms.specs.Plain.{forms_of}
use Rattle.tor_prover.specs.Normal.{first_open}
use Rattle.tor_prover.proofs.open.first_open.Given as goal

-- the answer is that for the formulas that are left
abbrev pub invariant-loop-f : goal.invariant-loop-f
invariant-loop-f l = first_open l.atoms l.facts (forms_of l.fs) ≡ first_open l.atoms l.facts (forms_of (drop l.f-index l.fs))
