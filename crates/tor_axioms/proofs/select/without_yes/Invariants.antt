use Rattle.std.proofs.Common.{◌≡◌, drop}
use Rattle.tor_terms.specs.Plain.{forms_of}
use Rattle.tor_axioms.specs.Rules.{without_yes}
use Rattle.tor_axioms.proofs.LeftOut.{with_kept}
use Rattle.tor_axioms.proofs.select.without_yes.Given as goal

abbrev pub invariant-loop-f : goal.invariant-loop-f
invariant-loop-f l =
    without_yes l.atoms l.facts l.loops (forms_of l.fs)
    ≡ with_kept l.found (forms_of l.rest) (forms_of (drop l.f-index l.fs)) (without_yes l.atoms l.facts l.loops (forms_of (drop l.f-index l.fs)))
