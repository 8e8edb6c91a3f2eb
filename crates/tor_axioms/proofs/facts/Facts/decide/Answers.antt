use Rattle.std.proofs.Common.{sym, subst}
use Rattle.tor_terms.specs.Truth.{truth}
use Rattle.tor_axioms.specs.Decide.{Agrees}
use Rattle.tor_axioms.proofs.Decided.{decide_agrees}
use Rattle.tor_axioms.proofs.facts.Facts.decide.Goals as goal

pub returns-clause-sound : goal.returns-clause-sound
returns-clause-sound c = λ w satisfied.
    subst (λ known. Agrees known (truth w c.args.atoms.now w.current c.args.atom)) (sym c.decided.ensures) (decide_agrees w c.args.atoms.now c.args.self.now c.args.atom satisfied)
