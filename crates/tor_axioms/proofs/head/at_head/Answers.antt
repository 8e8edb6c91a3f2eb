use Rattle.std.proofs.Common.{arith}
use Rattle.tor_terms.specs.Plain.{tree_of}
use Rattle.tor_axioms.specs.Rules.{rules}
use Rattle.tor_axioms.proofs.Numbered.{none_past}
use Rattle.tor_axioms.proofs.head.at_head.Goals as goal

pub returns-in_default : goal.returns-in_default
returns-in_default c = none_past (rules c.args.atoms.now c.args.facts.now) c.args.rule (tree_of c.args.t.now) (λ h. omega arith)
