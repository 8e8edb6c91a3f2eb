use Rattle.tor_terms.specs.Plain.{tree_of}
use Rattle.tor_axioms.proofs.Kept.{kept_by}
use Rattle.tor_axioms.proofs.Lower.{lowered_by}
use Rattle.tor_axioms.proofs.paths.apply.Goals as goal

pub returns-clause-keeps : goal.returns-clause-keeps
returns-clause-keeps c =
    kept_by c.args.atoms.now c.args.facts.now c.args.rule c.args.path.now (tree_of c.args.term.now) c.rewritten.result c.rewritten.ensures

pub returns-clause-lowers : goal.returns-clause-lowers
returns-clause-lowers c =
    lowered_by c.args.atoms.now c.args.facts.now c.args.rule c.args.path.now (tree_of c.args.term.now) c.rewritten.result c.rewritten.ensures
