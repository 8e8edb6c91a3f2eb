use Rattle.std.proofs.Common.{◌≡◌, map, drop}
use Rattle.tor_terms.specs.Plain.{tree_of}
use Rattle.term_bank.specs.Banks.{has_term}
use Rattle.term_bank.proofs.entering.find.Given as goal

abbrev pub invariant-loop-n : goal.invariant-loop-n
invariant-loop-n l = has_term (map tree_of l.terms) (tree_of l.t) ≡ has_term (map tree_of (drop l.n l.terms)) (tree_of l.t)
