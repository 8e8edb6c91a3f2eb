-- Conditions over atoms that stand elsewhere.
use Rattle.std.specs.Prelude.{List, map}
use Rattle.tor_terms.specs.declared.term.Atom.{Atom}
use Rattle.tor_axioms.specs.declared.derivation.Condition.{Condition}
use Rattle.tor_axioms.specs.Accepts.{Claim, claim_over}

abbrev pub claims_over : List Atom → List Condition → List Claim
claims_over atoms cs = map (claim_over atoms) cs
