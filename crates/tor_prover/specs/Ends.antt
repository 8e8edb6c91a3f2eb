-- What normal forms are, apart from how they are come to: no rule applies at any place.
use Rattle.std.specs.Prelude.{◌≡◌, ℕ, List}
use Rattle.std.specs.declared.option.Option.TheVariants.{None}
use Rattle.tor_terms.specs.declared.term.Atom.{Atom}
use Rattle.tor_terms.specs.Plain.{Tree}
use Rattle.tor_axioms.specs.declared.facts.Literal.{Literal}
use Rattle.tor_axioms.specs.Paths.{applied}
use Rattle.tor_prover.specs.Normal.{Outcome, Normal, Meets}

abbrev pub IsNormal : List Atom → List Literal → Tree → Type 0
IsNormal atoms facts t = (rule : ℕ) (path : List ℕ) → applied atoms facts rule path t ≡ None

abbrev pub EndsNormal : List Atom → List Literal → Outcome → Type 0
EndsNormal atoms facts (Normal t steps) = IsNormal atoms facts t
EndsNormal atoms facts (Meets k) = Unit {0}
