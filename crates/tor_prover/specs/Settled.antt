-- Terms that normalising leaves as they are: at no place a rule applies, and at none an open atom is met.
use Rattle.std.specs.Prelude.{◌≡◌, List}
use Rattle.std.specs.declared.option.Option.TheVariants.{None}
use Rattle.tor_terms.specs.declared.term.Atom.{Atom}
use Rattle.tor_terms.specs.Plain.{Tree, Top, Cat, Join, Sel, Proj, Uniq, Insert, Count, Sum, Any, Best, Pick, Add, Or}
use Rattle.tor_axioms.specs.declared.facts.Literal.{Literal}
use Rattle.tor_prover.specs.Normal.{Parts, NoChild, OneChild, TwoChildren, parts, first_rule, met}

abbrev pub HeadIsSettled : List Atom → List Literal → Tree → Type 0
HeadIsSettled atoms facts t = (met atoms facts t ≡ None) × (first_rule atoms facts t ≡ None)

abbrev pub IsSettled : List Atom → List Literal → Tree → Type 0
IsSettled atoms facts (Top index r) = HeadIsSettled atoms facts (Top index r) × IsSettled atoms facts r
IsSettled atoms facts (Sel fs r) = HeadIsSettled atoms facts (Sel fs r) × IsSettled atoms facts r
IsSettled atoms facts (Proj e r) = HeadIsSettled atoms facts (Proj e r) × IsSettled atoms facts r
IsSettled atoms facts (Uniq r) = HeadIsSettled atoms facts (Uniq r) × IsSettled atoms facts r
IsSettled atoms facts (Insert r e) = HeadIsSettled atoms facts (Insert r e) × IsSettled atoms facts r
IsSettled atoms facts (Count r) = HeadIsSettled atoms facts (Count r) × IsSettled atoms facts r
IsSettled atoms facts (Sum r) = HeadIsSettled atoms facts (Sum r) × IsSettled atoms facts r
IsSettled atoms facts (Any r) = HeadIsSettled atoms facts (Any r) × IsSettled atoms facts r
IsSettled atoms facts (Cat r s) = HeadIsSettled atoms facts (Cat r s) × IsSettled atoms facts r × IsSettled atoms facts s
IsSettled atoms facts (Join r s) = HeadIsSettled atoms facts (Join r s) × IsSettled atoms facts r × IsSettled atoms facts s
IsSettled atoms facts (Best way v r) = HeadIsSettled atoms facts (Best way v r) × IsSettled atoms facts v × IsSettled atoms facts r
IsSettled atoms facts (Pick way v n) = HeadIsSettled atoms facts (Pick way v n) × IsSettled atoms facts v × IsSettled atoms facts n
IsSettled atoms facts (Add a b) = HeadIsSettled atoms facts (Add a b) × IsSettled atoms facts a × IsSettled atoms facts b
IsSettled atoms facts (Or a b) = HeadIsSettled atoms facts (Or a b) × IsSettled atoms facts a × IsSettled atoms facts b
IsSettled atoms facts t = HeadIsSettled atoms facts t

-- something is so of each part
abbrev pub PartsAre : (Tree → Type 0) → Parts → Type 0
PartsAre P (NoChild t) = Unit {0}
PartsAre P (OneChild around r) = P r
PartsAre P (TwoChildren around r s) = P r × P s

-- all that stands below the head
abbrev pub ChildrenAreSettled : List Atom → List Literal → Tree → Type 0
ChildrenAreSettled atoms facts t = PartsAre (IsSettled atoms facts) (parts t)

-- all that stands below the children, as in what a rule gives for a term whose children are settled
abbrev pub GrandchildrenAreSettled : List Atom → List Literal → Tree → Type 0
GrandchildrenAreSettled atoms facts t = PartsAre (ChildrenAreSettled atoms facts) (parts t)
