-- Normal forms that are remembered by places in a bank, and what a bank holds after a derivation.
use Rattle.std.specs.Prelude.{if◌then◌else◌, ◌≡◌, ℕ, List, [], ◌∷◌, nat_eq, slice_get}
use Rattle.std.specs.declared.option.Option.{Option}
use Rattle.std.specs.declared.option.Option.TheVariants.{Some, None}
use Rattle.tor_terms.specs.declared.term.Atom.{Atom}
use Rattle.tor_terms.specs.Plain.{Tree}
use Rattle.term_bank.specs.Banks.{Holds}
use Rattle.tor_axioms.specs.declared.facts.Literal.{Literal}
use Rattle.tor_axioms.specs.Accepts.{Proof, Steps, Claim}
use Rattle.tor_axioms.specs.Decide.{with_facts}
use Rattle.tor_prover.specs.Derive.{Judgement, Same}
use Rattle.tor_prover.specs.Normal.{Outcome, Normal, Meets, normal_form}

-- what is remembered of a place
abbrev pub known_at : List (ℕ × Outcome) → ℕ → Option Outcome
known_at [] n = None
known_at (k ∷ ks) n = if nat_eq k.0 n then Some k.1 else known_at ks n

-- what is remembered comes of the terms at its places, under these facts
abbrev pub IsMemoOf : List Atom → List Literal → List Tree → List (ℕ × Outcome) → Type 0
IsMemoOf atoms facts ts ks = (n : ℕ) (t : Tree) (o : Outcome) → slice_get ts n ≡ Some t → known_at ks n ≡ Some o → o ≡ normal_form atoms facts t

abbrev pub normal_term : Outcome → Option Tree
normal_term (Normal t steps) = Some t
normal_term (Meets k) = None

-- the normal form of a term under facts, where it has one and they don't contradict each other
abbrev pub normal_under : List Atom → Option (List Literal) → Tree → Option Tree
normal_under atoms None t = None
normal_under atoms (Some facts) t = normal_term (normal_form atoms facts t)

-- a bank holds the normal form that two terms have in common
pub record HoldsCommon (ts : List Tree) (atoms : List Atom) (facts : Option (List Literal)) (l r : Tree) : Type 0 where
  pub common : Tree
  pub left : normal_under atoms facts l ≡ Some common
  pub right : normal_under atoms facts r ≡ Some common
  pub held : Holds ts common

-- with the terms
pub record HoldsSides (ts : List Tree) (c : Claim) : Type 0 where
  pub left : Holds ts c.left
  pub right : Holds ts c.right
  pub common : HoldsCommon ts c.atoms (with_facts c.atoms [] c.facts) c.left c.right

abbrev pub IfSame : Judgement → Type 0 → Type 0
IfSame (Same left right) P = P
IfSame _ P = Unit {0}

abbrev pub IfSteps : Option Proof → Type 0 → Type 0
IfSteps (Some (Steps left right)) P = P
IfSteps _ P = Unit {0}
