-- Which derivations of a condition are accepted.
use Rattle.std.specs.Prelude.{◌≡◌, ℕ, Bool, true, false, ◌&&◌, List, [], length, nat_lt}
use Rattle.std.specs.declared.option.Option.{Option}
use Rattle.std.specs.declared.option.Option.TheVariants.{Some, None}
use Rattle.tor_terms.specs.declared.term.Atom.{Atom}
use Rattle.tor_terms.specs.Plain.{Tree, tree_of}
use Rattle.tor_terms.specs.Same.{same_tree}
use Rattle.tor_terms.specs.Truth.{World}
use Rattle.tor_terms.specs.Value.{value}
use Rattle.tor_axioms.specs.declared.derivation.Condition.{Condition}
use Rattle.tor_axioms.specs.declared.derivation.Derivation.{Derivation}
use Rattle.tor_axioms.specs.declared.derivation.Derivation as derivations
use Rattle.tor_axioms.specs.declared.derivation.Step.{Step}
use Rattle.tor_axioms.specs.declared.derivation.Vc.{Vc}
use Rattle.tor_axioms.specs.declared.facts.Literal.{Literal}
use Rattle.tor_axioms.specs.Decide.{Satisfied, literal, with_fact, with_facts}
use Rattle.tor_axioms.specs.Keeps.{IsReady}
use Rattle.tor_axioms.specs.Paths.{run}

-- a derivation as a plain tree
pub data Proof : Type 0 where
  Steps : List Step → List Step → Proof
  Split : ℕ → Proof → Proof → Proof
  Absurd : Proof

abbrev pub proof_of : Derivation → Proof
proof_of (derivations.Steps left right) = Steps left right
proof_of (derivations.Split' atom _ holding _ failing) = Split atom (proof_of holding) (proof_of failing)
proof_of derivations.Absurd = Absurd

abbrev pub same_ends : Option Tree → Option Tree → Bool
same_ends (Some t) (Some u) = same_tree t u
same_ends _ _ = false

-- Whether a derivation is accepted under facts, which are none where they contradict each other:
-- then each is. Steps lead to identical ends, and both branches of a split are accepted.
abbrev pub accepted : List Atom → Option (List Literal) → Proof → Tree → Tree → Bool
accepted atoms None d l r = true
accepted atoms (Some facts) (Steps left right) l r = same_ends (run atoms facts left l) (run atoms facts right r)
accepted atoms (Some facts) (Split k holding failing) l r =
    nat_lt k (length atoms) && (accepted atoms (with_fact atoms facts (literal k true)) holding l r && accepted atoms (with_fact atoms facts (literal k false)) failing l r)
accepted atoms (Some facts) Absurd l r = false

-- a condition, with plain terms
pub record Claim : Type 0 where
  pub atoms : List Atom
  pub facts : List Literal
  pub left : Tree
  pub right : Tree

abbrev pub claim_of : Vc → Claim
claim_of vc = record { atoms = vc.atoms; facts = vc.facts; left = tree_of vc.left; right = tree_of vc.right }

-- a condition over atoms that stand elsewhere
abbrev pub claim_over : List Atom → Condition → Claim
claim_over atoms c = record { atoms = atoms; facts = c.facts; left = tree_of c.left; right = tree_of c.right }

abbrev pub accepts : Claim → Proof → Bool
accepts c d = accepted c.atoms (with_facts c.atoms [] c.facts) d c.left c.right

-- both terms have one value in each world that has the facts and is ready for both
abbrev pub IsSound : Claim → Type 0
IsSound c = (w : World) → Satisfied w c.atoms c.facts → IsReady w c.left → IsReady w c.right → value w c.atoms c.left ≡ value w c.atoms c.right
