-- The derivation that the procedure gives for a condition, or none.
use Rattle.std.specs.Prelude.{ℕ, zero, suc, true, false, cond, List, []}
use Rattle.std.specs.declared.option.Option.{Option}
use Rattle.std.specs.declared.option.Option.TheVariants.{Some, None}
use Rattle.tor_terms.specs.declared.term.Atom.{Atom}
use Rattle.deriv_parts.specs.Limits.{most_splits}
use Rattle.tor_terms.specs.Plain.{Tree}
use Rattle.tor_terms.specs.Same.{same_tree}
use Rattle.tor_axioms.specs.declared.derivation.Step.{Step}
use Rattle.tor_axioms.specs.declared.facts.Literal.{Literal}
use Rattle.tor_axioms.specs.Accepts.{Proof, Steps, Split, Absurd, Claim}
use Rattle.tor_axioms.specs.Decide.{literal, with_fact, with_facts}
use Rattle.tor_prover.specs.Normal.{Outcome, Normal, Meets, normal_form}

-- what the normal forms of both sides show: identical terms, different ones, or the atom that the first of
-- the two to meet one names
pub data Judgement : Type 0 where
  Same : List Step → List Step → Judgement
  Differ : Judgement
  Splits : ℕ → Judgement

abbrev pub judge : Outcome → Outcome → Judgement
judge (Meets k) right = Splits k
judge (Normal t steps) (Meets k) = Splits k
judge (Normal t steps) (Normal u more) = cond (same_tree t u) (Same steps more) Differ

abbrev pub judged : List Atom → List Literal → Tree → Tree → Judgement
judged atoms facts l r = judge (normal_form atoms facts l) (normal_form atoms facts r)

abbrev pub split_at : ℕ → Option Proof → Option Proof → Option Proof
split_at k None failing = None
split_at k (Some y) None = None
split_at k (Some y) (Some n) = Some (Split k y n)

-- the steps where both sides come to identical terms, and else what a split gives
abbrev pub concluded : Judgement → (ℕ → Option Proof) → Option Proof
concluded (Same steps more) split = Some (Steps steps more)
concluded Differ split = None
concluded (Splits k) split = split k

-- Under facts, which are none where they contradict each other, and with at most this many splits inside one
-- another: the facts contradict each other, or both sides come to identical terms, or the condition is
-- derived with the atom that is met true and with it false.
abbrev pub derived : List Atom → ℕ → Option (List Literal) → Tree → Tree → Option Proof
derived atoms depth None l r = Some Absurd
derived atoms zero (Some facts) l r = concluded (judged atoms facts l r) (λ k. None)
derived atoms (suc depth) (Some facts) l r =
    concluded (judged atoms facts l r) (λ k.
    split_at k (derived atoms depth (with_fact atoms facts (literal k true)) l r) (derived atoms depth (with_fact atoms facts (literal k false)) l r))

unfoldable pub derivation_of : Claim → Option Proof
derivation_of c = derived c.atoms most_splits (with_facts c.atoms [] c.facts) c.left c.right

-- the condition with these parts
abbrev pub claim_made : List Atom → List Literal → Tree → Tree → Claim
claim_made atoms facts l r = record { atoms = atoms; facts = facts; left = l; right = r }
