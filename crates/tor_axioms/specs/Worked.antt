-- Conditions of a loop over one list with one test, and which derivations of them are accepted.
use Rattle.std.specs.Prelude.{◌≡◌, ℕ, true, false, List, [], ◌∷◌}
use Rattle.tor_terms.specs.declared.term.Atom.TheVariants as atoms
use Rattle.tor_terms.specs.declared.term.Elem.TheVariants as elems
use Rattle.tor_terms.specs.declared.term.Index.{Index}
use Rattle.tor_terms.specs.declared.term.Index.TheVariants as indexes
use Rattle.tor_terms.specs.declared.term.Operand.TheVariants as operands
use Rattle.tor_terms.specs.Plain.{Is, Tree, Nil, Walk, Top, Single, Cat, Sel, Proj}
use Rattle.tor_axioms.specs.declared.derivation.Step.{Step}
use Rattle.tor_axioms.specs.declared.facts.Literal.{Literal}
use Rattle.tor_axioms.specs.Decide.{literal}
use Rattle.tor_axioms.specs.Accepts.{Steps, Split, Absurd, Claim, accepts}

abbrev step : ℕ → List ℕ → Step
step n p = record { rule = n; path = p }

-- the rows so far for which column 4 is true
abbrev found : Index → Tree
found index = Cat Nil (Proj (elems.Whole 0) (Sel (Is 0 true ∷ []) (Top index (Walk 0))))

abbrev condition : List Literal → Tree → Tree → Claim
condition facts left right = record { atoms = atoms.Truth (operands.Field 0 4) ∷ []; facts = facts; left = left; right = right }

-- before the first turn
abbrev first : Claim
first = condition [] (found indexes.Zero) Nil

abbrev first_steps : List Step
first_steps = step 1 (1 ∷ 0 ∷ 0 ∷ []) ∷ step 14 (1 ∷ 0 ∷ []) ∷ step 20 (1 ∷ []) ∷ step 4 [] ∷ []

-- a turn in which the test holds
abbrev turn : Claim
turn = condition (literal 0 true ∷ []) (found (indexes.Next 0)) (Cat (found (indexes.At 0)) (Single (elems.Whole 0)))

-- the steps of the turn, with a rule for the selection of one tuple
abbrev turn_steps : ℕ → List Step
turn_steps n = step 2 (1 ∷ 0 ∷ 0 ∷ []) ∷ step 15 (1 ∷ 0 ∷ []) ∷ step n (1 ∷ 0 ∷ 1 ∷ []) ∷ step 21 (1 ∷ []) ∷ step 22 (1 ∷ 1 ∷ []) ∷ step 4 [] ∷ []

pub record Worked : Type 0 where
  pub before : accepts first (Steps first_steps []) ≡ true
  pub selected : accepts turn (Steps (turn_steps 17) (step 4 (0 ∷ []) ∷ [])) ≡ true
  pub not_left_out : accepts turn (Steps (turn_steps 16) (step 4 (0 ∷ []) ∷ [])) ≡ false
  pub no_such_rule : accepts turn (Steps (step 99 [] ∷ []) []) ≡ false
  pub without_facts : accepts (condition [] turn.left turn.right) (Steps (turn_steps 17) (step 4 (0 ∷ []) ∷ [])) ≡ false
  pub split : accepts (condition (literal 0 true ∷ []) turn.left turn.right) (Split 0 (Steps (turn_steps 17) (step 4 (0 ∷ []) ∷ [])) Absurd) ≡ true
  pub not_absurd : accepts turn Absurd ≡ false
  pub contradicted : accepts (condition (literal 0 true ∷ literal 0 false ∷ []) turn.left turn.right) Absurd ≡ true
