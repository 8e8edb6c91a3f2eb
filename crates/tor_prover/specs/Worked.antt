-- Conditions of a loop over one list with one test, and others with many, and what is derived for each.
use Rattle.std.specs.Prelude.{◌≡◌, ℕ, true, false, List, [], ◌∷◌, map, pos}
use Rattle.std.specs.declared.option.Option.TheVariants.{Some, None}
use Rattle.qbs_base.specs.declared.scalar.Scalar.TheVariants as scalars
use Rattle.tor_terms.specs.declared.term.Atom.{Atom}
use Rattle.tor_terms.specs.declared.term.Atom.TheVariants as atoms
use Rattle.tor_terms.specs.declared.term.Elem.TheVariants as elems
use Rattle.tor_terms.specs.declared.term.Index.{Index}
use Rattle.tor_terms.specs.declared.term.Index.TheVariants as indexes
use Rattle.tor_terms.specs.declared.term.Operand.TheVariants as operands
use Rattle.tor_terms.specs.Plain.{Form, Is, Either, Tree, Nil, Walk, Top, One, Single, Cat, Sel, Proj}
use Rattle.tor_axioms.specs.declared.derivation.Step.{Step}
use Rattle.tor_axioms.specs.declared.facts.Literal.{Literal}
use Rattle.tor_axioms.specs.Accepts.{Proof, Steps, Split, Absurd, Claim}
use Rattle.tor_axioms.specs.Decide.{literal}
use Rattle.tor_prover.specs.Derive.{derivation_of}

abbrev step : ℕ → List ℕ → Step
step n p = record { rule = n; path = p }

-- ---- the loop that adds the rows whose column 2 is 2

abbrev is_two : Atom
is_two = atoms.Same (operands.Field 0 2) (operands.Lit (scalars.Long (pos 2)))

-- what the loop has added to nothing after these rows, where it keeps those for which the formulas hold
abbrev added : List Form → Tree → Tree
added fs rows = Cat Nil (Proj (elems.Whole 0) (Sel fs rows))

abbrev first_rows : Index → Tree
first_rows index = Top index (Walk 0)

abbrev pub chosen : List Form
chosen = Is 0 true ∷ []

abbrev condition : List Literal → Tree → Tree → Claim
condition facts left right = record { atoms = is_two ∷ []; facts = facts; left = left; right = right }

-- before the first turn
abbrev before : List Form → Claim
before fs = condition [] (added fs (first_rows indexes.Zero)) Nil

-- a turn in which the test holds, and one in which it doesn't
abbrev pub turn_holding : List Form → Claim
turn_holding fs = condition (literal 0 true ∷ []) (added fs (first_rows (indexes.Next 0))) (Cat (added fs (first_rows (indexes.At 0))) (Single (elems.Whole 0)))

abbrev pub turn_failing : List Form → Claim
turn_failing fs = condition (literal 0 false ∷ []) (added fs (first_rows (indexes.Next 0))) (added fs (first_rows (indexes.At 0)))

-- after the last turn
abbrev after : List Form → Claim
after fs = condition [] (added fs (first_rows (indexes.Len 0))) (added fs (Walk 0))

-- ---- selections of one tuple, on which tests are still open

abbrev with_atoms : List ℕ → Tree → Tree → Claim
with_atoms ks left right = record { atoms = map (λ k. atoms.Truth (operands.Field 0 k)) ks; facts = []; left = left; right = right }

abbrev where_all : List ℕ → Tree
where_all ks = Sel (map (λ k. Is k true) ks) (One (0 ∷ []))

abbrev where_one : Form → Tree
where_one f = Sel (f ∷ []) (One (0 ∷ []))

-- a split whose first branch is this, and whose second leaves the tuple out on both sides
abbrev or_left_out : ℕ → Proof → Proof
or_left_out k holding = Split k holding (Steps (step 16 [] ∷ []) (step 16 [] ∷ []))

abbrev splits : List ℕ → Proof
splits [] = Steps (step 17 [] ∷ []) (step 17 [] ∷ [])
splits (k ∷ ks) = or_left_out k (splits ks)

abbrev ten : List ℕ
ten = 0 ∷ 1 ∷ 2 ∷ 3 ∷ 4 ∷ 5 ∷ 6 ∷ 7 ∷ 8 ∷ 9 ∷ []

abbrev eleven : List ℕ
eleven = 0 ∷ 1 ∷ 2 ∷ 3 ∷ 4 ∷ 5 ∷ 6 ∷ 7 ∷ 8 ∷ 9 ∷ 10 ∷ []

pub record Worked : Type 0 where
  pub first : derivation_of (before chosen) ≡ Some (Steps (step 1 (1 ∷ 0 ∷ 0 ∷ []) ∷ step 14 (1 ∷ 0 ∷ []) ∷ step 20 (1 ∷ []) ∷ step 4 [] ∷ []) [])
  pub second :
      derivation_of (turn_holding chosen)
      ≡ Some (Steps (step 2 (1 ∷ 0 ∷ 0 ∷ []) ∷ step 15 (1 ∷ 0 ∷ []) ∷ step 17 (1 ∷ 0 ∷ 1 ∷ []) ∷ step 21 (1 ∷ []) ∷ step 22 (1 ∷ 1 ∷ []) ∷ step 4 [] ∷ []) (step 4 (0 ∷ []) ∷ []))
  pub third :
      derivation_of (turn_failing chosen)
      ≡ Some (Steps (step 2 (1 ∷ 0 ∷ 0 ∷ []) ∷ step 15 (1 ∷ 0 ∷ []) ∷ step 16 (1 ∷ 0 ∷ 1 ∷ []) ∷ step 5 (1 ∷ 0 ∷ []) ∷ step 4 [] ∷ []) (step 4 [] ∷ []))
  pub fourth : derivation_of (after chosen) ≡ Some (Steps (step 3 (1 ∷ 0 ∷ 0 ∷ []) ∷ step 4 [] ∷ []) (step 4 [] ∷ []))
  -- with no formula chosen, a turn in which the test fails adds a row too many
  pub not_without_the_test : derivation_of (turn_failing []) ≡ None
  pub contradicted : derivation_of (condition (literal 0 true ∷ literal 0 false ∷ []) Nil (Walk 0)) ≡ Some Absurd
  pub split : derivation_of (condition [] (where_one (Is 0 true)) (where_one (Is 0 true))) ≡ Some (splits (0 ∷ []))
  -- only the right side meets an atom, and the tuple is there on the left in both branches
  pub one_sided : derivation_of (condition [] (One (0 ∷ [])) (where_one (Either (Is 0 true) (Is 0 false)))) ≡ Some (Split 0 (Steps [] (step 17 [] ∷ [])) (Steps [] (step 17 [] ∷ [])))
  pub one_branch_fails : derivation_of (condition [] (One (0 ∷ [])) (where_one (Is 0 true))) ≡ None
  pub ten_splits : derivation_of (with_atoms ten (where_all ten) (where_all ten)) ≡ Some (splits ten)
  pub no_eleventh_split : derivation_of (with_atoms eleven (where_all eleven) (where_all eleven)) ≡ None
