-- Verdicts on the worked fragments.
use Rattle.std.specs.Prelude.{◌≡◌, ℕ, List, [], ◌∷◌}
use Rattle.tor_axioms.specs.declared.derivation.Step.{Step}
use Rattle.tor_axioms.specs.Accepts.{Proof, Steps}
use Rattle.kernel_lang.specs.Worked.{class_A, class_B, class_C, two_conjuncts}
use Rattle.query_search.specs.Verdicts.{Found, NoneOf, Budget, verdict, before}

abbrev step : ℕ → List ℕ → Step
step rule path = record { rule = rule; path = path }

-- users with the role 2: before the first turn, in a turn with the role, in one without it, after the last
abbrev first_proofs : List Proof
first_proofs =
    Steps (step 1 (1 ∷ 0 ∷ 0 ∷ []) ∷ step 14 (1 ∷ 0 ∷ []) ∷ step 20 (1 ∷ []) ∷ step 4 [] ∷ []) []
    ∷ Steps (step 2 (1 ∷ 0 ∷ 0 ∷ []) ∷ step 15 (1 ∷ 0 ∷ []) ∷ step 17 (1 ∷ 0 ∷ 1 ∷ []) ∷ step 21 (1 ∷ []) ∷ step 22 (1 ∷ 1 ∷ []) ∷ step 4 [] ∷ []) (step 4 (0 ∷ []) ∷ [])
    ∷ Steps (step 2 (1 ∷ 0 ∷ 0 ∷ []) ∷ step 15 (1 ∷ 0 ∷ []) ∷ step 16 (1 ∷ 0 ∷ 1 ∷ []) ∷ step 5 (1 ∷ 0 ∷ []) ∷ step 4 [] ∷ []) (step 4 [] ∷ [])
    ∷ Steps (step 3 (1 ∷ 0 ∷ 0 ∷ []) ∷ step 4 [] ∷ []) (step 4 [] ∷ [])
    ∷ []

pub record Worked : Type 0 where
  pub first : verdict class_A 4 1000 ≡ Found (record { k = 1; candidate = 0 ∷ []; proofs = first_proofs })
  -- the accepted candidate is the last that may be judged, or one behind it
  pub enough : before (verdict class_A 4 2) ≡ 1
  pub too_few : verdict class_A 4 1 ≡ Budget 1 4
  pub joined : verdict class_B 4 1 ≡ Budget 1 4
  pub no_budget : verdict class_A 4 0 ≡ Budget 0 4
  -- one formula isn't enough where two conjuncts guard what is added
  pub none : verdict two_conjuncts 1 5 ≡ NoneOf 5
  pub none_of_four : verdict two_conjuncts 1 4 ≡ Budget 4 5
  pub both : before (verdict two_conjuncts 2 1000) ≡ 6
  -- the greatest age needs no formula
  pub no_formula : before (verdict class_C 8 1) ≡ 0
