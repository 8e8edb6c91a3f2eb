-- How many candidates the worked fragments have, and which.
use Rattle.std.specs.Prelude.{◌≡◌, ℕ, [], ◌∷◌, Some, length, slice_get, take}
use Rattle.kernel_lang.specs.Plain.{Fragment}
use Rattle.kernel_lang.specs.Worked.{class_A, class_C, class_E, two_conjuncts}
use Rattle.templates.specs.Numbered.{candidates_of}

abbrev counted : Fragment → ℕ → ℕ
counted f size = length (candidates_of f size)

pub record Worked : Type 0 where
  pub none : counted class_C 4 ≡ 1
  pub two : counted class_A 4 ≡ 4
  pub two_at_one : counted class_A 1 ≡ 3
  pub four_at_none : counted class_E 0 ≡ 1
  pub four_at_one : counted class_E 1 ≡ 5
  pub four_at_two : counted class_E 2 ≡ 11
  pub four_at_three : counted class_E 3 ≡ 15
  pub four_at_four : counted class_E 4 ≡ 16
  pub conjuncts : counted two_conjuncts 1 ≡ 5
  pub first : slice_get (candidates_of class_E 8) 0 ≡ Some []
  pub last_of_one : slice_get (candidates_of class_E 8) 4 ≡ Some (3 ∷ [])
  pub first_of_two : slice_get (candidates_of class_E 8) 5 ≡ Some (0 ∷ 1 ∷ [])
  pub next_of_two : slice_get (candidates_of class_E 8) 6 ≡ Some (0 ∷ 2 ∷ [])
  pub last_of_two : slice_get (candidates_of class_E 8) 10 ≡ Some (2 ∷ 3 ∷ [])
  pub first_of_three : slice_get (candidates_of class_E 8) 11 ≡ Some (0 ∷ 1 ∷ 2 ∷ [])
  pub first_ones : take 5 (candidates_of class_E 8) ≡ candidates_of class_E 1
  pub last : slice_get (candidates_of class_E 8) 15 ≡ Some (0 ∷ 1 ∷ 2 ∷ 3 ∷ [])
