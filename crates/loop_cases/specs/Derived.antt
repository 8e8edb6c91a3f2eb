-- The conditions of worked candidates, and the derivations that the procedure gives for them.
use Rattle.std.specs.Prelude.{◌≡◌, ℕ, Bool, true, false, List, [], ◌∷◌, map, codes, is_some}
use Rattle.std.specs.List.{list_all}
use Rattle.std.specs.Option.{option_map}
use Rattle.std.specs.declared.option.Option.{Option}
use Rattle.std.specs.declared.option.Option.TheVariants.{Some}
use Rattle.tor_axioms.specs.Accepts.{Claim}
use Rattle.tor_prover.specs.Derive.{derivation_of}
use Rattle.deriv_check.specs.Texts.{derivation_text}
use Rattle.kernel_lang.specs.Plain.{Fragment}
use Rattle.kernel_lang.specs.Worked.{class_A, class_B, class_C, class_D, class_E, name_set}
use Rattle.vc_gen.specs.Conditions.{conditions}

-- the text of a condition's derivation, if it has one
abbrev pub text_of : Claim → Option (List ℕ)
text_of c = option_map derivation_text (derivation_of c)

abbrev pub texts : Fragment → List ℕ → List (Option (List ℕ))
texts f candidate = map text_of (conditions f candidate)

-- which conditions of the candidate have a derivation
abbrev pub which_derive : Fragment → List ℕ → List Bool
which_derive f candidate = map (λ c. is_some (derivation_of c)) (conditions f candidate)

-- each of them has one
abbrev pub all_derive : Fragment → List ℕ → Bool
all_derive f candidate = list_all (λ c. is_some (derivation_of c)) (conditions f candidate)

pub record Worked : Type 0 where
  pub one_loop :
      texts class_A (0 ∷ [])
      ≡ Some (codes "s 1@1.0.0 14@1.0 20@1 4@- /\n")
      ∷ Some (codes "s 2@1.0.0 15@1.0 17@1.0.1 21@1 22@1.1 4@- / 4@0\n")
      ∷ Some (codes "s 2@1.0.0 15@1.0 16@1.0.1 5@1.0 4@- / 4@-\n")
      ∷ Some (codes "s 3@1.0.0 4@- / 4@-\n")
      ∷ []
  -- with no formula chosen, a turn in which the test fails adds a row too many
  pub wrong : which_derive class_A [] ≡ true ∷ true ∷ false ∷ true ∷ []
  pub nest : all_derive class_B (0 ∷ []) ≡ true
  pub greatest : all_derive class_C [] ≡ true
  pub sum : all_derive class_D [] ≡ true
  pub flag : all_derive class_E (0 ∷ 2 ∷ []) ≡ true
  pub set : all_derive name_set [] ≡ true
