-- The loops of worked programs, tried one after the other, computed.
use Rattle.std.proofs.Common.{◌≡◌, ℕ, List, [], ◌∷◌, refl, subst}
use Rattle.std.specs.Fmt.{digits}
use Rattle.tor_prover.specs.Derive.{derivation_of}
use Rattle.tor_prover.specs.Normal.{normal_form}
use Rattle.templates.specs.Numbered.{increasing, candidates}
use Rattle.query_search.specs.Verdicts.{all_derived, first_hit, verdict}
use Rattle.sql_ast.specs.Worked.{staff_schema}
use Rattle.java_ast.specs.Tree.{PlainProgram}
use Rattle.java_mean.specs.Asked.{class_A_asking, class_J_asking}
use Rattle.java_mean.specs.Keeps.{Keeps}
use Rattle.java_mean.specs.Worked.{users, class_A, class_J}
use Rattle.java_loops.specs.Kernel.Worked.{program_of}
use Rattle.rewrite_core.specs.TriedAsking.{AllMayBeAsked, standing_paths}
use Rattle.rewrite_core.specs.Trying.{trying, all_tried, rewritten}
use Rattle.rewrite_core.specs.Worked.{giving}
use Rattle.rewrite_core.specs.WorkedTries.{tries_of, ComesTo, WorkedTries}
use Rattle.rewrite_core.proofs.Computed as computed
use Rattle.rewrite_core.proofs.Turns.{rewritten_keeps}

comes_to : (p q : PlainProgram) (standing : List (List ℕ)) → AllMayBeAsked staff_schema (tries_of p) → standing_paths (tries_of p) ≡ standing → rewritten staff_schema 2 10 p ≡ q → ComesTo p q standing
comes_to p q standing may stand becomes = record { may = may; stand = stand; becomes = becomes; keeps = subst (λ z. Keeps p z staff_schema) becomes (rewritten_keeps staff_schema 2 10 p may) }

-- ---- The only loop gives way

selection_may : AllMayBeAsked staff_schema (tries_of (giving users class_A))
unfolding trying all_tried verdict first_hit all_derived increasing candidates derivation_of normal_form
selection_may = (computed.selection.may, tt)

selection_stand : standing_paths (tries_of (giving users class_A)) ≡ []
unfolding trying all_tried verdict first_hit all_derived increasing candidates derivation_of normal_form
selection_stand = refl

selection_becomes : rewritten staff_schema 2 10 (giving users class_A) ≡ giving users class_A_asking
unfolding digits trying all_tried verdict first_hit all_derived increasing candidates derivation_of normal_form
selection_becomes = refl

-- ---- A loop stands in which another gives way

count_may : AllMayBeAsked staff_schema (tries_of (program_of class_J))
unfolding trying all_tried verdict first_hit all_derived increasing candidates derivation_of normal_form
count_may = (tt, (computed.count.may, tt))

count_stand : standing_paths (tries_of (program_of class_J)) ≡ (0 ∷ 0 ∷ []) ∷ []
unfolding trying all_tried verdict first_hit all_derived increasing candidates derivation_of normal_form
count_stand = refl

count_becomes : rewritten staff_schema 2 10 (program_of class_J) ≡ program_of class_J_asking
unfolding digits trying all_tried verdict first_hit all_derived increasing candidates derivation_of normal_form
count_becomes = refl

pub worked_tries : WorkedTries
worked_tries =
    record {
      selection = comes_to (giving users class_A) (giving users class_A_asking) [] selection_may selection_stand selection_becomes;
      count = comes_to (program_of class_J) (program_of class_J_asking) ((0 ∷ 0 ∷ []) ∷ []) count_may count_stand count_becomes;
    }
