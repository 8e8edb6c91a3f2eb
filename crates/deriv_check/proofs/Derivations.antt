-- Derivations: the reader is exact.
use Rattle.std.proofs.Common.{◌≡◌, ℕ, zero, suc, true, false, List, [], ◌∷◌, ◌++◌, refl, inl, inr, ◌⊎◌}
use Rattle.std.specs.Prelude.{codes}
use Rattle.std.specs.List.{flat_map}
use Rattle.readers.specs.Reading.{first_passes, either}
use Rattle.readers.proofs.Again.{Any}
use Rattle.tor_axioms.specs.declared.derivation.Step.{Step}
use Rattle.tor_axioms.specs.Accepts.{Proof, Steps, Split, Absurd}
use Rattle.text_readers.specs.Bytes.{Reader}
use Rattle.text_readers.specs.Offsets.{Each}
use Rattle.deriv_check.specs.Texts.{left_text, right_text, split_text, derivation_text}
use Rattle.deriv_check.specs.Grammar.{IsSmall, HasSmallStep, IsNested}
use Rattle.deriv_check.specs.Reading.{steps_from, steps_at, absurd_at, choice_at, split_from, split_in, is_steps, is_split, derivation_at}
use Rattle.text_readers.proofs.Exact.{Exact, exact_byte, exact_both, exact_made, exact_either, exact_word}
use Rattle.deriv_check.proofs.Numbers.{exact_number}
use Rattle.deriv_check.proofs.Steps.{exact_lefts, exact_rights}

abbrev FitsSteps : Proof → Type 0
FitsSteps (Steps left right) = Each HasSmallStep left × Each HasSmallStep right
FitsSteps (Split atom first second) = ⊥
FitsSteps Absurd = ⊥

abbrev FitsSplit : ℕ → Proof → Type 0
FitsSplit room (Steps left right) = ⊥
FitsSplit room (Split atom first second) = IsSmall atom × IsNested room first × IsNested room second
FitsSplit room Absurd = ⊥

abbrev FitsAbsurd : Proof → Type 0
FitsAbsurd (Steps left right) = ⊥
FitsAbsurd (Split atom first second) = ⊥
FitsAbsurd Absurd = Unit {0}

abbrev FitsLater : ℕ → Proof → Type 0
FitsLater room (Steps left right) = ⊥
FitsLater room (Split atom first second) = IsSmall atom × IsNested room first × IsNested room second
FitsLater room Absurd = Unit {0}

exact_steps : Exact derivation_text FitsSteps Any steps_at
unfolding steps_at
exact_steps =
    exact_made derivation_text FitsSteps steps_from
    (exact_both (exact_word (codes "s ")) (exact_both exact_lefts (exact_both (exact_byte 47) (exact_both exact_rights (exact_byte 10) (λ y rest h g. refl)) (λ y rest h g. tt)) (λ y rest h g. refl)) (λ y rest h g. tt))
    (λ x h. (refl, (h.1.0, h.1.1.1.0))) back
  where
    back : (d : Proof) → FitsSteps d → (x : Unit {0} × (List Step × (Unit {0} × (List Step × Unit {0})))) × (steps_from x ≡ d) × (derivation_text d ≡ codes "s " ++ (flat_map left_text x.1.0 ++ (47 ∷ [] ++ (flat_map right_text x.1.1.1.0 ++ 10 ∷ []))))
        × (Unit {0} × (Each HasSmallStep x.1.0 × (Unit {0} × (Each HasSmallStep x.1.1.1.0 × Unit {0}))))
    back (Steps left right) h = ((tt, (left, (tt, (right, tt)))), refl, refl, (tt, (h.0, (tt, (h.1, tt)))))
    back (Split atom first second) h = absurd h
    back Absurd h = absurd h

exact_absurd : Exact derivation_text FitsAbsurd Any absurd_at
unfolding absurd_at
exact_absurd = exact_made derivation_text FitsAbsurd (λ _. Absurd) (exact_word (codes "!\n")) (λ x h. (refl, tt)) back
  where
    back : (d : Proof) → FitsAbsurd d → (u : Unit {0}) × (Absurd ≡ d) × (derivation_text d ≡ codes "!\n") × Unit {0}
    back (Steps left right) h = absurd h
    back (Split atom first second) h = absurd h
    back Absurd h = (tt, refl, refl, tt)

exact_choice : Exact split_text IsSmall Any choice_at
unfolding choice_at
exact_choice =
    exact_made split_text IsSmall (λ x. x.1.0) (exact_both (exact_word (codes "? ")) (exact_both exact_number (exact_byte 10) (λ y rest h g. refl)) (λ y rest h g. tt))
    (λ x h. (refl, h.1.0)) (λ n h. ((tt, (n, tt)), refl, refl, (tt, (h, tt))))

exact_split : (room : ℕ) (branch : Reader Proof) → Exact derivation_text (IsNested room) Any branch → Exact derivation_text (FitsSplit room) Any (split_in branch)
unfolding split_in
exact_split room branch p =
    exact_made derivation_text (FitsSplit room) split_from (exact_both exact_choice (exact_both p p (λ y rest h g. tt)) (λ y rest h g. tt))
    (λ x h. (refl, (h.0, h.1.0, h.1.1))) back
  where
    back : (d : Proof) → FitsSplit room d → (x : ℕ × (Proof × Proof)) × (split_from x ≡ d) × (derivation_text d ≡ split_text x.0 ++ (derivation_text x.1.0 ++ derivation_text x.1.1)) × (IsSmall x.0 × (IsNested room x.1.0 × IsNested room x.1.1))
    back (Steps left right) h = absurd h
    back (Split atom first second) h = ((atom, (first, second)), refl, refl, (h.0, (h.1, h.2)))
    back Absurd h = absurd h

-- ---- the choice by the first byte

steps_first : (d : Proof) (rest : List ℕ) → FitsSteps d → first_passes is_steps (derivation_text d ++ rest) ≡ true
steps_first (Steps left right) rest h = refl
steps_first (Split atom first second) rest h = absurd h
steps_first Absurd rest h = absurd h

exact_last : Exact derivation_text (IsNested 0) Any (λ ts. either is_steps steps_at absurd_at ts)
exact_last = exact_either (IsNested 0) is_steps exact_steps exact_absurd from_one from_other sort steps_first failing Any (λ rest h. tt) (λ rest h. tt)
  where
    from_one : (d : Proof) → FitsSteps d → IsNested 0 d
    from_one (Steps left right) h = h
    from_one (Split atom first second) h = absurd h
    from_one Absurd h = absurd h

    from_other : (d : Proof) → FitsAbsurd d → IsNested 0 d
    from_other (Steps left right) h = absurd h
    from_other (Split atom first second) h = absurd h
    from_other Absurd h = tt

    sort : (d : Proof) → IsNested 0 d → FitsSteps d ⊎ FitsAbsurd d
    sort (Steps left right) h = inl h
    sort (Split atom first second) h = absurd h
    sort Absurd h = inr tt

    failing : (d : Proof) (rest : List ℕ) → FitsAbsurd d → first_passes is_steps (derivation_text d ++ rest) ≡ false
    failing (Steps left right) rest h = absurd h
    failing (Split atom first second) rest h = absurd h
    failing Absurd rest h = refl

exact_later : (room : ℕ) (branch : Reader Proof) → Exact derivation_text (IsNested room) Any branch → Exact derivation_text (FitsLater room) Any (λ ts. either is_split (split_in branch) absurd_at ts)
exact_later room branch p = exact_either (FitsLater room) is_split (exact_split room branch p) exact_absurd from_one from_other sort passing failing Any (λ rest h. tt) (λ rest h. tt)
  where
    from_one : (d : Proof) → FitsSplit room d → FitsLater room d
    from_one (Steps left right) h = absurd h
    from_one (Split atom first second) h = h
    from_one Absurd h = absurd h

    from_other : (d : Proof) → FitsAbsurd d → FitsLater room d
    from_other (Steps left right) h = absurd h
    from_other (Split atom first second) h = absurd h
    from_other Absurd h = tt

    sort : (d : Proof) → FitsLater room d → FitsSplit room d ⊎ FitsAbsurd d
    sort (Steps left right) h = absurd h
    sort (Split atom first second) h = inl h
    sort Absurd h = inr tt

    passing : (d : Proof) (rest : List ℕ) → FitsSplit room d → first_passes is_split (derivation_text d ++ rest) ≡ true
    passing (Steps left right) rest h = absurd h
    passing (Split atom first second) rest h = refl
    passing Absurd rest h = absurd h

    failing : (d : Proof) (rest : List ℕ) → FitsAbsurd d → first_passes is_split (derivation_text d ++ rest) ≡ false
    failing (Steps left right) rest h = absurd h
    failing (Split atom first second) rest h = absurd h
    failing Absurd rest h = refl

exact_more : (room : ℕ) (branch : Reader Proof) → Exact derivation_text (IsNested room) Any branch → Exact derivation_text (IsNested (suc room)) Any (λ ts. either is_steps steps_at (either is_split (split_in branch) absurd_at) ts)
exact_more room branch p = exact_either (IsNested (suc room)) is_steps exact_steps (exact_later room branch p) from_one from_other sort steps_first failing Any (λ rest h. tt) (λ rest h. tt)
  where
    from_one : (d : Proof) → FitsSteps d → IsNested (suc room) d
    from_one (Steps left right) h = h
    from_one (Split atom first second) h = absurd h
    from_one Absurd h = absurd h

    from_other : (d : Proof) → FitsLater room d → IsNested (suc room) d
    from_other (Steps left right) h = absurd h
    from_other (Split atom first second) h = h
    from_other Absurd h = tt

    sort : (d : Proof) → IsNested (suc room) d → FitsSteps d ⊎ FitsLater room d
    sort (Steps left right) h = inl h
    sort (Split atom first second) h = inr h
    sort Absurd h = inr tt

    failing : (d : Proof) (rest : List ℕ) → FitsLater room d → first_passes is_steps (derivation_text d ++ rest) ≡ false
    failing (Steps left right) rest h = absurd h
    failing (Split atom first second) rest h = refl
    failing Absurd rest h = refl

pub exact_derivation : (room : ℕ) → Exact derivation_text (IsNested room) Any (derivation_at room)
unfolding derivation_at
exact_derivation zero = exact_last
exact_derivation (suc room) = exact_more room (derivation_at room) (exact_derivation room)
