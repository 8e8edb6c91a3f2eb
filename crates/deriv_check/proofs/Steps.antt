-- Paths and steps: the readers are exact.
use Rattle.std.proofs.Common.{◌≡◌, ℕ, ◌+◌, Bool, true, false, not, ◌||◌, List, [], ◌∷◌, ◌++◌, refl, ap, ◌∙◌, arith, inl, inr, ◌⊎◌}
use Rattle.std.specs.Prelude.{nat_eq, codes}
use Rattle.std.specs.Fmt.{decimal}
use Rattle.std.specs.List.{flat_map}
use Rattle.std.proofs.lemmas.Bool.{eqb-true}
use Rattle.readers.specs.Reading.{both, made, first_passes, is_over}
use Rattle.readers.proofs.Again.{Any}
use Rattle.tor_axioms.specs.declared.derivation.Step.{Step}
use Rattle.text_readers.specs.Bytes.{is_digit, byte_at}
use Rattle.text_readers.specs.Offsets.{Each}
use Rattle.deriv_check.specs.Texts.{further_text, path_text, step_text, left_text, right_text}
use Rattle.deriv_check.specs.Grammar.{IsSmall, HasSmallStep}
use Rattle.deriv_check.specs.Reading.{number_at, ends_path, further_at, numbers_at, is_dash, path_at, step_from, step_at, left_at, right_at, is_slash, is_line_end, lefts_at, rights_at}
use Rattle.text_readers.proofs.Exact.{Exact, exact_byte, exact_both, exact_made, exact_many, exact_either}
use Rattle.text_readers.proofs.Numbers.{NoDigit}
use Rattle.deriv_check.proofs.Numbers.{first_digit, exact_number}

-- what follows a path
abbrev pub PathEnds : List ℕ → Type 0
PathEnds rest = is_over ends_path rest ≡ true

-- ---- paths

exact_further : Exact further_text IsSmall NoDigit further_at
unfolding further_at
exact_further = exact_made further_text IsSmall (λ x. x.1) (exact_both (exact_byte 46) exact_number (λ y rest h g. tt)) (λ x h. (refl, h.1)) (λ n h. ((tt, n), refl, refl, (tt, h)))

neither : (v w : Bool) → not (v || w) ≡ true → not v ≡ true
neither true w e = absurd cc
neither false w e = refl

no_number : (rest : List ℕ) → PathEnds rest → NoDigit rest
no_number [] e = refl
no_number (b ∷ bs) e = neither (is_digit b) (nat_eq b 46) e

exact_numbers : Exact (flat_map further_text) (Each IsSmall) PathEnds numbers_at
unfolding numbers_at
exact_numbers = exact_many ends_path exact_further (λ n h. (46, decimal n, refl, refl)) no_number (λ n rest h. refl)

abbrev IsNone : List ℕ → Type 0
IsNone [] = Unit {0}
IsNone (n ∷ ns) = ⊥

abbrev IsSome : List ℕ → Type 0
IsSome [] = ⊥
IsSome (n ∷ ns) = IsSmall n × Each IsSmall ns

exact_none : Exact path_text IsNone Any (λ ts. made (λ _. []) (byte_at 45) ts)
exact_none = exact_made path_text IsNone (λ _. []) (exact_byte 45) (λ x h. (refl, tt)) back
  where
    back : (ns : List ℕ) → IsNone ns → (u : Unit {0}) × ([] ≡ ns) × (path_text ns ≡ 45 ∷ []) × Unit {0}
    back [] h = (tt, refl, refl, tt)
    back (n ∷ ns) h = absurd h

exact_some : Exact path_text IsSome PathEnds (λ ts. made (λ x. x.0 ∷ x.1) (both number_at numbers_at) ts)
exact_some = exact_made path_text IsSome (λ x. x.0 ∷ x.1) (exact_both exact_number exact_numbers joins) (λ x h. (refl, h)) back
  where
    joins : (ns : List ℕ) (rest : List ℕ) → Each IsSmall ns → PathEnds rest → NoDigit (flat_map further_text ns ++ rest)
    joins [] rest h e = no_number rest e
    joins (n ∷ ns) rest h e = refl

    back : (ns : List ℕ) → IsSome ns → (x : ℕ × List ℕ) × (x.0 ∷ x.1 ≡ ns) × (path_text ns ≡ decimal x.0 ++ flat_map further_text x.1) × (IsSmall x.0 × Each IsSmall x.1)
    back [] h = absurd h
    back (n ∷ ns) h = ((n, ns), refl, refl, h)

exact_path : Exact path_text (Each IsSmall) PathEnds path_at
unfolding path_at
exact_path = exact_either (Each IsSmall) is_dash exact_none exact_some from_one from_other sort passing failing PathEnds (λ rest h. tt) (λ rest h. h)
  where
    from_one : (ns : List ℕ) → IsNone ns → Each IsSmall ns
    from_one [] h = tt
    from_one (n ∷ ns) h = absurd h

    from_other : (ns : List ℕ) → IsSome ns → Each IsSmall ns
    from_other [] h = absurd h
    from_other (n ∷ ns) h = h

    sort : (ns : List ℕ) → Each IsSmall ns → IsNone ns ⊎ IsSome ns
    sort [] h = inl tt
    sort (n ∷ ns) h = inr h

    passing : (ns : List ℕ) (rest : List ℕ) → IsNone ns → first_passes is_dash (path_text ns ++ rest) ≡ true
    passing [] rest h = refl
    passing (n ∷ ns) rest h = absurd h

    failing : (ns : List ℕ) (rest : List ℕ) → IsSome ns → first_passes is_dash (path_text ns ++ rest) ≡ false
    failing [] rest h = absurd h
    failing (n ∷ ns) rest h =
        let d = first_digit n h.0 in
        let no : nat_eq (48 + d.0) 45 ≡ false = grind arith in
        ap (λ (us : List ℕ). first_passes is_dash ((us ++ flat_map further_text ns) ++ rest)) d.2 ∙ no

-- ---- steps

exact_step : Exact step_text HasSmallStep PathEnds step_at
unfolding step_at
exact_step =
    exact_made step_text HasSmallStep step_from (exact_both exact_number (exact_both (exact_byte 64) exact_path (λ y rest h g. tt)) (λ y rest h g. refl))
    (λ x h. (refl, (h.0, h.1.1))) (λ s h. ((s.rule, (tt, s.path)), refl, refl, (h.0, (tt, h.1))))

exact_left : Exact left_text HasSmallStep Any left_at
unfolding left_at
exact_left = exact_made left_text HasSmallStep (λ x. x.0) (exact_both exact_step (exact_byte 32) (λ y rest h g. refl)) (λ x h. (refl, h.0)) (λ s h. ((s, tt), refl, refl, (h, tt)))

exact_right : Exact right_text HasSmallStep PathEnds right_at
unfolding right_at
exact_right = exact_made right_text HasSmallStep (λ x. x.1) (exact_both (exact_byte 32) exact_step (λ y rest h g. tt)) (λ x h. (refl, h.1)) (λ s h. ((tt, s), refl, refl, (tt, h)))

pub exact_lefts : Exact (flat_map left_text) (Each HasSmallStep) (λ rest. is_over is_slash rest ≡ true) lefts_at
unfolding lefts_at
exact_lefts = exact_many is_slash exact_left starts (λ rest h. tt) (λ s rest h. tt)
  where
    starts : (s : Step) → HasSmallStep s → (b : ℕ) × (bs : List ℕ) × (left_text s ≡ b ∷ bs) × (is_slash b ≡ false)
    starts s h =
        let d = first_digit s.rule h.0 in
        let no : nat_eq (48 + d.0) 47 ≡ false = grind arith in
        (48 + d.0, (d.1 ++ (codes "@" ++ path_text s.path)) ++ codes " ", ap (λ (us : List ℕ). (us ++ (codes "@" ++ path_text s.path)) ++ codes " ") d.2, no)

line_end : (rest : List ℕ) → is_over is_line_end rest ≡ true → PathEnds rest
line_end [] e = refl
line_end (b ∷ bs) e = rw (eqb-true b 10 e) refl

pub exact_rights : Exact (flat_map right_text) (Each HasSmallStep) (λ rest. is_over is_line_end rest ≡ true) rights_at
unfolding rights_at
exact_rights = exact_many is_line_end exact_right (λ s h. (32, step_text s, refl, refl)) line_end (λ s rest h. refl)
