-- Scalars: the readers are exact.
use Rattle.std.proofs.Common.{◌≡◌, ℕ, zero, suc, ◌+◌, ◌-◌, ◌^◌, ◌≤◌, ◌<◌, ℤ, pos, negsuc, Bool, true, false, List, ◌∷◌, ◌++◌, get_or, refl, sym, ap, subst, ◌∙◌, arith, inl, inr, ◌⊎◌}
use Rattle.std.specs.Prelude.{nat_eq, codes, IsTrue}
use Rattle.std.specs.Fmt.{decimal, signed_decimal}
use Rattle.std.proofs.lemmas.Bool.{ltb-true, lt-ltb, ne_eqb, or_from}
use Rattle.std.proofs.lemmas.Fmt.{decimal_digit, first_decimal}
use Rattle.readers.specs.Reading.{first_passes, made, either}
use Rattle.readers.proofs.Again.{Any}
use Rattle.qbs_base.specs.declared.scalar.Scalar.{Scalar}
use Rattle.qbs_base.specs.declared.scalar.Scalar.TheVariants as scalars
use Rattle.qbs_base.specs.declared.scalar.Ty.{Ty}
use Rattle.qbs_base.specs.declared.scalar.Ty.TheVariants as tys
use Rattle.qbs_base.specs.Literal.{truth_text, text_literal, scalar_text}
use Rattle.qbs_base.specs.Values.{fits_long}
use Rattle.text_readers.specs.Offsets.{IsBelow}
use Rattle.text_readers.specs.Bytes.{word_at}
use Rattle.text_readers.proofs.Exact.{Exact, Whichever, exact_byte, exact_both, exact_made, exact_either, exact_word}
use Rattle.text_readers.proofs.Numbers.{NoDigit, first_digit, exact_number}
use Rattle.scalar_readers.specs.Chars.{is_quote}
use Rattle.scalar_readers.specs.Scalars.{is_zero, is_dash, positive_at, below_zero, negative_at, natural_at, long_at, is_t, truth_at, scalar_at, is_truth, any_at, ty_of, IsRead}
use Rattle.scalar_readers.proofs.ExactChoices.{exact_unless, exact_before}
use Rattle.scalar_readers.proofs.ExactTexts.{IsText8, exact_text}

-- ---- numbers with a sign

abbrev IsPositive : ℕ → Type 0
IsPositive n = (0 < n) × (n < 2 ^ 63 + 1)

-- the first digit of a number that isn't 0
positive_head : (n : ℕ) → IsPositive n → (b : ℕ) × (bs : List ℕ) × (decimal n ≡ b ∷ bs) × (49 ≤ b)
positive_head n h =
    let f = first_digit (2 ^ 63 + 1) (omega arith) (omega arith) n h.1 in
    let d : 48 < get_or (decimal n) 0 0 = first_decimal n h.0 (omega (arith, h.1)) in
    let e : get_or (decimal n) 0 0 ≡ 48 + f.0 = ap (λ (bs : List ℕ). get_or bs 0 0) f.2 in
    (48 + f.0, f.1, f.2, omega (arith, d, e))

not_zero : (n : ℕ) (rest : List ℕ) → n < 2 ^ 63 + 1 → first_passes is_zero (decimal n ++ rest) ≡ false → IsPositive n
not_zero zero rest lt e =
    let h : first_passes is_zero (decimal 0 ++ rest) ≡ true = ap (λ (us : List ℕ). first_passes is_zero (us ++ rest)) (decimal_digit 0 (omega arith)) in
    absurd (clash (first_passes is_zero (decimal 0 ++ rest)) h e)
  where
    clash : (b : Bool) → b ≡ true → b ≡ false → ⊥
    clash b p q = cc
not_zero (suc n) rest lt e = (omega arith, lt)

starts_positive : (n : ℕ) (rest : List ℕ) → IsPositive n → first_passes is_zero (decimal n ++ rest) ≡ false
starts_positive n rest h =
    let p = positive_head n h in
    ap (λ (us : List ℕ). first_passes is_zero (us ++ rest)) p.2 ∙ ne_eqb p.0 48 (λ e. omega (arith, p.3, e))

exact_positive : Exact decimal IsPositive NoDigit positive_at
unfolding positive_at
exact_positive = exact_unless IsPositive is_zero (exact_number (2 ^ 63 + 1) (omega arith) (omega arith)) 1 (omega arith, omega arith) (λ n h. h.1) starts_positive not_zero

abbrev IsNegative : ℤ → Type 0
IsNegative (pos n) = ⊥
IsNegative (negsuc n) = n < 2 ^ 63

abbrev IsNatural : ℤ → Type 0
IsNatural (pos n) = n < 2 ^ 63
IsNatural (negsuc n) = ⊥

exact_negative : Exact signed_decimal IsNegative NoDigit negative_at
unfolding negative_at
exact_negative = exact_made signed_decimal IsNegative (λ x. below_zero x.1) (exact_both (exact_byte 45) exact_positive (λ y rest h g. tt)) to back
  where
    to : (x : Unit {0} × ℕ) → Whichever x.0 × IsPositive x.1 → (45 ∷ decimal x.1 ≡ signed_decimal (below_zero x.1)) × IsNegative (below_zero x.1)
    to x h = let e : x.1 ≡ suc (x.1 - 1) = omega (arith, h.1.0) in (ap (λ (n : ℕ). 45 ∷ decimal n) e, omega (arith, h.1.1, h.1.0))

    back : (z : ℤ) → IsNegative z → (x : Unit {0} × ℕ) × (below_zero x.1 ≡ z) × (signed_decimal z ≡ 45 ∷ decimal x.1) × (Whichever x.0 × IsPositive x.1)
    back (pos n) h = absurd h
    back (negsuc n) h = let e : suc n - 1 ≡ n = omega arith in ((tt, suc n), ap (λ (m : ℕ). negsuc m) e, refl, (tt, (omega arith, omega (arith, h))))

exact_natural : Exact signed_decimal IsNatural NoDigit natural_at
unfolding natural_at
exact_natural = exact_made signed_decimal IsNatural (λ n. pos n) (exact_number (2 ^ 63) (omega arith) (omega arith)) (λ n h. (refl, h)) back
  where
    back : (z : ℤ) → IsNatural z → (n : ℕ) × (pos n ≡ z) × (signed_decimal z ≡ decimal n) × IsBelow (2 ^ 63) n
    back (pos n) h = (n, refl, refl, h)
    back (negsuc n) h = absurd h

abbrev IsLong : ℤ → Type 0
IsLong z = IsTrue (fits_long z)

exact_long : Exact signed_decimal IsLong NoDigit long_at
unfolding long_at
exact_long = exact_either IsLong is_dash exact_negative exact_natural from_negative from_natural sort passing failing NoDigit (λ rest h. h) (λ rest h. h)
  where
    from_negative : (z : ℤ) → IsNegative z → IsLong z
    from_negative (pos n) h = absurd h
    from_negative (negsuc n) h = lt-ltb n (2 ^ 63) h

    from_natural : (z : ℤ) → IsNatural z → IsLong z
    from_natural (pos n) h = lt-ltb n (2 ^ 63) h
    from_natural (negsuc n) h = absurd h

    sort : (z : ℤ) → IsLong z → IsNegative z ⊎ IsNatural z
    sort (pos n) h = inr (ltb-true n (2 ^ 63) h)
    sort (negsuc n) h = inl (ltb-true n (2 ^ 63) h)

    passing : (z : ℤ) (rest : List ℕ) → IsNegative z → first_passes is_dash (signed_decimal z ++ rest) ≡ true
    passing (pos n) rest h = absurd h
    passing (negsuc n) rest h = refl

    failing : (z : ℤ) (rest : List ℕ) → IsNatural z → first_passes is_dash (signed_decimal z ++ rest) ≡ false
    failing (pos n) rest h =
        let f = first_digit (2 ^ 63) (omega arith) (omega arith) n h in
        ap (λ (us : List ℕ). first_passes is_dash (us ++ rest)) f.2 ∙ ne_eqb (48 + f.0) 45 (λ e. omega (arith, e))
    failing (negsuc n) rest h = absurd h

-- the first byte of a number
long_head : (z : ℤ) → IsLong z → (b : ℕ) × (bs : List ℕ) × (signed_decimal z ≡ b ∷ bs) × ((b ≡ 45) ⊎ ((48 ≤ b) × (b ≤ 57)))
long_head (pos n) h = let f = first_digit (2 ^ 63) (omega arith) (omega arith) n (ltb-true n (2 ^ 63) h) in (48 + f.0, f.1, f.2, inr (omega arith, omega (arith, f.3)))
long_head (negsuc n) h = (45, _, refl, inl refl)

-- ---- truth values

abbrev IsYes : Bool → Type 0
IsYes true = Unit {0}
IsYes false = ⊥

abbrev IsNo : Bool → Type 0
IsNo true = ⊥
IsNo false = Unit {0}

abbrev IsEither : Bool → Type 0
IsEither b = Unit {0}

exact_yes : Exact truth_text IsYes Any (λ ts. made (λ _. true) (word_at (codes "true")) ts)
exact_yes = exact_made truth_text IsYes (λ _. true) (exact_word (codes "true")) (λ x h. (refl, tt)) back
  where
    back : (b : Bool) → IsYes b → (x : Unit {0}) × (true ≡ b) × (truth_text b ≡ codes "true") × Whichever x
    back true h = (tt, refl, refl, tt)
    back false h = absurd h

exact_no : Exact truth_text IsNo Any (λ ts. made (λ _. false) (word_at (codes "false")) ts)
exact_no = exact_made truth_text IsNo (λ _. false) (exact_word (codes "false")) (λ x h. (refl, tt)) back
  where
    back : (b : Bool) → IsNo b → (x : Unit {0}) × (false ≡ b) × (truth_text b ≡ codes "false") × Whichever x
    back true h = absurd h
    back false h = (tt, refl, refl, tt)

exact_truth : Exact truth_text IsEither Any truth_at
unfolding truth_at
exact_truth = exact_either IsEither is_t exact_yes exact_no (λ b h. tt) (λ b h. tt) sort passing failing Any (λ rest h. h) (λ rest h. h)
  where
    sort : (b : Bool) → IsEither b → IsYes b ⊎ IsNo b
    sort true h = inl tt
    sort false h = inr tt

    passing : (b : Bool) (rest : List ℕ) → IsYes b → first_passes is_t (truth_text b ++ rest) ≡ true
    passing true rest h = refl
    passing false rest h = absurd h

    failing : (b : Bool) (rest : List ℕ) → IsNo b → first_passes is_t (truth_text b ++ rest) ≡ false
    failing true rest h = absurd h
    failing false rest h = refl

-- ---- scalars

long_back : (x : Scalar) → IsRead tys.Long x → (n : ℤ) × (scalars.Long n ≡ x) × (scalar_text x ≡ signed_decimal n) × IsLong n
long_back (scalars.Long n) h = (n, refl, refl, h)
long_back (scalars.Bool b) h = absurd h
long_back (scalars.Text t) h = absurd h

truth_back : (x : Scalar) → IsRead tys.Bool x → (b : Bool) × (scalars.Bool b ≡ x) × (scalar_text x ≡ truth_text b) × IsEither b
truth_back (scalars.Long n) h = absurd h
truth_back (scalars.Bool b) h = (b, refl, refl, tt)
truth_back (scalars.Text t) h = absurd h

text_back : (x : Scalar) → IsRead tys.Text x → (t : List ℕ) × (scalars.Text t ≡ x) × (scalar_text x ≡ text_literal t) × IsText8 t
text_back (scalars.Long n) h = absurd h
text_back (scalars.Bool b) h = absurd h
text_back (scalars.Text t) h = (t, refl, refl, h)

pub exact_scalar : (ty : Ty) → Exact scalar_text (IsRead ty) NoDigit (scalar_at ty)
unfolding scalar_at
exact_scalar tys.Long = exact_made scalar_text (IsRead tys.Long) (λ n. scalars.Long n) exact_long (λ n h. (refl, h)) long_back
exact_scalar tys.Bool = exact_made scalar_text (IsRead tys.Bool) (λ b. scalars.Bool b) (exact_before NoDigit (λ rest h. tt) exact_truth) (λ b h. (refl, tt)) truth_back
exact_scalar tys.Text = exact_made scalar_text (IsRead tys.Text) (λ t. scalars.Text t) (exact_before NoDigit (λ rest h. tt) exact_text) (λ t h. (refl, h)) text_back

-- ---- of any type

abbrev pub IsAny : Scalar → Type 0
IsAny x = IsRead (ty_of x) x

abbrev IsOther : Scalar → Type 0
IsOther x = IsRead tys.Bool x ⊎ IsRead tys.Long x

exact_other : Exact scalar_text IsOther NoDigit (λ ts. either is_truth (scalar_at tys.Bool) (scalar_at tys.Long) ts)
exact_other = exact_either IsOther is_truth (exact_scalar tys.Bool) (exact_scalar tys.Long) (λ x h. inl h) (λ x h. inr h) (λ x h. h) passing failing NoDigit (λ rest h. h) (λ rest h. h)
  where
    passing : (x : Scalar) (rest : List ℕ) → IsRead tys.Bool x → first_passes is_truth (scalar_text x ++ rest) ≡ true
    passing (scalars.Long n) rest h = absurd h
    passing (scalars.Bool true) rest h = refl
    passing (scalars.Bool false) rest h = refl
    passing (scalars.Text t) rest h = absurd h

    at : (b : ℕ) → (b ≡ 45) ⊎ ((48 ≤ b) × (b ≤ 57)) → is_truth b ≡ false
    at b (inl e) = subst (λ (c : ℕ). is_truth c ≡ false) (sym e) refl
    at b (inr h) = or_from (nat_eq b 116) (nat_eq b 102) (ne_eqb b 116 (λ e. omega (arith, e, h.1))) (ne_eqb b 102 (λ e. omega (arith, e, h.1)))

    failing : (x : Scalar) (rest : List ℕ) → IsRead tys.Long x → first_passes is_truth (scalar_text x ++ rest) ≡ false
    failing (scalars.Long n) rest h = let l = long_head n h in ap (λ (us : List ℕ). first_passes is_truth (us ++ rest)) l.2 ∙ at l.0 l.3
    failing (scalars.Bool b) rest h = absurd h
    failing (scalars.Text t) rest h = absurd h

pub exact_any : Exact scalar_text IsAny NoDigit any_at
unfolding any_at
exact_any = exact_either IsAny is_quote (exact_scalar tys.Text) exact_other from_text from_other sort passing failing NoDigit (λ rest h. h) (λ rest h. h)
  where
    from_text : (x : Scalar) → IsRead tys.Text x → IsAny x
    from_text (scalars.Long n) h = absurd h
    from_text (scalars.Bool b) h = absurd h
    from_text (scalars.Text t) h = h

    from_other : (x : Scalar) → IsOther x → IsAny x
    from_other (scalars.Long n) (inl h) = absurd h
    from_other (scalars.Long n) (inr h) = h
    from_other (scalars.Bool b) h = tt
    from_other (scalars.Text t) (inl h) = absurd h
    from_other (scalars.Text t) (inr h) = absurd h

    sort : (x : Scalar) → IsAny x → IsRead tys.Text x ⊎ IsOther x
    sort (scalars.Long n) h = inr (inr h)
    sort (scalars.Bool b) h = inr (inl tt)
    sort (scalars.Text t) h = inl h

    passing : (x : Scalar) (rest : List ℕ) → IsRead tys.Text x → first_passes is_quote (scalar_text x ++ rest) ≡ true
    passing (scalars.Long n) rest h = absurd h
    passing (scalars.Bool b) rest h = absurd h
    passing (scalars.Text t) rest h = refl

    at : (b : ℕ) → (b ≡ 45) ⊎ ((48 ≤ b) × (b ≤ 57)) → is_quote b ≡ false
    at b (inl e) = subst (λ (c : ℕ). is_quote c ≡ false) (sym e) refl
    at b (inr h) = ne_eqb b 34 (λ e. omega (arith, e, h.0))

    failing : (x : Scalar) (rest : List ℕ) → IsOther x → first_passes is_quote (scalar_text x ++ rest) ≡ false
    failing (scalars.Long n) rest (inl h) = absurd h
    failing (scalars.Long n) rest (inr h) = let l = long_head n h in ap (λ (us : List ℕ). first_passes is_quote (us ++ rest)) l.2 ∙ at l.0 l.3
    failing (scalars.Bool true) rest h = refl
    failing (scalars.Bool false) rest h = refl
    failing (scalars.Text t) rest (inl h) = absurd h
    failing (scalars.Text t) rest (inr h) = absurd h
