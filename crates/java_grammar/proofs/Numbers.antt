-- Integers as they are read.
use Rattle.std.proofs.Common.{◌≡◌, ℕ, zero, suc, ◌+◌, ◌<◌, ◌^◌, Bool, true, false, cond, List, [], ◌∷◌, ◌++◌, length, take, drop, get_or, refl, sym, ap, subst, ◌∙◌, arith, rules, Option, Some, None}
use Rattle.std.specs.Prelude.{ℤ, pos, ◌&&◌, ◌||◌, ◌==◌, nat_lt}
use Rattle.std.specs.Fmt.{decimal}
use Rattle.std.specs.List.{prefix_len}
use Rattle.std.specs.Str.Parse.{digits_value}
use Rattle.std.proofs.lemmas.Bool.{lt-ltb, eqb-true}
use Rattle.std.proofs.lemmas.Bool.Decides.{nat_tests}
use Rattle.std.proofs.lemmas.Fmt.{digits_decimal, digits_value-decimal, decimal_nonempty, first_decimal, decimal_digit}
use Rattle.std.proofs.lemmas.Str.Parse.{IsNumeralModel, numerals_by_value}
use Rattle.std.proofs.lemmas.List.{append-nil}
use Rattle.java_lex.specs.declared.piece.Piece.TheVariants.{Token as Lexeme}
use Rattle.java_lex.specs.declared.token.TokenNode.TheVariants.{Integer}
use Rattle.java_lex.specs.Bytes.{begins_with}
use Rattle.qbs_base.specs.Bytes.{is_white, is_digit, is_name_start, is_name_part}
use Rattle.java_lex.specs.Pieces.{digits_len, number_of, integer_of, piece_of}
use Rattle.java_lex.proofs.Cut.{Whole, none, token, take_front, drop_front}
use Rattle.java_grammar.proofs.Wholes.{Stops, Reads}
use Rattle.java_grammar.proofs.Fixed.{both_true, third_of, stops_no_part}

abbrev are_digits : List ℕ → Bool
are_digits [] = true
are_digits (d ∷ ds) = is_digit d && are_digits ds

own : IsNumeralModel (λ ds. are_digits ds ≡ true) (digits_value 10)
own = numerals_by_value _ (search rules)

-- the next byte is no digit
abbrev NoDigit : List ℕ → Type 0
NoDigit [] = Unit {0}
NoDigit (b ∷ bs) = is_digit b ≡ false

digits_prefix : (ds rest : List ℕ) → are_digits ds ≡ true → NoDigit rest → prefix_len is_digit (ds ++ rest) ≡ length ds
digits_prefix [] [] h s = refl
digits_prefix [] (b ∷ rest) h s = rw s refl
digits_prefix (d ∷ ds) rest h s =
    let t : (is_digit d ≡ true) × (are_digits ds ≡ true) = both_true (is_digit d) (are_digits ds) h in
    rw t.0 (omega (arith, digits_prefix ds rest t.1 s))

-- a zero stands alone
abbrev LeadsWell : List ℕ → Type 0
LeadsWell ds = begins_with 48 ds ≡ true → length ds ≡ 1

digits_len_is : (d : ℕ) (ds rest : List ℕ) → are_digits (d ∷ ds) ≡ true → LeadsWell (d ∷ ds) → NoDigit rest → digits_len ((d ∷ ds) ++ rest) ≡ suc (length ds)
digits_len_is d ds rest h l s = by (d == 48) refl
  where
    by : (z : Bool) → (d == 48) ≡ z → cond z 1 (prefix_len is_digit ((d ∷ ds) ++ rest)) ≡ suc (length ds)
    by true e = sym (l e)
    by false e = digits_prefix (d ∷ ds) rest h s

digit_no_white : (d : ℕ) → is_digit d ≡ true → is_white d ≡ false
digit_no_white d h = grind (arith, nat_tests, h)

digit_no_start : (d : ℕ) → is_digit d ≡ true → is_name_start d ≡ false
digit_no_start d h = grind (arith, nat_tests, h)

number_is : (ds : List ℕ) (n : ℕ) → digits_value 10 ds ≡ n → n < 2 ^ 63 → number_of ds ≡ Some (pos n)
number_is ds n e small =
    ap (λ (m : ℕ). cond {A = Option ℤ} (nat_lt m (2 ^ 63)) (Some (pos m)) None) e
    ∙ ap (λ (t : Bool). cond {A = Option ℤ} t (Some (pos n)) None) (lt-ltb n (2 ^ 63) small)

digits_piece : (d : ℕ) (ds rest : List ℕ) (n : ℕ) (long : Bool) → are_digits (d ∷ ds) ≡ true → digits_value 10 (d ∷ ds) ≡ n → n < 2 ^ 63 → LeadsWell (d ∷ ds) → NoDigit rest → begins_with 76 rest ≡ long → piece_of ((d ∷ ds) ++ rest) ≡ Lexeme (Integer (pos n) long) (suc (length ds) + cond long 1 0)
unfolding piece_of
digits_piece d ds rest n long h e small l s m =
    let t : (is_digit d ≡ true) × (are_digits ds ≡ true) = both_true (is_digit d) (are_digits ds) h in
    let bs : List ℕ = (d ∷ ds) ++ rest in
    let len : digits_len ((d ∷ ds) ++ rest) ≡ suc (length ds) = digits_len_is d ds rest h l s in
    third_of (is_white d) (is_name_start d) (is_digit d) _ _ _ _ (digit_no_white d t.0) (digit_no_start d t.0) t.0
    ∙ (ap (λ (k : ℕ). integer_of k (number_of (take k ((d ∷ ds) ++ rest))) (begins_with 76 (drop k ((d ∷ ds) ++ rest)))) len
    ∙ ap (λ (x : List ℕ). integer_of (suc (length ds)) (number_of x) (begins_with 76 (drop (suc (length ds)) ((d ∷ ds) ++ rest)))) (take_front (d ∷ ds) rest)
    ∙ ap (λ (x : List ℕ). integer_of (suc (length ds)) (number_of (d ∷ ds)) (begins_with 76 x)) (drop_front (d ∷ ds) rest)
    ∙ ap (λ (v : Option ℤ). integer_of (suc (length ds)) v (begins_with 76 rest)) (number_is (d ∷ ds) n e small)
    ∙ ap (λ (v : Bool). integer_of (suc (length ds)) (Some (pos n)) v) m)

-- ---- the digits of a number

first_is : (ds : List ℕ) → 48 < get_or ds 0 0 → begins_with 48 ds ≡ true → ⊥
first_is [] h e = cc
first_is (d ∷ ds) h e = let f : d ≡ 48 = eqb-true d 48 e in omega arith

leads_well : (n : ℕ) → n < 2 ^ 64 → LeadsWell (decimal n)
leads_well zero small e = ap length (decimal_digit 0 (omega arith))
leads_well (suc n) small e = absurd (first_is (decimal (suc n)) (first_decimal (suc n) (omega arith) small) e)

stops_no_digit : (rest : List ℕ) → Stops rest → NoDigit rest
stops_no_digit [] s = tt
stops_no_digit (b ∷ rest) s = let h : is_name_part b ≡ false = stops_no_part b s in no_digit (is_name_start b) (is_digit b) h
  where
    no_digit : (p q : Bool) → p || q ≡ false → q ≡ false
    no_digit true q e = absurd cc
    no_digit false q e = e

stops_no_mark : (rest : List ℕ) → Stops rest → begins_with 76 rest ≡ false
stops_no_mark [] s = refl
stops_no_mark (b ∷ rest) s = by (b == 76) refl
  where
    by : (v : Bool) → (b == 76) ≡ v → (b == 76) ≡ false
    by true e = let f : is_name_part 76 ≡ false = subst (λ (c : ℕ). is_name_part c ≡ false) (eqb-true b 76 e) (stops_no_part b s) in absurd cc
    by false e = e

whole_digits : (ds rest : List ℕ) (n : ℕ) → are_digits ds ≡ true → 0 < length ds → digits_value 10 ds ≡ n → n < 2 ^ 63 → LeadsWell ds → Stops rest → Whole ds rest (Integer (pos n) false ∷ [])
whole_digits [] rest n h some e small l s = absurd (omega arith)
whole_digits (d ∷ ds) rest n h some e small l s =
    let p : piece_of ((d ∷ ds) ++ rest) ≡ Lexeme (Integer (pos n) false) (suc (length ds) + 0) = digits_piece d ds rest n false h e small l (stops_no_digit rest s) (stops_no_mark rest s) in
    let k : suc (length ds) + 0 ≡ suc (length ds) = omega arith in
    subst (λ (x : List ℕ). Whole x rest (Integer (pos n) false ∷ [])) (append-nil (d ∷ ds)) (token (d ∷ ds) [] (omega arith) (p ∙ ap (λ (j : ℕ). Lexeme (Integer (pos n) false) j) k) none)

length_marked : (ds : List ℕ) → length (ds ++ 76 ∷ []) ≡ length ds + 1
length_marked [] = refl
length_marked (d ∷ ds) = omega (arith, length_marked ds)

marked_append : (ds rest : List ℕ) → (ds ++ 76 ∷ []) ++ rest ≡ ds ++ 76 ∷ rest
marked_append [] rest = refl
marked_append (d ∷ ds) rest = ap (λ (x : List ℕ). d ∷ x) (marked_append ds rest)

whole_marked : (ds rest : List ℕ) (n : ℕ) → are_digits ds ≡ true → 0 < length ds → digits_value 10 ds ≡ n → n < 2 ^ 63 → LeadsWell ds → Whole (ds ++ 76 ∷ []) rest (Integer (pos n) true ∷ [])
whole_marked [] rest n h some e small l = absurd (omega arith)
whole_marked (d ∷ ds) rest n h some e small l =
    let p : piece_of ((d ∷ ds) ++ 76 ∷ rest) ≡ Lexeme (Integer (pos n) true) (suc (length ds) + 1) = digits_piece d ds (76 ∷ rest) n true h e small l refl refl in
    let k : suc (length ds) + 1 ≡ length ((d ∷ ds) ++ 76 ∷ []) = omega (arith, length_marked ds) in
    subst (λ (x : List ℕ). Whole x rest (Integer (pos n) true ∷ [])) (append-nil ((d ∷ ds) ++ 76 ∷ [])) (token ((d ∷ ds) ++ 76 ∷ []) [] (omega (arith, k)) (ap piece_of (marked_append (d ∷ ds) rest) ∙ p ∙ ap (λ (j : ℕ). Lexeme (Integer (pos n) true) j) k) none)

small_enough : (n : ℕ) → n < 2 ^ 63 → n < 2 ^ 64
small_enough n h = omega arith

pub plain_reads : (n : ℕ) → n < 2 ^ 63 → Reads (decimal n) (Integer (pos n) false ∷ [])
plain_reads n small =
    let big : n < 2 ^ 64 = small_enough n small in
    record { by = λ rest s. whole_digits (decimal n) rest n (digits_decimal own n big) (decimal_nonempty n big) (digits_value-decimal own n big) small (leads_well n big) s }

pub marked_reads : (n : ℕ) → n < 2 ^ 63 → Reads (decimal n ++ 76 ∷ []) (Integer (pos n) true ∷ [])
marked_reads n small =
    let big : n < 2 ^ 64 = small_enough n small in
    record { by = λ rest s. whole_marked (decimal n) rest n (digits_decimal own n big) (decimal_nonempty n big) (digits_value-decimal own n big) small (leads_well n big) }

-- what a number's digits begin with
abbrev pub begins_digit : List ℕ → Bool
begins_digit [] = false
begins_digit (d ∷ ds) = is_digit d

first_digit : (ds : List ℕ) → are_digits ds ≡ true → 0 < length ds → begins_digit ds ≡ true
first_digit [] h some = absurd (omega arith)
first_digit (d ∷ ds) h some = (both_true (is_digit d) (are_digits ds) h).0

pub decimal_begins : (n : ℕ) → n < 2 ^ 63 → begins_digit (decimal n) ≡ true
decimal_begins n small = let big : n < 2 ^ 64 = small_enough n small in first_digit (decimal n) (digits_decimal own n big) (decimal_nonempty n big)
