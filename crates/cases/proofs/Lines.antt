-- What std's calls say of lines, in the words of specs/.
use Rattle.std.proofs.Common.{◌≡◌, ℕ, ◌+◌, ◌-◌, ◌^◌, ◌<◌, ◌≤◌, Bool, true, false, cond, List, [], ◌∷◌, ◌++◌, length, take, suc, refl, sym, ap, ◌∙◌, subst, append_assoc, arith}
use Rattle.std.specs.Prelude.{Option, Result, Ok, Err, Some, None, MatchOption, option_copied, nat_lt, nat_eq, ◌&&◌}
use Rattle.std.specs.List.{ends_with, repeat}
use Rattle.std.specs.Result.{result_unwrap_or}
use Rattle.std.specs.Str.Pattern.{FindsTextSuffix, StripsSuffix}
use Rattle.std.specs.Str.{IsCharBoundary, all_ascii_digits}
use Rattle.std.specs.Str.Parse.{IsNumeral, ParsesUnsigned, digits_value, without_leading_plus}
use Rattle.std.proofs.lemmas.Str.Pattern.{ends_text}
use Rattle.std.proofs.lemmas.Str.Parse.{IsNumeralModel, numerals_by_value, tells_all_ascii_digits}
use borrow.Author.Tests.{lt-ltb, ltb-true}
use denote.Ref.{Bor}
use Rattle.cases.specs.Lines.{before_end, is_number, number_in}

-- `strip_suffix` at a text
pub end_stripped : (n s : List ℕ) (r : Option (Bor (List ℕ))) → MatchOption r (FindsTextSuffix n s None) (λ x. StripsSuffix (FindsTextSuffix n) s x.now) → option_copied r ≡ before_end n s
end_stripped n s None h = ap (λ b. cond b (Some (take (length s - length n) s)) None) (ends_text false n s h)
end_stripped n s (Some x) (k, finds, value, fits) =
    let size : k ≡ length n = finds.0 in
    let test : true ≡ ends_with nat_eq s n =
    ends_text true n s (k, finds, omega arith, subst (λ m. IsCharBoundary s (length s - m)) (sym size) finds.2)
    in
    ap Some (value ∙ ap (λ m. take (length s - m) s) size) ∙ ap (λ b. cond b (Some (take (length s - length n) s)) None) test

-- `parse`, and 0 where it fails
own : IsNumeralModel (λ ds. all_ascii_digits ds ≡ true) (digits_value 10)
own = numerals_by_value _ tells_all_ascii_digits

number_is : (ds : List ℕ) → IsNumeral 10 ds → digits_value 10 ds < 2 ^ 64 → is_number ds ≡ true
number_is [] h small = absurd (omega (arith, h.0))
number_is (d ∷ ds) h small = rw (own.from (d ∷ ds) h.1, lt-ltb (digits_value 10 (d ∷ ds)) (2 ^ 64) small)

both_true : (a b : Bool) → a && b ≡ true → (a ≡ true) × (b ≡ true)
both_true true b e = (refl, e)
both_true false b e = absurd (cc)

is_it_number : (ds : List ℕ) → is_number ds ≡ true → IsNumeral 10 ds × (digits_value 10 ds < 2 ^ 64)
is_it_number [] e = absurd (cc)
is_it_number (d ∷ ds) e =
    let parts = both_true (all_ascii_digits (d ∷ ds)) (nat_lt (digits_value 10 (d ∷ ds)) (2 ^ 64)) e in
    ((omega arith, own.to (d ∷ ds) parts.0), ltb-true (digits_value 10 (d ∷ ds)) (2 ^ 64) parts.1)

none_parsed : (b : Bool) (n : ℕ) → (b ≡ true → ⊥) → 0 ≡ cond b n 0
none_parsed true n h = absurd (h refl)
none_parsed false n h = refl

pub number_parsed : {E : Type 0} (bs : List ℕ) (r : Result ℕ E) → ParsesUnsigned 64 10 bs r → result_unwrap_or r 0 ≡ number_in bs
number_parsed bs (Ok n) h =
    let ds = without_leading_plus bs in
    h.1 ∙ ap (λ b. cond b (digits_value 10 ds) 0) (sym (number_is ds h.0.0 h.0.1))
number_parsed bs (Err e) h =
    let ds = without_leading_plus bs in
    none_parsed (is_number ds) (digits_value 10 ds) (λ t. h (is_it_number ds t))

-- a piece that stands more often
pub repeat_more : (i n : ℕ) (xs bs : List ℕ) → i < n → (bs ++ xs) ++ repeat (n - (i + 1)) xs ≡ bs ++ repeat (n - i) xs
repeat_more i n xs bs l =
    let e : n - i ≡ suc (n - (i + 1)) = omega arith in
    rw e (append_assoc bs xs (repeat (n - (i + 1)) xs))

pub repeat_none : (i n : ℕ) (xs : List ℕ) → n ≤ i → repeat (n - i) xs ≡ []
repeat_none i n xs l = let e : n - i ≡ 0 = omega arith in rw e
