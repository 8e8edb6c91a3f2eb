-- Characters of a text in quotes: the reader is exact.
use Rattle.std.proofs.Common.{◌≡◌, ℕ, ◌+◌, ◌-◌, ◌*◌, ◌/◌, ◌%◌, ◌≤◌, ◌<◌, Bool, true, false, cond, not, zero, suc, ltb, leb, ◌&&◌, List, [], ◌∷◌, ◌++◌, Option, Some, None, refl, sym, ap, subst, ◌∙◌, arith, inl, inr, ◌⊎◌}
use Rattle.std.specs.Prelude.{◌≢◌, nat_eq, nat_lt}
use Rattle.std.specs.Char.{encode_utf8, IsScalar}
use Rattle.std.specs.Str.Lossy.{second_byte_min, second_byte_max}
use Rattle.std.proofs.lemmas.Bool.{ltb-true, lt-ltb, le-ltb, le-leb, eqb-true, eqb-false, cases_lt, or_parts}
use Rattle.std.proofs.lemmas.Bool.Decides.{nat_tests}
use lib.Utf8.{scalar_cases, low_scalar}
use Rattle.readers.specs.Reading.{first_passes, either}
use Rattle.readers.proofs.Again.{Any}
use Rattle.qbs_base.specs.Literal.{escaped}
use Rattle.qbs_base.proofs.Escapes.{plain_char}
use Rattle.text_readers.proofs.Exact.{Exact, exact_byte, exact_both, exact_made, exact_either}
use Rattle.scalar_readers.specs.Chars.{char_text, unescaped, escape_at, is_escaped, plain, plain_at, further_at, second_at, two_of, two_at, three_of, three_at, four_of, four_at, is_backslash, is_below, char_at}
use Rattle.scalar_readers.proofs.ExactChoices.{exact_token, IsBetween, exact_between, exact_then}

-- ---- escapes

data IsEscape : ℕ → Type 0 where
  quote : IsEscape 34
  backslash : IsEscape 92
  feed : IsEscape 10
  back : IsEscape 13
  tab : IsEscape 9

sign_of : ℕ → ℕ
sign_of c = cond (nat_eq c 10) 110 (cond (nat_eq c 13) 114 (cond (nat_eq c 9) 116 c))

abbrev IsSign : ℕ → ℕ → Type 0
IsSign k v = (sign_of v ∷ [] ≡ k ∷ []) × IsEscape v

sign_case : (k v t x : ℕ) (rest : Option ℕ) → IsSign k v → cond (nat_eq t k) (Some v) rest ≡ Some x → (rest ≡ Some x → IsSign t x) → IsSign t x
sign_case k v t x rest sign e others = by_test (nat_eq t k) refl e
  where
    some_is : (m n : ℕ) → Some m ≡ Some n → m ≡ n
    some_is m n e = cc

    by_test : (b : Bool) → nat_eq t k ≡ b → cond b (Some v) rest ≡ Some x → IsSign t x
    by_test true p e = subst (λ (c : ℕ). IsSign c x) (sym (eqb-true t k p)) (subst (λ (y : ℕ). IsSign k y) (some_is v x e) sign)
    by_test false p e = others e

sign_is : (t x : ℕ) → unescaped t ≡ Some x → IsSign t x
unfolding sign_of
sign_is t x e =
    sign_case 34 34 t x _ (refl, quote) e (λ e.
    sign_case 92 92 t x _ (refl, backslash) e (λ e.
    sign_case 110 10 t x _ (refl, feed) e (λ e.
    sign_case 114 13 t x _ (refl, back) e (λ e.
    sign_case 116 9 t x _ (refl, tab) e (λ e. absurd cc)))))

sign_back : (x : ℕ) → IsEscape x → (t : ℕ) × (sign_of x ∷ [] ≡ t ∷ []) × (unescaped t ≡ Some x)
unfolding sign_of
sign_back _ quote = (34, refl, refl)
sign_back _ backslash = (92, refl, refl)
sign_back _ feed = (110, refl, refl)
sign_back _ back = (114, refl, refl)
sign_back _ tab = (116, refl, refl)

escape_text : (c : ℕ) → IsEscape c → char_text c ≡ 92 ∷ sign_of c ∷ []
unfolding sign_of encode_utf8
escape_text _ quote = refl
escape_text _ backslash = refl
escape_text _ feed = refl
escape_text _ back = refl
escape_text _ tab = refl

exact_escape : Exact char_text IsEscape Any escape_at
unfolding escape_at
exact_escape =
    exact_made char_text IsEscape (λ x. x.1) (exact_both (exact_byte 92) (exact_token (λ c. sign_of c ∷ []) IsEscape unescaped sign_is sign_back 34 quote) (λ y rest h g. tt))
    (λ x h. (sym (escape_text x.1 h.1), h.1)) (λ c h. ((tt, c), refl, escape_text c h, (tt, h)))

-- ---- characters that no escape stands for

unlike : (c b : ℕ) → nat_eq c b ≡ false → c ≢ b
unlike c b e = eqb-false c b e

text_of : (c : ℕ) → is_escaped c ≡ false → char_text c ≡ encode_utf8 c
text_of c e =
    let a = or_parts (nat_eq c 34) _ e in
    let b = or_parts (nat_eq c 92) _ a.1 in
    let d = or_parts (nat_eq c 10) _ b.1 in
    let f = or_parts (nat_eq c 13) _ d.1 in
    plain_char c (unlike c 34 a.0) (unlike c 92 b.0) (unlike c 10 d.0) (unlike c 13 f.0) (unlike c 9 f.1)

differs : (c b : ℕ) → 128 ≤ c → b < 128 → nat_eq c b ≡ false
differs c b le lt = grind (arith, nat_tests)

long_plain : (c : ℕ) → 128 ≤ c → is_escaped c ≡ false
long_plain c le = rw (differs c 34 le (omega arith), differs c 92 le (omega arith), differs c 10 le (omega arith), differs c 13 le (omega arith), differs c 9 le (omega arith)) refl

-- ---- characters of one byte

abbrev IsPlain : ℕ → Type 0
IsPlain c = (c < 128) × (is_escaped c ≡ false)

one_byte : (c : ℕ) → IsPlain c → char_text c ≡ c ∷ []
unfolding encode_utf8
one_byte c h = text_of c h.1 ∙ rw (lt-ltb c 128 h.0) refl

plain_is : (t x : ℕ) → plain t ≡ Some x → (char_text x ≡ t ∷ []) × IsPlain x
plain_is t x e = by_test (nat_lt t 128) (is_escaped t) refl refl e
  where
    some_is : (m n : ℕ) → Some m ≡ Some n → m ≡ n
    some_is m n e = cc

    by_test : (v w : Bool) → nat_lt t 128 ≡ v → is_escaped t ≡ w → cond (v && not w) (Some t) None ≡ Some x → (char_text x ≡ t ∷ []) × IsPlain x
    by_test true false p q e =
        let h : IsPlain t = (ltb-true t 128 p, q) in
        subst (λ (y : ℕ). (char_text y ≡ t ∷ []) × IsPlain y) (some_is t x e) (one_byte t h, h)
    by_test true true p q e = absurd cc
    by_test false w p q e = absurd cc

plain_of : (c : ℕ) → IsPlain c → plain c ≡ Some c
plain_of c h = rw (lt-ltb c 128 h.0, h.1) refl

exact_plain : Exact char_text IsPlain Any plain_at
unfolding plain_at
exact_plain = exact_token char_text IsPlain plain plain_is (λ x h. (x, one_byte x h, plain_of x h)) 48 (omega arith, refl)

-- ---- further bytes

abbrev IsFurther : ℕ → Type 0
IsFurther b = IsBetween 128 191 b

exact_further : Exact (λ b. b ∷ []) IsFurther Any further_at
unfolding further_at
exact_further = exact_between 128 191 (omega arith)

abbrev IsSecond : ℕ → ℕ → Type 0
IsSecond a b = IsBetween (second_byte_min a) (second_byte_max a) b

-- what second bytes are: further bytes, and fewer behind four first bytes
pub record Seconds (a b : ℕ) : Type 0 where
  pub low : 128 ≤ b
  pub high : b ≤ 191
  pub three : a ≡ 224 → 160 ≤ b
  pub surrogate : a ≡ 237 → b ≤ 159
  pub four : a ≡ 240 → 144 ≤ b
  pub last : a ≡ 244 → b ≤ 143

lows : (a b : ℕ) → second_byte_min a ≤ b → (128 ≤ b) × (a ≡ 224 → 160 ≤ b) × (a ≡ 240 → 144 ≤ b)
lows a b h = by_test (nat_eq a 224) (nat_eq a 240) refl refl h
  where
    by_test : (s t : Bool) → nat_eq a 224 ≡ s → nat_eq a 240 ≡ t → cond s 160 (cond t 144 128) ≤ b → (128 ≤ b) × (a ≡ 224 → 160 ≤ b) × (a ≡ 240 → 144 ≤ b)
    by_test true t p q h = (omega (arith, h), λ e. h, λ e. omega (arith, h))
    by_test false true p q h = (omega (arith, h), λ e. absurd (eqb-false a 224 p e), λ e. h)
    by_test false false p q h = (h, λ e. absurd (eqb-false a 224 p e), λ e. absurd (eqb-false a 240 q e))

highs : (a b : ℕ) → b ≤ second_byte_max a → (b ≤ 191) × (a ≡ 237 → b ≤ 159) × (a ≡ 244 → b ≤ 143)
highs a b h = by_test (nat_eq a 237) (nat_eq a 244) refl refl h
  where
    by_test : (s t : Bool) → nat_eq a 237 ≡ s → nat_eq a 244 ≡ t → b ≤ cond s 159 (cond t 143 191) → (b ≤ 191) × (a ≡ 237 → b ≤ 159) × (a ≡ 244 → b ≤ 143)
    by_test true t p q h = (omega (arith, h), λ e. h, λ e. absurd (omega (arith, e, eqb-true a 237 p)))
    by_test false true p q h = (omega (arith, h), λ e. absurd (eqb-false a 237 p e), λ e. h)
    by_test false false p q h = (h, λ e. absurd (eqb-false a 237 p e), λ e. absurd (eqb-false a 244 q e))

pub second_is : (a b : ℕ) → IsSecond a b → Seconds a b
second_is a b h = let l = lows a b h.0 in let u = highs a b h.1 in record { low = l.0; high = u.0; three = l.1; surrogate = u.1; four = l.2; last = u.2 }

second_of : (a b : ℕ) → Seconds a b → IsSecond a b
second_of a b h = (low (nat_eq a 224) (nat_eq a 240) refl refl, high (nat_eq a 237) (nat_eq a 244) refl refl)
  where
    low : (s t : Bool) → nat_eq a 224 ≡ s → nat_eq a 240 ≡ t → cond s 160 (cond t 144 128) ≤ b
    low true t p q = h.three (eqb-true a 224 p)
    low false true p q = h.four (eqb-true a 240 q)
    low false false p q = h.low

    high : (s t : Bool) → nat_eq a 237 ≡ s → nat_eq a 244 ≡ t → b ≤ cond s 159 (cond t 143 191)
    high true t p q = h.surrogate (eqb-true a 237 p)
    high false true p q = h.last (eqb-true a 244 q)
    high false false p q = h.high

ordered : (a : ℕ) → second_byte_min a ≤ second_byte_max a
ordered a = by_test (nat_eq a 224) (nat_eq a 240) (nat_eq a 237) (nat_eq a 244) refl refl refl refl
  where
    by_test : (s t u v : Bool) → nat_eq a 224 ≡ s → nat_eq a 240 ≡ t → nat_eq a 237 ≡ u → nat_eq a 244 ≡ v → cond s 160 (cond t 144 128) ≤ cond u 159 (cond v 143 191)
    by_test true t true v p q r w = absurd (omega (arith, eqb-true a 224 p, eqb-true a 237 r))
    by_test true t false true p q r w = absurd (omega (arith, eqb-true a 224 p, eqb-true a 244 w))
    by_test true t false false p q r w = omega arith
    by_test false true true v p q r w = omega arith
    by_test false true false true p q r w = absurd (omega (arith, eqb-true a 240 q, eqb-true a 244 w))
    by_test false true false false p q r w = omega arith
    by_test false false true v p q r w = omega arith
    by_test false false false true p q r w = omega arith
    by_test false false false false p q r w = omega arith

exact_second : (a : ℕ) → Exact (λ b. b ∷ []) (IsSecond a) Any (second_at a)
unfolding second_at
exact_second a = exact_between (second_byte_min a) (second_byte_max a) (ordered a)

-- ---- characters of two bytes

abbrev IsTwo : ℕ → Type 0
IsTwo c = (128 ≤ c) × (c < 2048)

two_bytes : (c : ℕ) → IsTwo c → char_text c ≡ (192 + c / 64) ∷ (128 + c % 64) ∷ []
unfolding encode_utf8
two_bytes c h = text_of c (long_plain c h.0) ∙ rw (le-ltb c 128 h.0, lt-ltb c 2048 h.1) refl

two_to : (d e : ℕ) → 2 ≤ d → d < 32 → e < 64 → ((192 + d) ∷ (128 + e) ∷ [] ≡ char_text (d * 64 + e)) × IsTwo (d * 64 + e)
two_to d e low high small =
    let h : IsTwo (d * 64 + e) = (omega arith, omega arith) in
    let p : (d * 64 + e) / 64 ≡ d = omega arith in
    let q : (d * 64 + e) % 64 ≡ e = omega arith in
    (sym (two_bytes (d * 64 + e) h ∙ rw (p, q) refl), h)

exact_two : Exact char_text IsTwo Any two_at
unfolding two_at
exact_two = exact_made char_text IsTwo two_of (exact_both (exact_between 194 223 (omega arith)) exact_further (λ y rest h g. tt)) to back
  where
    to : (x : ℕ × ℕ) → IsBetween 194 223 x.0 × IsFurther x.1 → (x.0 ∷ x.1 ∷ [] ≡ char_text (two_of x)) × IsTwo (two_of x)
    to x h =
        let a : x.0 ≡ 192 + (x.0 - 192) = omega (arith, h.0.0) in
        let b : x.1 ≡ 128 + (x.1 - 128) = omega (arith, h.1.0) in
        let t = two_to (x.0 - 192) (x.1 - 128) (omega (arith, h.0.0)) (omega (arith, h.0.1)) (omega (arith, h.1.1)) in
        (ap (λ (n : ℕ). n ∷ x.1 ∷ []) a ∙ ap (λ (n : ℕ). (192 + (x.0 - 192)) ∷ n ∷ []) b ∙ t.0, t.1)

    back : (c : ℕ) → IsTwo c → (x : ℕ × ℕ) × (two_of x ≡ c) × (char_text c ≡ x.0 ∷ x.1 ∷ []) × (IsBetween 194 223 x.0 × IsFurther x.1)
    back c h = ((192 + c / 64, 128 + c % 64), omega arith, two_bytes c h, ((omega (arith, h.0), omega (arith, h.1)), (omega arith, omega arith)))

-- ---- characters of three bytes

abbrev IsThree : ℕ → Type 0
IsThree c = (2048 ≤ c) × (c < 65536) × IsScalar c

three_bytes : (c : ℕ) → 2048 ≤ c → c < 65536 → char_text c ≡ (224 + c / 4096) ∷ (128 + (c / 64) % 64) ∷ (128 + c % 64) ∷ []
unfolding encode_utf8
three_bytes c low high = text_of c (long_plain c (omega arith)) ∙ rw (le-ltb c 128 (omega arith), le-ltb c 2048 low, lt-ltb c 65536 high) refl

scalar_high : (c : ℕ) → 57344 ≤ c → c < 1114112 → IsScalar c
scalar_high c low high = by_test (ltb c 55296) refl
  where
    by_test : (v : Bool) → ltb c 55296 ≡ v → cond v true (leb 57344 c && ltb c 1114112) ≡ true
    by_test true p = refl
    by_test false p = rw (le-leb 57344 c low, lt-ltb c 1114112 high) refl

three_scalar : (d e f : ℕ) → d < 16 → e < 64 → f < 64 → (d ≡ 13 → e < 32) → IsScalar (d * 4096 + (e * 64 + f))
three_scalar d e f small mid last sur = elim (cases_lt d 13) [
  | inl h ↦ low_scalar (d * 4096 + (e * 64 + f)) (omega (arith, h))
  | inr h ↦ elim (cases_lt 13 d) [
    | inl k ↦ scalar_high (d * 4096 + (e * 64 + f)) (omega (arith, k)) (omega arith)
    | inr k ↦ let m : e < 32 = sur (omega (arith, h, k)) in low_scalar (d * 4096 + (e * 64 + f)) (omega (arith, h, k, m))
  ]
]

three_floor : (d e f : ℕ) → (d ≡ 0 → 32 ≤ e) → 2048 ≤ d * 4096 + (e * 64 + f)
three_floor zero e f low = let l : 32 ≤ e = low refl in omega (arith, l)
three_floor (suc d) e f low = omega arith

three_parts : (d e f c : ℕ) → e < 64 → f < 64 → c ≡ d * 4096 + (e * 64 + f) → (c / 4096 ≡ d) × ((c / 64) % 64 ≡ e) × (c % 64 ≡ f)
three_parts d e f c mid last is = (omega arith, omega arith, omega arith)

three_to : (d e f : ℕ) → d < 16 → e < 64 → f < 64 → (d ≡ 0 → 32 ≤ e) → (d ≡ 13 → e < 32) → ((224 + d) ∷ (128 + e) ∷ (128 + f) ∷ [] ≡ char_text (d * 4096 + (e * 64 + f))) × IsThree (d * 4096 + (e * 64 + f))
three_to d e f small mid last low sur =
    let l = three_floor d e f low in
    let u : d * 4096 + (e * 64 + f) < 65536 = omega (arith, small, mid, last) in
    let p = three_parts d e f (d * 4096 + (e * 64 + f)) mid last refl in
    (sym (three_bytes (d * 4096 + (e * 64 + f)) l u ∙ rw (p.0, p.1, p.2) refl), (l, u, three_scalar d e f small mid last sur))

three_seconds : (c : ℕ) → IsThree c → Seconds (224 + c / 4096) (128 + (c / 64) % 64)
three_seconds c h = record {
  low = omega arith;
  high = omega arith;
  three = λ e. omega (arith, e, h.0);
  surrogate = λ e. elim (scalar_cases c h.2) [ inl k ↦ omega (arith, e, k) | inr k ↦ absurd (omega (arith, e, k.0)) ];
  four = λ e. absurd (omega (arith, e, h.1));
  last = λ e. absurd (omega (arith, e, h.1));
}

three_back : (c : ℕ) → three_of (224 + c / 4096, (128 + (c / 64) % 64, 128 + c % 64)) ≡ c
three_back c = omega arith

exact_three : Exact char_text IsThree Any three_at
unfolding three_at
exact_three = exact_made char_text IsThree three_of (exact_then (exact_between 224 239 (omega arith)) (λ a. exact_both (exact_second a) exact_further (λ y rest h g. tt)) (λ x y rest h k g. tt)) to back
  where
    to : (x : ℕ × (ℕ × ℕ)) → IsBetween 224 239 x.0 × (IsSecond x.0 x.1.0 × IsFurther x.1.1) → (x.0 ∷ x.1.0 ∷ x.1.1 ∷ [] ≡ char_text (three_of x)) × IsThree (three_of x)
    to x h =
        let s = second_is x.0 x.1.0 h.1.0 in
        let a : x.0 ≡ 224 + (x.0 - 224) = omega (arith, h.0.0) in
        let b : x.1.0 ≡ 128 + (x.1.0 - 128) = omega (arith, s.low) in
        let d : x.1.1 ≡ 128 + (x.1.1 - 128) = omega (arith, h.1.1.0) in
        let t = three_to (x.0 - 224) (x.1.0 - 128) (x.1.1 - 128) (omega (arith, h.0.1)) (omega (arith, s.high)) (omega (arith, h.1.1.1))
        (λ e. let k : 160 ≤ x.1.0 = s.three (omega (arith, a, e)) in omega (arith, k)) (λ e. let k : x.1.0 ≤ 159 = s.surrogate (omega (arith, a, e)) in omega (arith, k)) in
        (ap (λ (n : ℕ). n ∷ x.1.0 ∷ x.1.1 ∷ []) a ∙ ap (λ (n : ℕ). (224 + (x.0 - 224)) ∷ n ∷ x.1.1 ∷ []) b ∙ ap (λ (n : ℕ). (224 + (x.0 - 224)) ∷ (128 + (x.1.0 - 128)) ∷ n ∷ []) d ∙ t.0, t.1)

    back : (c : ℕ) → IsThree c → (x : ℕ × (ℕ × ℕ)) × (three_of x ≡ c) × (char_text c ≡ x.0 ∷ x.1.0 ∷ x.1.1 ∷ []) × (IsBetween 224 239 x.0 × (IsSecond x.0 x.1.0 × IsFurther x.1.1))
    back c h = (
      (224 + c / 4096, (128 + (c / 64) % 64, 128 + c % 64)),
      three_back c,
      three_bytes c h.0 h.1,
      ((omega arith, omega (arith, h.1)), (second_of (224 + c / 4096) (128 + (c / 64) % 64) (three_seconds c h), (omega arith, omega arith))),
    )

-- ---- characters of four bytes

abbrev IsFour : ℕ → Type 0
IsFour c = (65536 ≤ c) × (c < 1114112)

four_bytes : (c : ℕ) → IsFour c → char_text c ≡ (240 + c / 262144) ∷ (128 + (c / 4096) % 64) ∷ (128 + (c / 64) % 64) ∷ (128 + c % 64) ∷ []
unfolding encode_utf8
four_bytes c h = text_of c (long_plain c (omega (arith, h.0))) ∙ rw (le-ltb c 128 (omega (arith, h.0)), le-ltb c 2048 (omega (arith, h.0)), le-ltb c 65536 h.0) refl

four_floor : (d e f : ℕ) → (d ≡ 0 → 16 ≤ e) → 65536 ≤ d * 262144 + (e * 4096 + f)
four_floor zero e f low = let l : 16 ≤ e = low refl in omega (arith, l)
four_floor (suc d) e f low = omega arith

four_ceiling : (d e f : ℕ) → d < 5 → e < 64 → f < 4096 → (d ≡ 4 → e < 16) → d * 262144 + (e * 4096 + f) < 1114112
four_ceiling d e f small mid last top = elim (cases_lt d 4) [
  | inl h ↦ omega (arith, h)
  | inr h ↦ let l : e < 16 = top (omega (arith, h)) in omega (arith, l)
]

four_parts : (d e f g c : ℕ) → e < 64 → f < 64 → g < 64 → c ≡ d * 262144 + (e * 4096 + (f * 64 + g)) → (c / 262144 ≡ d) × ((c / 4096) % 64 ≡ e) × ((c / 64) % 64 ≡ f) × (c % 64 ≡ g)
four_parts d e f g c second third last is = (omega arith, omega arith, omega arith, omega arith)

four_to : (d e f g : ℕ) → d < 5 → e < 64 → f < 64 → g < 64 → (d ≡ 0 → 16 ≤ e) → (d ≡ 4 → e < 16)
    → ((240 + d) ∷ (128 + e) ∷ (128 + f) ∷ (128 + g) ∷ [] ≡ char_text (d * 262144 + (e * 4096 + (f * 64 + g)))) × IsFour (d * 262144 + (e * 4096 + (f * 64 + g)))
four_to d e f g small second third last low top =
    let h : IsFour (d * 262144 + (e * 4096 + (f * 64 + g))) = (four_floor d e (f * 64 + g) low, four_ceiling d e (f * 64 + g) small second (omega (arith, third, last)) top) in
    let p = four_parts d e f g (d * 262144 + (e * 4096 + (f * 64 + g))) second third last refl in
    (sym (four_bytes (d * 262144 + (e * 4096 + (f * 64 + g))) h ∙ rw (p.0, p.1, p.2, p.3) refl), h)

four_seconds : (c : ℕ) → IsFour c → Seconds (240 + c / 262144) (128 + (c / 4096) % 64)
four_seconds c h = record {
  low = omega arith;
  high = omega arith;
  three = λ e. absurd (omega (arith, e));
  surrogate = λ e. absurd (omega (arith, e));
  four = λ e. omega (arith, e, h.0);
  last = λ e. omega (arith, e, h.1);
}

four_back : (c : ℕ) → four_of (240 + c / 262144, (128 + (c / 4096) % 64, (128 + (c / 64) % 64, 128 + c % 64))) ≡ c
four_back c = omega arith

exact_four : Exact char_text IsFour Any four_at
unfolding four_at
exact_four = exact_made char_text IsFour four_of (exact_then (exact_between 240 244 (omega arith)) (λ a. exact_both (exact_second a) (exact_both exact_further exact_further (λ y rest h g. tt)) (λ y rest h g. tt)) (λ x y rest h k g. tt)) to back
  where
    to : (x : ℕ × (ℕ × (ℕ × ℕ))) → IsBetween 240 244 x.0 × (IsSecond x.0 x.1.0 × (IsFurther x.1.1.0 × IsFurther x.1.1.1)) → (x.0 ∷ x.1.0 ∷ x.1.1.0 ∷ x.1.1.1 ∷ [] ≡ char_text (four_of x)) × IsFour (four_of x)
    to x h =
        let s = second_is x.0 x.1.0 h.1.0 in
        let a : x.0 ≡ 240 + (x.0 - 240) = omega (arith, h.0.0) in
        let b : x.1.0 ≡ 128 + (x.1.0 - 128) = omega (arith, s.low) in
        let d : x.1.1.0 ≡ 128 + (x.1.1.0 - 128) = omega (arith, h.1.1.0.0) in
        let f : x.1.1.1 ≡ 128 + (x.1.1.1 - 128) = omega (arith, h.1.1.1.0) in
        let t = four_to (x.0 - 240) (x.1.0 - 128) (x.1.1.0 - 128) (x.1.1.1 - 128) (omega (arith, h.0.1)) (omega (arith, s.high)) (omega (arith, h.1.1.0.1)) (omega (arith, h.1.1.1.1))
        (λ e. let k : 144 ≤ x.1.0 = s.four (omega (arith, a, e)) in omega (arith, k)) (λ e. let k : x.1.0 ≤ 143 = s.last (omega (arith, a, e)) in omega (arith, k)) in (
          ap (λ (n : ℕ). n ∷ x.1.0 ∷ x.1.1.0 ∷ x.1.1.1 ∷ []) a ∙ ap (λ (n : ℕ). (240 + (x.0 - 240)) ∷ n ∷ x.1.1.0 ∷ x.1.1.1 ∷ []) b
              ∙ ap (λ (n : ℕ). (240 + (x.0 - 240)) ∷ (128 + (x.1.0 - 128)) ∷ n ∷ x.1.1.1 ∷ []) d ∙ ap (λ (n : ℕ). (240 + (x.0 - 240)) ∷ (128 + (x.1.0 - 128)) ∷ (128 + (x.1.1.0 - 128)) ∷ n ∷ []) f ∙ t.0,
          t.1,
        )

    back : (c : ℕ) → IsFour c → (x : ℕ × (ℕ × (ℕ × ℕ))) × (four_of x ≡ c) × (char_text c ≡ x.0 ∷ x.1.0 ∷ x.1.1.0 ∷ x.1.1.1 ∷ []) × (IsBetween 240 244 x.0 × (IsSecond x.0 x.1.0 × (IsFurther x.1.1.0 × IsFurther x.1.1.1)))
    back c h = (
      (240 + c / 262144, (128 + (c / 4096) % 64, (128 + (c / 64) % 64, 128 + c % 64))),
      four_back c,
      four_bytes c h,
      ((omega arith, omega (arith, h.1)), (second_of (240 + c / 262144) (128 + (c / 4096) % 64) (four_seconds c h), ((omega arith, omega arith), (omega arith, omega arith)))),
    )

-- ---- all characters

abbrev IsLonger : ℕ → Type 0
IsLonger c = (2048 ≤ c) × IsScalar c

abbrev IsLong : ℕ → Type 0
IsLong c = (128 ≤ c) × IsScalar c

abbrev IsUnescaped : ℕ → Type 0
IsUnescaped c = (is_escaped c ≡ false) × IsScalar c

high_end : (c : ℕ) → IsScalar c → c < 1114112
high_end c h = elim (scalar_cases c h) [ inl k ↦ omega (arith, k) | inr k ↦ k.1 ]

heads : (text : List ℕ) (limit b : ℕ) (bs rest : List ℕ) → text ≡ b ∷ bs → b < limit → first_passes (is_below limit) (text ++ rest) ≡ true
heads text limit b bs rest is lt = ap (λ (us : List ℕ). first_passes (is_below limit) (us ++ rest)) is ∙ lt-ltb b limit lt

heads_above : (text : List ℕ) (limit b : ℕ) (bs rest : List ℕ) → text ≡ b ∷ bs → limit ≤ b → first_passes (is_below limit) (text ++ rest) ≡ false
heads_above text limit b bs rest is le = ap (λ (us : List ℕ). first_passes (is_below limit) (us ++ rest)) is ∙ le-ltb b limit le

exact_longer : Exact char_text IsLonger Any (λ ts. either (is_below 240) three_at four_at ts)
exact_longer =
    exact_either IsLonger (is_below 240) exact_three exact_four (λ c h. (h.0, h.2)) (λ c h. (omega (arith, h.0), scalar_high c (omega (arith, h.0)) h.1))
    (λ c h. elim (cases_lt c 65536) [ inl k ↦ inl (h.0, k, h.1) | inr k ↦ inr (k, high_end c h.1) ])
    (λ c rest h. heads (char_text c) 240 _ _ rest (three_bytes c h.0 h.1) (omega (arith, h.1))) (λ c rest h. heads_above (char_text c) 240 _ _ rest (four_bytes c h) (omega arith)) Any (λ rest h. tt) (λ rest h. tt)

-- the first byte of a longer character
longer_head : (c : ℕ) → IsLonger c → (b : ℕ) × (bs : List ℕ) × (char_text c ≡ b ∷ bs) × (224 ≤ b)
longer_head c h = elim (cases_lt c 65536) [
  | inl k ↦ (224 + c / 4096, _, three_bytes c h.0 k, omega arith)
  | inr k ↦ (240 + c / 262144, _, four_bytes c (k, high_end c h.1), omega arith)
]

exact_long : Exact char_text IsLong Any (λ ts. either (is_below 224) two_at (either (is_below 240) three_at four_at) ts)
exact_long =
    exact_either IsLong (is_below 224) exact_two exact_longer (λ c h. (h.0, low_scalar c (omega (arith, h.1)))) (λ c h. (omega (arith, h.0), h.1))
    (λ c h. elim (cases_lt c 2048) [ inl k ↦ inl (h.0, k) | inr k ↦ inr (k, h.1) ])
    (λ c rest h. heads (char_text c) 224 _ _ rest (two_bytes c h) (omega (arith, h.1))) (λ c rest h. let l = longer_head c h in heads_above (char_text c) 224 l.0 l.1 rest l.2 l.3) Any (λ rest h. tt) (λ rest h. tt)

long_head : (c : ℕ) → IsLong c → (b : ℕ) × (bs : List ℕ) × (char_text c ≡ b ∷ bs) × (128 ≤ b)
long_head c h = elim (cases_lt c 2048) [
  | inl k ↦ (192 + c / 64, _, two_bytes c (h.0, k), omega arith)
  | inr k ↦ let l = longer_head c (k, h.1) in (l.0, l.1, l.2, omega (arith, l.3))
]

exact_unescaped : Exact char_text IsUnescaped Any (λ ts. either (is_below 128) plain_at (either (is_below 224) two_at (either (is_below 240) three_at four_at)) ts)
exact_unescaped =
    exact_either IsUnescaped (is_below 128) exact_plain exact_long (λ c h. (h.1, low_scalar c (omega (arith, h.0)))) (λ c h. (long_plain c h.0, h.1))
    (λ c h. elim (cases_lt c 128) [ inl k ↦ inl (k, h.0) | inr k ↦ inr (k, h.1) ])
    (λ c rest h. heads (char_text c) 128 c [] rest (one_byte c h) h.0) (λ c rest h. let l = long_head c h in heads_above (char_text c) 128 l.0 l.1 rest l.2 l.3) Any (λ rest h. tt) (λ rest h. tt)

unescaped_head : (c : ℕ) → IsUnescaped c → (b : ℕ) × (bs : List ℕ) × (char_text c ≡ b ∷ bs) × (nat_eq b 34 ≡ false) × (nat_eq b 92 ≡ false)
unescaped_head c h = elim (cases_lt c 128) [
  | inl k ↦
      let a = or_parts (nat_eq c 34) _ h.0 in
      let b = or_parts (nat_eq c 92) _ a.1 in
      (c, [], one_byte c (k, h.0), a.0, b.0)
  | inr k ↦ let l = long_head c (k, h.1) in (l.0, l.1, l.2, differs l.0 34 l.3 (omega arith), differs l.0 92 l.3 (omega arith))
]

escape_scalar : (c : ℕ) → IsEscape c → IsScalar c
escape_scalar _ quote = refl
escape_scalar _ backslash = refl
escape_scalar _ feed = refl
escape_scalar _ back = refl
escape_scalar _ tab = refl

-- each character is escaped or not
sorted : (c : ℕ) → IsScalar c → IsEscape c ⊎ IsUnescaped c
sorted c h = by_test (nat_eq c 34) (nat_eq c 92) (nat_eq c 10) (nat_eq c 13) (nat_eq c 9) refl refl refl refl refl
  where
    at : (k : ℕ) → IsEscape k → nat_eq c k ≡ true → IsEscape c ⊎ IsUnescaped c
    at k e p = inl (subst IsEscape (sym (eqb-true c k p)) e)

    by_test : (s t u v w : Bool) → nat_eq c 34 ≡ s → nat_eq c 92 ≡ t → nat_eq c 10 ≡ u → nat_eq c 13 ≡ v → nat_eq c 9 ≡ w → IsEscape c ⊎ IsUnescaped c
    by_test true t u v w a b d e f = at 34 quote a
    by_test false true u v w a b d e f = at 92 backslash b
    by_test false false true v w a b d e f = at 10 feed d
    by_test false false false true w a b d e f = at 13 back e
    by_test false false false false true a b d e f = at 9 tab f
    by_test false false false false false a b d e f = inr (rw (a, b, d, e, f) refl, h)

pub exact_char : Exact char_text IsScalar Any char_at
unfolding char_at
exact_char =
    exact_either IsScalar is_backslash exact_escape exact_unescaped escape_scalar (λ c h. h.1) sorted
    (λ c rest h. ap (λ (us : List ℕ). first_passes is_backslash (us ++ rest)) (escape_text c h))
    (λ c rest h. let l = unescaped_head c h in ap (λ (us : List ℕ). first_passes is_backslash (us ++ rest)) l.2 ∙ l.4) Any (λ rest h. tt) (λ rest h. tt)

-- no character begins with a quote
pub char_head : (c : ℕ) → IsScalar c → (b : ℕ) × (bs : List ℕ) × (char_text c ≡ b ∷ bs) × (nat_eq b 34 ≡ false)
char_head c h = elim (sorted c h) [
  | inl e ↦ (92, _, escape_text c e, refl)
  | inr u ↦ let l = unescaped_head c u in (l.0, l.1, l.2, l.3)
]
