-- What is spelled is read: tokens from bytes.
use Rattle.std.proofs.Common.{◌≡◌, ℕ, zero, suc, ◌+◌, ◌-◌, ◌<◌, ◌≤◌, Bool, true, false, ◌&&◌, ◌||◌, List, [], ◌∷◌, ◌++◌, length, take, drop, Option, Some, nat_eq, nat_le, refl, sym, ap, ◌∙◌, subst, arith, length-append}
use Rattle.std.specs.Char.{is_ascii_digit}
use Rattle.std.specs.List.{prefix_len, list_all}
use Rattle.std.proofs.lemmas.Bool.Decides.{nat_tests}
use Rattle.std.proofs.lemmas.List.{take_at, drop_at}
use Rattle.sql_ast.specs.declared.tree.Cmp.{Cmp}
use Rattle.sql_ast.specs.declared.tree.Cmp.TheVariants as tests
use Rattle.sql_ast.specs.Canonical.{doubled}
use Rattle.sql_ast.specs.Lexer.{onto, quoted_at, after_less, after_greater, token_at, tokens_in}
use Rattle.sql_ast.specs.Names.{◌>>=◌}
use Rattle.qbs_base.specs.Bytes.{is_white, is_name_start, is_name_part}
use Rattle.sql_ast.specs.Tokens.{Token, Word, Digits, Negative, Quoted, Param, Test, is_name, is_number, sign_of, HasSpelling, word, digits, negative, quoted, param, test, unlike, opened, closed, comma, dot, star, first_is, goes_on, HasTokens, nothing, blank, token}

both_true : (s t : Bool) → (s && t) ≡ true → (s ≡ true) × (t ≡ true)
both_true true true h = (refl, refl)
both_true false t h = absurd cc
both_true true false h = absurd cc

-- as far as a test passes
span : (p : ℕ → Bool) (cs bs : List ℕ) → list_all p cs ≡ true → first_is p bs ≡ false → prefix_len p (cs ++ bs) ≡ length cs
span p [] [] all stop = refl
span p [] (b ∷ bs) all stop = rw stop refl
span p (c ∷ cs) bs all stop =
    let a = both_true (p c) (list_all p cs) all in
    let later : prefix_len p (cs ++ bs) ≡ length cs = span p cs bs a.1 stop in
    rw a.0 (omega (arith, later))

pub front : (p : ℕ → Bool) (cs bs : List ℕ) → list_all p cs ≡ true → first_is p bs ≡ false → take (prefix_len p (cs ++ bs)) (cs ++ bs) ≡ cs
front p cs bs all stop = take_at cs bs (prefix_len p (cs ++ bs)) (sym (span p cs bs all stop))

pub back : (p : ℕ → Bool) (cs bs : List ℕ) → list_all p cs ≡ true → first_is p bs ≡ false → drop (prefix_len p (cs ++ bs)) (cs ++ bs) ≡ bs
back p cs bs all stop = drop_at cs bs (prefix_len p (cs ++ bs)) (sym (span p cs bs all stop))

digit_starts_none : (b : ℕ) → is_ascii_digit b ≡ true → is_name_start b ≡ false
digit_starts_none b h = grind (arith, nat_tests, h)

start_no_blank : (b : ℕ) → is_name_start b ≡ true → is_white b ≡ false
start_no_blank b h = grind (arith, nat_tests, h)

digit_no_blank : (b : ℕ) → is_ascii_digit b ≡ true → is_white b ≡ false
digit_no_blank b h = grind (arith, nat_tests, h)

same_nat : (m n : ℕ) → nat_eq m n ≡ true → m ≡ n
same_nat m n h = grind (arith, nat_tests)

other_byte : (c : ℕ) (bs : List ℕ) → nat_eq c 39 ≡ false → quoted_at (c ∷ bs) ≡ onto c (quoted_at bs)
other_byte c [] h = rw h refl
other_byte c (b ∷ bs) h = rw h refl

-- how a text's bytes are read
pub quoted_again : (text bs : List ℕ) → first_is (λ b. nat_eq b 39) bs ≡ false → quoted_at ((doubled text ++ 39 ∷ []) ++ bs) ≡ Some (text, bs)
quoted_again [] [] stop = refl
quoted_again [] (b ∷ bs) stop = rw stop refl
quoted_again (c ∷ text) bs stop = go (nat_eq c 39) refl (quoted_again text bs stop)
  where
    go : (v : Bool) → nat_eq c 39 ≡ v → quoted_at ((doubled text ++ 39 ∷ []) ++ bs) ≡ Some (text, bs) → quoted_at ((doubled (c ∷ text) ++ 39 ∷ []) ++ bs) ≡ Some (c ∷ text, bs)
    go true h again = rw h (ap (onto 39) again ∙ ap (λ (d : ℕ). let x : Option (List ℕ × List ℕ) = Some (d ∷ text, bs) in x) (sym (same_nat c 39 h)))
    go false h again = rw h (other_byte c ((doubled text ++ 39 ∷ []) ++ bs) h ∙ ap (onto c) again)

-- the first byte of a token is no white space, and the token is read from there
pub record Begins (us bs : List ℕ) (t : Token) : Type 0 where
  pub first : ℕ
  pub rest : List ℕ
  pub parts : us ≡ first ∷ rest
  pub no_blank : is_white first ≡ false
  pub read : token_at first (rest ++ bs) ≡ Some (t, bs)

abbrev pub one_token : Token → List ℕ → Option (Token × List ℕ)
one_token t bs = Some (t, bs)

word_again : (cs bs : List ℕ) → is_name cs ≡ true → goes_on (Word cs) bs ≡ false → Begins cs bs (Word cs)
word_again [] bs h stop = absurd cc
word_again (b ∷ cs) bs h stop =
    let a = both_true (is_name_start b) (list_all is_name_part cs) h in
    record {
      first = b;
      rest = cs;
      parts = refl;
      no_blank = start_no_blank b a.0;
      read = rw a.0 (ap (λ (w : List ℕ). one_token (Word (b ∷ w)) (drop (prefix_len is_name_part (cs ++ bs)) (cs ++ bs))) (front is_name_part cs bs a.1 stop) ∙ ap (one_token (Word (b ∷ cs))) (back is_name_part cs bs a.1 stop));
    }

digits_again : (cs bs : List ℕ) → is_number cs ≡ true → goes_on (Digits cs) bs ≡ false → Begins cs bs (Digits cs)
digits_again [] bs h stop = absurd cc
digits_again (b ∷ cs) bs h stop =
    let a = both_true (is_ascii_digit b) (list_all is_ascii_digit cs) h in
    record {
      first = b;
      rest = cs;
      parts = refl;
      no_blank = digit_no_blank b a.0;
      read = rw (digit_starts_none b a.0, a.0) (ap (λ (w : List ℕ). one_token (Digits (b ∷ w)) (drop (prefix_len is_ascii_digit (cs ++ bs)) (cs ++ bs))) (front is_ascii_digit cs bs a.1 stop) ∙ ap (one_token (Digits (b ∷ cs))) (back is_ascii_digit cs bs a.1 stop));
    }

negative_again : (cs bs : List ℕ) → is_number cs ≡ true → goes_on (Negative cs) bs ≡ false → Begins (45 ∷ cs) bs (Negative cs)
negative_again [] bs h stop = absurd cc
negative_again (b ∷ cs) bs h stop =
    let a = both_true (is_ascii_digit b) (list_all is_ascii_digit cs) h in
    record {
      first = 45;
      rest = b ∷ cs;
      parts = refl;
      no_blank = refl;
      read = rw a.0 (ap (λ (w : List ℕ). one_token (Negative (b ∷ w)) (drop (prefix_len is_ascii_digit (cs ++ bs)) (cs ++ bs))) (front is_ascii_digit cs bs a.1 stop) ∙ ap (one_token (Negative (b ∷ cs))) (back is_ascii_digit cs bs a.1 stop));
    }

in_range : (n : ℕ) → n < 9 → (nat_le 49 (49 + n) && nat_le (49 + n) 57) ≡ true
in_range n h = grind (arith, nat_tests, h)

param_again : (n : ℕ) (bs : List ℕ) → n < 9 → Begins (63 ∷ (49 + n) ∷ []) bs (Param (suc n))
param_again n bs h = record {
  first = 63;
  rest = (49 + n) ∷ [];
  parts = refl;
  no_blank = refl;
  read = let e : 49 + n - 48 ≡ suc n = omega arith in rw (in_range n h) (ap (λ m. one_token (Param m) bs) e);
}

less_stops : (bs : List ℕ) → goes_on (Test tests.Lt) bs ≡ false → one_token (after_less bs).0 (after_less bs).1 ≡ one_token (Test tests.Lt) bs
less_stops [] stop = refl
less_stops (b ∷ bs) stop = go (nat_eq b 61) (nat_eq b 62) refl refl stop
  where
    go : (u v : Bool) → nat_eq b 61 ≡ u → nat_eq b 62 ≡ v → (u || v) ≡ false → one_token (after_less (b ∷ bs)).0 (after_less (b ∷ bs)).1 ≡ one_token (Test tests.Lt) (b ∷ bs)
    go false false h k stop = rw (h, k) refl
    go true v h k stop = absurd cc
    go false true h k stop = absurd cc

greater_stops : (bs : List ℕ) → goes_on (Test tests.Gt) bs ≡ false → one_token (after_greater bs).0 (after_greater bs).1 ≡ one_token (Test tests.Gt) bs
greater_stops [] stop = refl
greater_stops (b ∷ bs) stop = rw stop refl

test_again : (cmp : Cmp) (bs : List ℕ) → goes_on (Test cmp) bs ≡ false → Begins (sign_of cmp) bs (Test cmp)
test_again tests.Eq bs stop = record { first = 61; rest = []; parts = refl; no_blank = refl; read = refl }
test_again tests.Ne bs stop = record { first = 60; rest = 62 ∷ []; parts = refl; no_blank = refl; read = refl }
test_again tests.Lt bs stop = record { first = 60; rest = []; parts = refl; no_blank = refl; read = less_stops bs stop }
test_again tests.Le bs stop = record { first = 60; rest = 61 ∷ []; parts = refl; no_blank = refl; read = refl }
test_again tests.Gt bs stop = record { first = 62; rest = []; parts = refl; no_blank = refl; read = greater_stops bs stop }
test_again tests.Ge bs stop = record { first = 62; rest = 61 ∷ []; parts = refl; no_blank = refl; read = refl }

spelled_again : (us bs : List ℕ) (t : Token) → HasSpelling us t → goes_on t bs ≡ false → Begins us bs t
spelled_again us bs t (word {bs = cs} h) stop = word_again cs bs h stop
spelled_again us bs t (digits {bs = cs} h) stop = digits_again cs bs h stop
spelled_again us bs t (negative {bs = cs} h) stop = negative_again cs bs h stop
spelled_again us bs t (quoted {text = text}) stop = record { first = 39; rest = doubled text ++ 39 ∷ []; parts = refl; no_blank = refl; read = ap (λ (x : Option (List ℕ × List ℕ)). x >>= λ y. one_token (Quoted y.0) y.1) (quoted_again text bs stop) }
spelled_again us bs t (param {n = n} h) stop = param_again n bs h
spelled_again us bs t (test {cmp = cmp}) stop = test_again cmp bs stop
spelled_again us bs t unlike stop = record { first = 33; rest = 61 ∷ []; parts = refl; no_blank = refl; read = refl }
spelled_again us bs t opened stop = record { first = 40; rest = []; parts = refl; no_blank = refl; read = refl }
spelled_again us bs t closed stop = record { first = 41; rest = []; parts = refl; no_blank = refl; read = refl }
spelled_again us bs t comma stop = record { first = 44; rest = []; parts = refl; no_blank = refl; read = refl }
spelled_again us bs t dot stop = record { first = 46; rest = []; parts = refl; no_blank = refl; read = refl }
spelled_again us bs t star stop = record { first = 42; rest = []; parts = refl; no_blank = refl; read = refl }

token_step : (n first : ℕ) (r rest : List ℕ) (t : Token) (later : List Token) → is_white first ≡ false → token_at first (r ++ rest) ≡ Some (t, rest) → tokens_in n rest ≡ Some later → tokens_in (suc n) ((first ∷ r) ++ rest) ≡ Some (t ∷ later)
unfolding tokens_in
token_step n first r rest t later no_blank read again =
    rw no_blank
    (ap (λ (x : Option (Token × List ℕ)). x >>= λ y. tokens_in n y.1 >>= λ ts. (let z : Option (List Token) = Some (y.0 ∷ ts) in z)) read
    ∙ ap (λ (x : Option (List Token)). x >>= λ ts. (let z : Option (List Token) = Some (t ∷ ts) in z)) again)

token_room : (us rest r : List ℕ) (first n : ℕ) → us ≡ first ∷ r → length (us ++ rest) ≤ n → length rest + 1 ≤ n
token_room us rest r first n parts room =
    let e : length (us ++ rest) ≡ suc (length (r ++ rest)) = ap (λ (w : List ℕ). length (w ++ rest)) parts in
    omega (arith, e, length-append r rest)

-- tokens that bytes have are read from them
pub tokens_again : (bs : List ℕ) (ts : List Token) → HasTokens bs ts → (n : ℕ) → length bs ≤ n → tokens_in n bs ≡ Some ts
unfolding tokens_in
tokens_again bs ts nothing n room = refl
tokens_again bs ts (blank {bs = rest} h has) zero room = absurd (omega (arith, room))
tokens_again bs ts (blank {bs = rest} {ts = later} h has) (suc n) room = rw h (tokens_again rest later has n (omega (arith, room)))
tokens_again bs ts (token {us = us} {bs = rest} {t = t} {ts = later} spelled stop has) zero room =
    let b = spelled_again us rest t spelled stop in absurd (let r = token_room us rest b.rest b.first zero b.parts room in omega (arith, r))
tokens_again bs ts (token {us = us} {bs = rest} {t = t} {ts = later} spelled stop has) (suc n) room =
    let b = spelled_again us rest t spelled stop in
    let r = token_room us rest b.rest b.first (suc n) b.parts room in
    subst (λ (w : List ℕ). tokens_in (suc n) (w ++ rest) ≡ Some (t ∷ later)) (sym b.parts)
    (token_step n b.first b.rest rest t later b.no_blank b.read (tokens_again rest later has n (omega (arith, r))))
