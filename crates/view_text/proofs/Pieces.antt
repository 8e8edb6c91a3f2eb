-- A token is read as it is alone, where the byte behind it goes on with it in no way.
use Rattle.std.proofs.Common.{◌≡◌, ℕ, suc, ◌+◌, ◌≤◌, ◌<◌, Bool, true, false, cond, ◌&&◌, List, [], ◌∷◌, ◌++◌, length, take, drop, Option, Some, None, refl, sym, ap, ◌∙◌, subst, arith}
use Rattle.std.proofs.lemmas.Bool.{eqb-true}
use Rattle.std.proofs.lemmas.List.{append-nil}
use Rattle.std.specs.Prelude.{ℤ, ◌||◌, ◌==◌}
use Rattle.std.specs.List.{prefix_len}
use Rattle.std.specs.Str.Lossy.{utf8_valid_len}
use Rattle.java_lex.specs.declared.piece.Piece.{Piece}
use Rattle.java_lex.specs.declared.piece.Piece.TheVariants.{Gap, Token, Fault}
use Rattle.java_lex.specs.declared.token.TokenNode.TheVariants.{Word}
use Rattle.java_lex.specs.declared.token.LexRule.TheVariants.{BadByte, OpenComment}
use Rattle.java_lex.specs.Bytes.{quote, slash, star, zero_digit, long_mark, is_in_line, is_sign, is_long_sign, begins_with}
use Rattle.qbs_base.specs.Bytes.{is_white, is_digit, is_name_start, is_name_part}
use Rattle.java_lex.specs.Pieces.{checked, line_comment, comment_len, comment_up_to, block_comment, Body, closed, unclosed, bad, behind, body_from, literal_of, literal_behind, name_at, digits_len, number_of, integer_of, integer_at, sign_of, sign_at, slashed, piece_of}
use Rattle.java_lex.proofs.Local.{body_inside}
use Rattle.java_lex.proofs.Cut.{drop_front}
use Rattle.view_text.specs.Layout.{last_of}
use Rattle.view_text.proofs.Fronts.{neither, second_fails, take_within, begins_within, run_within, run_ends, last_is_in, digit_is_part, no_digit, no_mark}

-- a token of n bytes
abbrev pub IsTokenOf : ℕ → Piece → Type 0
IsTokenOf n (Gap m) = ⊥
IsTokenOf n (Token node m) = m ≡ n
IsTokenOf n (Fault rule m) = ⊥

-- where the one is such a token, the other is the same
abbrev pub Same : ℕ → Piece → Piece → Type 0
Same n u v = IsTokenOf n u → v ≡ u

both_ways : (n : ℕ) (t : Bool) (u v w x : Piece) → Same n u v → Same n w x → Same n (cond t u w) (cond t v x)
both_ways n true u v w x f g = f
both_ways n false u v w x f g = g

-- the byte c goes on with what ends in the byte last
abbrev pub goes_on : ℕ → ℕ → Bool
goes_on last c = (is_name_part last && is_name_part c) || is_long_sign last c

no_part : (last c : ℕ) → goes_on last c ≡ false → is_name_part last ≡ true → is_name_part c ≡ false
no_part last c e h = second_fails (is_name_part last) (is_name_part c) (neither (is_name_part last && is_name_part c) (is_long_sign last c) e).0 h

no_long : (last c : ℕ) → goes_on last c ≡ false → is_long_sign last c ≡ false
no_long last c e = (neither (is_name_part last && is_name_part c) (is_long_sign last c) e).1

module _ (b : ℕ) (x : List ℕ) (c : ℕ) (z : List ℕ) (stops : goes_on (last_of b x) c ≡ false) where
  -- ---- words

  name_same : Same (suc (length x)) (name_at (b ∷ x)) (name_at (b ∷ (x ++ c ∷ z)))
  name_same is =
      let part : is_name_part (last_of b x) ≡ true = last_is_in is_name_part b x is in
      let len : prefix_len is_name_part (b ∷ (x ++ c ∷ z)) ≡ prefix_len is_name_part (b ∷ x) =
      run_ends is_name_part (b ∷ x) c z is (no_part (last_of b x) c stops part) ∙ sym is in
      ap (λ (n : ℕ). Token (Word (take n (b ∷ (x ++ c ∷ z)))) n) len
      ∙ ap (λ (word : List ℕ). Token (Word word) (prefix_len is_name_part (b ∷ x))) (take_within (prefix_len is_name_part (b ∷ x)) (b ∷ x) (c ∷ z) (omega (arith, is)))

  -- ---- integers

  -- an `L` ends it
  marked_len : digits_len (b ∷ x) < suc (length x) → digits_len (b ∷ (x ++ c ∷ z)) ≡ digits_len (b ∷ x)
  marked_len h = by (b == zero_digit) h
    where
      by : (v : Bool) → cond v 1 (prefix_len is_digit (b ∷ x)) < suc (length x) → cond v 1 (prefix_len is_digit (b ∷ (x ++ c ∷ z))) ≡ cond v 1 (prefix_len is_digit (b ∷ x))
      by true h = refl
      by false h = run_within is_digit (b ∷ x) (c ∷ z) h

  -- the last digit ends it
  last_digit : digits_len (b ∷ x) ≡ suc (length x) → is_name_part (last_of b x) ≡ true
  last_digit h = by (b == zero_digit) refl h
    where
      zero_alone : (y : List ℕ) → b ≡ 48 → 1 ≡ suc (length y) → is_name_part (last_of b y) ≡ true
      zero_alone [] e h = ap is_name_part e
      zero_alone (d ∷ y) e h = absurd (omega arith)

      by : (v : Bool) → (b == zero_digit) ≡ v → cond v 1 (prefix_len is_digit (b ∷ x)) ≡ suc (length x) → is_name_part (last_of b x) ≡ true
      by true e h = zero_alone x (eqb-true b zero_digit e) h
      by false e h = digit_is_part (last_of b x) (last_is_in is_digit b x h)

  ended_len : digits_len (b ∷ x) ≡ suc (length x) → is_digit c ≡ false → digits_len (b ∷ (x ++ c ∷ z)) ≡ digits_len (b ∷ x)
  ended_len h d = by (b == zero_digit) h
    where
      by : (v : Bool) → cond v 1 (prefix_len is_digit (b ∷ x)) ≡ suc (length x) → cond v 1 (prefix_len is_digit (b ∷ (x ++ c ∷ z))) ≡ cond v 1 (prefix_len is_digit (b ∷ x))
      by true h = refl
      by false h = run_ends is_digit (b ∷ x) c z h d ∙ sym h

  record SameDigits : Type 0 where
    len : digits_len (b ∷ (x ++ c ∷ z)) ≡ digits_len (b ∷ x)
    within : digits_len (b ∷ x) ≤ suc (length x)
    long : begins_with long_mark (drop (digits_len (b ∷ x)) (b ∷ (x ++ c ∷ z))) ≡ begins_with long_mark (drop (digits_len (b ∷ x)) (b ∷ x))

  same_digits : (value : Option ℤ) → IsTokenOf (suc (length x)) (integer_of (digits_len (b ∷ x)) value (begins_with long_mark (drop (digits_len (b ∷ x)) (b ∷ x)))) → SameDigits
  same_digits None is = absurd is
  same_digits (Some value) is = by (begins_with long_mark (drop (digits_len (b ∷ x)) (b ∷ x))) refl is
    where
      by : (v : Bool) → begins_with long_mark (drop (digits_len (b ∷ x)) (b ∷ x)) ≡ v → digits_len (b ∷ x) + cond v 1 0 ≡ suc (length x) → SameDigits
      by true e h = record {
        len = marked_len (omega arith);
        within = omega arith;
        long = begins_within long_mark (digits_len (b ∷ x)) (b ∷ x) (c ∷ z) (omega arith);
      }
      by false e h =
          let all : digits_len (b ∷ x) ≡ suc (length x) = omega arith in
          let none : is_name_part c ≡ false = no_part (last_of b x) c stops (last_digit all) in
          record {
            len = ended_len all (no_digit c none);
            within = omega arith;
            long = ap (λ (n : ℕ). begins_with long_mark (drop n (b ∷ (x ++ c ∷ z)))) all ∙ (ap (begins_with long_mark) (drop_front (b ∷ x) (c ∷ z)) ∙ (no_mark c none ∙ sym e));
          }

  integer_same : Same (suc (length x)) (integer_at (b ∷ x)) (integer_at (b ∷ (x ++ c ∷ z)))
  integer_same is =
      let d : SameDigits = same_digits (number_of (take (digits_len (b ∷ x)) (b ∷ x))) is in
      ap (λ (n : ℕ). integer_of n (number_of (take n (b ∷ (x ++ c ∷ z)))) (begins_with long_mark (drop n (b ∷ (x ++ c ∷ z))))) d.len
      ∙ (ap (λ (digits : List ℕ). integer_of (digits_len (b ∷ x)) (number_of digits) (begins_with long_mark (drop (digits_len (b ∷ x)) (b ∷ (x ++ c ∷ z))))) (take_within (digits_len (b ∷ x)) (b ∷ x) (c ∷ z) d.within)
      ∙ ap (λ (long : Bool). integer_of (digits_len (b ∷ x)) (number_of (take (digits_len (b ∷ x)) (b ∷ x))) long) d.long)

  -- ---- text literals

  literal_same : Same (suc (length x)) (literal_behind x) (literal_behind (x ++ c ∷ z))
  literal_same is = ap (λ (body : Body). literal_of (behind 1 [] body)) (of_body (body_from 0 x) refl is)
    where
      of_body : (body : Body) → body_from 0 x ≡ body → IsTokenOf (suc (length x)) (literal_of (behind 1 [] body)) → body_from 0 (x ++ c ∷ z) ≡ body
      of_body (closed text m) e is = body_inside x [] (c ∷ z) text m (ap (body_from 0) (append-nil x) ∙ e) (omega (arith, is))
      of_body unclosed e is = absurd is
      of_body (bad m) e is = absurd is

-- ---- comments are no tokens

checked_none : (n : ℕ) (text : List ℕ) (piece : Piece) → (IsTokenOf n piece → ⊥) → IsTokenOf n (checked text piece) → ⊥
checked_none n text piece none = by (utf8_valid_len text == length text)
  where
    by : (v : Bool) → IsTokenOf n (cond v piece (Fault BadByte (2 + utf8_valid_len text))) → ⊥
    by true is = none is
    by false is = is

line_none : (n : ℕ) (bs : List ℕ) → IsTokenOf n (line_comment bs) → ⊥
line_none n bs is = checked_none n (take (prefix_len is_in_line bs) bs) (Gap (2 + prefix_len is_in_line bs)) (λ h. h) is

block_none : (n : ℕ) (bs : List ℕ) (end : Option ℕ) → IsTokenOf n (comment_up_to bs end) → ⊥
block_none n bs None is = checked_none n bs (Fault OpenComment 0) (λ h. h) is
block_none n bs (Some k) is = checked_none n (take k bs) (Gap (2 + k + 2)) (λ h. h) is

-- ---- signs

-- of one byte
short_same : (b c : ℕ) (z : List ℕ) → is_long_sign b c ≡ false → Same 1 (slashed (b ∷ [])) (slashed (b ∷ c ∷ z))
short_same b c z stops = by (b == slash) refl
  where
    no_slash : IsTokenOf 1 (slashed (47 ∷ [])) → ⊥
    no_slash is = is

    sign : (l s : Bool) → is_long_sign b c ≡ l → l ≡ false → Same 1 (sign_of (cond s 1 0) (b ∷ [])) (sign_of (cond l 2 (cond s 1 0)) (b ∷ c ∷ z))
    sign true s e f is = absurd cc
    sign false true e f is = refl
    sign false false e f is = absurd is

    by : (v : Bool) → (b == slash) ≡ v
        → Same 1 (cond (v && false) (line_comment []) (cond (v && false) (block_comment []) (sign_at (b ∷ []))))
        (cond (v && (c == slash)) (line_comment z) (cond (v && (c == star)) (block_comment z) (sign_at (b ∷ c ∷ z))))
    by true e is = absurd (no_slash (subst (λ (d : ℕ). IsTokenOf 1 (sign_at (d ∷ []))) (eqb-true b slash e) is))
    by false e is = sign (is_long_sign b c) (is_sign b) refl stops is

-- of two
long_same : (b d : ℕ) (x y : List ℕ) → Same (suc (suc (length x))) (slashed (b ∷ d ∷ x)) (slashed (b ∷ d ∷ (x ++ y)))
long_same b d x y =
    both_ways (suc (suc (length x))) ((b == slash) && (d == slash)) (line_comment x) (line_comment (x ++ y)) _ _ (λ is. absurd (line_none (suc (suc (length x))) x is))
    (both_ways (suc (suc (length x))) ((b == slash) && (d == star)) (block_comment x) (block_comment (x ++ y)) _ _ (λ is. absurd (block_none (suc (suc (length x))) x (comment_len x) is))
    (sign (is_long_sign b d) (is_sign b)))
  where
    sign : (l s : Bool) → Same (suc (suc (length x))) (sign_of (cond l 2 (cond s 1 0)) (b ∷ d ∷ x)) (sign_of (cond l 2 (cond s 1 0)) (b ∷ d ∷ (x ++ y)))
    sign true s is = refl
    sign false true is = absurd (omega (arith, is))
    sign false false is = absurd is

slashed_same : (b : ℕ) (x : List ℕ) (c : ℕ) (z : List ℕ) → goes_on (last_of b x) c ≡ false → Same (suc (length x)) (slashed (b ∷ x)) (slashed (b ∷ (x ++ c ∷ z)))
slashed_same b [] c z stops = short_same b c z (no_long b c stops)
slashed_same b (d ∷ x) c z stops = long_same b d x (c ∷ z)

-- ---- any token

pub token_same : (b : ℕ) (x : List ℕ) (c : ℕ) (z : List ℕ) → goes_on (last_of b x) c ≡ false → Same (suc (length x)) (piece_of (b ∷ x)) (piece_of (b ∷ (x ++ c ∷ z)))
unfolding piece_of
token_same b x c z stops =
    both_ways (suc (length x)) (is_white b) (Gap 1) (Gap 1) _ _ (λ is. absurd is)
    (both_ways (suc (length x)) (is_name_start b) (name_at (b ∷ x)) (name_at (b ∷ (x ++ c ∷ z))) _ _ (name_same b x c z stops)
    (both_ways (suc (length x)) (is_digit b) (integer_at (b ∷ x)) (integer_at (b ∷ (x ++ c ∷ z))) _ _ (integer_same b x c z stops)
    (both_ways (suc (length x)) (b == quote) (literal_behind x) (literal_behind (x ++ c ∷ z)) _ _ (literal_same b x c z stops)
    (slashed_same b x c z stops))))
