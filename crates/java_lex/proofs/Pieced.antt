-- A piece depends on its own bytes and on the byte behind it.
use Rattle.std.proofs.Common.{◌≡◌, ℕ, zero, suc, ◌+◌, ◌≤◌, ◌<◌, Bool, true, false, cond, ◌&&◌, List, [], ◌∷◌, ◌++◌, length, take, drop, Option, Some, None, refl, sym, ap, ◌∙◌, arith}
use Rattle.std.specs.Prelude.{ℤ, ◌==◌}
use Rattle.std.specs.List.{prefix_len}
use Rattle.std.specs.Str.Lossy.{utf8_valid_len}
use Rattle.java_lex.specs.declared.piece.Piece.{Piece}
use Rattle.java_lex.specs.declared.piece.Piece.TheVariants.{Gap, Token, Fault}
use Rattle.java_lex.specs.declared.token.TokenNode.TheVariants.{Word, Sign}
use Rattle.java_lex.specs.declared.token.LexRule.TheVariants.{BadByte, OpenComment}
use Rattle.java_lex.specs.Bytes.{quote, slash, star, zero_digit, long_mark, is_in_line, is_sign, is_long_sign, begins_with}
use Rattle.qbs_base.specs.Bytes.{is_white, is_digit, is_name_start, is_name_part}
use Rattle.java_lex.specs.Pieces.{checked, line_comment, comment_len, comment_up_to, block_comment, Body, closed, unclosed, bad, behind, body_from, literal_of, literal_behind, name_at, digits_len, number_of, integer_of, integer_at, sign_len, sign_of, sign_at, slashed, piece_of}
use Rattle.java_lex.proofs.Local.{prefix_within, take_same, begins_same, comment_len_inside, body_inside}

-- white space, a comment or a token of n bytes
abbrev pub Good : ℕ → Piece → Type 0
Good n (Gap m) = m ≡ n
Good n (Token node m) = m ≡ n
Good n (Fault rule m) = ⊥

-- where the one is good, it is the other too
abbrev pub Local : ℕ → Piece → Piece → Type 0
Local n u v = Good n u → v ≡ u

both_ways : (n : ℕ) (t : Bool) (u v w x : Piece) → Local n u v → Local n w x → Local n (cond t u w) (cond t v x)
both_ways n true u v w x f g = f
both_ways n false u v w x f g = g

name_local : (x : List ℕ) (c : ℕ) (y z : List ℕ) → Local (length x) (name_at (x ++ c ∷ y)) (name_at (x ++ c ∷ z))
name_local x c y z good =
    let len : prefix_len is_name_part (x ++ c ∷ z) ≡ prefix_len is_name_part (x ++ c ∷ y) = prefix_within is_name_part x c y z (omega (arith, good)) in
    ap (λ (n : ℕ). Token (Word (take n (x ++ c ∷ z))) n) len
    ∙ ap (λ (name : List ℕ). Token (Word name) (prefix_len is_name_part (x ++ c ∷ y))) (take_same (prefix_len is_name_part (x ++ c ∷ y)) x (c ∷ y) (c ∷ z) (omega (arith, good)))

digits_same : (x : List ℕ) (c : ℕ) (y z : List ℕ) → digits_len (x ++ c ∷ y) ≤ length x → digits_len (x ++ c ∷ z) ≡ digits_len (x ++ c ∷ y)
digits_same [] c y z h = by (c == zero_digit) h
  where
    by : (v : Bool) → cond v 1 (prefix_len is_digit (c ∷ y)) ≤ 0 → cond v 1 (prefix_len is_digit (c ∷ z)) ≡ cond v 1 (prefix_len is_digit (c ∷ y))
    by true h = refl
    by false h = prefix_within is_digit [] c y z h
digits_same (b ∷ x) c y z h = by (b == zero_digit) h
  where
    by : (v : Bool) → cond v 1 (prefix_len is_digit (b ∷ (x ++ c ∷ y))) ≤ suc (length x) → cond v 1 (prefix_len is_digit (b ∷ (x ++ c ∷ z))) ≡ cond v 1 (prefix_len is_digit (b ∷ (x ++ c ∷ y)))
    by true h = refl
    by false h = prefix_within is_digit (b ∷ x) c y z h

good_integer : (n k : ℕ) (value : Option ℤ) (long : Bool) → Good k (integer_of n value long) → n ≤ k
good_integer n k None long good = absurd good
good_integer n k (Some value) true good = omega (arith, good)
good_integer n k (Some value) false good = omega (arith, good)

integer_local : (x : List ℕ) (c : ℕ) (y z : List ℕ) → Local (length x) (integer_at (x ++ c ∷ y)) (integer_at (x ++ c ∷ z))
integer_local x c y z good =
    let le : digits_len (x ++ c ∷ y) ≤ length x =
    good_integer (digits_len (x ++ c ∷ y)) (length x) (number_of (take (digits_len (x ++ c ∷ y)) (x ++ c ∷ y))) (begins_with long_mark (drop (digits_len (x ++ c ∷ y)) (x ++ c ∷ y))) good in
    ap (λ (n : ℕ). integer_of n (number_of (take n (x ++ c ∷ z))) (begins_with long_mark (drop n (x ++ c ∷ z)))) (digits_same x c y z le)
    ∙ (ap (λ (digits : List ℕ). integer_of (digits_len (x ++ c ∷ y)) (number_of digits) (begins_with long_mark (drop (digits_len (x ++ c ∷ y)) (x ++ c ∷ z)))) (take_same (digits_len (x ++ c ∷ y)) x (c ∷ y) (c ∷ z) le)
    ∙ ap (λ (long : Bool). integer_of (digits_len (x ++ c ∷ y)) (number_of (take (digits_len (x ++ c ∷ y)) (x ++ c ∷ y))) long) (begins_same long_mark (digits_len (x ++ c ∷ y)) x c y z le))

literal_local : (x y z : List ℕ) → Local (suc (length x)) (literal_behind (x ++ y)) (literal_behind (x ++ z))
literal_local x y z good = ap (λ (body : Body). literal_of (behind 1 [] body)) (of_body (body_from 0 (x ++ y)) refl good)
  where
    of_body : (body : Body) → body_from 0 (x ++ y) ≡ body → Good (suc (length x)) (literal_of (behind 1 [] body)) → body_from 0 (x ++ z) ≡ body
    of_body (closed text m) e good = body_inside x y z text m e (omega (arith, good))
    of_body unclosed e good = absurd good
    of_body (bad m) e good = absurd good

good_checked : (k : ℕ) (text : List ℕ) (piece : Piece) → Good k (checked text piece) → Good k piece
good_checked k text piece good = by (utf8_valid_len text == length text) good
  where
    by : (v : Bool) → Good k (cond v piece (Fault BadByte (2 + utf8_valid_len text))) → Good k piece
    by true good = good
    by false good = absurd good

line_local : (x : List ℕ) (c : ℕ) (y z : List ℕ) → Local (suc (suc (length x))) (line_comment (x ++ c ∷ y)) (line_comment (x ++ c ∷ z))
line_local x c y z good =
    let is : 2 + prefix_len is_in_line (x ++ c ∷ y) ≡ suc (suc (length x)) =
    good_checked (suc (suc (length x))) (take (prefix_len is_in_line (x ++ c ∷ y)) (x ++ c ∷ y)) (Gap (2 + prefix_len is_in_line (x ++ c ∷ y))) good in
    let len : prefix_len is_in_line (x ++ c ∷ z) ≡ prefix_len is_in_line (x ++ c ∷ y) = prefix_within is_in_line x c y z (omega (arith, is)) in
    ap (λ (n : ℕ). checked (take n (x ++ c ∷ z)) (Gap (2 + n))) len
    ∙ ap (λ (text : List ℕ). checked text (Gap (2 + prefix_len is_in_line (x ++ c ∷ y)))) (take_same (prefix_len is_in_line (x ++ c ∷ y)) x (c ∷ y) (c ∷ z) (omega (arith, is)))

block_local : (x y z : List ℕ) → Local (suc (suc (length x))) (block_comment (x ++ y)) (block_comment (x ++ z))
block_local x y z good = of_end (comment_len (x ++ y)) refl good
  where
    of_end : (end : Option ℕ) → comment_len (x ++ y) ≡ end → Good (suc (suc (length x))) (comment_up_to (x ++ y) end) → comment_up_to (x ++ z) (comment_len (x ++ z)) ≡ comment_up_to (x ++ y) (comment_len (x ++ y))
    of_end None e good = absurd (good_checked (suc (suc (length x))) (x ++ y) (Fault OpenComment 0) good)
    of_end (Some k) e good =
        let is : 2 + k + 2 ≡ suc (suc (length x)) = good_checked (suc (suc (length x))) (take k (x ++ y)) (Gap (2 + k + 2)) good in
        let same : comment_len (x ++ z) ≡ Some k = comment_len_inside x y z k e (omega (arith, is)) in
        ap (comment_up_to (x ++ z)) same
        ∙ (ap (λ (text : List ℕ). checked text (Gap (2 + k + 2))) (take_same k x y z (omega (arith, is))) ∙ ap (comment_up_to (x ++ y)) (sym e))

sign_same : (n : ℕ) (u v : List ℕ) → take n v ≡ take n u → sign_of n v ≡ sign_of n u
sign_same zero u v e = refl
sign_same (suc n) u v e = ap (λ (sign : List ℕ). Token (Sign sign) (suc n)) e

two_at_most : (b c : ℕ) (bs : List ℕ) → sign_len (b ∷ c ∷ bs) ≤ 2
two_at_most b c bs = by (is_long_sign b c) (is_sign b)
  where
    by : (v w : Bool) → cond v 2 (cond w 1 0) ≤ 2
    by true w = omega arith
    by false true = omega arith
    by false false = omega arith

sign_local : (b : ℕ) (x : List ℕ) (c : ℕ) (y z : List ℕ) → sign_at (b ∷ (x ++ c ∷ z)) ≡ sign_at (b ∷ (x ++ c ∷ y))
sign_local b [] c y z = sign_same (sign_len (b ∷ c ∷ y)) (b ∷ c ∷ y) (b ∷ c ∷ z) (take_same (sign_len (b ∷ c ∷ y)) (b ∷ c ∷ []) y z (two_at_most b c y))
sign_local b (d ∷ x) c y z =
    sign_same (sign_len (b ∷ d ∷ (x ++ c ∷ y))) (b ∷ d ∷ (x ++ c ∷ y)) (b ∷ d ∷ (x ++ c ∷ z))
    (take_same (sign_len (b ∷ d ∷ (x ++ c ∷ y))) (b ∷ d ∷ []) (x ++ c ∷ y) (x ++ c ∷ z) (two_at_most b d (x ++ c ∷ y)))

-- a comment has two bytes at least
long_line : (k : ℕ) (bs : List ℕ) → k < 2 → Good k (line_comment bs) → ⊥
long_line k bs less good =
    let is : 2 + prefix_len is_in_line bs ≡ k = good_checked k (take (prefix_len is_in_line bs) bs) (Gap (2 + prefix_len is_in_line bs)) good in
    omega (arith, is)

long_block : (k : ℕ) (bs : List ℕ) (end : Option ℕ) → k < 2 → Good k (comment_up_to bs end) → ⊥
long_block k bs None less good = good_checked k bs (Fault OpenComment 0) good
long_block k bs (Some n) less good = let is : 2 + n + 2 ≡ k = good_checked k (take n bs) (Gap (2 + n + 2)) good in omega (arith, is)

slashed_local : (b : ℕ) (x : List ℕ) (c : ℕ) (y z : List ℕ) → Local (suc (length x)) (slashed (b ∷ (x ++ c ∷ y))) (slashed (b ∷ (x ++ c ∷ z)))
slashed_local b [] c y z =
    both_ways 1 ((b == slash) && (c == slash)) (line_comment y) (line_comment z) _ _ (λ good. absurd (long_line 1 y (omega arith) good))
    (both_ways 1 ((b == slash) && (c == star)) (block_comment y) (block_comment z) _ _ (λ good. absurd (long_block 1 y (comment_len y) (omega arith) good))
    (λ good. sign_local b [] c y z))
slashed_local b (d ∷ x) c y z =
    both_ways (suc (suc (length x))) ((b == slash) && (d == slash)) (line_comment (x ++ c ∷ y)) (line_comment (x ++ c ∷ z)) _ _ (line_local x c y z)
    (both_ways (suc (suc (length x))) ((b == slash) && (d == star)) (block_comment (x ++ c ∷ y)) (block_comment (x ++ c ∷ z)) _ _ (block_local x (c ∷ y) (c ∷ z))
    (λ good. sign_local b (d ∷ x) c y z))

pub piece_local : (b : ℕ) (x : List ℕ) (c : ℕ) (y z : List ℕ) → Local (suc (length x)) (piece_of (b ∷ (x ++ c ∷ y))) (piece_of (b ∷ (x ++ c ∷ z)))
unfolding piece_of
piece_local b x c y z =
    both_ways (suc (length x)) (is_white b) (Gap 1) (Gap 1) _ _ (λ _. refl)
    (both_ways (suc (length x)) (is_name_start b) (name_at (b ∷ (x ++ c ∷ y))) (name_at (b ∷ (x ++ c ∷ z))) _ _ (name_local (b ∷ x) c y z)
    (both_ways (suc (length x)) (is_digit b) (integer_at (b ∷ (x ++ c ∷ y))) (integer_at (b ∷ (x ++ c ∷ z))) _ _ (integer_local (b ∷ x) c y z)
    (both_ways (suc (length x)) (b == quote) (literal_behind (x ++ c ∷ y)) (literal_behind (x ++ c ∷ z)) _ _ (literal_local x (c ∷ y) (c ∷ z))
    (slashed_local b x c y z))))
