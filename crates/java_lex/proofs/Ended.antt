-- Pieces that don't depend on what stands behind them: a gap before a token, and the signs { } ;
use Rattle.std.proofs.Common.{◌≡◌, ℕ, zero, suc, ◌+◌, Bool, true, false, cond, ◌&&◌, List, [], ◌∷◌, ◌++◌, length, take, drop, Option, Some, None, refl, sym, ap, ◌∙◌, arith, inl, inr}
use Rattle.std.proofs.lemmas.Bool.{eqb-true}
use Rattle.std.specs.Prelude.{ℤ, ◌==◌}
use Rattle.std.specs.List.{prefix_len}
use Rattle.std.specs.Str.Lossy.{utf8_valid_len}
use Rattle.java_lex.specs.declared.piece.Piece.{Piece}
use Rattle.java_lex.specs.declared.piece.Piece.TheVariants.{Gap, Token, Fault}
use Rattle.java_lex.specs.declared.token.TokenNode.{TokenNode}
use Rattle.java_lex.specs.declared.token.TokenNode.TheVariants.{Word, Sign}
use Rattle.java_lex.specs.declared.token.LexRule.TheVariants.{BadByte, OpenComment}
use Rattle.java_lex.specs.Bytes.{quote, slash, star, long_mark, is_in_line, is_sign, is_long_sign, begins_with}
use Rattle.qbs_base.specs.Bytes.{is_white, is_digit, is_name_start, is_name_part}
use Rattle.java_lex.specs.Pieces.{checked, line_comment, comment_len, comment_up_to, block_comment, Body, closed, unclosed, bad, behind, body_from, literal_of, literal_behind, name_at, digits_len, number_of, integer_of, integer_at, sign_len, sign_of, sign_at, slashed, piece_of}
use Rattle.java_lex.specs.Cutting.{Closes}
use Rattle.java_lex.proofs.Lengths.{on_cond}
use Rattle.java_lex.proofs.Local.{prefix_stops, take_same, comment_len_inside}

-- ---- gaps

abbrev SameGap : ℕ → Piece → Piece → Type 0
SameGap n u v = u ≡ Gap n → v ≡ Gap n

both_gaps : (n : ℕ) (t : Bool) (u v w x : Piece) → SameGap n u v → SameGap n w x → SameGap n (cond t u w) (cond t v x)
both_gaps n true u v w x f g = f
both_gaps n false u v w x f g = g

no_gap_integer : (m n : ℕ) (value : Option ℤ) (long : Bool) → integer_of m value long ≡ Gap n → ⊥
no_gap_integer m n None long e = cc
no_gap_integer m n (Some value) long e = cc

no_gap_literal : (n : ℕ) (body : Body) → literal_of (behind 1 [] body) ≡ Gap n → ⊥
no_gap_literal n (closed text m) e = cc
no_gap_literal n unclosed e = cc
no_gap_literal n (bad m) e = cc

no_gap_sign : (m n : ℕ) (bs : List ℕ) → sign_of m bs ≡ Gap n → ⊥
no_gap_sign zero n bs e = cc
no_gap_sign (suc m) n bs e = cc

-- a comment that is a gap is UTF-8
record Checked (text : List ℕ) (piece : Piece) (n : ℕ) : Type 0 where
  valid : (utf8_valid_len text == length text) ≡ true
  is : piece ≡ Gap n

checked_gap : (text : List ℕ) (piece : Piece) (n : ℕ) → checked text piece ≡ Gap n → Checked text piece n
checked_gap text piece n e = by (utf8_valid_len text == length text) refl e
  where
    by : (v : Bool) → (utf8_valid_len text == length text) ≡ v → cond v piece (Fault BadByte (2 + utf8_valid_len text)) ≡ Gap n → Checked text piece n
    by true t e = record { valid = t; is = e }
    by false t e = absurd cc

is_checked : (text : List ℕ) (piece : Piece) → (utf8_valid_len text == length text) ≡ true → checked text piece ≡ piece
is_checked text piece e = ap (λ (v : Bool). cond v piece (Fault BadByte (2 + utf8_valid_len text))) e

gap_len : (m n : ℕ) → Gap m ≡ Gap n → m ≡ n
gap_len m n e = cc

-- a line comment goes up to a line feed, or to the end of the text
no_gap_line : (x : List ℕ) (d : ℕ) (r : List ℕ) → is_in_line d ≡ true → line_comment (x ++ d ∷ r) ≡ Gap (suc (suc (length x))) → ⊥
no_gap_line x d r in_line e =
    let text : List ℕ = take (prefix_len is_in_line (x ++ d ∷ r)) (x ++ d ∷ r) in
    let c : Checked (take (prefix_len is_in_line (x ++ d ∷ r)) (x ++ d ∷ r)) (Gap (2 + prefix_len is_in_line (x ++ d ∷ r))) (suc (suc (length x))) =
    checked_gap (take (prefix_len is_in_line (x ++ d ∷ r)) (x ++ d ∷ r)) (Gap (2 + prefix_len is_in_line (x ++ d ∷ r))) (suc (suc (length x))) e in
    let len : 2 + prefix_len is_in_line (x ++ d ∷ r) ≡ suc (suc (length x)) = gap_len (2 + prefix_len is_in_line (x ++ d ∷ r)) (suc (suc (length x))) c.is in
    let not_in_line : is_in_line d ≡ false = prefix_stops is_in_line x d r (omega (arith, len)) in
    cc

same_block : (x y z : List ℕ) → SameGap (suc (suc (length x))) (block_comment (x ++ y)) (block_comment (x ++ z))
same_block x y z e = of_end (comment_len (x ++ y)) refl e
  where
    of_end : (end : Option ℕ) → comment_len (x ++ y) ≡ end → comment_up_to (x ++ y) end ≡ Gap (suc (suc (length x))) → comment_up_to (x ++ z) (comment_len (x ++ z)) ≡ Gap (suc (suc (length x)))
    of_end None f e =
        let c : Checked (x ++ y) (Fault OpenComment 0) (suc (suc (length x))) = checked_gap (x ++ y) (Fault OpenComment 0) (suc (suc (length x))) e in
        let wrong : Fault OpenComment 0 ≡ Gap (suc (suc (length x))) = c.is in
        absurd cc
    of_end (Some k) f e =
        let c : Checked (take k (x ++ y)) (Gap (2 + k + 2)) (suc (suc (length x))) = checked_gap (take k (x ++ y)) (Gap (2 + k + 2)) (suc (suc (length x))) e in
        let len : 2 + k + 2 ≡ suc (suc (length x)) = gap_len (2 + k + 2) (suc (suc (length x))) c.is in
        let same : comment_len (x ++ z) ≡ Some k = comment_len_inside x y z k f (omega (arith, len)) in
        ap (comment_up_to (x ++ z)) same
        ∙ (ap (λ (text : List ℕ). checked text (Gap (2 + k + 2))) (take_same k x y z (omega (arith, len)))
        ∙ (is_checked (take k (x ++ y)) (Gap (2 + k + 2)) c.valid ∙ ap (λ (n : ℕ). Gap n) len))

-- a comment has two bytes at least
no_short_slashed : (b d : ℕ) (r : List ℕ) → slashed (b ∷ d ∷ r) ≡ Gap 1 → ⊥
no_short_slashed b d r =
    on_cond (λ (piece : Piece). piece ≡ Gap 1 → ⊥) ((b == slash) && (d == slash)) (line_comment r) _ (λ _. line) (λ _.
    on_cond (λ (piece : Piece). piece ≡ Gap 1 → ⊥) ((b == slash) && (d == star)) (block_comment r) _ (λ _. block (comment_len r)) (λ _ e. no_gap_sign (sign_len (b ∷ d ∷ r)) 1 (b ∷ d ∷ r) e))
  where
    line : line_comment r ≡ Gap 1 → ⊥
    line e =
        let c : Checked (take (prefix_len is_in_line r) r) (Gap (2 + prefix_len is_in_line r)) 1 = checked_gap (take (prefix_len is_in_line r) r) (Gap (2 + prefix_len is_in_line r)) 1 e in
        omega (arith, gap_len (2 + prefix_len is_in_line r) 1 c.is)

    block : (end : Option ℕ) → comment_up_to r end ≡ Gap 1 → ⊥
    block None e =
        let c : Checked r (Fault OpenComment 0) 1 = checked_gap r (Fault OpenComment 0) 1 e in
        let wrong : Fault OpenComment 0 ≡ Gap 1 = c.is in
        cc
    block (Some k) e =
        let c : Checked (take k r) (Gap (2 + k + 2)) 1 = checked_gap (take k r) (Gap (2 + k + 2)) 1 e in
        omega (arith, gap_len (2 + k + 2) 1 c.is)

same_slashed : (b : ℕ) (x : List ℕ) (d : ℕ) (r z : List ℕ) → is_in_line d ≡ true → SameGap (suc (length x)) (slashed (b ∷ (x ++ d ∷ r))) (slashed (b ∷ (x ++ z)))
same_slashed b [] d r z in_line = λ e. absurd (no_short_slashed b d r e)
same_slashed b (c ∷ x) d r z in_line =
    both_gaps (suc (suc (length x))) ((b == slash) && (c == slash)) (line_comment (x ++ d ∷ r)) (line_comment (x ++ z)) _ _ (λ e. absurd (no_gap_line x d r in_line e))
    (both_gaps (suc (suc (length x))) ((b == slash) && (c == star)) (block_comment (x ++ d ∷ r)) (block_comment (x ++ z)) _ _ (same_block x (d ∷ r) z)
    (λ e. absurd (no_gap_sign (sign_len (b ∷ c ∷ (x ++ d ∷ r))) (suc (suc (length x))) (b ∷ c ∷ (x ++ d ∷ r)) e)))

-- a gap before a byte that isn't a line feed is one before anything
pub gap_ended : (b : ℕ) (x : List ℕ) (d : ℕ) (r z : List ℕ) → is_in_line d ≡ true → piece_of (b ∷ (x ++ d ∷ r)) ≡ Gap (suc (length x)) → piece_of (b ∷ (x ++ z)) ≡ Gap (suc (length x))
unfolding piece_of
gap_ended b x d r z in_line =
    both_gaps (suc (length x)) (is_white b) (Gap 1) (Gap 1) _ _ (λ e. e)
    (both_gaps (suc (length x)) (is_name_start b) (name_at (b ∷ (x ++ d ∷ r))) (name_at (b ∷ (x ++ z))) _ _ (λ e. absurd (word (prefix_len is_name_part (b ∷ (x ++ d ∷ r))) (b ∷ (x ++ d ∷ r)) e))
    (both_gaps (suc (length x)) (is_digit b) (integer_at (b ∷ (x ++ d ∷ r))) (integer_at (b ∷ (x ++ z))) _ _
    (λ e. absurd (no_gap_integer (digits_len (b ∷ (x ++ d ∷ r))) (suc (length x)) (number_of (take (digits_len (b ∷ (x ++ d ∷ r))) (b ∷ (x ++ d ∷ r)))) (begins_with long_mark (drop (digits_len (b ∷ (x ++ d ∷ r))) (b ∷ (x ++ d ∷ r)))) e))
    (both_gaps (suc (length x)) (b == quote) (literal_behind (x ++ d ∷ r)) (literal_behind (x ++ z)) _ _ (λ e. absurd (no_gap_literal (suc (length x)) (body_from 0 (x ++ d ∷ r)) e))
    (same_slashed b x d r z in_line))))
  where
    word : (n : ℕ) (bs : List ℕ) → Token (Word (take n bs)) n ≡ Gap (suc (length x)) → ⊥
    word n bs e = cc

-- a line feed begins no token
pub no_line_feed : (r : List ℕ) (node : TokenNode) (n : ℕ) → piece_of (10 ∷ r) ≡ Token node n → ⊥
unfolding piece_of
no_line_feed r node n e = cc

-- so a token begins with another byte
pub first_in_line : (d : ℕ) (r : List ℕ) (node : TokenNode) (n : ℕ) → piece_of (d ∷ r) ≡ Token node n → is_in_line d ≡ true
first_in_line d r node n e = by (d == 10) refl
  where
    by : (v : Bool) → (d == 10) ≡ v → is_in_line d ≡ true
    by true t = absurd (no_line_feed r node n (ap (λ (c : ℕ). piece_of (c ∷ r)) (sym (eqb-true d 10 t)) ∙ e))
    by false t = rw t refl

-- ---- the signs { } ;

pub closes_alone : (b : ℕ) → Closes b → (z : List ℕ) → piece_of (b ∷ z) ≡ Token (Sign (b ∷ [])) 1
unfolding piece_of
closes_alone b (inl e) [] = rw e refl
closes_alone b (inl e) (c ∷ z) = rw e refl
closes_alone b (inr (inl e)) [] = rw e refl
closes_alone b (inr (inl e)) (c ∷ z) = rw e refl
closes_alone b (inr (inr e)) [] = rw e refl
closes_alone b (inr (inr e)) (c ∷ z) = rw e refl

-- a sign of one byte is the byte there
abbrev IsThere : ℕ → Piece → Type 0
IsThere a piece = (b n : ℕ) → piece ≡ Token (Sign (b ∷ [])) n → (a ≡ b) × (n ≡ 1)

there_integer : (a m : ℕ) (value : Option ℤ) (long : Bool) → IsThere a (integer_of m value long)
there_integer a m None long b n e = absurd cc
there_integer a m (Some value) long b n e = absurd cc

there_literal : (a : ℕ) (body : Body) → IsThere a (literal_of (behind 1 [] body))
there_literal a (closed text m) b n e = absurd cc
there_literal a unclosed b n e = absurd cc
there_literal a (bad m) b n e = absurd cc

there_checked : (a : ℕ) (text : List ℕ) (piece : Piece) → IsThere a piece → IsThere a (checked text piece)
there_checked a text piece h = on_cond (IsThere a) (utf8_valid_len text == length text) piece (Fault BadByte (2 + utf8_valid_len text)) (λ _. h) (λ _. wrong)
  where
    wrong : IsThere a (Fault BadByte (2 + utf8_valid_len text))
    wrong b n e = absurd cc

there_line : (a : ℕ) (bs : List ℕ) → IsThere a (line_comment bs)
there_line a bs = there_checked a (take (prefix_len is_in_line bs) bs) (Gap (2 + prefix_len is_in_line bs)) (none (2 + prefix_len is_in_line bs))
  where
    none : (m : ℕ) → IsThere a (Gap m)
    none m b n e = absurd cc

there_block : (a : ℕ) (bs : List ℕ) (end : Option ℕ) → IsThere a (comment_up_to bs end)
there_block a bs None = there_checked a bs (Fault OpenComment 0) none
  where
    none : IsThere a (Fault OpenComment 0)
    none b n e = absurd cc
there_block a bs (Some k) = there_checked a (take k bs) (Gap (2 + k + 2)) (none (2 + k + 2))
  where
    none : (m : ℕ) → IsThere a (Gap m)
    none m b n e = absurd cc

there_sign : (a : ℕ) (bs : List ℕ) → IsThere a (sign_at (a ∷ bs))
there_sign a [] = on_cond (λ (m : ℕ). IsThere a (sign_of m (a ∷ []))) (is_sign a) 1 0 (λ _. one) (λ _. none)
  where
    one : IsThere a (Token (Sign (a ∷ [])) 1)
    one b n e = (cc, cc)

    none : IsThere a (Fault BadByte 0)
    none b n e = absurd cc
there_sign a (c ∷ bs) =
    on_cond (λ (m : ℕ). IsThere a (sign_of m (a ∷ c ∷ bs))) (is_long_sign a c) 2 (cond (is_sign a) 1 0) (λ _. two)
    (λ _. on_cond (λ (m : ℕ). IsThere a (sign_of m (a ∷ c ∷ bs))) (is_sign a) 1 0 (λ _. one) (λ _. none))
  where
    two : IsThere a (Token (Sign (a ∷ c ∷ [])) 2)
    two b n e = absurd cc

    one : IsThere a (Token (Sign (a ∷ [])) 1)
    one b n e = (cc, cc)

    none : IsThere a (Fault BadByte 0)
    none b n e = absurd cc

there_slashed : (a : ℕ) (bs : List ℕ) → IsThere a (slashed (a ∷ bs))
there_slashed a bs =
    on_cond (IsThere a) ((a == slash) && begins_with slash bs) (line_comment (drop 1 bs)) _ (λ _. there_line a (drop 1 bs))
    (λ _. on_cond (IsThere a) ((a == slash) && begins_with star bs) (block_comment (drop 1 bs)) _ (λ _. there_block a (drop 1 bs) (comment_len (drop 1 bs)))
    (λ _. there_sign a bs))

pub sign_is_there : (a : ℕ) (bs : List ℕ) → IsThere a (piece_of (a ∷ bs))
unfolding piece_of
sign_is_there a bs =
    on_cond (IsThere a) (is_white a) (Gap 1) _ (λ _. white)
    (λ _. on_cond (IsThere a) (is_name_start a) (name_at (a ∷ bs)) _ (λ _. word (prefix_len is_name_part (a ∷ bs)) (a ∷ bs))
    (λ _. on_cond (IsThere a) (is_digit a) (integer_at (a ∷ bs)) _ (λ _. there_integer a (digits_len (a ∷ bs)) (number_of (take (digits_len (a ∷ bs)) (a ∷ bs))) (begins_with long_mark (drop (digits_len (a ∷ bs)) (a ∷ bs))))
    (λ _. on_cond (IsThere a) (a == quote) (literal_behind bs) _ (λ _. there_literal a (body_from 0 bs))
    (λ _. there_slashed a bs))))
  where
    white : IsThere a (Gap 1)
    white b n e = absurd cc

    word : (m : ℕ) (cs : List ℕ) → IsThere a (Token (Word (take m cs)) m)
    word m cs b n e = absurd cc
