-- The tokens of a text can be written: words are words, integers have 63 bits, texts are UTF-8.
use Rattle.std.proofs.Common.{◌≡◌, ℕ, zero, suc, ◌+◌, ◌<◌, ◌≤◌, ◌^◌, Bool, true, false, cond, List, [], ◌∷◌, length, take, drop, refl, sym, ap, subst, arith, Option, Some, None, Result, Ok, Err, length-drop}
use Rattle.std.specs.Prelude.{ℤ, pos, ◌&&◌, ◌==◌, nat_lt, pred, IsUtf8}
use Rattle.std.specs.List.{prefix_len}
use Rattle.std.specs.Str.{is_utf8}
use Rattle.std.specs.Str.Lossy.{utf8_valid_len, valid_len_up_to}
use Rattle.std.specs.Str.Parse.{digits_value}
use Rattle.std.proofs.lemmas.Bool.{ltb-true, eqb-true}
use Rattle.std.proofs.lemmas.Str.{IsUtf8-nil, IsUtf8-append, IsUtf8-from_is_utf8, IsUtf8-from_ascii}
use Rattle.java_lex.specs.declared.piece.Piece.{Piece}
use Rattle.java_lex.specs.declared.piece.Piece.TheVariants.{Gap, Token as Lexeme, Fault}
use Rattle.qbs_base.specs.declared.place.Place.{Place}
use Rattle.java_lex.specs.declared.token.LexRule.TheVariants.{BadByte, OpenComment}
use Rattle.java_lex.specs.declared.token.LexFault.{LexFault}
use Rattle.java_lex.specs.declared.token.Token.{Token}
use Rattle.java_lex.specs.declared.token.Tokens.{Tokens}
use Rattle.java_lex.specs.declared.token.TokenNode.{TokenNode}
use Rattle.java_lex.specs.declared.token.TokenNode.TheVariants.{Word, Integer, Text, Sign}
use Rattle.java_lex.specs.Bytes.{quote, backslash, slash, star, is_in_line, is_plain, ends_line, escape_of, begins_with}
use Rattle.qbs_base.specs.Bytes.{is_white, is_digit, is_name_start, is_name_part}
use Rattle.qbs_base.specs.Places.{next_place, first_place}
use Rattle.java_lex.specs.Pieces.{checked, line_comment, comment_len, comment_up_to, block_comment, Part, close, line_end, escape, plain, wrong, plain_part, escape_part, escaped, part_of, Body, closed, unclosed, bad, behind, body_by, body_from, literal_of, literal_behind, name_at, digits_len, number_of, integer_of, integer_at, sign_len, sign_of, piece_of}
use Rattle.java_lex.specs.Fits.{PartFits}
use Rattle.java_lex.specs.Lexing.{token_at, with_token, tokens_by, tokens_from, lexed}
use Rattle.java_lex.proofs.Lengths.{on_cond, part_fits}
use Rattle.java_lex.proofs.Ascii.{one_more, cons_is_ascii, nil_is_ascii}
use Rattle.java_lex.proofs.Bodies.{body_is}
use Rattle.java_lex.proofs.Cut.{list_of}
use Rattle.java_grammar.specs.Written.{are_name_parts, is_word}

abbrev pub GoodNode : TokenNode → Type 0
GoodNode (Word w) = is_word w ≡ true
GoodNode (Integer value long) = (n : ℕ) × (value ≡ pos n) × (n < 2 ^ 63)
GoodNode (Text text) = IsUtf8 text
GoodNode (Sign s) = Unit {0}

abbrev GoodPiece : Piece → Type 0
GoodPiece (Gap n) = Unit {0}
GoodPiece (Lexeme node n) = GoodNode node
GoodPiece (Fault rule n) = Unit {0}

-- ---- words and integers

parts_front : (bs : List ℕ) → are_name_parts (take (prefix_len is_name_part bs) bs) ≡ true
parts_front [] = refl
parts_front (b ∷ bs) = by (is_name_part b) refl (parts_front bs)
  where
    by : (v : Bool) → is_name_part b ≡ v → are_name_parts (take (prefix_len is_name_part bs) bs) ≡ true → are_name_parts (take (cond v (1 + prefix_len is_name_part bs) 0) (b ∷ bs)) ≡ true
    by true e r = rw (one_more (prefix_len is_name_part bs), e, r) refl
    by false e r = refl

word_by : (b : ℕ) (bs : List ℕ) (v : Bool) → is_name_start b ≡ true → is_name_part b ≡ v → is_word (take (cond v (1 + prefix_len is_name_part bs) 0) (b ∷ bs)) ≡ true
word_by b bs true e f = rw (one_more (prefix_len is_name_part bs), e, parts_front bs) refl
word_by b bs false e f = let p : is_name_part b ≡ true = rw e refl in absurd cc

name_good : (b : ℕ) (bs : List ℕ) → is_name_start b ≡ true → GoodPiece (name_at (b ∷ bs))
name_good b bs e = word_by b bs (is_name_part b) e refl

integer_good : (k : ℕ) (digits : List ℕ) (long : Bool) → GoodPiece (integer_of k (number_of digits) long)
integer_good k digits long =
    on_cond (λ (o : Option ℤ). GoodPiece (integer_of k o long)) (nat_lt (digits_value 10 digits) (2 ^ 63)) (Some (pos (digits_value 10 digits))) None
    (λ e. (digits_value 10 digits, refl, ltb-true (digits_value 10 digits) (2 ^ 63) e)) (λ e. tt)

-- ---- text literals

valid_len_le : (bs : List ℕ) (n : ℕ) → valid_len_up_to bs n ≤ n
valid_len_le bs zero = omega arith
valid_len_le bs (suc n) = on_cond (λ (k : ℕ). k ≤ suc n) (is_utf8 (take (suc n) bs)) (suc n) (valid_len_up_to bs n) (λ e. omega arith) (λ e. omega (arith, valid_len_le bs n))

valid_up_to : (bs : List ℕ) (n : ℕ) → valid_len_up_to bs n ≡ n → IsUtf8 (take n bs)
valid_up_to bs zero e = IsUtf8-nil
valid_up_to bs (suc n) e = by (is_utf8 (take (suc n) bs)) refl e
  where
    by : (v : Bool) → is_utf8 (take (suc n) bs) ≡ v → cond v (suc n) (valid_len_up_to bs n) ≡ suc n → IsUtf8 (take (suc n) bs)
    by true t f = IsUtf8-from_is_utf8 (take (suc n) bs) t
    by false t f = absurd (omega (arith, valid_len_le bs n))

take_all : (bs : List ℕ) → take (length bs) bs ≡ bs
take_all [] = refl
take_all (b ∷ bs) = ap (λ (x : List ℕ). b ∷ x) (take_all bs)

valid_utf8 : (bs : List ℕ) → utf8_valid_len bs ≡ length bs → IsUtf8 bs
unfolding utf8_valid_len
valid_utf8 bs e = subst (λ (x : List ℕ). IsUtf8 x) (take_all bs) (valid_up_to bs (length bs) e)

abbrev GoodPart : Part → Type 0
GoodPart (plain text) = IsUtf8 text
GoodPart _ = Unit {0}

escape_good : (o : Option ℕ) → GoodPart (escape_part o)
escape_good None = tt
escape_good (Some b) = tt

escaped_good : (bs : List ℕ) → GoodPart (escaped bs)
escaped_good [] = tt
escaped_good (b ∷ bs) = escape_good (escape_of b)

plain_good : (text : List ℕ) → GoodPart (plain_part text)
plain_good text = on_cond GoodPart (utf8_valid_len text == length text) (plain text) (wrong (utf8_valid_len text)) (λ e. valid_utf8 text (eqb-true (utf8_valid_len text) (length text) e)) (λ e. tt)

part_good : (bs : List ℕ) → GoodPart (part_of bs)
unfolding part_of
part_good [] = tt
part_good (b ∷ bs) =
    on_cond GoodPart (b == quote) close _ (λ e. tt)
    (λ _. on_cond GoodPart (ends_line b) line_end _ (λ e. tt)
    (λ _. on_cond GoodPart (b == backslash) (escaped bs) _ (λ e. escaped_good bs)
    (λ _. plain_good (take (prefix_len is_plain (b ∷ bs)) (b ∷ bs)))))

abbrev GoodBody : Body → Type 0
GoodBody (closed text n) = IsUtf8 text
GoodBody unclosed = Unit {0}
GoodBody (bad n) = Unit {0}

behind_good : (n : ℕ) (front : List ℕ) (body : Body) → IsUtf8 front → GoodBody body → GoodBody (behind n front body)
behind_good n front (closed text m) f g = IsUtf8-append front text f g
behind_good n front unclosed f g = tt
behind_good n front (bad m) f g = tt

ascii_byte : (b : ℕ) → b < 128 → IsUtf8 (b ∷ [])
ascii_byte b h = IsUtf8-from_ascii (b ∷ []) (cons_is_ascii b [] h nil_is_ascii)

by_good : (k : ℕ) (bs : List ℕ) (part : Part) → length bs ≤ suc k → GoodPart part → PartFits (length bs) part → ((cs : List ℕ) → length cs ≤ k → GoodBody (body_from 0 cs)) → GoodBody (body_by part (λ n. body_from 0 (drop n bs)))
by_good k bs close le g f again = IsUtf8-nil
by_good k bs line_end le g f again = tt
by_good k bs (escape b) le g f again = behind_good 2 (b ∷ []) (body_from 0 (drop 2 bs)) (ascii_byte b f.1) (again (drop 2 bs) (omega (arith, f.0, length-drop 2 bs)))
by_good k bs (plain text) le g f again = behind_good (length text) text (body_from 0 (drop (length text) bs)) g (again (drop (length text) bs) (omega (arith, f.0, f.1, length-drop (length text) bs)))
by_good k bs (wrong n) le g f again = tt

body_good : (k : ℕ) (bs : List ℕ) → length bs ≤ k → GoodBody (body_from 0 bs)
unfolding body_from
body_good k [] le = tt
body_good zero (b ∷ bs) le = absurd (omega arith)
body_good (suc k) (b ∷ bs) le = subst GoodBody (sym (body_is (b ∷ bs))) (by_good k (b ∷ bs) (part_of (b ∷ bs)) le (part_good (b ∷ bs)) (part_fits (b ∷ bs)) (λ cs l. body_good k cs l))

literal_good : (body : Body) → GoodBody body → GoodPiece (literal_of (behind 1 [] body))
literal_good (closed text n) g = g
literal_good unclosed g = tt
literal_good (bad n) g = tt

-- ---- comments and signs

checked_good : (text : List ℕ) (piece : Piece) → GoodPiece piece → GoodPiece (checked text piece)
checked_good text piece g = on_cond GoodPiece (utf8_valid_len text == length text) piece (Fault BadByte (2 + utf8_valid_len text)) (λ e. g) (λ e. tt)

block_good : (bs : List ℕ) (end : Option ℕ) → GoodPiece (comment_up_to bs end)
block_good bs None = checked_good bs (Fault OpenComment 0) tt
block_good bs (Some n) = checked_good (take n bs) (Gap (2 + n + 2)) tt

sign_good : (n : ℕ) (bs : List ℕ) → GoodPiece (sign_of n bs)
sign_good zero bs = tt
sign_good (suc n) bs = tt

piece_good : (b : ℕ) (bs : List ℕ) → GoodPiece (piece_of (b ∷ bs))
unfolding piece_of
piece_good b bs =
    on_cond GoodPiece (is_white b) (Gap 1) _ (λ e. tt)
    (λ _. on_cond GoodPiece (is_name_start b) (name_at (b ∷ bs)) _ (λ e. name_good b bs e)
    (λ _. on_cond GoodPiece (is_digit b) (integer_at (b ∷ bs)) _ (λ e. integer_good (digits_len (b ∷ bs)) (take (digits_len (b ∷ bs)) (b ∷ bs)) (begins_with 76 (drop (digits_len (b ∷ bs)) (b ∷ bs))))
    (λ _. on_cond GoodPiece (b == quote) (literal_behind bs) _ (λ e. literal_good (body_from 0 bs) (body_good (length bs) bs (omega arith)))
    (λ _. on_cond GoodPiece ((b == slash) && begins_with slash bs) (line_comment (drop 1 bs)) _ (λ e. checked_good (take (prefix_len is_in_line (drop 1 bs)) (drop 1 bs)) (Gap (2 + prefix_len is_in_line (drop 1 bs))) tt)
    (λ _. on_cond GoodPiece ((b == slash) && begins_with star bs) (block_comment (drop 1 bs)) _ (λ e. block_good (drop 1 bs) (comment_len (drop 1 bs)))
    (λ _. sign_good (sign_len (b ∷ bs)) (b ∷ bs)))))))

-- ---- tokens

abbrev pub AllGood : List Token → Type 0
AllGood [] = Unit {0}
AllGood (t ∷ ts) = GoodNode t.node × AllGood ts

abbrev GoodRead : Result (List Token) LexFault → Type 0
GoodRead (Ok ts) = AllGood ts
GoodRead (Err e) = Unit {0}

with_good : (t : Token) (read : Result (List Token) LexFault) → GoodNode t.node → GoodRead read → GoodRead (with_token t read)
with_good t (Ok ts) g h = (g, h)
with_good t (Err e) g h = tt

tokens_good : (piece : Piece) (p : Place) (bs : List ℕ) (rest : ℕ → Result (List Token) LexFault) → GoodPiece piece → ((n : ℕ) → GoodRead (rest n)) → GoodRead (tokens_by piece p bs rest)
tokens_good (Gap n) p bs rest g h = h n
tokens_good (Lexeme node n) p bs rest g h = with_good (token_at p n bs node) (rest n) g (h n)
tokens_good (Fault rule n) p bs rest g h = tt

read_good : (p : Place) (k : ℕ) (bs : List ℕ) → GoodRead (tokens_from p k bs)
unfolding tokens_from
read_good p zero [] = tt
read_good p (suc k) [] = tt
read_good p (suc k) (b ∷ bs) = read_good (next_place p b) k bs
read_good p zero (b ∷ bs) = tokens_good (piece_of (b ∷ bs)) p (b ∷ bs) (λ n. tokens_from (next_place p b) (pred n) bs) (piece_good b bs) (λ n. read_good (next_place p b) (pred n) bs)

pub lexed_good : (text : List ℕ) (tokens : Tokens) → lexed text ≡ Ok tokens → AllGood tokens.list
lexed_good text tokens e = subst GoodRead (list_of text tokens.list (tokens, e, refl)) (read_good first_place 0 text)
