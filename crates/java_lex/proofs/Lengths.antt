-- Pieces and parts are no longer than what they stand at the front of.
use Rattle.std.proofs.Common.{◌≡◌, ℕ, zero, suc, ◌+◌, ◌-◌, ◌<◌, ◌≤◌, Bool, true, false, cond, ◌&&◌, List, [], ◌∷◌, take, drop, length, Option, Some, None, refl, sym, subst, arith}
use Rattle.std.specs.Prelude.{pred, Result, Ok, Err, IfOk, ℤ, option_map, ◌==◌}
use Rattle.std.specs.List.{prefix_len}
use Rattle.std.specs.Str.Lossy.{utf8_valid_len}
use Rattle.std.proofs.lemmas.Str.{utf8_valid_len_le}
use Rattle.std.proofs.lemmas.List.{length-take, length-drop}
use Rattle.std.proofs.lemmas.List.Sums.{prefix_len-le-length}
use Rattle.java_lex.specs.declared.piece.Piece.{Piece}
use Rattle.java_lex.specs.declared.piece.Piece.TheVariants.{Gap, Fault}
use Rattle.java_lex.specs.declared.token.LexRule.TheVariants.{BadByte, OpenComment}
use Rattle.java_lex.specs.Bytes.{quote, backslash, slash, star, zero_digit, long_mark, is_in_line, ends_line, is_plain, escape_of, is_sign, is_long_sign, begins_with}
use Rattle.qbs_base.specs.Bytes.{is_white, is_digit, is_name_start, is_name_part}
use Rattle.java_lex.specs.Pieces.{checked, line_comment, comment_len, comment_up_to, block_comment, Part, close, line_end, escape, plain, wrong, plain_part, escape_part, escaped, part_of, Body, closed, unclosed, bad, behind, body_by, body_from, literal_of, literal_behind, name_at, digits_len, number_of, integer_of, integer_at, sign_len, sign_of, piece_of}
use Rattle.java_lex.specs.Fits.{FitsIn, PartFits}

-- a choice has what each of the two has, where the test goes that way
pub on_cond : {A : Type 0} (P : A → Type 0) (c : Bool) (x y : A) → (c ≡ true → P x) → (c ≡ false → P y) → P (cond c x y)
on_cond P true x y f g = f refl
on_cond P false x y f g = g refl

pub length_taken : (n : ℕ) (bs : List ℕ) → n ≤ length bs → length (take n bs) ≡ n
length_taken n bs h = omega (arith, length-take n bs)

-- ---- text literals

plain_first : (b : ℕ) → (b == quote) ≡ false → ends_line b ≡ false → (b == backslash) ≡ false → is_plain b ≡ true
plain_first b q e s = rw (q, e, s) refl

plain_part_fits : (text : List ℕ) (room : ℕ) → 0 < length text → length text ≤ room → PartFits room (plain_part text)
plain_part_fits text room some le =
    on_cond (PartFits room) (utf8_valid_len text == length text) (plain text) (wrong (utf8_valid_len text)) (λ _. (some, le)) (λ e. less e)
  where
    less : (utf8_valid_len text == length text) ≡ false → utf8_valid_len text < room
    less e = grind (arith, utf8_valid_len_le text, e, le)

-- what an escape stands for is ASCII
abbrev IsAsciiIfSome : Option ℕ → Type 0
IsAsciiIfSome None = Unit {0}
IsAsciiIfSome (Some b) = b < 128

escape_is_ascii : (b : ℕ) → IsAsciiIfSome (escape_of b)
escape_is_ascii b =
    on_cond IsAsciiIfSome (b == quote) (Some 34) _ (λ _. omega arith) (λ _.
    on_cond IsAsciiIfSome (b == backslash) (Some 92) _ (λ _. omega arith) (λ _.
    on_cond IsAsciiIfSome (b == 39) (Some 39) _ (λ _. omega arith) (λ _.
    on_cond IsAsciiIfSome (b == 110) (Some 10) _ (λ _. omega arith) (λ _.
    on_cond IsAsciiIfSome (b == 114) (Some 13) _ (λ _. omega arith) (λ _.
    on_cond IsAsciiIfSome (b == 116) (Some 9) None (λ _. omega arith) (λ _. tt))))))

escape_part_fits : (c : Option ℕ) (room : ℕ) → 2 ≤ room → IsAsciiIfSome c → PartFits room (escape_part c)
escape_part_fits None room h a = omega arith
escape_part_fits (Some b) room h a = (h, a)

escaped_fits : (bs : List ℕ) (room : ℕ) → 1 + length bs ≤ room → PartFits room (escaped bs)
escaped_fits [] room h = tt
escaped_fits (b ∷ bs) room h = escape_part_fits (escape_of b) room (omega arith) (escape_is_ascii b)

pub part_fits : (bs : List ℕ) → PartFits (length bs) (part_of bs)
unfolding part_of
part_fits [] = tt
part_fits (b ∷ bs) =
    on_cond (PartFits (suc (length bs))) (b == quote) close _ (λ _. omega arith) (λ q.
    on_cond (PartFits (suc (length bs))) (ends_line b) line_end _ (λ _. tt) (λ e.
    on_cond (PartFits (suc (length bs))) (b == backslash) (escaped bs) _ (λ _. escaped_fits bs (suc (length bs)) (omega arith)) (λ s.
    run (plain_first b q e s))))
  where
    run : is_plain b ≡ true → PartFits (suc (length bs)) (plain_part (take (prefix_len is_plain (b ∷ bs)) (b ∷ bs)))
    run h =
        let is_len : prefix_len is_plain (b ∷ bs) ≡ 1 + prefix_len is_plain bs = rw h refl in
        let le : prefix_len is_plain (b ∷ bs) ≤ length (b ∷ bs) = prefix_len-le-length is_plain (b ∷ bs) in
        let long : length (take (prefix_len is_plain (b ∷ bs)) (b ∷ bs)) ≡ prefix_len is_plain (b ∷ bs) = length_taken (prefix_len is_plain (b ∷ bs)) (b ∷ bs) le in
        plain_part_fits (take (prefix_len is_plain (b ∷ bs)) (b ∷ bs)) (suc (length bs)) (omega arith) (omega arith)

-- ---- pieces

checked_fits : (text : List ℕ) (piece : Piece) (room : ℕ) → FitsIn room piece → 2 + length text ≤ room → FitsIn room (checked text piece)
checked_fits text piece room fits le =
    on_cond (FitsIn room) (utf8_valid_len text == length text) piece (Fault BadByte (2 + utf8_valid_len text)) (λ _. fits) (λ e. less e)
  where
    less : (utf8_valid_len text == length text) ≡ false → 2 + utf8_valid_len text < room
    less e = grind (arith, utf8_valid_len_le text, e, le)

line_comment_fits : (bs : List ℕ) (room : ℕ) → 2 + length bs ≤ room → FitsIn room (line_comment bs)
line_comment_fits bs room h =
    let le : prefix_len is_in_line bs ≤ length bs = prefix_len-le-length is_in_line bs in
    let long : length (take (prefix_len is_in_line bs) bs) ≡ prefix_len is_in_line bs = length_taken (prefix_len is_in_line bs) bs le in
    checked_fits (take (prefix_len is_in_line bs) bs) (Gap (2 + prefix_len is_in_line bs)) room (omega arith, omega arith) (omega arith)

-- the two bytes that end the comment follow
abbrev pub EndsWithin : ℕ → Option ℕ → Type 0
EndsWithin room None = Unit {0}
EndsWithin room (Some n) = n + 2 ≤ room

later_end : (end : Option ℕ) (room : ℕ) → EndsWithin room end → EndsWithin (suc room) (option_map suc end)
later_end None room h = tt
later_end (Some n) room h = omega (arith, h)

pub comment_len_within : (bs : List ℕ) → EndsWithin (length bs) (comment_len bs)
comment_len_within [] = tt
comment_len_within (b ∷ []) = on_cond (EndsWithin 1) ((b == star) && false) (Some 0) None (λ e. absurd (never (b == star) e)) (λ _. tt)
  where
    never : (v : Bool) → (v && false) ≡ true → ⊥
    never true e = cc
    never false e = cc
comment_len_within (b ∷ c ∷ cs) =
    on_cond (EndsWithin (suc (suc (length cs)))) ((b == star) && begins_with slash (c ∷ cs)) (Some 0) (option_map suc (comment_len (c ∷ cs))) (λ _. omega arith)
    (λ _. later_end (comment_len (c ∷ cs)) (suc (length cs)) (comment_len_within (c ∷ cs)))

comment_up_to_fits : (bs : List ℕ) (end : Option ℕ) (room : ℕ) → EndsWithin (length bs) end → 2 + length bs ≤ room → FitsIn room (comment_up_to bs end)
comment_up_to_fits bs None room h le = checked_fits bs (Fault OpenComment 0) room (omega arith) le
comment_up_to_fits bs (Some n) room h le =
    let long : length (take n bs) ≡ n = length_taken n bs (omega (arith, h)) in
    checked_fits (take n bs) (Gap (2 + n + 2)) room (omega arith, omega (arith, h)) (omega (arith, h))

block_comment_fits : (bs : List ℕ) (room : ℕ) → 2 + length bs ≤ room → FitsIn room (block_comment bs)
block_comment_fits bs room le = comment_up_to_fits bs (comment_len bs) room (comment_len_within bs) le

-- the bytes that are left behind a body's front
abbrev pub BodyFits : ℕ → Body → Type 0
BodyFits room (closed text n) = (0 < n) × (n ≤ room)
BodyFits room unclosed = Unit {0}
BodyFits room (bad n) = n < room

behind_fits : (n m : ℕ) (front : List ℕ) (body : Body) → BodyFits m body → BodyFits (n + m) (behind n front body)
behind_fits n m front (closed text k) h = (omega (arith, h), omega (arith, h))
behind_fits n m front unclosed h = tt
behind_fits n m front (bad k) h = omega (arith, h)

-- a body fits into more room
more_room : (m n : ℕ) (body : Body) → m ≤ n → BodyFits m body → BodyFits n body
more_room m n (closed text k) le h = (h.0, omega (arith, h.1))
more_room m n unclosed le h = tt
more_room m n (bad k) le h = omega (arith, h)

body_by_fits : (part : Part) (bs : List ℕ) → PartFits (suc (length bs)) part → ((k : ℕ) → BodyFits (length bs - k) (body_from k bs))
    → BodyFits (suc (length bs)) (body_by part (λ n. body_from (pred n) bs))
body_by_fits close bs h rest = (omega arith, omega arith)
body_by_fits line_end bs h rest = tt
body_by_fits (escape b) bs h rest =
    more_room (2 + (length bs - 1)) (suc (length bs)) (behind 2 (b ∷ []) (body_from 1 bs)) (omega (arith, h.0)) (behind_fits 2 (length bs - 1) (b ∷ []) (body_from 1 bs) (rest 1))
body_by_fits (plain text) bs h rest = of_len (length text) h.0 h.1
  where
    of_len : (n : ℕ) → 0 < n → n ≤ suc (length bs) → BodyFits (suc (length bs)) (behind n text (body_from (pred n) bs))
    of_len zero some le = absurd (omega arith)
    of_len (suc n) some le = more_room (suc n + (length bs - n)) (suc (length bs)) (behind (suc n) text (body_from n bs)) (omega arith) (behind_fits (suc n) (length bs - n) text (body_from n bs) (rest n))
body_by_fits (wrong n) bs h rest = h

body_fits_from : (k : ℕ) (bs : List ℕ) → BodyFits (length bs - k) (body_from k bs)
unfolding body_from
body_fits_from zero [] = tt
body_fits_from (suc k) [] = tt
body_fits_from (suc k) (b ∷ bs) = more_room (length bs - k) (suc (length bs) - suc k) (body_from k bs) (omega arith) (body_fits_from k bs)
body_fits_from zero (b ∷ bs) =
    more_room (suc (length bs)) (suc (length bs) - 0) (body_by (part_of (b ∷ bs)) (λ n. body_from (pred n) bs)) (omega arith)
    (body_by_fits (part_of (b ∷ bs)) bs (part_fits (b ∷ bs)) (λ k. body_fits_from k bs))

pub body_fits : (bs : List ℕ) → BodyFits (length bs) (body_from 0 bs)
body_fits bs = more_room (length bs - 0) (length bs) (body_from 0 bs) (omega arith) (body_fits_from 0 bs)

literal_of_fits : (body : Body) (room : ℕ) → 0 < room → BodyFits room body → FitsIn room (literal_of body)
literal_of_fits (closed text n) room some h = h
literal_of_fits unclosed room some h = some
literal_of_fits (bad n) room some h = h

literal_fits : (bs : List ℕ) (room : ℕ) → 1 + length bs ≤ room → FitsIn room (literal_behind bs)
literal_fits bs room le =
    literal_of_fits (behind 1 [] (body_from 0 bs)) room (omega arith) (more_room (1 + length bs) room (behind 1 [] (body_from 0 bs)) le (behind_fits 1 (length bs) [] (body_from 0 bs) (body_fits bs)))

-- what stands at the front of bytes, some of which are there
abbrev Fits : List ℕ → Piece → Type 0
Fits bs piece = FitsIn (length bs) piece

name_fits : (b : ℕ) (bs : List ℕ) → is_name_start b ≡ true → Fits (b ∷ bs) (name_at (b ∷ bs))
name_fits b bs h =
    let is_part : is_name_part b ≡ true = rw h refl in
    let is_len : prefix_len is_name_part (b ∷ bs) ≡ 1 + prefix_len is_name_part bs = rw is_part refl in
    (omega (arith, is_len), prefix_len-le-length is_name_part (b ∷ bs))

pub digits_len_fits : (b : ℕ) (bs : List ℕ) → is_digit b ≡ true → (0 < digits_len (b ∷ bs)) × (digits_len (b ∷ bs) ≤ suc (length bs))
digits_len_fits b bs h =
    let is_len : prefix_len is_digit (b ∷ bs) ≡ 1 + prefix_len is_digit bs = rw h refl in
    let le : prefix_len is_digit (b ∷ bs) ≤ suc (length bs) = prefix_len-le-length is_digit (b ∷ bs) in
    on_cond (λ (n : ℕ). (0 < n) × (n ≤ suc (length bs))) (begins_with zero_digit (b ∷ bs)) 1 (prefix_len is_digit (b ∷ bs)) (λ _. (omega arith, omega arith)) (λ _. (omega (arith, is_len), le))

-- a byte that begins these is one of them
begins_some : (b : ℕ) (bs : List ℕ) → begins_with b bs ≡ true → 0 < length bs
begins_some b [] h = absurd cc
begins_some b (c ∷ cs) h = omega arith

integer_of_fits : (n : ℕ) (value : Option ℤ) (long : Bool) (room : ℕ) → 0 < n → n ≤ room → (long ≡ true → n + 1 ≤ room) → FitsIn room (integer_of n value long)
integer_of_fits n None long room some le more = omega arith
integer_of_fits n (Some value) true room some le more = (omega arith, more refl)
integer_of_fits n (Some value) false room some le more = (omega arith, omega arith)

integer_fits : (b : ℕ) (bs : List ℕ) → is_digit b ≡ true → Fits (b ∷ bs) (integer_at (b ∷ bs))
integer_fits b bs h =
    let n : ℕ = digits_len (b ∷ bs) in
    let fits : (0 < digits_len (b ∷ bs)) × (digits_len (b ∷ bs) ≤ suc (length bs)) = digits_len_fits b bs h in
    integer_of_fits (digits_len (b ∷ bs)) (number_of (take (digits_len (b ∷ bs)) (b ∷ bs))) (begins_with long_mark (drop (digits_len (b ∷ bs)) (b ∷ bs))) (suc (length bs)) fits.0 fits.1 (λ e. more e)
  where
    more : begins_with long_mark (drop (digits_len (b ∷ bs)) (b ∷ bs)) ≡ true → digits_len (b ∷ bs) + 1 ≤ suc (length bs)
    more e = omega (arith, begins_some long_mark (drop (digits_len (b ∷ bs)) (b ∷ bs)) e, length-drop (digits_len (b ∷ bs)) (b ∷ bs))

sign_of_fits : (n : ℕ) (bs : List ℕ) → 0 < length bs → n ≤ length bs → Fits bs (sign_of n bs)
sign_of_fits zero bs some le = some
sign_of_fits (suc n) bs some le = (omega arith, le)

pub sign_len_le : (bs : List ℕ) → sign_len bs ≤ length bs
sign_len_le [] = omega arith
sign_len_le (b ∷ []) = on_cond (λ (n : ℕ). n ≤ 1) (is_sign b) 1 0 (λ _. omega arith) (λ _. omega arith)
sign_len_le (b ∷ c ∷ cs) =
    on_cond (λ (n : ℕ). n ≤ suc (suc (length cs))) (is_long_sign b c) 2 (cond (is_sign b) 1 0) (λ _. omega arith)
    (λ _. on_cond (λ (n : ℕ). n ≤ suc (suc (length cs))) (is_sign b) 1 0 (λ _. omega arith) (λ _. omega arith))

both_true : (x y : Bool) → (x && y) ≡ true → y ≡ true
both_true true y e = e
both_true false y e = absurd cc

pub piece_fits : (b : ℕ) (bs : List ℕ) → Fits (b ∷ bs) (piece_of (b ∷ bs))
unfolding piece_of
piece_fits b bs =
    on_cond (Fits (b ∷ bs)) (is_white b) (Gap 1) _ (λ _. (omega arith, omega arith)) (λ _.
    on_cond (Fits (b ∷ bs)) (is_name_start b) (name_at (b ∷ bs)) _ (λ e. name_fits b bs e) (λ _.
    on_cond (Fits (b ∷ bs)) (is_digit b) (integer_at (b ∷ bs)) _ (λ e. integer_fits b bs e) (λ _.
    on_cond (Fits (b ∷ bs)) (b == quote) (literal_behind bs) _ (λ _. literal_fits bs (suc (length bs)) (omega arith)) (λ _.
    on_cond (Fits (b ∷ bs)) ((b == slash) && begins_with slash bs) (line_comment (drop 1 bs)) _ (λ e. line_comment_fits (drop 1 bs) (suc (length bs)) (shorter slash e)) (λ _.
    on_cond (Fits (b ∷ bs)) ((b == slash) && begins_with star bs) (block_comment (drop 1 bs)) _ (λ e. block_comment_fits (drop 1 bs) (suc (length bs)) (shorter star e)) (λ _.
    sign_of_fits (sign_len (b ∷ bs)) (b ∷ bs) (omega arith) (sign_len_le (b ∷ bs))))))))
  where
    shorter : (c : ℕ) → ((b == slash) && begins_with c bs) ≡ true → 2 + length (drop 1 bs) ≤ suc (length bs)
    shorter c e = omega (arith, begins_some c bs (both_true (b == slash) (begins_with c bs) e), length-drop 1 bs)

fits_front : (bs : List ℕ) (piece : Piece) → 0 < length bs → piece ≡ piece_of bs → FitsIn (length bs) piece
fits_front [] piece some e = absurd (omega arith)
fits_front (b ∷ bs) piece some e = subst (λ (p : Piece). FitsIn (suc (length bs)) p) (sym e) (piece_fits b bs)

-- what is read at the front fits
pub fits_read : {E : Type 0} (bs : List ℕ) (read : Result Piece E) → 0 < length bs → IfOk read (λ p. p ≡ piece_of bs) → IfOk read (λ p. FitsIn (length bs) p)
fits_read bs (Ok piece) some h = fits_front bs piece some h
fits_read bs (Err e) some h = tt
