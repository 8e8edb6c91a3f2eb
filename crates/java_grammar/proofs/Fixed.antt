-- Words and signs as they are read.
use Rattle.std.proofs.Common.{◌≡◌, ℕ, suc, ◌+◌, Bool, true, false, cond, List, [], ◌∷◌, ◌++◌, length, refl, sym, ap, subst, arith}
use Rattle.std.specs.Prelude.{not, ◌&&◌, ◌||◌, ◌==◌}
use Rattle.std.specs.List.{prefix_len}
use Rattle.std.proofs.lemmas.Bool.Decides.{nat_tests}
use Rattle.std.proofs.lemmas.List.{append-nil}
use Rattle.java_lex.specs.declared.piece.Piece.TheVariants.{Gap, Token as Lexeme}
use Rattle.java_lex.specs.declared.token.TokenNode.{TokenNode}
use Rattle.java_lex.specs.declared.token.TokenNode.TheVariants.{Word, Sign}
use Rattle.java_lex.specs.Bytes.{quote, slash, is_sign, is_long_sign}
use Rattle.qbs_base.specs.Bytes.{is_white, is_digit, is_name_start, is_name_part}
use Rattle.java_lex.specs.Pieces.{begins_long_sign, piece_of}
use Rattle.java_lex.proofs.Cut.{Whole, none, gap, token, take_front}
use Rattle.java_grammar.specs.Written.{are_name_parts, is_word}
use Rattle.java_grammar.proofs.Wholes.{stops, stops_first, Stops, Shut, Reads}

-- ---- tests

pub both_true : (p q : Bool) → p && q ≡ true → (p ≡ true) × (q ≡ true)
both_true true q e = (refl, e)
both_true false q e = absurd cc

pub not_true : (p : Bool) → not p ≡ true → p ≡ false
not_true true e = absurd cc
not_true false e = refl

-- the third of some choices, and what is left of three
pub third_of : {A : Type 0} (p q r : Bool) (w x y z : A) → p ≡ false → q ≡ false → r ≡ true → cond p w (cond q x (cond r y z)) ≡ y
third_of p q r w x y z e f g = rw (e, f, g) refl

pub fourth_of : {A : Type 0} (p q r : Bool) (w x y z : A) → p ≡ false → q ≡ false → r ≡ false → cond p w (cond q x (cond r y z)) ≡ z
fourth_of p q r w x y z e f g = rw (e, f, g) refl

-- ---- words

pub stops_no_part : (b : ℕ) → stops b ≡ true → is_name_part b ≡ false
stops_no_part b e = not_true (is_name_part b) (both_true (not (is_name_part b)) (not (b == 61)) e).0

parts_len : (bs rest : List ℕ) → are_name_parts bs ≡ true → Stops rest → prefix_len is_name_part (bs ++ rest) ≡ length bs
parts_len [] [] h s = refl
parts_len [] (c ∷ rest) h s = rw (stops_no_part c s) refl
parts_len (b ∷ bs) rest h s =
    let t : (is_name_part b ≡ true) × (are_name_parts bs ≡ true) = both_true (is_name_part b) (are_name_parts bs) h in
    rw t.0 (omega (arith, parts_len bs rest t.1 s))

start_not_white : (b : ℕ) → is_name_start b ≡ true → is_white b ≡ false
start_not_white b h = grind (arith, nat_tests, h)

pub word_piece : (b : ℕ) (bs rest : List ℕ) → is_word (b ∷ bs) ≡ true → Stops rest → piece_of ((b ∷ bs) ++ rest) ≡ Lexeme (Word (b ∷ bs)) (length (b ∷ bs))
unfolding piece_of
word_piece b bs rest h s =
    let t : (is_name_start b ≡ true) × (are_name_parts bs ≡ true) = both_true (is_name_start b) (are_name_parts bs) h in
    let len : 1 + prefix_len is_name_part (bs ++ rest) ≡ suc (length bs) = omega (arith, parts_len bs rest t.1 s) in
    rw (start_not_white b t.0, t.0, len) (ap (λ (w : List ℕ). Lexeme (Word w) (suc (length bs))) (take_front (b ∷ bs) rest))

pub word_whole : (w front rest : List ℕ) (nodes : List TokenNode) → is_word w ≡ true → Stops (front ++ rest) → Whole front rest nodes → Whole (w ++ front) rest (Word w ∷ nodes)
word_whole [] front rest nodes h s k = absurd cc
word_whole (b ∷ bs) front rest nodes h s k = token (b ∷ bs) front (omega arith) (word_piece b bs (front ++ rest) h s) k

-- ---- signs

-- a byte that is a sign, and begins nothing else than signs
abbrev pub is_plain_sign : ℕ → Bool
is_plain_sign b = is_sign b && (not (is_white b) && (not (is_name_start b) && (not (is_digit b) && (not (b == quote) && not (b == slash)))))

pub sign_piece : (b : ℕ) (bs : List ℕ) → is_plain_sign b ≡ true → begins_long_sign b bs ≡ false → piece_of (b ∷ bs) ≡ Lexeme (Sign (b ∷ [])) 1
unfolding piece_of
sign_piece b bs h l =
    let t = both_true (is_sign b) (not (is_white b) && (not (is_name_start b) && (not (is_digit b) && (not (b == quote) && not (b == slash))))) h in
    let u = both_true (not (is_white b)) (not (is_name_start b) && (not (is_digit b) && (not (b == quote) && not (b == slash)))) t.1 in
    let v = both_true (not (is_name_start b)) (not (is_digit b) && (not (b == quote) && not (b == slash))) u.1 in
    let w = both_true (not (is_digit b)) (not (b == quote) && not (b == slash)) v.1 in
    let x = both_true (not (b == quote)) (not (b == slash)) w.1 in
    rw (not_true (is_white b) u.0, not_true (is_name_start b) v.0, not_true (is_digit b) w.0, not_true (b == quote) x.0, not_true (b == slash) x.1, l, t.0) refl

-- a byte that begins no sign of two bytes
abbrev pub is_lone : ℕ → Bool
is_lone b = is_plain_sign b && (not (b == 45) && (not (b == 43) && (not ((b == 61) || (b == 33) || (b == 60) || (b == 62)) && (not (b == 38) && not (b == 124)))))

lone_begins : (b : ℕ) (bs : List ℕ) → is_lone b ≡ true → begins_long_sign b bs ≡ false
lone_begins b [] h = refl
lone_begins b (c ∷ bs) h =
    let t = both_true (is_plain_sign b) (not (b == 45) && (not (b == 43) && (not ((b == 61) || (b == 33) || (b == 60) || (b == 62)) && (not (b == 38) && not (b == 124))))) h in
    let u = both_true (not (b == 45)) (not (b == 43) && (not ((b == 61) || (b == 33) || (b == 60) || (b == 62)) && (not (b == 38) && not (b == 124)))) t.1 in
    let v = both_true (not (b == 43)) (not ((b == 61) || (b == 33) || (b == 60) || (b == 62)) && (not (b == 38) && not (b == 124))) u.1 in
    let w = both_true (not ((b == 61) || (b == 33) || (b == 60) || (b == 62))) (not (b == 38) && not (b == 124)) v.1 in
    let x = both_true (not (b == 38)) (not (b == 124)) w.1 in
    rw (not_true (b == 45) u.0, not_true (b == 43) v.0, not_true ((b == 61) || (b == 33) || (b == 60) || (b == 62)) w.0, not_true (b == 38) x.0, not_true (b == 124) x.1) refl

pub lone_piece : (b : ℕ) (bs : List ℕ) → is_lone b ≡ true → piece_of (b ∷ bs) ≡ Lexeme (Sign (b ∷ [])) 1
lone_piece b bs h = sign_piece b bs (both_true (is_plain_sign b) (not (b == 45) && (not (b == 43) && (not ((b == 61) || (b == 33) || (b == 60) || (b == 62)) && (not (b == 38) && not (b == 124))))) h).0 (lone_begins b bs h)

-- a sign of two bytes
abbrev pub is_long : ℕ → ℕ → Bool
is_long b c = is_long_sign b c && (not (is_white b) && (not (is_name_start b) && (not (is_digit b) && (not (b == quote) && not (b == slash)))))

pub long_piece : (b c : ℕ) (bs : List ℕ) → is_long b c ≡ true → piece_of (b ∷ c ∷ bs) ≡ Lexeme (Sign (b ∷ c ∷ [])) 2
unfolding piece_of
long_piece b c bs h =
    let t = both_true (is_long_sign b c) (not (is_white b) && (not (is_name_start b) && (not (is_digit b) && (not (b == quote) && not (b == slash))))) h in
    let u = both_true (not (is_white b)) (not (is_name_start b) && (not (is_digit b) && (not (b == quote) && not (b == slash)))) t.1 in
    let v = both_true (not (is_name_start b)) (not (is_digit b) && (not (b == quote) && not (b == slash))) u.1 in
    let w = both_true (not (is_digit b)) (not (b == quote) && not (b == slash)) v.1 in
    let x = both_true (not (b == quote)) (not (b == slash)) w.1 in
    rw (not_true (is_white b) u.0, not_true (is_name_start b) v.0, not_true (is_digit b) w.0, not_true (b == quote) x.0, not_true (b == slash) x.1, t.0) refl

white_piece : (b : ℕ) (bs : List ℕ) → is_white b ≡ true → piece_of (b ∷ bs) ≡ Gap 1
unfolding piece_of
white_piece b bs h = rw h refl

-- ---- texts that are written out

-- a byte of white space, a word, a sign of one byte, a sign of two
pub data Item : Type 0 where
  white : ℕ → Item
  name : List ℕ → Item
  short : ℕ → Item
  long : ℕ → ℕ → Item

abbrev pub items_text : List Item → List ℕ
items_text [] = []
items_text (white b ∷ is) = b ∷ items_text is
items_text (name w ∷ is) = w ++ items_text is
items_text (short b ∷ is) = b ∷ items_text is
items_text (long b c ∷ is) = b ∷ c ∷ items_text is

abbrev pub items_nodes : List Item → List TokenNode
items_nodes [] = []
items_nodes (white b ∷ is) = items_nodes is
items_nodes (name w ∷ is) = Word w ∷ items_nodes is
items_nodes (short b ∷ is) = Sign (b ∷ []) ∷ items_nodes is
items_nodes (long b c ∷ is) = Sign (b ∷ c ∷ []) ∷ items_nodes is

-- no item goes on with the one before, and the last one ends by itself, or may be a word
abbrev pub ends_alone : Bool → Item → Bool
ends_alone last_word (white b) = is_white b
ends_alone last_word (name w) = last_word && is_word w
ends_alone last_word (short b) = is_lone b
ends_alone last_word (long b c) = is_long b c

abbrev pub stands_before : Item → List ℕ → Bool
stands_before (white b) next = is_white b
stands_before (name w) next = is_word w && stops_first next
stands_before (short b) next = is_plain_sign b && (not (begins_long_sign b next))
stands_before (long b c) next = is_long b c

abbrev pub nonempty : List ℕ → Bool
nonempty [] = false
nonempty (b ∷ bs) = true

abbrev pub are_apart : Bool → List Item → Bool
are_apart last_word [] = true
are_apart last_word (i ∷ []) = ends_alone last_word i
are_apart last_word (i ∷ j ∷ is) = (stands_before i (items_text (j ∷ is)) && nonempty (items_text (j ∷ is))) && are_apart last_word (j ∷ is)

long_more : (b : ℕ) (next rest : List ℕ) → nonempty next ≡ true → begins_long_sign b next ≡ false → begins_long_sign b (next ++ rest) ≡ false
long_more b [] rest n e = absurd cc
long_more b (c ∷ cs) rest n e = e

stops_more : (next rest : List ℕ) → stops_first next ≡ true → Stops (next ++ rest)
stops_more [] rest e = absurd cc
stops_more (c ∷ cs) rest e = e

-- what has to stand behind, if the last item may be a word
abbrev pub Behind : Bool → List ℕ → Type 0
Behind true rest = Stops rest
Behind false rest = Unit {0}

last_whole : (last_word : Bool) (i : Item) (rest : List ℕ) → ends_alone last_word i ≡ true → Behind last_word rest → Whole (items_text (i ∷ [])) rest (items_nodes (i ∷ []))
last_whole last_word (white b) rest h s = gap (b ∷ []) [] (omega arith) (white_piece b rest h) none
last_whole true (name w) rest h s = word_whole w [] rest [] h s none
last_whole false (name w) rest h s = absurd cc
last_whole last_word (short b) rest h s = token (b ∷ []) [] (omega arith) (lone_piece b rest h) none
last_whole last_word (long b c) rest h s = token (b ∷ c ∷ []) [] (omega arith) (long_piece b c rest h) none

first_whole : (i : Item) (next rest : List ℕ) (nodes : List TokenNode) (is : List Item) → next ≡ items_text is → nodes ≡ items_nodes is → stands_before i next ≡ true → nonempty next ≡ true → Whole next rest nodes → Whole (items_text (i ∷ is)) rest (items_nodes (i ∷ is))
first_whole (white b) next rest nodes is e f h n k = rw (sym e, sym f) (gap (b ∷ []) next (omega arith) (white_piece b (next ++ rest) h) k)
first_whole (name w) next rest nodes is e f h n k =
    let t : (is_word w ≡ true) × (stops_first next ≡ true) = both_true (is_word w) (stops_first next) h in
    rw (sym e, sym f) (word_whole w next rest nodes t.0 (stops_more next rest t.1) k)
first_whole (short b) next rest nodes is e f h n k =
    let t : (is_plain_sign b ≡ true) × (not (begins_long_sign b next) ≡ true) = both_true (is_plain_sign b) (not (begins_long_sign b next)) h in
    rw (sym e, sym f) (token (b ∷ []) next (omega arith) (sign_piece b (next ++ rest) t.0 (long_more b next rest n (not_true (begins_long_sign b next) t.1))) k)
first_whole (long b c) next rest nodes is e f h n k = rw (sym e, sym f) (token (b ∷ c ∷ []) next (omega arith) (long_piece b c (next ++ rest) h) k)

items_whole : (last_word : Bool) (is : List Item) (rest : List ℕ) → are_apart last_word is ≡ true → Behind last_word rest → Whole (items_text is) rest (items_nodes is)
items_whole last_word [] rest h s = none
items_whole last_word (i ∷ []) rest h s = last_whole last_word i rest h s
items_whole last_word (i ∷ j ∷ is) rest h s =
    let t = both_true (stands_before i (items_text (j ∷ is)) && nonempty (items_text (j ∷ is))) (are_apart last_word (j ∷ is)) h in
    let u = both_true (stands_before i (items_text (j ∷ is))) (nonempty (items_text (j ∷ is))) t.0 in
    first_whole i (items_text (j ∷ is)) rest (items_nodes (j ∷ is)) (j ∷ is) refl refl u.0 u.1 (items_whole last_word (j ∷ is) rest t.1 s)

pub fixed : (is : List Item) → are_apart false is ≡ true → Shut (items_text is) (items_nodes is)
fixed is h = record { by = λ rest. items_whole false is rest h tt }

pub fixed_word : (is : List Item) → are_apart true is ≡ true → Reads (items_text is) (items_nodes is)
fixed_word is h = record { by = λ rest s. items_whole true is rest h s }

pub word_reads : (w : List ℕ) → is_word w ≡ true → Reads w (Word w ∷ [])
word_reads w h = record { by = λ rest s. subst (λ (x : List ℕ). Whole x rest (Word w ∷ [])) (append-nil w) (word_whole w [] rest [] h s none) }
