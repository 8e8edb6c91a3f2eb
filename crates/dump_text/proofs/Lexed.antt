-- The kinds of the tokens of a text, without their places.
use Rattle.std.proofs.Common.{◌≡◌, ℕ, zero, suc, pred, ◌+◌, Bool, true, false, ◌&&◌, ◌||◌, not, cond, eqb, ltb, List, [], ◌∷◌, ◌++◌, map, length, take, refl, ap, ◌∙◌, arith, codes, Option, Some, None}
use Rattle.std.specs.List.{prefix_len, list_all}
use Rattle.std.proofs.lemmas.Bool.Decides.{nat_tests}
use Rattle.qbs_base.specs.declared.span.Span.{Span}
use Rattle.qbs_base.specs.declared.place.Place.{Place}
use Rattle.qbs_base.specs.Bytes.{is_white, is_name_start, is_name_part}
use Rattle.qbs_base.specs.Places.{next_place, place_after, between}
use Rattle.schema.specs.declared.token.Kind.{Kind}
use Rattle.schema.specs.declared.token.Kind.TheVariants.{Word}
use Rattle.schema.specs.declared.token.Token.{Token}
use Rattle.schema.specs.Bytes.{is_name, is_in_line}
use Rattle.schema.specs.Tokens.{piece_from, piece_of, placed, tokens_from, kinds_of}
use Rattle.dump_text.specs.Text.{plain, comment_text}

abbrev of_piece : Option Kind → List Kind
of_piece None = []
of_piece (Some k) = k ∷ []

-- the kinds of the bytes, after so many bytes that belong to the piece before
abbrev pub kinds_from : ℕ → List ℕ → List Kind
kinds_from skip [] = []
kinds_from (suc skip) (b ∷ bs) = kinds_from skip bs
kinds_from zero (b ∷ bs) = of_piece (piece_from b bs).0 ++ kinds_from (pred (piece_from b bs).1) bs

placed_kinds : (at : Span) (o : Option Kind) (ts : List Token) → kinds_of (placed at o ++ ts) ≡ of_piece o ++ kinds_of ts
placed_kinds at None ts = refl
placed_kinds at (Some k) ts = refl

pub kinds_are : (p : Place) (skip : ℕ) (bs : List ℕ) → kinds_of (tokens_from p skip bs) ≡ kinds_from skip bs
unfolding tokens_from piece_of
kinds_are p zero [] = refl
kinds_are p (suc skip) [] = refl
kinds_are p (suc skip) (b ∷ bs) = kinds_are (next_place p b) skip bs
kinds_are p zero (b ∷ bs) =
    placed_kinds (between p (place_after p (take (piece_from b bs).1 (b ∷ bs)))) (piece_from b bs).0 (tokens_from (next_place p b) (pred (piece_from b bs).1) bs)
    ∙ ap (λ (ks : List Kind). of_piece (piece_from b bs).0 ++ ks) (kinds_are (next_place p b) (pred (piece_from b bs).1) bs)

pub skipped : (n : ℕ) (bs rest : List ℕ) → length bs ≡ n → kinds_from n (bs ++ rest) ≡ kinds_from 0 rest
skipped zero [] rest e = refl
skipped (suc n) [] rest e = absurd (omega arith)
skipped zero (b ∷ bs) rest e = absurd (omega arith)
skipped (suc n) (b ∷ bs) rest e = skipped n bs rest (omega arith)

-- ---- words

-- no word goes on with these bytes
abbrev pub apart : List ℕ → Bool
apart [] = true
apart (b ∷ bs) = not (is_name_part b)

both : (a b : Bool) → (a && b) ≡ true → (a ≡ true) × (b ≡ true)
both true true e = (refl, refl)
both true false e = absurd cc
both false b e = absurd cc

not_true : (b : Bool) → not b ≡ true → b ≡ false
not_true true e = absurd cc
not_true false e = refl

none_more : (rest : List ℕ) → apart rest ≡ true → prefix_len is_name_part rest ≡ 0
none_more [] e = refl
none_more (b ∷ bs) e = rw (not_true (is_name_part b) e) refl

word_len : (cs rest : List ℕ) → list_all is_name_part cs ≡ true → apart rest ≡ true → prefix_len is_name_part (cs ++ rest) ≡ length cs
word_len [] rest all e = none_more rest e
word_len (c ∷ cs) rest all e =
    let parts = both (is_name_part c) (list_all is_name_part cs) all in
    let more = word_len cs rest parts.1 e in
    rw parts.0 (omega arith)

taken : (cs rest : List ℕ) → take (length cs) (cs ++ rest) ≡ cs
taken [] rest = refl
taken (c ∷ cs) rest = ap (λ (xs : List ℕ). c ∷ xs) (taken cs rest)

start_is_no_white : (c : ℕ) → is_name_start c ≡ true → is_white c ≡ false
start_is_no_white c e = grind (arith, nat_tests)

part_of_start : (c : ℕ) → is_name_start c ≡ true → is_name_part c ≡ true
part_of_start c e = rw e refl

pub word_read : (w rest : List ℕ) → is_name w ≡ true → apart rest ≡ true → kinds_from 0 (w ++ rest) ≡ Word w ∷ kinds_from 0 rest
word_read [] rest name e = absurd cc
word_read (c ∷ cs) rest name e =
    let parts = both (is_name_start c) (list_all is_name_part cs) name in
    let white : is_white c ≡ false = start_is_no_white c parts.0 in
    let more = word_len cs rest parts.1 e in
    let len : 1 + prefix_len is_name_part (cs ++ rest) ≡ suc (length cs) = omega arith in
    let piece : piece_from c (cs ++ rest) ≡ (Some (Word (c ∷ cs)), suc (length cs)) = rw (white, parts.0, len, taken cs rest) refl in
    rw piece (ap (λ (ks : List Kind). Word (c ∷ cs) ∷ ks) (skipped (length cs) cs rest refl))

-- ---- comments

no_line_end : (b : ℕ) → is_in_line (plain b) ≡ true
no_line_end b = by_test (ltb b 32 || eqb b 127) refl
  where
    by_test : (t : Bool) → (ltb b 32 || eqb b 127) ≡ t → is_in_line (cond t 32 b) ≡ true
    by_test true e = refl
    by_test false e = grind (arith, nat_tests)

line_len : (bs rest : List ℕ) → prefix_len is_in_line (map plain bs ++ (10 ∷ rest)) ≡ length (map plain bs)
line_len [] rest = refl
line_len (b ∷ bs) rest = let more = line_len bs rest in rw (no_line_end b) (omega arith)

pub comment_read : (bs rest : List ℕ) → kinds_from 0 (comment_text bs ++ (codes "\n" ++ rest)) ≡ kinds_from 0 rest
comment_read bs rest =
    let len : pred (1 + prefix_len is_in_line (45 ∷ 32 ∷ (map plain bs ++ (10 ∷ rest)))) ≡ length (45 ∷ 32 ∷ map plain bs) = let more = line_len bs rest in omega arith in
    ap (λ (n : ℕ). kinds_from n (45 ∷ 32 ∷ (map plain bs ++ (10 ∷ rest)))) len ∙ skipped (length (45 ∷ 32 ∷ map plain bs)) (45 ∷ 32 ∷ map plain bs) (10 ∷ rest) refl
