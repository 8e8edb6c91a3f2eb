-- One piece of the text after the other.
use Rattle.std.proofs.Common.{◌≡◌, ℕ, zero, suc, ◌+◌, ◌≤◌, ◌<◌, List, [], ◌∷◌, ◌++◌, length, take, drop, Result, Ok, Err, refl, sym, ap, ◌∙◌, append_assoc, arith}
use Rattle.std.specs.Prelude.{pred}
use Rattle.std.proofs.lemmas.List.{append-nil, length-take}
use Rattle.qbs_base.specs.declared.memory.Fail.{Fail}
use Rattle.qbs_base.specs.declared.memory.Fail.TheVariants as fails
use Rattle.qbs_base.specs.declared.place.Place.{Place}
use Rattle.java_lex.specs.declared.piece.Piece.{Piece}
use Rattle.java_lex.specs.declared.piece.Piece.TheVariants.{Gap, Token as Lexeme, Fault}
use Rattle.java_lex.specs.declared.token.LexFault.{LexFault}
use Rattle.java_lex.specs.declared.token.Token.{Token}
use Rattle.qbs_base.proofs.Rooms.{room_after, less_room}
use Rattle.qbs_base.specs.Places.{HasRoom, next_place, place_after, first_place, between}
use Rattle.java_lex.specs.Pieces.{piece_of}
use Rattle.java_lex.specs.Fits.{FitsIn, piece_len}
use Rattle.java_lex.specs.Lexing.{token_at, with_token, tokens_by, tokens_from, ended, lexed}
use Rattle.qbs_base.specs.Memory.{FailsBy}
use Rattle.java_lex.specs.Kept.{kept, Adds}
use Rattle.java_lex.proofs.Lengths.{piece_fits}

-- the bytes of a piece are passed over
pub skipped : (p : Place) (k : ℕ) (bs : List ℕ) → tokens_from p k bs ≡ tokens_from (place_after p (take k bs)) 0 (drop k bs)
unfolding tokens_from
skipped p zero [] = refl
skipped p (suc k) [] = refl
skipped p zero (b ∷ bs) = refl
skipped p (suc k) (b ∷ bs) = skipped (next_place p b) k bs

-- these, and then those
abbrev pub with_tokens : List Token → Result (List Token) LexFault → Result (List Token) LexFault
with_tokens front (Ok ts) = Ok (front ++ ts)
with_tokens front (Err e) = Err e

abbrev pub followed : Result (List Token) LexFault → Result (List Token) LexFault → Result (List Token) LexFault
followed (Ok front) read = with_tokens front read
followed (Err e) read = Err e

nothing_before : (read : Result (List Token) LexFault) → with_tokens [] read ≡ read
nothing_before (Ok ts) = refl
nothing_before (Err e) = refl

one_before : (t : Token) (read : Result (List Token) LexFault) → with_token t read ≡ with_tokens (t ∷ []) read
one_before t (Ok ts) = refl
one_before t (Err e) = refl

rest_is : (p : Place) (b : ℕ) (bs : List ℕ) (n : ℕ) → 0 < n → tokens_from (next_place p b) (pred n) bs ≡ tokens_from (place_after p (take n (b ∷ bs))) 0 (drop n (b ∷ bs))
rest_is p b bs zero some = absurd (omega arith)
rest_is p b bs (suc n) some = skipped (next_place p b) n bs

piece_is : (piece : Piece) (p : Place) (b : ℕ) (bs : List ℕ) → FitsIn (suc (length bs)) piece
    → tokens_by piece p (b ∷ bs) (λ n. tokens_from (next_place p b) (pred n) bs)
    ≡ followed (kept piece p (place_after p (take (piece_len piece) (b ∷ bs)))) (tokens_from (place_after p (take (piece_len piece) (b ∷ bs))) 0 (drop (piece_len piece) (b ∷ bs)))
piece_is (Gap n) p b bs h = rest_is p b bs n h.0 ∙ sym (nothing_before (tokens_from (place_after p (take n (b ∷ bs))) 0 (drop n (b ∷ bs))))
piece_is (Lexeme node n) p b bs h =
    ap (with_token (token_at p n (b ∷ bs) node)) (rest_is p b bs n h.0)
    ∙ one_before (token_at p n (b ∷ bs) node) (tokens_from (place_after p (take n (b ∷ bs))) 0 (drop n (b ∷ bs)))
piece_is (Fault rule n) p b bs h = refl

-- the tokens of some bytes are those of the first piece, and those behind it
pub tokens_are : (p : Place) (bs : List ℕ) → 0 < length bs
    → tokens_from p 0 bs
    ≡ followed (kept (piece_of bs) p (place_after p (take (piece_len (piece_of bs)) bs))) (tokens_from (place_after p (take (piece_len (piece_of bs)) bs)) 0 (drop (piece_len (piece_of bs)) bs))
unfolding tokens_from
tokens_are p [] some = absurd (omega arith)
tokens_are p (b ∷ bs) some = piece_is (piece_of (b ∷ bs)) p b bs (piece_fits b bs)

regroup : (front one : List Token) (read : Result (List Token) LexFault) → with_tokens front (with_tokens one read) ≡ with_tokens (front ++ one) read
regroup front one (Ok ts) = ap (λ (us : List Token). Ok us) (sym (append_assoc front one ts))
regroup front one (Err e) = refl

module _ (front : List Token) (total : Result (List Token) LexFault) where
  adds : (all : List Token) (one read : Result (List Token) LexFault) → Adds one front all → with_tokens front (followed one read) ≡ total → with_tokens all read ≡ total
  adds all (Ok ts) read h so_far = rw h (sym (regroup front ts read) ∙ so_far)
  adds all (Err e) read h so_far = absurd h

  fails_by : (e : Fail LexFault) (one read : Result (List Token) LexFault) → FailsBy e one → with_tokens front (followed one read) ≡ total → FailsBy e total
  fails_by (fails.Fault f) one read h so_far = sym so_far ∙ rw h refl
  fails_by fails.NoMemory one read h so_far = tt

  -- one turn of the loop, and its ends
  pub goes_on : (all : List Token) (p end : Place) (bs here rest : List ℕ) (piece : Piece)
      → 0 < length bs → piece ≡ piece_of bs → here ≡ take (piece_len piece) bs → rest ≡ drop (piece_len piece) bs → end ≡ place_after p here → Adds (kept piece p end) front all
      → with_tokens front (tokens_from p 0 bs) ≡ total → with_tokens all (tokens_from end 0 rest) ≡ total
  goes_on all p end bs here rest piece some e is_here is_rest is_end h so_far =
      adds all (kept piece p end) (tokens_from end 0 rest) h
      (ap (with_tokens front) (rw (is_end, is_here, is_rest, e) (sym (tokens_are p bs some))) ∙ so_far)

  pub stops : (e : Fail LexFault) (p end : Place) (bs here : List ℕ) (piece : Piece)
      → 0 < length bs → piece ≡ piece_of bs → here ≡ take (piece_len piece) bs → end ≡ place_after p here → FailsBy e (kept piece p end)
      → with_tokens front (tokens_from p 0 bs) ≡ total → FailsBy e total
  stops e p end bs here piece some is_piece is_here is_end h so_far =
      fails_by e (kept piece p end) (tokens_from end 0 (drop (piece_len piece) bs)) h
      (ap (with_tokens front) (rw (is_end, is_here, is_piece) (sym (tokens_are p bs some))) ∙ so_far)

  pub ends : (p : Place) (bs : List ℕ) → length bs ≡ 0 → with_tokens front (tokens_from p 0 bs) ≡ total → total ≡ Ok front
  unfolding tokens_from
  ends p [] none so_far = sym so_far ∙ ap (λ (ts : List Token). Ok ts) (append-nil front)
  ends p (b ∷ bs) none so_far = absurd (omega arith)

pub no_room : (p end : Place) (bs here : List ℕ) (n : ℕ) → n ≤ length bs → here ≡ take n bs → end ≡ place_after p here → HasRoom p (length bs) → HasRoom end 0
no_room p end bs here n le is_here is_end h =
    rw (is_end, is_here) (room_after p (take n bs) 0 (less_room p (length (take n bs) + 0) (length bs) (omega (arith, length-take n bs)) h))

pub fits_len : (room : ℕ) (piece : Piece) → FitsIn room piece → piece_len piece ≤ room
fits_len room (Gap n) h = h.1
fits_len room (Lexeme node n) h = h.1
fits_len room (Fault rule n) h = omega (arith, h)

-- what was found is what the definition says
pub answers_err : (e : Fail LexFault) (text : List ℕ) → FailsBy e (tokens_from first_place 0 text) → FailsBy e (lexed text)
answers_err (fails.Fault f) text h = ap (ended text) h
answers_err fails.NoMemory text h = tt

pub answers_ok : (p : Place) (ts : List Token) (text rest : List ℕ) → length rest ≡ 0 → place_after p rest ≡ place_after first_place text → tokens_from first_place 0 text ≡ Ok ts
    → lexed text ≡ Ok (record { list = ts; end = between p p })
answers_ok p ts text [] none stands h = rw stands (ap (ended text) h)
answers_ok p ts text (b ∷ bs) none stands h = absurd (omega arith)
