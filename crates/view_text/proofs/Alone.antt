-- Bytes that are one token are one piece.
use Rattle.std.proofs.Common.{◌≡◌, ℕ, zero, suc, ◌+◌, ◌≤◌, Bool, true, false, ◌&&◌, List, [], ◌∷◌, length, take, drop, Result, Ok, Err, refl, sym, ap, ◌∙◌, subst, arith}
use Rattle.std.specs.Prelude.{pred, ◌==◌}
use Rattle.std.proofs.lemmas.Bool.{eqb-true}
use Rattle.qbs_base.specs.declared.place.Place.{Place}
use Rattle.java_lex.specs.declared.piece.Piece.{Piece}
use Rattle.java_lex.specs.declared.piece.Piece.TheVariants.{Gap, Token as Lexeme, Fault}
use Rattle.java_lex.specs.declared.token.LexFault.{LexFault}
use Rattle.java_lex.specs.declared.token.Token.{Token}
use Rattle.java_lex.specs.declared.token.Tokens.{Tokens}
use Rattle.java_lex.specs.declared.token.TokenNode.{TokenNode}
use Rattle.qbs_base.specs.Places.{next_place, place_after, first_place, between}
use Rattle.java_lex.specs.Pieces.{piece_of}
use Rattle.java_lex.specs.Fits.{FitsIn, piece_len}
use Rattle.java_lex.specs.Kept.{kept}
use Rattle.java_lex.specs.Lexing.{with_token, tokens_by, tokens_from, lexed}
use Rattle.java_lex.specs.Cutting.{nodes_of, HasNodes}
use Rattle.java_lex.proofs.Lengths.{piece_fits, length_taken}
use Rattle.java_lex.proofs.Steps.{followed, tokens_are}
use Rattle.java_lex.proofs.Cut.{index_after, list_of, without_tokens, Left, left_by, none_in}
use Rattle.view_text.specs.Tokens.{fills, fills_by, is_token}

-- ---- where tokens begin

next_index : (p : Place) (b : ℕ) → (next_place p b).index ≡ p.index + 1
next_index p b = index_after p (b ∷ [])

-- the first of tokens begins behind the place from which on they are read
abbrev FirstFrom : ℕ → Result (List Token) LexFault → Type 0
FirstFrom q (Ok []) = Unit {0}
FirstFrom q (Ok (t ∷ ts)) = q ≤ t.span.start
FirstFrom q (Err e) = Unit {0}

earlier : (q r : ℕ) (read : Result (List Token) LexFault) → q ≤ r → FirstFrom r read → FirstFrom q read
earlier q r (Ok []) le h = tt
earlier q r (Ok (t ∷ ts)) le h = omega (arith, le, h)
earlier q r (Err e) le h = tt

token_first : (q : ℕ) (t : Token) (read : Result (List Token) LexFault) → q ≤ t.span.start → FirstFrom q (with_token t read)
token_first q t (Ok ts) le = le
token_first q t (Err e) le = tt

by_piece : (piece : Piece) (p : Place) (bs : List ℕ) (rest : ℕ → Result (List Token) LexFault) → ((n : ℕ) → FirstFrom p.index (rest n)) → FirstFrom p.index (tokens_by piece p bs rest)
by_piece (Gap n) p bs rest h = h n
by_piece (Lexeme node n) p bs rest h = token_first p.index (record { span = between p (place_after p (take n bs)); node = node }) (rest n) (omega arith)
by_piece (Fault rule n) p bs rest h = tt

begin_behind : (p : Place) (k : ℕ) (bs : List ℕ) → FirstFrom p.index (tokens_from p k bs)
unfolding tokens_from
begin_behind p zero [] = tt
begin_behind p (suc k) [] = tt
begin_behind p (suc k) (b ∷ bs) = earlier p.index (next_place p b).index (tokens_from (next_place p b) k bs) (omega (arith, next_index p b)) (begin_behind (next_place p b) k bs)
begin_behind p zero (b ∷ bs) =
    by_piece (piece_of (b ∷ bs)) p (b ∷ bs) (λ n. tokens_from (next_place p b) (pred n) bs)
    (λ n. earlier p.index (next_place p b).index (tokens_from (next_place p b) (pred n) bs) (omega (arith, next_index p b)) (begin_behind (next_place p b) (pred n) bs))

first_from : (q : ℕ) (t : Token) (ts : List Token) (read : Result (List Token) LexFault) → read ≡ Ok (t ∷ ts) → FirstFrom q read → q ≤ t.span.start
first_from q t ts read e h = subst (λ (r : Result (List Token) LexFault). FirstFrom q r) e h

-- ---- the one piece

by_kept : (b : ℕ) (x : List ℕ) (t : Token) (piece : Piece) → FitsIn (suc (length x)) piece → t.span.start ≡ 0 → t.span.end ≡ suc (length x)
    → followed (kept piece first_place (place_after first_place (take (piece_len piece) (b ∷ x)))) (tokens_from (place_after first_place (take (piece_len piece) (b ∷ x))) 0 (drop (piece_len piece) (b ∷ x))) ≡ Ok (t ∷ [])
    → piece ≡ Lexeme t.node (suc (length x))
by_kept b x t (Gap n) fits start end e =
    let q : Place = place_after first_place (take n (b ∷ x)) in
    let read : tokens_from q 0 (drop n (b ∷ x)) ≡ Ok (t ∷ []) = without_tokens (tokens_from (place_after first_place (take n (b ∷ x))) 0 (drop n (b ∷ x))) ∙ e in
    let late : q.index ≤ t.span.start = first_from (place_after first_place (take n (b ∷ x))).index t [] (tokens_from (place_after first_place (take n (b ∷ x))) 0 (drop n (b ∷ x))) read (begin_behind (place_after first_place (take n (b ∷ x))) 0 (drop n (b ∷ x))) in
    absurd (omega (arith, late, start, fits.0, index_after first_place (take n (b ∷ x)), length_taken n (b ∷ x) fits.1))
by_kept b x t (Lexeme node n) fits start end e =
    let one : Token = record { span = between first_place (place_after first_place (take n (b ∷ x))); node = node } in
    let left : Left one (tokens_from (place_after first_place (take n (b ∷ x))) 0 (drop n (b ∷ x))) t [] = left_by one t [] (tokens_from (place_after first_place (take n (b ∷ x))) 0 (drop n (b ∷ x))) e in
    let node_is : t.node ≡ node = ap (λ (u : Token). u.node) left.first in
    let end_is : t.span.end ≡ (place_after first_place (take n (b ∷ x))).index = ap (λ (u : Token). u.span.end) left.first in
    let len : n ≡ suc (length x) = omega (arith, end, end_is, index_after first_place (take n (b ∷ x)), length_taken n (b ∷ x) fits.1) in
    ap (λ (m : TokenNode). Lexeme m n) (sym node_is) ∙ ap (λ (k : ℕ). Lexeme t.node k) len
by_kept b x t (Fault rule n) fits start end e = absurd cc

-- one token, and the bytes as a text that has it
pub record Alone (bytes : List ℕ) : Type 0 where
  pub first : ℕ
  pub more : List ℕ
  pub is : bytes ≡ first ∷ more
  pub node : TokenNode
  pub piece : piece_of (first ∷ more) ≡ Lexeme node (suc (length more))
  pub has : HasNodes bytes (node ∷ [])

pub both : (p q : Bool) → p && q ≡ true → (p ≡ true) × (q ≡ true)
both true q e = (refl, e)
both false q e = absurd cc

of_tokens : (bytes : List ℕ) (tokens : Tokens) (ts : List Token) → lexed bytes ≡ Ok tokens → tokens.list ≡ ts → fills (length bytes) ts ≡ true → Alone bytes
of_tokens bytes tokens [] read list e = absurd cc
of_tokens bytes tokens (t ∷ u ∷ us) read list e = absurd cc
of_tokens [] tokens (t ∷ []) read list e = absurd (none_in first_place t [] (list_of [] (t ∷ []) (tokens, read, list)))
of_tokens (b ∷ x) tokens (t ∷ []) read list e =
    let h : ((t.span.start == 0) ≡ true) × ((t.span.end == suc (length x)) ≡ true) = both (t.span.start == 0) (t.span.end == suc (length x)) e in
    let all : tokens_from first_place 0 (b ∷ x) ≡ Ok (t ∷ []) = list_of (b ∷ x) (t ∷ []) (tokens, read, list) in
    record {
      first = b;
      more = x;
      is = refl;
      node = t.node;
      piece = by_kept b x t (piece_of (b ∷ x)) (piece_fits b x) (eqb-true t.span.start 0 h.0) (eqb-true t.span.end (suc (length x)) h.1) (sym (tokens_are first_place (b ∷ x) (omega arith)) ∙ all);
      has = record { tokens = tokens; read = read; same = ap nodes_of list };
    }

by_read : (bytes : List ℕ) (read : Result Tokens LexFault) → lexed bytes ≡ read → fills_by (length bytes) read ≡ true → Alone bytes
by_read bytes (Ok tokens) read e = of_tokens bytes tokens tokens.list read refl e
by_read bytes (Err f) read e = absurd cc

pub alone : (bytes : List ℕ) → is_token bytes ≡ true → Alone bytes
alone bytes e = by_read bytes (lexed bytes) refl e
