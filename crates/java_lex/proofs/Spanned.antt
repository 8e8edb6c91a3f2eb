-- The spans of a text's tokens.
use Rattle.std.proofs.Common.{◌≡◌, ℕ, zero, suc, ◌+◌, ◌≤◌, ◌<◌, Bool, true, false, cond, not, eqb, List, [], ◌∷◌, ◌++◌, length, take, drop, Result, Ok, Err, refl, sym, ap, ◌∙◌, subst, append_assoc, arith, length-append, add-zero, zero-add, add_assoc}
use mathlib.Core.List.{reverse_aux}
use Rattle.std.specs.Prelude.{count_by, ◌==◌}
use Rattle.std.specs.List.{prefix_len}
use Rattle.std.proofs.lemmas.List.{append-nil, length-take, length-drop}
use Rattle.std.proofs.lemmas.List.Sums.{sum_by-cons}
use Rattle.qbs_base.specs.declared.span.Span.{Span}
use Rattle.qbs_base.specs.declared.place.Place.{Place}
use Rattle.java_lex.specs.declared.piece.Piece.{Piece}
use Rattle.java_lex.specs.declared.piece.Piece.TheVariants.{Gap, Token as Lexeme, Fault}
use Rattle.java_lex.specs.declared.token.LexFault.{LexFault}
use Rattle.java_lex.specs.declared.token.Token.{Token}
use Rattle.java_lex.specs.declared.token.Tokens.{Tokens}
use Rattle.java_lex.specs.Bytes.{is_in_line}
use Rattle.qbs_base.specs.Bytes.{line_feed}
use Rattle.qbs_base.specs.Places.{next_place, place_after, first_place, between, byte_at}
use Rattle.java_lex.specs.Pieces.{piece_of}
use Rattle.java_lex.specs.Fits.{FitsIn, piece_len}
use Rattle.java_lex.specs.Lexing.{tokens_from, ended, lexed}
use Rattle.java_lex.specs.Kept.{kept}
use Rattle.java_lex.specs.Spans.{StandsIn, StandInOrder, EndsText, IsByteOf}
use Rattle.java_lex.proofs.Lengths.{piece_fits}
use Rattle.java_lex.proofs.Steps.{with_tokens, followed, tokens_are}
use Rattle.java_lex.proofs.Cut.{take_front, split_at, place_after_append, index_after}

-- ---- lines and columns

abbrev lines_in : List ℕ → ℕ
lines_in bs = count_by (λ b. b == line_feed) bs

line_after : (p : Place) (bs : List ℕ) → (place_after p bs).line ≡ p.line + lines_in bs
line_after p [] = sym (add-zero p.line)
line_after p (b ∷ bs) = line_after (next_place p b) bs ∙ (ap (λ (n : ℕ). n + lines_in bs) (one (eqb b 10)) ∙ (add_assoc p.line (cond (eqb b 10) 1 0) (lines_in bs)
    ∙ ap (λ (n : ℕ). p.line + n) (sym (sum_by-cons (λ c. cond (c == line_feed) 1 0) b bs))))
  where
    one : (v : Bool) → (cond {A = Place} v (record { line = p.line + 1; column = 1; index = p.index + 1 }) (record { line = p.line; column = p.column + 1; index = p.index + 1 })).line ≡ p.line + cond v 1 0
    one true = refl
    one false = sym (add-zero p.line)

-- the column in terms of the bytes before it, the last one first
column_after : (p : Place) (back bs : List ℕ) → p.column ≡ 1 + prefix_len is_in_line back → (place_after p bs).column ≡ 1 + prefix_len is_in_line (reverse_aux bs back)
column_after p back [] h = h
column_after p back (b ∷ bs) h = column_after (next_place p b) (b ∷ back) bs (one (eqb b 10))
  where
    one : (v : Bool) → (cond {A = Place} v (record { line = p.line + 1; column = 1; index = p.index + 1 }) (record { line = p.line; column = p.column + 1; index = p.index + 1 })).column ≡ 1 + cond (not v) (1 + prefix_len is_in_line back) 0
    one true = refl
    one false = omega (arith, h)

-- a stretch from behind these bytes on
stands : (done bs : List ℕ) (span : Span) → span.line ≡ (place_after first_place done).line → span.column ≡ (place_after first_place done).column → span.start ≡ length done → span.start ≤ span.end → span.end ≤ length (done ++ bs)
    → StandsIn (done ++ bs) span
stands done bs span line column start forward within =
    let before : take span.start (done ++ bs) ≡ done = rw start (take_front done bs) in
    record {
      line = rw before (line ∙ line_after first_place done);
      column = rw before (column ∙ column_after first_place [] done refl);
      forward = forward;
      within = within;
    }

-- so those of a stretch are those of the place before which its bytes begin
pub line_of : (text : List ℕ) (span : Span) → StandsIn text span → span.line ≡ (place_after first_place (take span.start text)).line
line_of text span h = h.line ∙ sym (line_after first_place (take span.start text))

pub column_of : (text : List ℕ) (span : Span) → StandsIn text span → span.column ≡ (place_after first_place (take span.start text)).column
column_of text span h = h.column ∙ sym (column_after first_place [] (take span.start text) refl)

-- ---- tokens in order

abbrev Spanned : List ℕ → ℕ → Result (List Token) LexFault → Type 0
Spanned text q (Ok ts) = StandInOrder text q ts
Spanned text q (Err f) = IsByteOf text f.at

earlier : (text : List ℕ) (q r : ℕ) (ts : List Token) → q ≤ r → StandInOrder text r ts → StandInOrder text q ts
earlier text q r [] le h = tt
earlier text q r (t ∷ ts) le h = (omega (arith, h.0), h.1, h.2, h.3)

gap_before : (text : List ℕ) (q r : ℕ) (read : Result (List Token) LexFault) → q ≤ r → Spanned text r read → Spanned text q (with_tokens [] read)
gap_before text q r (Ok ts) le h = earlier text q r ts le h
gap_before text q r (Err f) le h = h

token_before : (text : List ℕ) (q : ℕ) (t : Token) (read : Result (List Token) LexFault) → q ≤ t.span.start → t.span.start < t.span.end → StandsIn text t.span → Spanned text t.span.end read → Spanned text q (with_tokens (t ∷ []) read)
token_before text q t (Ok ts) le some h k = (le, some, h, k)
token_before text q t (Err f) le some h k = k

-- what can be said where at most k bytes are left
abbrev SpannedUpTo : ℕ → Type 0
SpannedUpTo k = (done bs : List ℕ) → length bs ≤ k → Spanned (done ++ bs) (length done) (tokens_from (place_after first_place done) 0 bs)

-- the same behind a piece of n bytes
behind_piece : (k : ℕ) → SpannedUpTo k → (done bs : List ℕ) (n : ℕ) → 0 < n → n ≤ length bs → length bs ≤ suc k
    → Spanned (done ++ bs) (length done + n) (tokens_from (place_after (place_after first_place done) (take n bs)) 0 (drop n bs))
behind_piece k again done bs n some le room =
    let here : length (done ++ take n bs) ≡ length done + n = omega (arith, length-append done (take n bs), length-take n bs) in
    let text : (done ++ take n bs) ++ drop n bs ≡ done ++ bs = append_assoc done (take n bs) (drop n bs) ∙ ap (λ (cs : List ℕ). done ++ cs) (split_at n bs) in
    at (length (done ++ take n bs)) (length done + n) ((done ++ take n bs) ++ drop n bs) (done ++ bs) (place_after first_place (done ++ take n bs)) (place_after (place_after first_place done) (take n bs)) here text (place_after_append first_place done (take n bs))
    (again (done ++ take n bs) (drop n bs) (omega (arith, some, length-drop n bs)))
  where
    at : (q r : ℕ) (s t : List ℕ) (p p' : Place) → q ≡ r → s ≡ t → p ≡ p' → Spanned s q (tokens_from p 0 (drop n bs)) → Spanned t r (tokens_from p' 0 (drop n bs))
    at q r s t p p' e f g h = rw (sym e, sym f, sym g) h

spanned_piece : (k : ℕ) → SpannedUpTo k → (done : List ℕ) (b : ℕ) (bs : List ℕ) (piece : Piece) → FitsIn (suc (length bs)) piece → length (b ∷ bs) ≤ suc k
    → Spanned (done ++ b ∷ bs) (length done) (followed (kept piece (place_after first_place done) (place_after (place_after first_place done) (take (piece_len piece) (b ∷ bs)))) (tokens_from (place_after (place_after first_place done) (take (piece_len piece) (b ∷ bs))) 0 (drop (piece_len piece) (b ∷ bs))))
spanned_piece k again done b bs (Gap n) fits le =
    gap_before (done ++ b ∷ bs) (length done) (length done + n) (tokens_from (place_after (place_after first_place done) (take n (b ∷ bs))) 0 (drop n (b ∷ bs))) (omega arith)
    (behind_piece k again done (b ∷ bs) n fits.0 fits.1 le)
spanned_piece k again done b bs (Lexeme node n) fits le =
    let p : Place = place_after first_place done in
    let span : Span = between (place_after first_place done) (place_after (place_after first_place done) (take n (b ∷ bs))) in
    let start : (place_after first_place done).index ≡ length done = index_after first_place done ∙ zero-add (length done) in
    let end : (place_after (place_after first_place done) (take n (b ∷ bs))).index ≡ length done + n = omega (arith, index_after (place_after first_place done) (take n (b ∷ bs)), start, length-take n (b ∷ bs), fits.1) in
    token_before (done ++ b ∷ bs) (length done) (record { span = between (place_after first_place done) (place_after (place_after first_place done) (take n (b ∷ bs))); node = node }) (tokens_from (place_after (place_after first_place done) (take n (b ∷ bs))) 0 (drop n (b ∷ bs)))
    (omega (arith, start)) (omega (arith, start, end, fits.0))
    (stands done (b ∷ bs) (between (place_after first_place done) (place_after (place_after first_place done) (take n (b ∷ bs)))) refl refl start (omega (arith, start, end)) (omega (arith, end, fits.1, length-append done (b ∷ bs))))
    (subst (λ (q : ℕ). Spanned (done ++ b ∷ bs) q (tokens_from (place_after (place_after first_place done) (take n (b ∷ bs))) 0 (drop n (b ∷ bs)))) (sym end) (behind_piece k again done (b ∷ bs) n fits.0 fits.1 le))
spanned_piece k again done b bs (Fault rule n) fits le =
    let place : place_after first_place (done ++ take n (b ∷ bs)) ≡ place_after (place_after first_place done) (take n (b ∷ bs)) = place_after_append first_place done (take n (b ∷ bs)) in
    let text : (done ++ take n (b ∷ bs)) ++ drop n (b ∷ bs) ≡ done ++ b ∷ bs = append_assoc done (take n (b ∷ bs)) (drop n (b ∷ bs)) ∙ ap (λ (cs : List ℕ). done ++ cs) (split_at n (b ∷ bs)) in
    let start : (place_after first_place (done ++ take n (b ∷ bs))).index ≡ length (done ++ take n (b ∷ bs)) = index_after first_place (done ++ take n (b ∷ bs)) ∙ zero-add (length (done ++ take n (b ∷ bs))) in
    let len : length (done ++ take n (b ∷ bs)) ≡ length done + n = omega (arith, length-append done (take n (b ∷ bs)), length-take n (b ∷ bs), fits) in
    let here : StandsIn ((done ++ take n (b ∷ bs)) ++ drop n (b ∷ bs)) (byte_at (place_after first_place (done ++ take n (b ∷ bs)))) =
    stands (done ++ take n (b ∷ bs)) (drop n (b ∷ bs)) (byte_at (place_after first_place (done ++ take n (b ∷ bs)))) refl refl start (omega arith)
    (omega (arith, start, len, fits, ap length text, length-append done (b ∷ bs))) in
    record { stands = at ((done ++ take n (b ∷ bs)) ++ drop n (b ∷ bs)) (done ++ b ∷ bs) (place_after first_place (done ++ take n (b ∷ bs))) (place_after (place_after first_place done) (take n (b ∷ bs))) text place here; one = refl }
  where
    at : (s t : List ℕ) (p p' : Place) → s ≡ t → p ≡ p' → StandsIn s (byte_at p) → StandsIn t (byte_at p')
    at s t p p' f g h = rw (sym f, sym g) h

no_more : (done : List ℕ) (p : Place) → Spanned (done ++ []) (length done) (tokens_from p 0 [])
unfolding tokens_from
no_more done p = tt

spanned_up_to : (k : ℕ) → SpannedUpTo k
spanned_up_to k done [] le = no_more done (place_after first_place done)
spanned_up_to zero done (b ∷ bs) le = absurd (omega arith)
spanned_up_to (suc k) done (b ∷ bs) le =
    subst (λ (read : Result (List Token) LexFault). Spanned (done ++ b ∷ bs) (length done) read) (sym (tokens_are (place_after first_place done) (b ∷ bs) (omega arith)))
    (spanned_piece k (λ d cs h. spanned_up_to k d cs h) done b bs (piece_of (b ∷ bs)) (piece_fits b bs) le)

-- ---- the law

spans_by : (text : List ℕ) (tokens : Tokens) (read : Result (List Token) LexFault) → Spanned text 0 read → ended text read ≡ Ok tokens → StandInOrder text 0 tokens.list × EndsText text tokens.end
spans_by text tokens (Ok ts) h e =
    let end : Span = between (place_after first_place text) (place_after first_place text) in
    let same : record { list = ts; end = between (place_after first_place text) (place_after first_place text) } ≡ tokens = cc in
    let index : (place_after first_place text).index ≡ length text = index_after first_place text ∙ zero-add (length text) in
    let all : StandsIn (text ++ []) (between (place_after first_place text) (place_after first_place text)) =
    stands text [] (between (place_after first_place text) (place_after first_place text)) refl refl index (omega arith) (omega (arith, index, length-append text [])) in
    let there : StandsIn text (between (place_after first_place text) (place_after first_place text)) = subst (λ (t : List ℕ). StandsIn t (between (place_after first_place text) (place_after first_place text))) (append-nil text) all in
    subst (λ (t : Tokens). StandInOrder text 0 t.list × EndsText text t.end) same (h, record { stands = there; start = index; end = index })
spans_by text tokens (Err f) h e = absurd cc

pub spans : (text : List ℕ) (tokens : Tokens) → lexed text ≡ Ok tokens → StandInOrder text 0 tokens.list × EndsText text tokens.end
spans text tokens e = spans_by text tokens (tokens_from first_place 0 text) (spanned_up_to (length text) [] text (omega arith)) e

fault_by : (text : List ℕ) (fault : LexFault) (read : Result (List Token) LexFault) → Spanned text 0 read → ended text read ≡ Err fault → IsByteOf text fault.at
fault_by text fault (Ok ts) h e = absurd cc
fault_by text fault (Err f) h e =
    let same : f ≡ fault = cc in
    subst (λ (g : LexFault). IsByteOf text g.at) same h

pub fault_span : (text : List ℕ) (fault : LexFault) → lexed text ≡ Err fault → IsByteOf text fault.at
fault_span text fault e = fault_by text fault (tokens_from first_place 0 text) (spanned_up_to (length text) [] text (omega arith)) e
