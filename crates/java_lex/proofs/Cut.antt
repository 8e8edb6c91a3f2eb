-- Texts made of whole pieces.
use Rattle.std.proofs.Common.{◌≡◌, ℕ, zero, suc, ◌+◌, ◌≤◌, ◌<◌, Bool, true, false, cond, eqb, add-zero, List, [], ◌∷◌, ◌++◌, length, take, drop, Result, Ok, Err, Option, Some, None, refl, sym, ap, ◌∙◌, append_assoc, arith, length-append}
use Rattle.std.specs.Prelude.{pred}
use Rattle.std.proofs.lemmas.List.{length-take, length-drop}
use Rattle.qbs_base.specs.declared.place.Place.{Place}
use Rattle.java_lex.specs.declared.piece.Piece.{Piece}
use Rattle.java_lex.specs.declared.piece.Piece.TheVariants.{Gap, Token as Lexeme, Fault}
use Rattle.java_lex.specs.declared.token.LexFault.{LexFault}
use Rattle.java_lex.specs.declared.token.Token.{Token}
use Rattle.java_lex.specs.declared.token.TokenNode.{TokenNode}
use Rattle.java_lex.specs.declared.token.Tokens.{Tokens}
use Rattle.qbs_base.specs.Places.{next_place, place_after, first_place, between}
use Rattle.java_lex.specs.Pieces.{piece_of}
use Rattle.java_lex.specs.Fits.{FitsIn, piece_len}
use Rattle.java_lex.specs.Lexing.{token_at, with_token, tokens_by, tokens_from, ended}
use Rattle.java_lex.specs.Kept.{kept}
use Rattle.java_lex.specs.Cutting.{nodes_of, HasNodes, HasTokens, CutsAt}
use Rattle.java_lex.proofs.Lengths.{piece_fits}
use Rattle.java_lex.proofs.Steps.{with_tokens, followed, tokens_are}

-- Whole front rest nodes: where rest follows, front is read as whole pieces, which give these tokens
pub data Whole : List ℕ → List ℕ → List TokenNode → Type 0 where
  none : {rest : List ℕ} → Whole [] rest []
  gap : (x front : List ℕ) {rest : List ℕ} {nodes : List TokenNode} → 0 < length x → piece_of (x ++ (front ++ rest)) ≡ Gap (length x) → Whole front rest nodes → Whole (x ++ front) rest nodes
  token : (x front : List ℕ) {rest : List ℕ} {node : TokenNode} {nodes : List TokenNode} → 0 < length x → piece_of (x ++ (front ++ rest)) ≡ Lexeme node (length x) → Whole front rest nodes → Whole (x ++ front) rest (node ∷ nodes)

-- ---- lists

pub take_front : (x y : List ℕ) → take (length x) (x ++ y) ≡ x
take_front [] y = refl
take_front (b ∷ x) y = ap (λ (bs : List ℕ). b ∷ bs) (take_front x y)

pub drop_front : (x y : List ℕ) → drop (length x) (x ++ y) ≡ y
drop_front [] y = refl
drop_front (b ∷ x) y = drop_front x y

pub split_at : (n : ℕ) (bs : List ℕ) → take n bs ++ drop n bs ≡ bs
split_at zero bs = refl
split_at (suc n) [] = refl
split_at (suc n) (b ∷ bs) = ap (λ (cs : List ℕ). b ∷ cs) (split_at n bs)

-- two ways to part a list at the same length are one
pub record SameParts (x y u v : List ℕ) : Type 0 where
  pub front : x ≡ u
  pub back : y ≡ v

pub same_parts : (x y u v : List ℕ) → x ++ y ≡ u ++ v → length x ≡ length u → SameParts x y u v
same_parts [] y [] v e l = record { front = refl; back = e }
same_parts [] y (c ∷ u) v e l = absurd (omega arith)
same_parts (b ∷ x) y [] v e l = absurd (omega arith)
same_parts (b ∷ x) y (c ∷ u) v e l =
    let tail : x ++ y ≡ u ++ v = cc in
    let head : b ≡ c = cc in
    let r : SameParts x y u v = same_parts x y u v tail (omega arith) in
    record { front = rw (head, r.front) refl; back = r.back }

pub place_after_append : (p : Place) (xs ys : List ℕ) → place_after p (xs ++ ys) ≡ place_after (place_after p xs) ys
place_after_append p [] ys = refl
place_after_append p (x ∷ xs) ys = place_after_append (next_place p x) xs ys

next_index : (p : Place) (b : ℕ) → (next_place p b).index ≡ p.index + 1
next_index p b = by (eqb b 10)
  where
    by : (c : Bool) → (cond {A = Place} c (record { line = p.line + 1; column = 1; index = p.index + 1 }) (record { line = p.line; column = p.column + 1; index = p.index + 1 })).index ≡ p.index + 1
    by true = refl
    by false = refl

pub index_after : (p : Place) (bs : List ℕ) → (place_after p bs).index ≡ p.index + length bs
index_after p [] = sym (add-zero p.index)
index_after p (b ∷ bs) = omega (arith, index_after (next_place p b) bs, next_index p b)

pub nodes_append : (us vs : List Token) → nodes_of (us ++ vs) ≡ nodes_of us ++ nodes_of vs
nodes_append [] vs = refl
nodes_append (u ∷ us) vs = ap (λ (ns : List TokenNode). u.node ∷ ns) (nodes_append us vs)

-- ---- from pieces to tokens

-- the tokens of whole pieces, and then those of the rest
pub record Leads (p : Place) (front rest : List ℕ) (nodes : List TokenNode) : Type 0 where
  pub tokens : List Token
  pub same : nodes_of tokens ≡ nodes
  pub read : tokens_from p 0 (front ++ rest) ≡ with_tokens tokens (tokens_from (place_after p front) 0 rest)

pub without_tokens : (read : Result (List Token) LexFault) → read ≡ with_tokens [] read
without_tokens (Ok ts) = refl
without_tokens (Err e) = refl

regrouped : (front one : List Token) (read : Result (List Token) LexFault) → with_tokens front (with_tokens one read) ≡ with_tokens (front ++ one) read
regrouped front one (Ok ts) = ap (λ (us : List Token). Ok us) (sym (append_assoc front one ts))
regrouped front one (Err e) = refl

-- the tokens of bytes that begin with a piece
first_is : (p : Place) (x bs : List ℕ) (piece : Piece) → 0 < length x → piece_of (x ++ bs) ≡ piece → piece_len piece ≡ length x
    → tokens_from p 0 (x ++ bs) ≡ followed (kept piece p (place_after p x)) (tokens_from (place_after p x) 0 bs)
first_is p x bs piece some is_piece is_len =
    let long : 0 < length (x ++ bs) = omega (arith, length-append x bs) in
    let n : piece_len (piece_of (x ++ bs)) ≡ length x = ap piece_len is_piece ∙ is_len in
    tokens_are p (x ++ bs) long
    ∙ rw (n, is_piece, take_front x bs, drop_front x bs) refl

pub leads : (p : Place) (front rest : List ℕ) (nodes : List TokenNode) → Whole front rest nodes → Leads p front rest nodes
leads p [] rest [] none = record { tokens = []; same = refl; read = without_tokens (tokens_from p 0 rest) }
leads p front rest nodes (gap x f {rest = r} {nodes = ns} some e w) =
    let next : Leads (place_after p x) f r ns = leads (place_after p x) f r ns w in
    record {
      tokens = next.tokens;
      same = next.same;
      read = rw (append_assoc x f r, place_after_append p x f) (first_is p x (f ++ r) (Gap (length x)) some e refl ∙ (sym (without_tokens (tokens_from (place_after p x) 0 (f ++ r))) ∙ next.read));
    }
leads p front rest nodes (token x f {rest = r} {node} {nodes = ns} some e w) =
    let next : Leads (place_after p x) f r ns = leads (place_after p x) f r ns w in
    let first : Token = record { span = between p (place_after p x); node = node } in
    record {
      tokens = first ∷ next.tokens;
      same = ap (λ (ms : List TokenNode). node ∷ ms) next.same;
      read = rw (append_assoc x f r, place_after_append p x f)
          (first_is p x (f ++ r) (Lexeme node (length x)) some e refl ∙ (ap (with_tokens (first ∷ [])) next.read ∙ regrouped (first ∷ []) next.tokens (tokens_from (place_after (place_after p x) f) 0 r)));
    }

-- ---- from tokens to pieces

-- where the last of these tokens ends, or else q
abbrev pub end_of : ℕ → List Token → ℕ
end_of q [] = q
end_of q (t ∷ ts) = end_of t.span.end ts

-- the bytes are whole pieces with the tokens us, up to the end of the last one, and then a rest with the tokens vs
pub record Parted (p : Place) (bs : List ℕ) (us vs : List Token) : Type 0 where
  pub front : List ℕ
  pub rest : List ℕ
  pub parts : bs ≡ front ++ rest
  pub whole : Whole front rest (nodes_of us)
  pub ends : end_of p.index us ≡ p.index + length front
  pub read : tokens_from (place_after p front) 0 rest ≡ Ok vs

nothing_parted : (p : Place) (bs : List ℕ) (vs : List Token) → tokens_from p 0 bs ≡ Ok vs → Parted p bs [] vs
nothing_parted p bs vs e = record { front = []; rest = bs; parts = refl; whole = none; ends = sym (add-zero p.index); read = e }

-- a piece before
gap_before : (p : Place) (bs : List ℕ) (n : ℕ) (u : Token) (us vs : List Token) → 0 < n → n ≤ length bs → piece_of bs ≡ Gap n
    → Parted (place_after p (take n bs)) (drop n bs) (u ∷ us) vs → Parted p bs (u ∷ us) vs
gap_before p bs n u us vs some le e r =
    let long : length (take n bs) ≡ n = omega (arith, length-take n bs) in
    let all : take n bs ++ (r.front ++ r.rest) ≡ bs = ap (λ (cs : List ℕ). take n bs ++ cs) (sym r.parts) ∙ split_at n bs in
    record {
      front = take n bs ++ r.front;
      rest = r.rest;
      parts = sym all ∙ sym (append_assoc (take n bs) r.front r.rest);
      whole = gap (take n bs) r.front (omega (arith, long)) (ap piece_of all ∙ e ∙ ap (λ (k : ℕ). Gap k) (sym long)) r.whole;
      ends = omega (arith, r.ends, length-append (take n bs) r.front, index_after p (take n bs));
      read = rw (place_after_append p (take n bs) r.front) r.read;
    }

token_before : (p : Place) (bs : List ℕ) (n : ℕ) (node : TokenNode) (u : Token) (us vs : List Token) → 0 < n → n ≤ length bs → piece_of bs ≡ Lexeme node n
    → u ≡ record { span = between p (place_after p (take n bs)); node = node }
    → Parted (place_after p (take n bs)) (drop n bs) us vs → Parted p bs (u ∷ us) vs
token_before p bs n node u us vs some le e is_u r =
    let long : length (take n bs) ≡ n = omega (arith, length-take n bs) in
    let all : take n bs ++ (r.front ++ r.rest) ≡ bs = ap (λ (cs : List ℕ). take n bs ++ cs) (sym r.parts) ∙ split_at n bs in
    let whole : Whole (take n bs ++ r.front) r.rest (node ∷ nodes_of us) =
    token (take n bs) r.front (omega (arith, long)) (ap piece_of all ∙ e ∙ ap (λ (k : ℕ). Lexeme node k) (sym long)) r.whole in
    let end_is : u.span.end ≡ (place_after p (take n bs)).index = ap (λ (t : Token). t.span.end) is_u in
    record {
      front = take n bs ++ r.front;
      rest = r.rest;
      parts = sym all ∙ sym (append_assoc (take n bs) r.front r.rest);
      whole = rw is_u whole;
      ends = ap (λ (q : ℕ). end_of q us) end_is ∙ (r.ends ∙ omega (arith, length-append (take n bs) r.front, index_after p (take n bs)));
      read = rw (place_after_append p (take n bs) r.front) r.read;
    }

-- what a token in front leaves
pub record Left (one : Token) (read : Result (List Token) LexFault) (u : Token) (us : List Token) : Type 0 where
  pub first : u ≡ one
  pub read_is : read ≡ Ok us

pub left_by : (one u : Token) (us : List Token) (read : Result (List Token) LexFault) → with_tokens (one ∷ []) read ≡ Ok (u ∷ us) → Left one read u us
left_by one u us (Ok ts) e =
    let first : u ≡ one = cc in
    let others : ts ≡ us = cc in
    record { first = first; read_is = ap (λ (xs : List Token). Ok xs) others }
left_by one u us (Err f) e = absurd cc

pub none_in : (p : Place) (u : Token) (us : List Token) → tokens_from p 0 [] ≡ Ok (u ∷ us) → ⊥
unfolding tokens_from
none_in p u us e = cc

-- what can be said of at most k bytes
abbrev PartedUpTo : ℕ → Type 0
PartedUpTo k = (p : Place) (bs : List ℕ) (us vs : List Token) → length bs ≤ k → tokens_from p 0 bs ≡ Ok (us ++ vs) → Parted p bs us vs

parted_piece : (k : ℕ) → PartedUpTo k → (p : Place) (b : ℕ) (bs : List ℕ) (u : Token) (us vs : List Token) (piece : Piece) → piece_of (b ∷ bs) ≡ piece → FitsIn (suc (length bs)) piece → length (b ∷ bs) ≤ suc k
    → followed (kept piece p (place_after p (take (piece_len piece) (b ∷ bs)))) (tokens_from (place_after p (take (piece_len piece) (b ∷ bs))) 0 (drop (piece_len piece) (b ∷ bs))) ≡ Ok (u ∷ (us ++ vs))
    → Parted p (b ∷ bs) (u ∷ us) vs
parted_piece k again p b bs u us vs (Gap n) is_piece fits le e =
    gap_before p (b ∷ bs) n u us vs fits.0 fits.1 is_piece
    (again (place_after p (take n (b ∷ bs))) (drop n (b ∷ bs)) (u ∷ us) vs (omega (arith, fits.0, length-drop n (b ∷ bs)))
    (without_tokens (tokens_from (place_after p (take n (b ∷ bs))) 0 (drop n (b ∷ bs))) ∙ e))
parted_piece k again p b bs u us vs (Lexeme node n) is_piece fits le e =
    let one : Token = record { span = between p (place_after p (take n (b ∷ bs))); node = node } in
    let left : Left one (tokens_from (place_after p (take n (b ∷ bs))) 0 (drop n (b ∷ bs))) u (us ++ vs) =
    left_by one u (us ++ vs) (tokens_from (place_after p (take n (b ∷ bs))) 0 (drop n (b ∷ bs))) e in
    token_before p (b ∷ bs) n node u us vs fits.0 fits.1 is_piece left.first
    (again (place_after p (take n (b ∷ bs))) (drop n (b ∷ bs)) us vs (omega (arith, fits.0, length-drop n (b ∷ bs))) left.read_is)
parted_piece k again p b bs u us vs (Fault rule n) is_piece fits le e = absurd cc

parted_by : (k : ℕ) → PartedUpTo k
parted_by k p bs [] vs le e = nothing_parted p bs vs e
parted_by k p [] (u ∷ us) vs le e = absurd (none_in p u (us ++ vs) e)
parted_by zero p (b ∷ bs) (u ∷ us) vs le e = absurd (omega arith)
parted_by (suc k) p (b ∷ bs) (u ∷ us) vs le e =
    parted_piece k (λ q cs xs ys h f. parted_by k q cs xs ys h f) p b bs u us vs (piece_of (b ∷ bs)) refl (piece_fits b bs) le
    (sym (tokens_are p (b ∷ bs) (omega arith)) ∙ e)

-- where bytes have the tokens us and then vs, they part between them
pub parted : (p : Place) (bs : List ℕ) (us vs : List Token) → tokens_from p 0 bs ≡ Ok (us ++ vs) → Parted p bs us vs
parted p bs us vs e = parted_by (length bs) p bs us vs (omega arith) e

-- ---- the place where bytes stand matters for spans alone

abbrev pub aside : Result (List Token) LexFault → Option (List TokenNode)
aside (Ok ts) = Some (nodes_of ts)
aside (Err e) = None

with_token_aside : (t u : Token) (r s : Result (List Token) LexFault) → t.node ≡ u.node → aside r ≡ aside s → aside (with_token t r) ≡ aside (with_token u s)
with_token_aside t u (Ok xs) (Ok ys) n e =
    let same : nodes_of xs ≡ nodes_of ys = cc in
    ap (λ (ns : List TokenNode). Some (t.node ∷ ns)) same ∙ ap (λ (m : TokenNode). Some (m ∷ nodes_of ys)) n
with_token_aside t u (Ok xs) (Err f) n e = absurd cc
with_token_aside t u (Err f) (Ok ys) n e = absurd cc
with_token_aside t u (Err f) (Err g) n e = refl

moved_piece : (piece : Piece) (p q : Place) (bs : List ℕ) (r s : ℕ → Result (List Token) LexFault) → ((n : ℕ) → aside (r n) ≡ aside (s n)) → aside (tokens_by piece p bs r) ≡ aside (tokens_by piece q bs s)
moved_piece (Gap n) p q bs r s h = h n
moved_piece (Lexeme node n) p q bs r s h = with_token_aside (token_at p n bs node) (token_at q n bs node) (r n) (s n) refl (h n)
moved_piece (Fault rule n) p q bs r s h = refl

pub moved : (p q : Place) (k : ℕ) (bs : List ℕ) → aside (tokens_from p k bs) ≡ aside (tokens_from q k bs)
unfolding tokens_from
moved p q zero [] = refl
moved p q (suc k) [] = refl
moved p q (suc k) (b ∷ bs) = moved (next_place p b) (next_place q b) k bs
moved p q zero (b ∷ bs) = moved_piece (piece_of (b ∷ bs)) p q (b ∷ bs) (λ n. tokens_from (next_place p b) (pred n) bs) (λ n. tokens_from (next_place q b) (pred n) bs) (λ n. moved (next_place p b) (next_place q b) (pred n) bs)

pub lexed_by : (text : List ℕ) (nodes : List TokenNode) (read : Result (List Token) LexFault) → tokens_from first_place 0 text ≡ read → aside read ≡ Some nodes → HasNodes text nodes
lexed_by text nodes (Ok ts) e h = record {
  tokens = record { list = ts; end = between (place_after first_place text) (place_after first_place text) };
  read = ap (ended text) e;
  same = cc;
}
lexed_by text nodes (Err f) e h = absurd cc

-- bytes that have tokens at any place have them as a text
pub as_a_text : (p : Place) (text : List ℕ) (ts : List Token) → tokens_from p 0 text ≡ Ok ts → HasNodes text (nodes_of ts)
as_a_text p text ts e = lexed_by text (nodes_of ts) (tokens_from first_place 0 text) refl (moved first_place p 0 text ∙ ap aside e)

-- the tokens of a text
list_by : (text : List ℕ) (tokens : Tokens) (read : Result (List Token) LexFault) → ended text read ≡ Ok tokens → read ≡ Ok tokens.list
list_by text tokens (Ok ts) e =
    let same : record { list = ts; end = between (place_after first_place text) (place_after first_place text) } ≡ tokens = cc in
    ap (λ (t : Tokens). Ok t.list) same
list_by text tokens (Err f) e = absurd cc

pub list_of : (text : List ℕ) (ts : List Token) → HasTokens text ts → tokens_from first_place 0 text ≡ Ok ts
list_of text ts h = list_by text h.0 (tokens_from first_place 0 text) h.1 ∙ ap (λ (us : List Token). Ok us) h.2

-- ---- the cut law

end_of_append : (q : ℕ) (us : List Token) (t : Token) → end_of q (us ++ t ∷ []) ≡ t.span.end
end_of_append q [] t = refl
end_of_append q (u ∷ us) t = end_of_append u.span.end us t

read_at : (p : Place) (front rest f r : List ℕ) (ts : List Token) → front ≡ f → rest ≡ r → tokens_from (place_after p f) 0 r ≡ Ok ts → tokens_from (place_after p front) 0 rest ≡ Ok ts
read_at p front rest f r ts e g h = rw (e, g) h

pub cuts : (front rest : List ℕ) (before after : List Token) (last : Token) → HasTokens (front ++ rest) (before ++ last ∷ after) → last.span.end ≡ length front → CutsAt front rest after
cuts front rest before after last h ends =
    let list : tokens_from first_place 0 (front ++ rest) ≡ Ok ((before ++ last ∷ []) ++ after) =
    list_of (front ++ rest) (before ++ last ∷ after) h ∙ ap (λ (ts : List Token). Ok ts) (sym (append_assoc before (last ∷ []) after)) in
    let r : Parted first_place (front ++ rest) (before ++ last ∷ []) after = parted first_place (front ++ rest) (before ++ last ∷ []) after list in
    let long : length front ≡ length r.front = omega (arith, ends, r.ends, end_of_append 0 before last) in
    let same : SameParts front rest r.front r.rest = same_parts front rest r.front r.rest r.parts long in
    let read : tokens_from (place_after first_place front) 0 rest ≡ Ok after = read_at first_place front rest r.front r.rest after same.front same.back r.read in
    record { counted_on = read; alone = as_a_text (place_after first_place front) rest after read }
