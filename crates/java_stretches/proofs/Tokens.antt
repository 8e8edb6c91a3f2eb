-- Bytes of a text are replaced from token to token.
use Rattle.std.proofs.Common.{◌≡◌, ℕ, zero, suc, ◌+◌, ◌≤◌, ◌<◌, true, List, [], ◌∷◌, ◌++◌, length, take, drop, Result, Ok, Err, Some, refl, sym, ap, ◌∙◌, subst, append_assoc, arith, length-append, add-zero}
use Rattle.std.proofs.lemmas.List.{append-nil, length-take, length-drop}
use Rattle.qbs_base.specs.declared.place.Place.{Place}
use Rattle.java_lex.specs.declared.piece.Piece.{Piece}
use Rattle.java_lex.specs.declared.piece.Piece.TheVariants.{Gap, Token as Lexeme, Fault}
use Rattle.java_lex.specs.declared.token.LexFault.{LexFault}
use Rattle.java_lex.specs.declared.token.Token.{Token}
use Rattle.java_lex.specs.declared.token.TokenNode.{TokenNode}
use Rattle.java_lex.specs.declared.token.TokenNode.TheVariants.{Sign}
use Rattle.java_lex.specs.Bytes.{is_in_line}
use Rattle.qbs_base.specs.Places.{place_after, first_place, between}
use Rattle.java_lex.specs.Pieces.{piece_of}
use Rattle.java_lex.specs.Fits.{FitsIn, piece_len}
use Rattle.java_lex.specs.Lexing.{tokens_from}
use Rattle.java_lex.specs.Kept.{kept}
use Rattle.java_lex.specs.Cutting.{nodes_of, HasNodes, HasTokens, EndsAt, Closes, EndsStatement}
use Rattle.java_lex.proofs.Lengths.{piece_fits}
use Rattle.java_lex.proofs.Steps.{with_tokens, followed, tokens_are}
use Rattle.java_lex.proofs.Pieced.{Good, piece_local}
use Rattle.java_lex.proofs.Ended.{gap_ended, first_in_line, closes_alone, sign_is_there}
use Rattle.java_lex.proofs.Cut.{Whole, none, gap, token, split_at, SameParts, same_parts, place_after_append, index_after, nodes_append, Leads, leads, end_of, Parted, parted, Left, left_by, without_tokens, none_in, aside, moved, lexed_by, list_of}

-- ---- what follows whole pieces

-- lists with the same first byte
record SameFirst (u v : List ℕ) : Type 0 where
  byte : ℕ
  more : List ℕ
  others : List ℕ
  left : u ≡ byte ∷ more
  right : v ≡ byte ∷ others

behind_same : (f u v : List ℕ) → SameFirst u v → SameFirst (f ++ u) (f ++ v)
behind_same [] u v s = s
behind_same (b ∷ f) u v s = record { byte = b; more = f ++ u; others = f ++ v; left = refl; right = refl }

good_gap : (n : ℕ) (piece : Piece) → piece ≡ Gap n → Good n piece
good_gap n piece e = subst (λ (p : Piece). Good n p) (sym e) refl

good_token : (n : ℕ) (node : TokenNode) (piece : Piece) → piece ≡ Lexeme node n → Good n piece
good_token n node piece e = subst (λ (p : Piece). Good n p) (sym e) refl

piece_before : (x u v : List ℕ) → SameFirst u v → 0 < length x → Good (length x) (piece_of (x ++ u)) → piece_of (x ++ v) ≡ piece_of (x ++ u)
piece_before [] u v s some good = absurd (omega arith)
piece_before (b ∷ x) u v s some good =
    let at : Good (suc (length x)) (piece_of (b ∷ (x ++ s.byte ∷ s.more))) = subst (λ (w : List ℕ). Good (suc (length x)) (piece_of (b ∷ (x ++ w)))) s.left good in
    ap (λ (w : List ℕ). piece_of (b ∷ (x ++ w))) s.right ∙ (piece_local b x s.byte s.more s.others at ∙ ap (λ (w : List ℕ). piece_of (b ∷ (x ++ w))) (sym s.left))

whole_before : (front u v : List ℕ) (nodes : List TokenNode) → SameFirst u v → Whole front u nodes → Whole front v nodes
whole_before front u v nodes s none = none
whole_before front u v nodes s (gap x f some e w) =
    gap x f some (piece_before x (f ++ u) (f ++ v) (behind_same f u v s) some (good_gap (length x) (piece_of (x ++ (f ++ u))) e) ∙ e) (whole_before f u v nodes s w)
whole_before front u v nodes s (token x f {node} {nodes = ns} some e w) =
    token x f some (piece_before x (f ++ u) (f ++ v) (behind_same f u v s) some (good_token (length x) node (piece_of (x ++ (f ++ u))) e) ∙ e) (whole_before f u v ns s w)

-- a gap before a byte of a line, whatever is put in place of it
gap_before_any : (x f : List ℕ) (d : ℕ) (r z : List ℕ) → is_in_line d ≡ true → 0 < length x → piece_of (x ++ (f ++ d ∷ r)) ≡ Gap (length x) → piece_of (x ++ (f ++ z)) ≡ Gap (length x)
gap_before_any [] f d r z h some e = absurd (omega arith)
gap_before_any (b ∷ x) [] d r z h some e = gap_ended b x d r z h e
gap_before_any (b ∷ x) (c ∷ f) d r z h some e =
    piece_local b x c (f ++ d ∷ r) (f ++ z) (good_gap (suc (length x)) (piece_of (b ∷ (x ++ c ∷ (f ++ d ∷ r)))) e) ∙ e

pub gaps_before_any : (gaps u : List ℕ) (nodes : List TokenNode) (d : ℕ) (r z : List ℕ) → u ≡ d ∷ r → is_in_line d ≡ true → nodes ≡ [] → Whole gaps u nodes → Whole gaps z []
gaps_before_any gaps u nodes d r z e h empty none = none
gaps_before_any gaps u nodes d r z e h empty (gap x f some p w) =
    gap x f some (gap_before_any x f d r z h some (ap (λ (v : List ℕ). piece_of (x ++ (f ++ v))) (sym e) ∙ p)) (gaps_before_any f u nodes d r z e h empty w)
gaps_before_any gaps u nodes d r z e h empty (token x f some p w) = absurd cc

pub whole_append : (u v w : List ℕ) (ms ns : List TokenNode) (r : List ℕ) → r ≡ v ++ w → Whole u r ms → Whole v w ns → Whole (u ++ v) w (ms ++ ns)
whole_append u v w ms ns r e none h = h
whole_append u v w ms ns r e (gap x f some p q) h =
    let at : piece_of (x ++ ((f ++ v) ++ w)) ≡ Gap (length x) = ap (λ (k : List ℕ). piece_of (x ++ k)) (append_assoc f v w ∙ ap (λ (k : List ℕ). f ++ k) (sym e)) ∙ p in
    rw (append_assoc x f v) (gap x (f ++ v) some at (whole_append f v w ms ns r e q h))
whole_append u v w ms ns r e (token x f {node} {nodes = ks} some p q) h =
    let at : piece_of (x ++ ((f ++ v) ++ w)) ≡ Lexeme node (length x) = ap (λ (k : List ℕ). piece_of (x ++ k)) (append_assoc f v w ∙ ap (λ (k : List ℕ). f ++ k) (sym e)) ∙ p in
    rw (append_assoc x f v) (token x (f ++ v) some at (whole_append f v w ks ns r e q h))

-- ---- the next token

-- gaps, the token u of the bytes x, and a rest with the tokens us
pub record Next (p : Place) (bs : List ℕ) (u : Token) (us : List Token) : Type 0 where
  pub gaps : List ℕ
  pub x : List ℕ
  pub rest : List ℕ
  pub parts : bs ≡ gaps ++ (x ++ rest)
  pub some : 0 < length x
  pub whole : Whole gaps (x ++ rest) []
  pub piece : piece_of (x ++ rest) ≡ Lexeme u.node (length x)
  pub starts : u.span.start ≡ p.index + length gaps
  pub ends : u.span.end ≡ p.index + length (gaps ++ x)
  pub here : tokens_from (place_after p gaps) 0 (x ++ rest) ≡ Ok (u ∷ us)
  pub read : tokens_from (place_after p (gaps ++ x)) 0 rest ≡ Ok us

next_gap : (p : Place) (bs : List ℕ) (n : ℕ) (u : Token) (us : List Token) → 0 < n → n ≤ length bs → piece_of bs ≡ Gap n
    → Next (place_after p (take n bs)) (drop n bs) u us → Next p bs u us
next_gap p bs n u us some le e r =
    let long : length (take n bs) ≡ n = omega (arith, length-take n bs) in
    let all : take n bs ++ (r.gaps ++ (r.x ++ r.rest)) ≡ bs = ap (λ (cs : List ℕ). take n bs ++ cs) (sym r.parts) ∙ split_at n bs in
    let group : (take n bs ++ r.gaps) ++ r.x ≡ take n bs ++ (r.gaps ++ r.x) = append_assoc (take n bs) r.gaps r.x in
    record {
      gaps = take n bs ++ r.gaps;
      x = r.x;
      rest = r.rest;
      parts = sym all ∙ sym (append_assoc (take n bs) r.gaps (r.x ++ r.rest));
      some = r.some;
      whole = gap (take n bs) r.gaps (omega (arith, long)) (ap piece_of all ∙ e ∙ ap (λ (k : ℕ). Gap k) (sym long)) r.whole;
      piece = r.piece;
      starts = omega (arith, r.starts, length-append (take n bs) r.gaps, index_after p (take n bs));
      ends = omega (arith, r.ends, ap length group, length-append (take n bs) (r.gaps ++ r.x), index_after p (take n bs));
      here = rw (place_after_append p (take n bs) r.gaps) r.here;
      read = rw (group, place_after_append p (take n bs) (r.gaps ++ r.x)) r.read;
    }

next_token : (p : Place) (bs : List ℕ) (n : ℕ) (node : TokenNode) (u : Token) (us : List Token) → 0 < n → n ≤ length bs → piece_of bs ≡ Lexeme node n
    → u ≡ record { span = between p (place_after p (take n bs)); node = node } → tokens_from p 0 bs ≡ Ok (u ∷ us) → tokens_from (place_after p (take n bs)) 0 (drop n bs) ≡ Ok us
    → Next p bs u us
next_token p bs n node u us some le e is_u here read =
    let long : length (take n bs) ≡ n = omega (arith, length-take n bs) in
    let node_is : u.node ≡ node = ap (λ (t : Token). t.node) is_u in
    let start_is : u.span.start ≡ p.index = ap (λ (t : Token). t.span.start) is_u in
    let end_is : u.span.end ≡ (place_after p (take n bs)).index = ap (λ (t : Token). t.span.end) is_u in
    record {
      gaps = [];
      x = take n bs;
      rest = drop n bs;
      parts = sym (split_at n bs);
      some = omega (arith, long);
      whole = none;
      piece = ap piece_of (split_at n bs) ∙ (e ∙ (ap (λ (m : TokenNode). Lexeme m n) (sym node_is) ∙ ap (λ (k : ℕ). Lexeme u.node k) (sym long)));
      starts = start_is ∙ sym (add-zero p.index);
      ends = end_is ∙ index_after p (take n bs);
      here = ap (tokens_from p 0) (split_at n bs) ∙ here;
      read = read;
    }

abbrev NextUpTo : ℕ → Type 0
NextUpTo k = (p : Place) (bs : List ℕ) (u : Token) (us : List Token) → length bs ≤ k → tokens_from p 0 bs ≡ Ok (u ∷ us) → Next p bs u us

next_piece : (k : ℕ) → NextUpTo k → (p : Place) (b : ℕ) (bs : List ℕ) (u : Token) (us : List Token) (piece : Piece) → piece_of (b ∷ bs) ≡ piece → FitsIn (suc (length bs)) piece → length (b ∷ bs) ≤ suc k
    → tokens_from p 0 (b ∷ bs) ≡ Ok (u ∷ us)
    → followed (kept piece p (place_after p (take (piece_len piece) (b ∷ bs)))) (tokens_from (place_after p (take (piece_len piece) (b ∷ bs))) 0 (drop (piece_len piece) (b ∷ bs))) ≡ Ok (u ∷ us)
    → Next p (b ∷ bs) u us
next_piece k again p b bs u us (Gap n) is_piece fits le whole e =
    next_gap p (b ∷ bs) n u us fits.0 fits.1 is_piece
    (again (place_after p (take n (b ∷ bs))) (drop n (b ∷ bs)) u us (omega (arith, fits.0, length-drop n (b ∷ bs)))
    (without_tokens (tokens_from (place_after p (take n (b ∷ bs))) 0 (drop n (b ∷ bs))) ∙ e))
next_piece k again p b bs u us (Lexeme node n) is_piece fits le whole e =
    let one : Token = record { span = between p (place_after p (take n (b ∷ bs))); node = node } in
    let left : Left one (tokens_from (place_after p (take n (b ∷ bs))) 0 (drop n (b ∷ bs))) u us = left_by one u us (tokens_from (place_after p (take n (b ∷ bs))) 0 (drop n (b ∷ bs))) e in
    next_token p (b ∷ bs) n node u us fits.0 fits.1 is_piece left.first whole left.read_is
next_piece k again p b bs u us (Fault rule n) is_piece fits le whole e = absurd cc

next_by : (k : ℕ) → NextUpTo k
next_by k p [] u us le e = absurd (none_in p u us e)
next_by zero p (b ∷ bs) u us le e = absurd (omega arith)
next_by (suc k) p (b ∷ bs) u us le e =
    next_piece k (λ q cs v vs h f. next_by k q cs v vs h f) p b bs u us (piece_of (b ∷ bs)) refl (piece_fits b bs) le e
    (sym (tokens_are p (b ∷ bs) (omega arith)) ∙ e)

pub next : (p : Place) (bs : List ℕ) (u : Token) (us : List Token) → tokens_from p 0 bs ≡ Ok (u ∷ us) → Next p bs u us
next p bs u us e = next_by (length bs) p bs u us (omega arith) e

-- ---- up to the end of a statement

-- bytes that are whole pieces whatever follows, and a rest
pub record Ended (p : Place) (bs : List ℕ) (us : List Token) (end : ℕ) (vs : List Token) : Type 0 where
  pub front : List ℕ
  pub rest : List ℕ
  pub parts : bs ≡ front ++ rest
  pub whole : (z : List ℕ) → Whole front z (nodes_of us)
  pub ends : end ≡ p.index + length front
  pub read : tokens_from (place_after p front) 0 rest ≡ Ok vs

-- the one byte of such a sign
sign_byte_is : (x rest : List ℕ) (b : ℕ) → 0 < length x → piece_of (x ++ rest) ≡ Lexeme (Sign (b ∷ [])) (length x) → x ≡ b ∷ []
sign_byte_is [] rest b some e = absurd (omega arith)
sign_byte_is (a ∷ []) rest b some e = ap (λ (c : ℕ). c ∷ []) (sign_is_there a rest b 1 e).0
sign_byte_is (a ∷ c ∷ x) rest b some e =
    let one : suc (suc (length x)) ≡ 1 = (sign_is_there a (c ∷ (x ++ rest)) b (suc (suc (length x))) e).1 in
    absurd (omega (arith, one))

ended_by : (p : Place) (bs : List ℕ) (us vs : List Token) (s : Token) (b : ℕ) → Closes b → s.node ≡ Sign (b ∷ []) → (r : Parted p bs us (s ∷ vs)) → Next (place_after p r.front) r.rest s vs → Ended p bs (us ++ s ∷ []) s.span.end vs
ended_by p bs us vs s b closes node r n =
    let x_is : n.x ≡ b ∷ [] = sign_byte_is n.x n.rest b n.some (n.piece ∙ ap (λ (m : TokenNode). Lexeme m (length n.x)) node) in
    let group : (r.front ++ (n.gaps ++ n.x)) ++ n.rest ≡ r.front ++ (n.gaps ++ (n.x ++ n.rest)) = append_assoc r.front (n.gaps ++ n.x) n.rest ∙ ap (λ (k : List ℕ). r.front ++ k) (append_assoc n.gaps n.x n.rest) in
    record {
      front = r.front ++ (n.gaps ++ n.x);
      rest = n.rest;
      parts = r.parts ∙ (ap (λ (k : List ℕ). r.front ++ k) n.parts ∙ sym group);
      whole = λ z. rw (nodes_append us (s ∷ []), x_is, node) (all x_is z);
      ends = omega (arith, n.ends, index_after p r.front, length-append r.front (n.gaps ++ n.x));
      read = rw (place_after_append p r.front (n.gaps ++ n.x)) n.read;
    }
  where
    all : n.x ≡ b ∷ [] → (z : List ℕ) → Whole (r.front ++ (n.gaps ++ b ∷ [])) z (nodes_of us ++ Sign (b ∷ []) ∷ [])
    all x_is z =
        let here : Whole (b ∷ []) z (Sign (b ∷ []) ∷ []) = token (b ∷ []) [] (omega arith) (closes_alone b closes z) none in
        let same : SameFirst (n.x ++ n.rest) (b ∷ z) = record { byte = b; more = n.rest; others = z; left = ap (λ (k : List ℕ). k ++ n.rest) x_is; right = refl } in
        let gaps : Whole n.gaps (b ∷ z) [] = whole_before n.gaps (n.x ++ n.rest) (b ∷ z) [] same n.whole in
        let after : Whole (n.gaps ++ b ∷ []) z (Sign (b ∷ []) ∷ []) = whole_append n.gaps (b ∷ []) z [] (Sign (b ∷ []) ∷ []) (b ∷ z) refl gaps here in
        let first : SameFirst (n.gaps ++ (n.x ++ n.rest)) ((n.gaps ++ b ∷ []) ++ z) =
        subst (λ (k : List ℕ). SameFirst (n.gaps ++ (n.x ++ n.rest)) k) (sym (append_assoc n.gaps (b ∷ []) z)) (behind_same n.gaps (n.x ++ n.rest) (b ∷ z) same) in
        let before : Whole r.front ((n.gaps ++ b ∷ []) ++ z) (nodes_of us) =
        whole_before r.front (n.gaps ++ (n.x ++ n.rest)) ((n.gaps ++ b ∷ []) ++ z) (nodes_of us) first (subst (λ (k : List ℕ). Whole r.front k (nodes_of us)) n.parts r.whole) in
        whole_append r.front (n.gaps ++ b ∷ []) z (nodes_of us) (Sign (b ∷ []) ∷ []) ((n.gaps ++ b ∷ []) ++ z) refl before after

ended : (p : Place) (bs : List ℕ) (us vs : List Token) (s : Token) (b : ℕ) → Closes b → s.node ≡ Sign (b ∷ []) → tokens_from p 0 bs ≡ Ok (us ++ s ∷ vs) → Ended p bs (us ++ s ∷ []) s.span.end vs
ended p bs us vs s b closes node e =
    let r : Parted p bs us (s ∷ vs) = parted p bs us (s ∷ vs) e in
    ended_by p bs us vs s b closes node r (next (place_after p r.front) r.rest s vs r.read)

-- ---- the law

-- the last token of a list that ends a statement
record Last (ts : List Token) : Type 0 where
  before : List Token
  last : Token
  byte : ℕ
  parts : ts ≡ before ++ last ∷ []
  closes : Closes byte
  node : last.node ≡ Sign (byte ∷ [])

last_of : (ts : List Token) → EndsStatement ts → Last ts
last_of [] h = absurd h
last_of (t ∷ []) h = record { before = []; last = t; byte = h.0; parts = refl; closes = h.1; node = h.2 }
last_of (t ∷ u ∷ us) h =
    let r : Last (u ∷ us) = last_of (u ∷ us) h in
    record { before = t ∷ r.before; last = r.last; byte = r.byte; parts = ap (λ (ts : List Token). t ∷ ts) r.parts; closes = r.closes; node = r.node }

pub end_is : (q k : ℕ) (ts : List Token) → EndsAt q ts → end_of k ts ≡ q
end_is q k [] h = absurd h
end_is q k (t ∷ []) h = h
end_is q k (t ∷ u ∷ us) h = end_is q t.span.end (u ∷ us) h

end_of_last : (k : ℕ) (us : List Token) (s : Token) → end_of k (us ++ s ∷ []) ≡ s.span.end
end_of_last k [] s = refl
end_of_last k (u ∷ us) s = end_of_last u.span.end us s

-- a list of tokens that ends a statement
module _ (p : Place) (bs : List ℕ) (us vs : List Token) where
  pub ended_list : EndsStatement us → tokens_from p 0 bs ≡ Ok (us ++ vs) → Ended p bs us (end_of 0 us) vs
  ended_list h e =
      let l : Last us = last_of us h in
      let split : us ++ vs ≡ l.before ++ l.last ∷ vs = ap (λ (ts : List Token). ts ++ vs) l.parts ∙ append_assoc l.before (l.last ∷ []) vs in
      let r : Ended p bs (l.before ++ l.last ∷ []) l.last.span.end vs = ended p bs l.before vs l.last l.byte l.closes l.node (e ∙ ap (λ (ts : List Token). Ok ts) split) in
      let end : end_of 0 us ≡ l.last.span.end = ap (end_of 0) l.parts ∙ end_of_last 0 l.before l.last in
      record {
        front = r.front;
        rest = r.rest;
        parts = r.parts;
        whole = λ z. subst (λ (ts : List Token). Whole r.front z (nodes_of ts)) (sym l.parts) (r.whole z);
        ends = end ∙ r.ends;
        read = r.read;
      }

-- bytes up to the start of a token
record Before (front old rest : List ℕ) (before within after : List Token) : Type 0 where
  whole : (z : List ℕ) → Whole front z (nodes_of before)
  read : tokens_from (place_after first_place front) 0 (old ++ rest) ≡ Ok (within ++ after)

pub whole_to : (a f g : List ℕ) (nodes : List TokenNode) → a ≡ f ++ g → ((z : List ℕ) → Whole f z nodes) → ((z : List ℕ) → Whole g z []) → (z : List ℕ) → Whole a z nodes
whole_to a f g nodes e h k z =
    subst (λ (bs : List ℕ). Whole bs z nodes) (sym e)
    (subst (λ (ms : List TokenNode). Whole (f ++ g) z ms) (append-nil nodes) (whole_append f g z nodes [] (g ++ z) refl (h (g ++ z)) (k z)))

before_token : (front bs : List ℕ) (before vs : List Token) (u : Token) (us : List Token) (r : Ended first_place (front ++ bs) before (end_of 0 before) (u ∷ us)) → Next (place_after first_place r.front) r.rest u us
    → u.span.start ≡ length front → ((z : List ℕ) → Whole front z (nodes_of before)) × (tokens_from (place_after first_place front) 0 bs ≡ Ok (u ∷ us))
before_token front bs before vs u us r n starts =
    (whole_to front r.front n.gaps (nodes_of before) same.front r.whole gaps, read_there (place_after first_place (r.front ++ n.gaps)) (place_after first_place front) (n.x ++ n.rest) bs (ap (place_after first_place) same.front) same.back (rw (place_after_append first_place r.front n.gaps) n.here))
  where
    parts : front ++ bs ≡ (r.front ++ n.gaps) ++ (n.x ++ n.rest)
    parts = r.parts ∙ (ap (λ (k : List ℕ). r.front ++ k) n.parts ∙ sym (append_assoc r.front n.gaps (n.x ++ n.rest)))

    long : length front ≡ length (r.front ++ n.gaps)
    long = omega (arith, starts, n.starts, index_after first_place r.front, length-append r.front n.gaps)

    same : SameParts front bs (r.front ++ n.gaps) (n.x ++ n.rest)
    same = same_parts front bs (r.front ++ n.gaps) (n.x ++ n.rest) parts long

    read_there : (q p : Place) (cs ds : List ℕ) → p ≡ q → ds ≡ cs → tokens_from q 0 cs ≡ Ok (u ∷ us) → tokens_from p 0 ds ≡ Ok (u ∷ us)
    read_there q p cs ds e f g = rw (e, f) g

    gaps_by : (x : List ℕ) → 0 < length x → piece_of (x ++ n.rest) ≡ Lexeme u.node (length x) → Whole n.gaps (x ++ n.rest) [] → (z : List ℕ) → Whole n.gaps z []
    gaps_by [] some e w z = absurd (omega arith)
    gaps_by (d ∷ x) some e w z = gaps_before_any n.gaps (d ∷ (x ++ n.rest)) [] d (x ++ n.rest) z refl (first_in_line d (x ++ n.rest) u.node (suc (length x)) e) refl w

    gaps : (z : List ℕ) → Whole n.gaps z []
    gaps z = gaps_by n.x n.some n.piece n.whole z

-- what is left behind the tokens within, which end where the bytes old do
rest_is : (p : Place) (old rest : List ℕ) (within after : List Token) → EndsAt (p.index + length old) within → (r : Parted p (old ++ rest) within after) → tokens_from (place_after p old) 0 rest ≡ Ok after
rest_is p old rest within after ends r =
    read_there old r.front rest r.rest same.front same.back r.read
  where
    long : length old ≡ length r.front
    long = omega (arith, r.ends, end_is (p.index + length old) p.index within ends)

    same : SameParts old rest r.front r.rest
    same = same_parts old rest r.front r.rest r.parts long

    read_there : (a b c d : List ℕ) → a ≡ b → c ≡ d → tokens_from (place_after p b) 0 d ≡ Ok after → tokens_from (place_after p a) 0 c ≡ Ok after
    read_there a b c d e f g = rw (e, f) g

-- a whole text that ends a statement
pub statements : (text : List ℕ) (ts : List Token) → HasTokens text ts → EndsStatement ts → EndsAt (length text) ts → (z : List ℕ) → Whole text z (nodes_of ts)
statements text ts has statement ends = by (ended_list first_place text ts [] statement (list_of text ts has ∙ ap (λ (us : List Token). Ok us) (sym (append-nil ts))))
  where
    by : Ended first_place text ts (end_of 0 ts) [] → (z : List ℕ) → Whole text z (nodes_of ts)
    by r z =
        let long : length text ≡ length r.front = omega (arith, r.ends, end_is (length text) 0 ts ends) in
        let same : SameParts text [] r.front r.rest = same_parts text [] r.front r.rest (append-nil text ∙ r.parts) long in
        subst (λ (bs : List ℕ). Whole bs z (nodes_of ts)) (sym same.front) (r.whole z)

pub joined : (text : List ℕ) (nodes others : List TokenNode) (ts : List Token) (read : Result (List Token) LexFault) → nodes_of ts ≡ nodes → aside read ≡ Some others → aside (with_tokens ts read) ≡ Some (nodes ++ others)
joined text nodes others ts (Ok us) e h =
    let same : nodes_of us ≡ others = cc in
    ap (λ (ns : List TokenNode). Some ns) (nodes_append ts us ∙ (ap (λ (ns : List TokenNode). ns ++ nodes_of us) e ∙ ap (λ (ns : List TokenNode). nodes ++ ns) same))
joined text nodes others ts (Err f) e h = absurd cc

-- whole pieces and then bytes that have tokens
pub whole_text : (front rest : List ℕ) (nodes : List TokenNode) (p : Place) (after : List Token) → Whole front rest nodes → tokens_from p 0 rest ≡ Ok after → HasNodes (front ++ rest) (nodes ++ nodes_of after)
whole_text front rest nodes p after w e =
    let l : Leads first_place front rest nodes = leads first_place front rest nodes w in
    lexed_by (front ++ rest) (nodes ++ nodes_of after) (with_tokens l.tokens (tokens_from (place_after first_place front) 0 rest)) l.read
    (joined (front ++ rest) nodes (nodes_of after) l.tokens (tokens_from (place_after first_place front) 0 rest) l.same (moved (place_after first_place front) p 0 rest ∙ ap aside e))
