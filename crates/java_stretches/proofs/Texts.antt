-- Bytes up to a token, whole texts, and the text in which patches stand.
use Rattle.std.proofs.Common.{◌≡◌, ℕ, suc, ◌+◌, ◌-◌, ◌<◌, List, [], ◌∷◌, ◌++◌, length, take, drop, Ok, refl, sym, ap, ◌∙◌, subst, append_assoc, arith, length-append}
use Rattle.std.proofs.lemmas.List.{append-nil}
use Rattle.qbs_base.specs.declared.place.Place.{Place}
use Rattle.qbs_base.specs.Places.{place_after, first_place}
use Rattle.java_lex.specs.Pieces.{piece_of}
use Rattle.java_lex.specs.declared.piece.Piece.TheVariants.{Token as Lexeme}
use Rattle.java_lex.specs.declared.token.Token.{Token}
use Rattle.java_lex.specs.declared.token.TokenNode.{TokenNode}
use Rattle.java_lex.specs.Lexing.{tokens_from}
use Rattle.java_lex.specs.Cutting.{nodes_of, HasNodes, HasTokens, StartsAt, EndsAt, EndsStatement}
use Rattle.java_lex.proofs.Ended.{first_in_line}
use Rattle.java_lex.proofs.Cut.{Whole, place_after_append, index_after, nodes_append, take_front, drop_front, as_a_text, list_of, Parted, parted, end_of}
use Rattle.java_grammar.proofs.Wholes.{Shut, shut_shut}
use Rattle.java_stretches.specs.Laid.{Patched, with_texts, AreClosed, Covered, Laid}
use Rattle.java_stretches.proofs.Tokens.{Next, next, Ended, ended_list, end_is, gaps_before_any, statements, whole_text}

-- ---- Bytes up to a token

-- the gaps before a token are such whatever stands there
gaps_are : (p : Place) (bs : List ℕ) (u : Token) (us : List Token) (n : Next p bs u us) → Shut n.gaps []
gaps_are p bs u us n = record { by = λ z. by n.x n.some n.piece n.whole z }
  where
    by : (x : List ℕ) → 0 < length x → piece_of (x ++ n.rest) ≡ Lexeme u.node (length x) → Whole n.gaps (x ++ n.rest) [] → (z : List ℕ) → Whole n.gaps z []
    by [] some e w z = absurd (omega arith)
    by (d ∷ x) some e w z = gaps_before_any n.gaps (d ∷ (x ++ n.rest)) [] d (x ++ n.rest) z refl (first_in_line d (x ++ n.rest) u.node (suc (length x)) e) refl w

-- the bytes up to the first of some tokens, and those from there on
pub record UpTo (p : Place) (bs : List ℕ) (c : ℕ) (mid others : List Token) : Type 0 where
  pub front : List ℕ
  pub rest : List ℕ
  pub parts : bs ≡ front ++ rest
  pub long : c ≡ p.index + length front
  pub shut : Shut front (nodes_of mid)
  pub read : tokens_from (place_after p front) 0 rest ≡ Ok others

pub up_to : (p : Place) (bs : List ℕ) (c : ℕ) (mid others : List Token) → tokens_from p 0 bs ≡ Ok (mid ++ others) → AreClosed mid → StartsAt c others → UpTo p bs c mid others
up_to p bs c mid [] e closed starts = absurd starts
up_to p bs c [] (u ∷ us) e closed starts =
    let n : Next p bs u us = next p bs u us e in
    record {
      front = n.gaps;
      rest = n.x ++ n.rest;
      parts = n.parts;
      long = sym starts ∙ n.starts;
      shut = gaps_are p bs u us n;
      read = n.here;
    }
up_to p bs c (m ∷ mid) (u ∷ us) e closed starts =
    let r : Ended p bs (m ∷ mid) (end_of 0 (m ∷ mid)) (u ∷ us) = ended_list p bs (m ∷ mid) (u ∷ us) closed e in
    let n : Next (place_after p r.front) r.rest u us = next (place_after p r.front) r.rest u us r.read in
    record {
      front = r.front ++ n.gaps;
      rest = n.x ++ n.rest;
      parts = r.parts ∙ (ap (λ (bs : List ℕ). r.front ++ bs) n.parts ∙ sym (append_assoc r.front n.gaps (n.x ++ n.rest)));
      long = omega (arith, starts, n.starts, index_after p r.front, length-append r.front n.gaps);
      shut = subst (λ (ns : List TokenNode). Shut (r.front ++ n.gaps) ns) (append-nil (nodes_of (m ∷ mid))) (shut_shut r.front n.gaps (nodes_of (m ∷ mid)) [] (record { by = r.whole }) (gaps_are (place_after p r.front) r.rest u us n));
      read = rw (place_after_append p r.front n.gaps) n.here;
    }

-- ---- Bytes behind a token

-- these tokens stand behind the byte c
pub record From (p : Place) (bs : List ℕ) (c : ℕ) (after : List Token) : Type 0 where
  pub front : List ℕ
  pub rest : List ℕ
  pub parts : bs ≡ front ++ rest
  pub long : c ≡ p.index + length front
  pub read : tokens_from (place_after p front) 0 rest ≡ Ok after

pub from_token : (p : Place) (bs : List ℕ) (c : ℕ) (within after : List Token) → tokens_from p 0 bs ≡ Ok (within ++ after) → EndsAt c within → From p bs c after
from_token p bs c within after e ends =
    let r : Parted p bs within after = parted p bs within after e in
    record { front = r.front; rest = r.rest; parts = r.parts; long = sym (end_is c p.index within ends) ∙ r.ends; read = r.read }

-- ---- Whole texts

text_shut : (text : List ℕ) (ts : List Token) → HasTokens text ts → EndsStatement ts → EndsAt (length text) ts → Shut text (nodes_of ts)
text_shut text ts has closed ends = record { by = statements text ts has closed ends }

pub shut_text : (front rest : List ℕ) (ms ns : List TokenNode) → Shut front ms → HasNodes rest ns → HasNodes (front ++ rest) (ms ++ ns)
shut_text front rest ms ns s n =
    subst (λ (ks : List TokenNode). HasNodes (front ++ rest) (ms ++ ks)) n.same
    (whole_text front rest ms first_place n.tokens.list (s.by rest) (list_of rest n.tokens.list (n.tokens, n.read, refl)))

-- the same place in a text
same_long : (front back : List ℕ) (n : ℕ) → n ≡ length front → take n (front ++ back) ≡ front
same_long front back n e = ap (λ (k : ℕ). take k (front ++ back)) e ∙ take_front front back

same_behind : (front back : List ℕ) (n : ℕ) → n ≡ length front → drop n (front ++ back) ≡ back
same_behind front back n e = ap (λ (k : ℕ). drop k (front ++ back)) e ∙ drop_front front back

-- The text with patches in place has the tokens, spans aside.
pub laid_text : (source pre bytes : List ℕ) (p : Place) (xs : List Patched) (ts : List Token) → source ≡ pre ++ bytes → p.index ≡ length pre → Laid p bytes xs ts → HasNodes (with_texts source p.index xs) (nodes_of ts)
laid_text source pre bytes p [] ts is at h =
    subst (λ (bs : List ℕ). HasNodes bs (nodes_of ts)) (sym (ap (drop p.index) is ∙ same_behind pre bytes p.index at)) (as_a_text p bytes ts h.0)
laid_text source pre bytes p (x ∷ xs) ts is at h =
    let c : Covered p bytes x ts = h.0 in
    let u : UpTo p bytes x.from c.mid c.others = up_to p bytes x.from c.mid c.others c.read c.closed c.starts in
    let q : Place = place_after p (c.front ++ c.old) in
    let index : (place_after p (c.front ++ c.old)).index ≡ x.to = omega (arith, index_after p (c.front ++ c.old), length-append c.front c.old, c.from, c.to) in
    let source_is : source ≡ (pre ++ (c.front ++ c.old)) ++ c.rest = is ∙ (ap (λ (bs : List ℕ). pre ++ bs) (c.bytes_are ∙ sym (append_assoc c.front c.old c.rest)) ∙ sym (append_assoc pre (c.front ++ c.old) c.rest)) in
    let at_rest : (place_after p (c.front ++ c.old)).index ≡ length (pre ++ (c.front ++ c.old)) = omega (arith, index_after p (c.front ++ c.old), length-append pre (c.front ++ c.old), at) in
    let further : HasNodes (with_texts source (place_after p (c.front ++ c.old)).index xs) (nodes_of c.later) =
    laid_text source (pre ++ (c.front ++ c.old)) c.rest (place_after p (c.front ++ c.old)) xs c.later source_is at_rest h.1 in
    let behind : HasNodes (with_texts source x.to xs) (nodes_of c.later) = subst (λ (k : ℕ). HasNodes (with_texts source k xs) (nodes_of c.later)) index further in
    let text : HasNodes (x.text ++ with_texts source x.to xs) (nodes_of c.given ++ nodes_of c.later) =
    shut_text x.text (with_texts source x.to xs) (nodes_of c.given) (nodes_of c.later) (text_shut x.text c.given c.text c.text_closed c.text_ends) behind in
    let all : HasNodes (u.front ++ (x.text ++ with_texts source x.to xs)) (nodes_of c.mid ++ (nodes_of c.given ++ nodes_of c.later)) =
    shut_text u.front (x.text ++ with_texts source x.to xs) (nodes_of c.mid) (nodes_of c.given ++ nodes_of c.later) u.shut text in
    let front_is : take (x.from - p.index) (drop p.index source) ≡ u.front =
    ap (λ (bs : List ℕ). take (x.from - p.index) (drop p.index bs)) is
    ∙ (ap (take (x.from - p.index)) (same_behind pre bytes p.index at) ∙ (ap (take (x.from - p.index)) u.parts ∙ same_long u.front u.rest (x.from - p.index) (omega (arith, u.long)))) in
    let nodes_are : nodes_of ts ≡ nodes_of c.mid ++ (nodes_of c.given ++ nodes_of c.later) =
    ap nodes_of c.tokens_are ∙ (nodes_append c.mid (c.head ∷ (c.tail ++ c.later)) ∙ ap (λ (ns : List TokenNode). nodes_of c.mid ++ ns) (nodes_append (c.head ∷ c.tail) c.later ∙ ap (λ (ns : List TokenNode). ns ++ nodes_of c.later) c.same)) in
    subst (λ (bs : List ℕ). HasNodes (bs ++ (x.text ++ with_texts source x.to xs)) (nodes_of ts)) (sym front_is)
    (subst (λ (ns : List TokenNode). HasNodes (u.front ++ (x.text ++ with_texts source x.to xs)) ns) (sym nodes_are) all)
