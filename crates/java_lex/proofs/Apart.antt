-- Lines and columns tell bytes and tokens apart.
use Rattle.std.proofs.Common.{◌≡◌, ◌⊎◌, ℕ, zero, suc, ◌+◌, ◌≤◌, ◌<◌, Bool, true, false, cond, eqb, List, [], ◌∷◌, length, take, Some, Ok, refl, sym, ◌∙◌, subst, arith, inl, inr}
use Rattle.std.specs.Prelude.{slice_get}
use Rattle.qbs_base.specs.declared.span.Span.{Span}
use Rattle.qbs_base.specs.declared.place.Place.{Place}
use Rattle.java_lex.specs.declared.token.Token.{Token}
use Rattle.java_lex.specs.declared.token.Tokens.{Tokens}
use Rattle.qbs_base.specs.Places.{next_place, place_after, first_place}
use Rattle.java_lex.specs.Lexing.{lexed}
use Rattle.java_lex.specs.Spans.{StandsIn, StandInOrder, SamePlace, IsToken}
use Rattle.java_lex.proofs.Spanned.{spans, line_of, column_of}

-- ---- bytes

-- on a later line, or further on in the same one
abbrev Ahead : Place → Place → Type 0
Ahead p q = (p.line < q.line) ⊎ ((p.line ≡ q.line) × (p.column < q.column))

ahead_next : (p : Place) (b : ℕ) → Ahead p (next_place p b)
ahead_next p b = by (eqb b 10)
  where
    by : (v : Bool) → Ahead p (cond {A = Place} v (record { line = p.line + 1; column = 1; index = p.index + 1 }) (record { line = p.line; column = p.column + 1; index = p.index + 1 }))
    by true = inl (omega arith)
    by false = inr (refl, omega arith)

further_ahead : (p q r : Place) → Ahead p q → Ahead q r → Ahead p r
further_ahead p q r (inl h) (inl k) = inl (omega (arith, h, k))
further_ahead p q r (inl h) (inr k) = inl (omega (arith, h, k.0))
further_ahead p q r (inr h) (inl k) = inl (omega (arith, h.0, k))
further_ahead p q r (inr h) (inr k) = inr (h.0 ∙ k.0, omega (arith, h.1, k.1))

ahead : (p : Place) (b : ℕ) (bs : List ℕ) → Ahead p (place_after p (b ∷ bs))
ahead p b [] = ahead_next p b
ahead p b (c ∷ bs) = further_ahead p (next_place p b) (place_after (next_place p b) (c ∷ bs)) (ahead_next p b) (ahead (next_place p b) c bs)

not_ahead : (p q : Place) → Ahead p q → p.line ≡ q.line → p.column ≡ q.column → ⊥
not_ahead p q (inl h) line column = omega (arith, h, line)
not_ahead p q (inr h) line column = omega (arith, h.1, column)

-- so many bytes of a text lead to one place each
same_index : (p : Place) (text : List ℕ) (i j : ℕ) → i ≤ length text → j ≤ length text → (place_after p (take i text)).line ≡ (place_after p (take j text)).line
    → (place_after p (take i text)).column ≡ (place_after p (take j text)).column → i ≡ j
same_index p [] i j le le' line column = omega (arith, le, le')
same_index p (b ∷ bs) zero zero le le' line column = refl
same_index p (b ∷ bs) zero (suc j) le le' line column = absurd (not_ahead p (place_after p (b ∷ take j bs)) (ahead p b (take j bs)) line column)
same_index p (b ∷ bs) (suc i) zero le le' line column = absurd (not_ahead p (place_after p (b ∷ take i bs)) (ahead p b (take i bs)) (sym line) (sym column))
same_index p (b ∷ bs) (suc i) (suc j) le le' line column =
    let r : i ≡ j = same_index (next_place p b) bs i j (omega (arith, le)) (omega (arith, le')) line column in
    omega (arith, r)

pub same_start : (text : List ℕ) (a b : Span) → StandsIn text a → StandsIn text b → SamePlace a b → a.start ≡ b.start
same_start text a b h k same =
    same_index first_place text a.start b.start (omega (arith, h.forward, h.within)) (omega (arith, k.forward, k.within))
    (sym (line_of text a h) ∙ (same.0 ∙ line_of text b k)) (sym (column_of text a h) ∙ (same.1 ∙ column_of text b k))

-- ---- tokens

-- a token from the byte q on
record StandsFrom (text : List ℕ) (q : ℕ) (t : Token) : Type 0 where
  from : q ≤ t.span.start
  stands : StandsIn text t.span

stands_from : (text : List ℕ) (q : ℕ) (ts : List Token) (n : ℕ) (t : Token) → StandInOrder text q ts → slice_get ts n ≡ Some t → StandsFrom text q t
stands_from text q [] n t h e = absurd cc
stands_from text q (u ∷ us) zero t h e =
    let same : u ≡ t = cc in
    subst (λ (v : Token). StandsFrom text q v) same (record { from = h.0; stands = h.2 })
stands_from text q (u ∷ us) (suc n) t h e =
    let r : StandsFrom text u.span.end t = stands_from text u.span.end us n t h.3 e in
    record { from = omega (arith, h.0, h.1, r.from); stands = r.stands }

-- behind the first token, none starts where it does
not_first : (text : List ℕ) (q : ℕ) (u : Token) (us : List Token) (n : ℕ) (a b : Token) → StandInOrder text q (u ∷ us) → u ≡ a → slice_get us n ≡ Some b → a.span.start ≡ b.span.start → ⊥
not_first text q u us n a b h is e same =
    let r : StandsFrom text u.span.end b = stands_from text u.span.end us n b h.3 e in
    let start : u.span.start ≡ b.span.start = subst (λ (v : Token). v.span.start ≡ b.span.start) (sym is) same in
    omega (arith, h.1, r.from, start)

same_number : (text : List ℕ) (q : ℕ) (ts : List Token) (m n : ℕ) (a b : Token) → StandInOrder text q ts → slice_get ts m ≡ Some a → slice_get ts n ≡ Some b → a.span.start ≡ b.span.start → m ≡ n
same_number text q [] m n a b h e f same = absurd cc
same_number text q (u ∷ us) zero zero a b h e f same = refl
same_number text q (u ∷ us) zero (suc n) a b h e f same = let is : u ≡ a = cc in absurd (not_first text q u us n a b h is f same)
same_number text q (u ∷ us) (suc m) zero a b h e f same = let is : u ≡ b = cc in absurd (not_first text q u us m b a h is e (sym same))
same_number text q (u ∷ us) (suc m) (suc n) a b h e f same =
    let r : m ≡ n = same_number text u.span.end us m n a b h.3 e f same in
    omega (arith, r)

pub same_token : (text : List ℕ) (tokens : Tokens) (m n : ℕ) (a b : Token) → lexed text ≡ Ok tokens → IsToken tokens m a → IsToken tokens n b → SamePlace a.span b.span → m ≡ n
same_token text tokens m n a b lexes e f same =
    let order : StandInOrder text 0 tokens.list = (spans text tokens lexes).0 in
    let h : StandsFrom text 0 a = stands_from text 0 tokens.list m a order e in
    let k : StandsFrom text 0 b = stands_from text 0 tokens.list n b order f in
    same_number text 0 tokens.list m n a b order e f (same_start text a.span b.span h.stands k.stands same)
