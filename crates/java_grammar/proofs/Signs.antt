-- Tokens by their nodes, at which no limits hold, and the rules of single tokens.
use Rattle.std.proofs.Common.{◌≡◌, ℕ, false, List, [], ◌∷◌, ◌++◌, refl, ap, ◌∙◌, codes, Option, Some}
use Rattle.java_lex.specs.declared.token.TokenNode.{TokenNode}
use Rattle.java_lex.specs.declared.token.TokenNode.TheVariants as nodes
use Rattle.java_grammar.specs.Marks.{Tok, Allows}
use Rattle.java_grammar.specs.Rules.{Rule, One, This, Opening, Seq}
use Rattle.java_grammar.specs.Printed.{word, sign, call}

abbrev pub AreTokens : List Tok → List TokenNode → Type 0
AreTokens [] [] = Unit {0}
AreTokens [] (n ∷ ns) = ⊥
AreTokens (t ∷ us) [] = ⊥
AreTokens (t ∷ us) (n ∷ ns) = (t.strict ≡ false) × (t.token.node ≡ n) × AreTokens us ns

pub record Parts (us : List Tok) (m n : List TokenNode) : Type 0 where
  pub front : List Tok
  pub back : List Tok
  pub parts : us ≡ front ++ back
  pub first : AreTokens front m
  pub second : AreTokens back n

pub split : (m n : List TokenNode) (us : List Tok) → AreTokens us (m ++ n) → Parts us m n
split [] n us h = record { front = []; back = us; parts = refl; first = tt; second = h }
split (x ∷ m) n [] h = absurd h
split (x ∷ m) n (t ∷ us) h =
    let r : Parts us m n = split m n us h.2 in
    record { front = t ∷ r.front; back = r.back; parts = ap (λ (vs : List Tok). t ∷ vs) r.parts; first = (h.0, h.1, r.first); second = r.second }

pub record Single (us : List Tok) (n : TokenNode) : Type 0 where
  pub token : Tok
  pub is : us ≡ token ∷ []
  pub free : token.strict ≡ false
  pub node : token.token.node ≡ n

pub single : (n : TokenNode) (us : List Tok) → AreTokens us (n ∷ []) → Single us n
single n [] h = absurd h
single n (t ∷ []) h = record { token = t; is = refl; free = h.0; node = h.1 }
single n (t ∷ u ∷ us) h = absurd h.2

pub none_left : (us : List Tok) → AreTokens us [] → us ≡ []
none_left [] h = refl
none_left (t ∷ us) h = absurd h

-- ---- rules

pub allowed : (room : ℕ) (t : Tok) → t.strict ≡ false → Allows room t
allowed room t e f = absurd cc

pub this_node : (n : TokenNode) (us : List Tok) → AreTokens us (n ∷ []) → This n us tt
this_node n us h = let s : Single us n = single n us h in (s.token, s.is, s.node)

pub opens : (room : ℕ) (text : List ℕ) (us : List Tok) → AreTokens us (nodes.Sign text ∷ []) → Opening room text us tt
opens room text us h = let s : Single us (nodes.Sign text) = single (nodes.Sign text) us h in (s.token, s.is, s.node, allowed room s.token s.free)

pub one_token : {A : Type 0} → (f : TokenNode → Option A) (n : TokenNode) (x : A) (us : List Tok) → f n ≡ Some x → AreTokens us (n ∷ []) → One f us x
one_token f n x us e h = let s : Single us n = single n us h in (s.token, s.is, ap f s.node ∙ e)

pub in_order : {A B : Type 0} → (P : Rule A) (Q : Rule B) (us front back : List Tok) (x : A) (y : B) → us ≡ front ++ back → P front x → Q back y → Seq P Q us (x, y)
in_order P Q us front back x y e p q = (front, back, e, p, q)

-- ---- three and four parts

pub record Three (us : List Tok) (l m n : List TokenNode) : Type 0 where
  pub a : List Tok
  pub b : List Tok
  pub c : List Tok
  pub parts : us ≡ a ++ (b ++ c)
  pub first : AreTokens a l
  pub second : AreTokens b m
  pub third : AreTokens c n

pub three : (l m n : List TokenNode) (us : List Tok) → AreTokens us (l ++ (m ++ n)) → Three us l m n
three l m n us h =
    let r : Parts us l (m ++ n) = split l (m ++ n) us h in
    let s : Parts r.back m n = split m n r.back r.second in
    record { a = r.front; b = s.front; c = s.back; parts = r.parts ∙ ap (λ (vs : List Tok). r.front ++ vs) s.parts; first = r.first; second = s.first; third = s.second }

-- head . name ( inner )
pub record Called (us : List Tok) (head : List TokenNode) (m : List ℕ) (inner : List TokenNode) : Type 0 where
  pub a : List Tok
  pub dot : List Tok
  pub member : List Tok
  pub left : List Tok
  pub i : List Tok
  pub right : List Tok
  pub parts : us ≡ a ++ (dot ++ (member ++ (left ++ (i ++ right))))
  pub has_head : AreTokens a head
  pub has_dot : AreTokens dot (sign (codes "."))
  pub has_member : AreTokens member (word m)
  pub has_left : AreTokens left (sign (codes "("))
  pub has_inner : AreTokens i inner
  pub has_right : AreTokens right (sign (codes ")"))

pub called_parts : (head : List TokenNode) (m : List ℕ) (inner : List TokenNode) (us : List Tok) → AreTokens us (head ++ (call m ++ (inner ++ sign (codes ")")))) → Called us head m inner
called_parts head m inner us h =
    let p : Parts us head (sign (codes ".") ++ (word m ++ (sign (codes "(") ++ (inner ++ sign (codes ")"))))) = split head (sign (codes ".") ++ (word m ++ (sign (codes "(") ++ (inner ++ sign (codes ")"))))) us h in
    let q : Three p.back (sign (codes ".")) (word m) (sign (codes "(") ++ (inner ++ sign (codes ")"))) = three (sign (codes ".")) (word m) (sign (codes "(") ++ (inner ++ sign (codes ")"))) p.back p.second in
    let r : Three q.c (sign (codes "(")) inner (sign (codes ")")) = three (sign (codes "(")) inner (sign (codes ")")) q.c q.third in
    record {
      a = p.front;
      dot = q.a;
      member = q.b;
      left = r.a;
      i = r.b;
      right = r.c;
      parts = p.parts ∙ ap (λ (vs : List Tok). p.front ++ vs) (q.parts ∙ ap (λ (vs : List Tok). q.a ++ (q.b ++ vs)) r.parts);
      has_head = p.first;
      has_dot = q.first;
      has_member = q.second;
      has_left = r.first;
      has_inner = r.second;
      has_right = r.third;
    }
