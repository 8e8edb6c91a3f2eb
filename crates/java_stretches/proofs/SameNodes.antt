-- What has tokens has those with the same nodes as well, but for places: for each way to make rules of rules.
use Rattle.std.proofs.Common.{◌≡◌, ℕ, List, [], ◌∷◌, ◌++◌, Option, refl, sym, ap, subst, ◌∙◌, inl, inr}
use Rattle.qbs_base.specs.declared.span.Span.{Span}
use Rattle.java_lex.specs.Cutting.{nodes_of}
use Rattle.java_lex.specs.declared.token.Token.{Token}
use Rattle.java_lex.specs.declared.token.TokenNode.{TokenNode}
use Rattle.java_grammar.specs.Marks.{Tok, extent, all_free}
use Rattle.java_grammar.specs.Rules.{Rule, Empty, One, This, Opening, Seq, Then, Or, Made, Placed, Many}

-- the same nodes and marks, one by one
abbrev pub Twin : List Tok → List Tok → Type 0
Twin [] [] = Unit {0}
Twin [] (t ∷ vs) = ⊥
Twin (s ∷ us) [] = ⊥
Twin (s ∷ us) (t ∷ vs) = (t.strict ≡ s.strict) × (t.token.node ≡ s.token.node) × Twin us vs

pub twins : (ts us : List Token) → nodes_of ts ≡ nodes_of us → Twin (all_free ts) (all_free us)
twins [] [] e = tt
twins [] (u ∷ us) e = absurd cc
twins (t ∷ ts) [] e = absurd cc
twins (t ∷ ts) (u ∷ us) e = (refl, cc, (let f : nodes_of ts ≡ nodes_of us = cc in twins ts us f))

pub record Halves (us ws vs : List Tok) : Type 0 where
  pub front : List Tok
  pub back : List Tok
  pub parts : vs ≡ front ++ back
  pub first : Twin us front
  pub second : Twin ws back

pub halves : (us ws vs : List Tok) → Twin (us ++ ws) vs → Halves us ws vs
halves [] ws vs h = record { front = []; back = vs; parts = refl; first = tt; second = h }
halves (s ∷ us) ws [] h = absurd h
halves (s ∷ us) ws (t ∷ vs) h =
    let r : Halves us ws vs = halves us ws vs h.2 in
    record { front = t ∷ r.front; back = r.back; parts = ap (λ (zs : List Tok). t ∷ zs) r.parts; first = (h.0, h.1, r.first); second = r.second }

pub halves_of : (zs us ws vs : List Tok) → zs ≡ us ++ ws → Twin zs vs → Halves us ws vs
halves_of zs us ws vs e h = halves us ws vs (subst (λ (ys : List Tok). Twin ys vs) e h)

pub record Thirds (us ws zs vs : List Tok) : Type 0 where
  pub a : List Tok
  pub b : List Tok
  pub c : List Tok
  pub parts : vs ≡ a ++ (b ++ c)
  pub first : Twin us a
  pub second : Twin ws b
  pub third : Twin zs c

pub thirds : (us ws zs vs : List Tok) → Twin (us ++ (ws ++ zs)) vs → Thirds us ws zs vs
thirds us ws zs vs h =
    let p : Halves us (ws ++ zs) vs = halves us (ws ++ zs) vs h in
    let q : Halves ws zs p.back = halves ws zs p.back p.second in
    record { a = p.front; b = q.front; c = q.back; parts = p.parts ∙ ap (λ (ys : List Tok). p.front ++ ys) q.parts; first = p.first; second = q.first; third = q.second }

pub record Single (t : Tok) (vs : List Tok) : Type 0 where
  pub token : Tok
  pub is : vs ≡ token ∷ []
  pub strict : token.strict ≡ t.strict
  pub node : token.token.node ≡ t.token.node

pub alone : (us vs : List Tok) (t : Tok) → us ≡ t ∷ [] → Twin us vs → Single t vs
alone us vs t e h = by vs (subst (λ (ys : List Tok). Twin ys vs) e h)
  where
    by : (ws : List Tok) → Twin (t ∷ []) ws → Single t ws
    by [] k = absurd k
    by (s ∷ []) k = record { token = s; is = refl; strict = k.0; node = k.1 }
    by (s ∷ r ∷ ws) k = absurd k.2

pub none_left : (us vs : List Tok) → us ≡ [] → Twin us vs → vs ≡ []
none_left us vs e h = by vs (subst (λ (ys : List Tok). Twin ys vs) e h)
  where
    by : (ws : List Tok) → Twin [] ws → ws ≡ []
    by [] k = refl
    by (s ∷ ws) k = absurd k

-- ---- values without places

pub record Stays {A : Type 0} (P : Rule A) : Type 0 where
  pub by : (us vs : List Tok) (x : A) → Twin us vs → P us x → P vs x

pub stays_empty : {A : Type 0} (a : A) → Stays (Empty a)
stays_empty a = record { by = λ us vs x w h. (none_left us vs h.0 w, h.1) }

pub stays_one : {A : Type 0} (f : TokenNode → Option A) → Stays (One f)
stays_one f = record { by = λ us vs x w h. let s : Single h.0 vs = alone us vs h.0 h.1 w in (s.token, s.is, ap f s.node ∙ h.2) }

pub stays_this : (node : TokenNode) → Stays (This node)
stays_this node = record { by = λ us vs x w h. let s : Single h.0 vs = alone us vs h.0 h.1 w in (s.token, s.is, s.node ∙ h.2) }

pub stays_opening : (room : ℕ) (text : List ℕ) → Stays (Opening room text)
stays_opening room text = record { by = λ us vs x w h. let s : Single h.0 vs = alone us vs h.0 h.1 w in (s.token, s.is, s.node ∙ h.2, λ e. h.3 (sym s.strict ∙ e)) }

pub stays_seq : {A B : Type 0} {P : Rule A} {Q : Rule B} → Stays P → Stays Q → Stays (Seq P Q)
stays_seq p q = record {
  by = λ us vs x w h.
      let r : Halves h.0 h.1 vs = halves_of us h.0 h.1 vs h.2 w in
      (r.front, r.back, r.parts, p.by h.0 r.front x.0 r.first h.3, q.by h.1 r.back x.1 r.second h.4);
}

pub stays_then : {A B : Type 0} {P : Rule A} {Q : A → Rule B} → Stays P → ((x : A) → Stays (Q x)) → Stays (Then P Q)
stays_then p q = record {
  by = λ us vs x w h.
      let r : Halves h.0 h.1 vs = halves_of us h.0 h.1 vs h.2 w in
      (r.front, r.back, r.parts, p.by h.0 r.front x.0 r.first h.3, (q x.0).by h.1 r.back x.1 r.second h.4);
}

pub stays_or : {A : Type 0} {P Q : Rule A} → Stays P → Stays Q → Stays (Or P Q)
stays_or {A} {P} {Q} p q = record { by = by }
  where
    by : (us vs : List Tok) (x : A) → Twin us vs → Or P Q us x → Or P Q vs x
    by us vs x w (inl h) = inl (p.by us vs x w h)
    by us vs x w (inr h) = inr (q.by us vs x w h)

pub stays_made : {A B : Type 0} {P : Rule A} → Stays P → (f : A → B) → Stays (Made f P)
stays_made p f = record { by = λ us vs x w h. (h.0, p.by us vs h.0 w h.1, h.2) }

stay_all : {A : Type 0} (P : Rule A) → Stays P → (us vs : List Tok) (xs : List A) → Twin us vs → Many P us xs → Many P vs xs
stay_all P p us vs [] w h = none_left us vs h w
stay_all P p us vs (x ∷ xs) w h =
    let r : Halves h.0 h.1 vs = halves_of us h.0 h.1 vs h.2 w in
    (r.front, r.back, r.parts, p.by h.0 r.front x r.first h.3, stay_all P p h.1 r.back xs r.second h.4)

pub stays_many : {A : Type 0} {P : Rule A} → Stays P → Stays (Many P)
stays_many {P} p = record { by = stay_all P p }

-- ---- values with places, of which R says that they are the same but for these

pub record Moves {A : Type 0} (R : A → A → Type 0) (P : Rule A) : Type 0 where
  pub by : (us vs : List Tok) (x : A) → Twin us vs → P us x → (y : A) × P vs y × R x y

abbrev pub Same : {A : Type 0} → A → A → Type 0
Same x y = y ≡ x

abbrev pub Both : {A B : Type 0} → (A → A → Type 0) → (B → B → Type 0) → A × B → A × B → Type 0
Both R S x y = R x.0 y.0 × S x.1 y.1

pub moves_same : {A : Type 0} {P : Rule A} → Stays P → Moves Same P
moves_same p = record { by = λ us vs x w h. (x, p.by us vs x w h, refl) }

pub moves_seq : {A B : Type 0} {R : A → A → Type 0} {S : B → B → Type 0} {P : Rule A} {Q : Rule B} → Moves R P → Moves S Q → Moves (Both R S) (Seq P Q)
moves_seq p q = record {
  by = λ us vs x w h.
      let r : Halves h.0 h.1 vs = halves_of us h.0 h.1 vs h.2 w in
      let a = p.by h.0 r.front x.0 r.first h.3 in
      let b = q.by h.1 r.back x.1 r.second h.4 in
      ((a.0, b.0), (r.front, r.back, r.parts, a.1, b.1), (a.2, b.2));
}

pub moves_then : {A B : Type 0} {S : B → B → Type 0} {P : Rule A} {Q : A → Rule B} → Stays P → ((x : A) → Moves S (Q x)) → Moves (Both Same S) (Then P Q)
moves_then p q = record {
  by = λ us vs x w h.
      let r : Halves h.0 h.1 vs = halves_of us h.0 h.1 vs h.2 w in
      let b = (q x.0).by h.1 r.back x.1 r.second h.4 in
      ((x.0, b.0), (r.front, r.back, r.parts, p.by h.0 r.front x.0 r.first h.3, b.1), (refl, b.2));
}

pub moves_or : {A : Type 0} {R : A → A → Type 0} {P Q : Rule A} → Moves R P → Moves R Q → Moves R (Or P Q)
moves_or {A} {R} {P} {Q} p q = record { by = by }
  where
    by : (us vs : List Tok) (x : A) → Twin us vs → Or P Q us x → (y : A) × Or P Q vs y × R x y
    by us vs x w (inl h) = let a = p.by us vs x w h in (a.0, inl a.1, a.2)
    by us vs x w (inr h) = let a = q.by us vs x w h in (a.0, inr a.1, a.2)

pub moves_made : {A B : Type 0} {R : A → A → Type 0} {P : Rule A} (S : B → B → Type 0) (f : A → B) → ((x y : A) → R x y → S (f x) (f y)) → Moves R P → Moves S (Made f P)
moves_made S f k p = record { by = λ us vs x w h. let a = p.by us vs h.0 w h.1 in (f a.0, (a.0, a.1, refl), subst (λ z. S z (f a.0)) (sym h.2) (k h.0 a.0 a.2)) }

pub moves_placed : {A B : Type 0} {R : A → A → Type 0} {P : Rule A} (S : B → B → Type 0) (f : Span → A → B) → ((at there : Span) (x y : A) → R x y → S (f at x) (f there y)) → Moves R P → Moves S (Placed f P)
moves_placed S f k p = record { by = λ us vs x w h. let a = p.by us vs h.0 w h.1 in (f (extent vs) a.0, (a.0, a.1, refl), subst (λ z. S z (f (extent vs) a.0)) (sym h.2) (k (extent us) (extent vs) h.0 a.0 a.2)) }
