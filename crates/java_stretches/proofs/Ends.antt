-- The first and the last of some tokens, and the places that go from the one to the other.
use Rattle.std.proofs.Common.{◌≡◌, ℕ, ◌-◌, List, [], ◌∷◌, ◌++◌, length, Some, refl, sym, ap, subst, ◌∙◌, append_assoc, length-append, arith}
use Rattle.std.specs.Prelude.{slice_get}
use Rattle.std.proofs.lemmas.List.{map-append}
use Rattle.qbs_base.specs.declared.span.Span.{Span}
use Rattle.java_lex.specs.declared.token.Token.{Token}
use Rattle.java_lex.specs.Cutting.{EndsAt, EndsStatement}
use Rattle.java_grammar.specs.Marks.{Tok, bounds, tokens_of, extent}
use Rattle.java_stretches.specs.Stretch.{StartsWith}

pub tokens_append : (us vs : List Tok) → tokens_of (us ++ vs) ≡ tokens_of us ++ tokens_of vs
tokens_append us vs = map-append (λ (t : Tok). t.token) us vs

-- the last of these is one of the signs { } ;
abbrev pub Ends : List Tok → Type 0
Ends us = EndsStatement (tokens_of us)

pub closed_behind : (ts us : List Token) → EndsStatement us → EndsStatement (ts ++ us)
closed_behind [] us h = h
closed_behind (t ∷ []) [] h = absurd h
closed_behind (t ∷ []) (u ∷ us) h = h
closed_behind (t ∷ s ∷ ts) us h = closed_behind (s ∷ ts) us h

pub ends_behind : (us vs : List Tok) → Ends vs → Ends (us ++ vs)
ends_behind us vs h = subst EndsStatement (sym (tokens_append us vs)) (closed_behind (tokens_of us) (tokens_of vs) h)

-- ---- first and last ones

pub record First (us : List Tok) : Type 0 where
  pub first : Tok
  pub rest : List Tok
  pub is : us ≡ first ∷ rest

pub record Last (us : List Tok) : Type 0 where
  pub front : List Tok
  pub last : Tok
  pub is : us ≡ front ++ (last ∷ [])

pub first_of : (us : List Tok) → Ends us → First us
first_of [] h = absurd h
first_of (t ∷ us) h = record { first = t; rest = us; is = refl }

pub first_then : (us vs : List Tok) → First us → First (us ++ vs)
first_then us vs h = record { first = h.first; rest = h.rest ++ vs; is = ap (λ (ws : List Tok). ws ++ vs) h.is }

last_from : (t : Tok) (us : List Tok) → Last (t ∷ us)
last_from t [] = record { front = []; last = t; is = refl }
last_from t (u ∷ us) = let r : Last (u ∷ us) = last_from u us in record { front = t ∷ r.front; last = r.last; is = ap (λ (ws : List Tok). t ∷ ws) r.is }

pub last_of : (us : List Tok) → First us → Last us
last_of us h = subst Last (sym h.is) (last_from h.first h.rest)

-- ---- places

at_end : (ts : List Token) (z : Token) → slice_get (ts ++ (z ∷ [])) (length ts) ≡ Some z
at_end [] z = refl
at_end (t ∷ ts) z = at_end ts z

last_is : (ts : List Token) (z : Token) → slice_get (ts ++ (z ∷ [])) (length (ts ++ (z ∷ [])) - 1) ≡ Some z
last_is ts z =
    let e : length (ts ++ (z ∷ [])) - 1 ≡ length ts = omega (arith, length-append ts (z ∷ [])) in
    subst (λ (n : ℕ). slice_get (ts ++ (z ∷ [])) n ≡ Some z) (sym e) (at_end ts z)

pub extent_is : (t : Tok) (us front : List Tok) (z : Tok) → t ∷ us ≡ front ++ (z ∷ []) → extent (t ∷ us) ≡ bounds (Some t.token) (Some z.token)
extent_is t us front z e =
    let f : tokens_of (t ∷ us) ≡ tokens_of front ++ (z.token ∷ []) = ap tokens_of e ∙ tokens_append front (z ∷ []) in
    ap (bounds (Some t.token)) (subst (λ (ts : List Token). slice_get ts (length ts - 1) ≡ Some z.token) (sym f) (last_is (tokens_of front) z.token))

-- what stands between the first and the last one says nothing of the place
pub same_extent : (front old new back : List Tok) → First front → First back → extent (front ++ (new ++ back)) ≡ extent (front ++ (old ++ back))
same_extent front old new back f b =
    let l : Last back = last_of back b in
    let at : (ws : List Tok) → extent (front ++ (ws ++ back)) ≡ bounds (Some f.first.token) (Some l.last.token) = λ ws.
    subst (λ (vs : List Tok). extent (vs ++ (ws ++ back)) ≡ bounds (Some f.first.token) (Some l.last.token)) (sym f.is)
    (extent_is f.first (f.rest ++ (ws ++ back)) (f.first ∷ (f.rest ++ (ws ++ l.front))) l.last
    (subst (λ (zs : List Tok). f.first ∷ (f.rest ++ (ws ++ zs)) ≡ (f.first ∷ (f.rest ++ (ws ++ l.front))) ++ (l.last ∷ [])) (sym l.is) (simp append_assoc))) in
    at new ∙ sym (at old)

pub ends_last : (q : ℕ) (ts : List Token) (z : Token) → z.span.end ≡ q → EndsAt q (ts ++ (z ∷ []))
ends_last q [] z e = e
ends_last q (t ∷ []) z e = e
ends_last q (t ∷ u ∷ ts) z e = ends_last q (u ∷ ts) z e

pub ends_at_behind : (q : ℕ) (us vs : List Tok) → EndsAt q (tokens_of vs) → EndsAt q (tokens_of (us ++ vs))
ends_at_behind q [] vs h = h
ends_at_behind q (t ∷ []) [] h = absurd h
ends_at_behind q (t ∷ []) (v ∷ vs) h = h
ends_at_behind q (t ∷ u ∷ us) vs h = ends_at_behind q (u ∷ us) vs h

pub starts_then : (at : Span) (us vs : List Tok) → StartsWith at (tokens_of us) → StartsWith at (tokens_of (us ++ vs))
starts_then at [] vs h = absurd h
starts_then at (t ∷ us) vs h = h

-- tokens start and end where their place does
pub extent_ends : (us : List Tok) → First us → EndsAt (extent us).end (tokens_of us)
extent_ends us h =
    let l : Last us = last_of us h in
    let e : extent (h.first ∷ h.rest) ≡ bounds (Some h.first.token) (Some l.last.token) = extent_is h.first h.rest l.front l.last (sym h.is ∙ l.is) in
    let f : extent us ≡ bounds (Some h.first.token) (Some l.last.token) = ap extent h.is ∙ e in
    let g : tokens_of us ≡ tokens_of l.front ++ (l.last.token ∷ []) = ap tokens_of l.is ∙ tokens_append l.front (l.last ∷ []) in
    subst (EndsAt (extent us).end) (sym g) (ends_last (extent us).end (tokens_of l.front) l.last.token (sym (ap (λ (at : Span). at.end) f)))

pub extent_starts : (us : List Tok) → First us → StartsWith (extent us) (tokens_of us)
extent_starts us h =
    let l : Last us = last_of us h in
    let e : extent (h.first ∷ h.rest) ≡ bounds (Some h.first.token) (Some l.last.token) = extent_is h.first h.rest l.front l.last (sym h.is ∙ l.is) in
    subst (λ (ws : List Tok). StartsWith (extent ws) (tokens_of ws)) (sym h.is)
    ((ap (λ (at : Span). at.line) e, ap (λ (at : Span). at.column) e), ap (λ (at : Span). at.start) e)
