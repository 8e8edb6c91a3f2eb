-- Where the limits hold at no token, what has the tokens does not depend on how many things may be open: for each way to make
-- rules of rules.
use Rattle.std.proofs.Common.{◌≡◌, ℕ, true, false, List, [], ◌∷◌, ◌++◌, refl, sym, subst, ◌∙◌, inl, inr}
use Rattle.qbs_base.specs.declared.span.Span.{Span}
use Rattle.java_lex.specs.declared.token.Token.{Token}
use Rattle.java_grammar.specs.Marks.{Tok, Allows, all_free}
use Rattle.java_grammar.specs.Rules.{Rule, Opening, Seq, Then, Or, Made, Placed, Many}

-- the limits hold at none of these tokens
abbrev pub AreFree : List Tok → Type 0
AreFree [] = Unit {0}
AreFree (t ∷ ts) = (t.strict ≡ false) × AreFree ts

pub free_left : (us vs : List Tok) → AreFree (us ++ vs) → AreFree us
free_left [] vs f = tt
free_left (t ∷ us) vs f = (f.0, free_left us vs f.1)

pub free_right : (us vs : List Tok) → AreFree (us ++ vs) → AreFree vs
free_right [] vs f = f
free_right (t ∷ us) vs f = free_right us vs f.1

pub all_are_free : (ts : List Token) → AreFree (all_free ts)
all_are_free [] = tt
all_are_free (t ∷ ts) = (refl, all_are_free ts)

pub free_along : (us vs : List Tok) → us ≡ vs → AreFree us → AreFree vs
free_along us vs e f = subst AreFree e f

pub free_token : (us : List Tok) (t : Tok) → us ≡ t ∷ [] → AreFree us → t.strict ≡ false
free_token us t e f = let g = free_along us (t ∷ []) e f in g.0

pub free_first : (us : List Tok) (t : Tok) (vs : List Tok) → us ≡ t ∷ vs → AreFree us → t.strict ≡ false
free_first us t vs e f = let g = free_along us (t ∷ vs) e f in g.0

pub free_allows : (room : ℕ) (t : Tok) → t.strict ≡ false → Allows room t
free_allows room t e s = absurd (let q : true ≡ false = sym s ∙ e in cc)

-- what has the one rule has the other
pub record Frees {A : Type 0} (P Q : Rule A) : Type 0 where
  pub by : (us : List Tok) (x : A) → AreFree us → P us x → Q us x

pub frees_same : {A : Type 0} (P : Rule A) → Frees P P
frees_same P = record { by = λ us x f h. h }

pub frees_opening : (room room' : ℕ) (text : List ℕ) → Frees (Opening room text) (Opening room' text)
frees_opening room room' text = record { by = λ us x f h. (h.0, h.1, h.2, free_allows room' h.0 (free_token us h.0 h.1 f)) }

pub frees_then : {A B : Type 0} {P P' : Rule A} {Q Q' : A → Rule B} → Frees P P' → ((x : A) → Frees (Q x) (Q' x)) → Frees (Then P Q) (Then P' Q')
frees_then p q = record {
  by = λ us x f h.
      let g = free_along us (h.0 ++ h.1) h.2 f in
      (h.0, h.1, h.2, p.by h.0 x.0 (free_left h.0 h.1 g) h.3, (q x.0).by h.1 x.1 (free_right h.0 h.1 g) h.4);
}

pub frees_seq : {A B : Type 0} {P P' : Rule A} {Q Q' : Rule B} → Frees P P' → Frees Q Q' → Frees (Seq P Q) (Seq P' Q')
frees_seq p q = record {
  by = λ us x f h.
      let g = free_along us (h.0 ++ h.1) h.2 f in
      (h.0, h.1, h.2, p.by h.0 x.0 (free_left h.0 h.1 g) h.3, q.by h.1 x.1 (free_right h.0 h.1 g) h.4);
}

pub frees_or : {A : Type 0} {P P' Q Q' : Rule A} → Frees P P' → Frees Q Q' → Frees (Or P Q) (Or P' Q')
frees_or {P} {P'} {Q} {Q'} p q = record { by = by }
  where
    by : (us : List Tok) (x : _) → AreFree us → Or P Q us x → Or P' Q' us x
    by us x f (inl h) = inl (p.by us x f h)
    by us x f (inr h) = inr (q.by us x f h)

pub frees_made : {A B : Type 0} {P P' : Rule A} → Frees P P' → (g : A → B) → Frees (Made g P) (Made g P')
frees_made p g = record { by = λ us x f h. (h.0, p.by us h.0 f h.1, h.2) }

pub frees_placed : {A B : Type 0} {P P' : Rule A} → Frees P P' → (g : Span → A → B) → Frees (Placed g P) (Placed g P')
frees_placed p g = record { by = λ us x f h. (h.0, p.by us h.0 f h.1, h.2) }

frees_all : {A : Type 0} (P P' : Rule A) → Frees P P' → (us : List Tok) (xs : List A) → AreFree us → Many P us xs → Many P' us xs
frees_all P P' p us [] f h = h
frees_all P P' p us (x ∷ xs) f h =
    let g = free_along us (h.0 ++ h.1) h.2 f in
    (h.0, h.1, h.2, p.by h.0 x (free_left h.0 h.1 g) h.3, frees_all P P' p h.1 xs (free_right h.0 h.1 g) h.4)

pub frees_many : {A : Type 0} {P P' : Rule A} → Frees P P' → Frees (Many P) (Many P')
frees_many {P} {P'} p = record { by = frees_all P P' p }
