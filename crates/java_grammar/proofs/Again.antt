-- What has tokens is read from them again, unless one of them is too deep where the limits do not hold.
use Rattle.std.proofs.Common.{◌≡◌, ℕ, zero, suc, Bool, true, false, List, [], ◌∷◌, ◌++◌, length, Option, Some, Result, Ok, Err, refl, sym, ap, subst, ◌∙◌, append_assoc, arith, inl, inr, ◌⊎◌}
use Rattle.qbs_base.specs.declared.span.Span.{Span}
use Rattle.java_lex.specs.declared.token.TokenNode.{TokenNode}
use Rattle.readers.specs.declared.fault.Fault.{Fault}
use Rattle.readers.specs.declared.fault.Fault.TheVariants.{TooDeep}
use Rattle.readers.specs.Reading.{◌>>=◌, made}
use Rattle.java_grammar.specs.Marks.{Tok, Allows, extent}
use Rattle.java_grammar.specs.Rules.{Rule, Empty, One, Seq, Then, Or, Made, Placed}
use Rattle.java_grammar.specs.Reading.{Reader, then_at, empty_at, one_at, consumed, placed_at, first_is, or_at, enter, held, held_at}
use Rattle.java_grammar.proofs.Sound.{Held, consumed_append}

-- reading stops in us, before the rest, at a token that is too deep and at which the limits do not hold
abbrev pub Sunk : {A : Type 0} → Result A Fault → List Tok → List Tok → Type 0
Sunk a us rest = (vs : List Tok) × (t : Tok) × (ws : List Tok) × (us ≡ vs ++ t ∷ ws) × (t.strict ≡ false) × (a ≡ Err (TooDeep (suc (length (ws ++ rest)))))

abbrev pub Leads : {A : Type 0} → Result A Fault → Result A Fault → List Tok → List Tok → Type 0
Leads a b us rest = (a ≡ b) ⊎ Sunk a us rest

pub then_leads : {A : Type 0} (a b c : Result A Fault) (us rest : List Tok) → Leads a b us rest → Leads b c us rest → Leads a c us rest
then_leads a b c us rest (inl e) (inl f) = inl (e ∙ f)
then_leads a b c us rest (inl e) (inr s) = inr (s.0, s.1, s.2, s.3, s.4, e ∙ s.5)
then_leads a b c us rest (inr s) q = inr s

err_bind : {A B : Type 0} (a : Result A Fault) (f : A → Result B Fault) (e : Fault) → a ≡ Err e → (a >>= f) ≡ Err e
err_bind a f e is = ap (λ (r : Result _ Fault). r >>= f) is

pub bind_sunk : {A B : Type 0} (a : Result A Fault) (f : A → Result B Fault) (us rest : List Tok) → Sunk a us rest → Sunk (a >>= f) us rest
bind_sunk a f us rest s = (s.0, s.1, s.2, s.3, s.4, err_bind a f (TooDeep (suc (length (s.2 ++ rest)))) s.5)

pub bind_leads : {A B : Type 0} (a : Result A Fault) (x : A) (f : A → Result B Fault) (us rest : List Tok) → Leads a (Ok x) us rest → Leads (a >>= f) (f x) us rest
bind_leads a x f us rest (inl e) = inl (ap (λ (r : Result _ Fault). r >>= f) e)
bind_leads a x f us rest (inr s) = inr (s.0, s.1, s.2, s.3, s.4, err_bind a f (TooDeep (suc (length (s.2 ++ rest)))) s.5)

-- the same of more tokens
pub leads_left : {A : Type 0} (a b : Result A Fault) (us vs rest : List Tok) → Leads a b us (vs ++ rest) → Leads a b (us ++ vs) rest
leads_left a b us vs rest (inl e) = inl e
leads_left a b us vs rest (inr s) =
    inr (s.0, s.1, s.2 ++ vs, ap (λ (ws : List Tok). ws ++ vs) s.3 ∙ append_assoc s.0 (s.1 ∷ s.2) vs, s.4, s.5 ∙ ap (λ (ws : List Tok). Err (TooDeep (suc (length ws)))) (sym (append_assoc s.2 vs rest)))

pub leads_right : {A : Type 0} (a b : Result A Fault) (us vs rest : List Tok) → Leads a b vs rest → Leads a b (us ++ vs) rest
leads_right a b us vs rest (inl e) = inl e
leads_right a b us vs rest (inr s) = inr (us ++ s.0, s.1, s.2, ap (λ (ws : List Tok). us ++ ws) s.3 ∙ sym (append_assoc us s.0 (s.1 ∷ s.2)), s.4, s.5)

abbrev pub Again : {A : Type 0} → Rule A → (List Tok → Type 0) → Reader A → Type 0
Again G F r = (us : List Tok) (x : _) (rest : List Tok) → G us x → F rest → Leads (r (us ++ rest)) (Ok (x, rest)) us rest

-- anything may follow
abbrev pub Any : List Tok → Type 0
Any rest = Unit {0}

-- ---- nothing, and single tokens

pub empty_again : {A : Type 0} (a : A) → Again (Empty a) Any (empty_at a)
empty_again a us x rest h any = inl (rw (h.0, h.1) refl)

pub one_again : {A : Type 0} (f : TokenNode → Option A) → Again (One f) Any (one_at f)
one_again f us x rest h any = inl (rw (h.1, h.2) refl)

module _ {A : Type 0} (f : TokenNode → Option A) where
  enter_again : (room : ℕ) (t : Tok) (x : A) (rest : List Tok) → Allows room t → Leads (enter room x rest) (Ok (x, rest)) (t ∷ []) rest
  enter_again zero t x rest allows = by_mark t.strict refl
    where
      by_mark : (b : Bool) → t.strict ≡ b → Leads (enter zero x rest) (Ok (x, rest)) (t ∷ []) rest
      by_mark true e = absurd (omega (arith, allows e))
      by_mark false e = inr ([], t, [], refl, e, refl)
  enter_again (suc room) t x rest allows = inl refl

  pub held_again : (room : ℕ) → Again (Held room f) Any (held_at room f)
  held_again room us x rest h any =
      subst (λ (ws : List Tok). Leads (held_at room f (ws ++ rest)) (Ok (x, rest)) ws rest) (sym h.1)
      (subst (λ (o : Option A). Leads (held room o rest) (Ok (x, rest)) (h.0 ∷ []) rest) (sym h.2) (enter_again room h.0 x rest h.3))

-- ---- one and then another

pub then_again : {A B : Type 0} (P : Rule A) (Q : A → Rule B) (F G : List Tok → Type 0) (r : Reader A) (s : A → Reader B)
    → Again P F r → ((x : A) → Again (Q x) G (s x)) → ((x : A) (vs : List Tok) (y : B) (rest : List Tok) → Q x vs y → G rest → F (vs ++ rest)) → Again (Then P Q) G (then_at r s)
then_again {A} {B} P Q F G r s p q joins ts x rest h follows =
    let first = p h.0 x.0 (h.1 ++ rest) h.3 (joins x.0 h.1 x.1 rest h.4 follows) in
    let second = q x.0 h.1 x.1 rest h.4 follows in
    let one : Leads (then_at r s (h.0 ++ (h.1 ++ rest))) (s x.0 (h.1 ++ rest) >>= λ z. Ok ((x.0, z.0), z.1)) (h.0 ++ h.1) rest =
    leads_left _ _ h.0 h.1 rest (bind_leads (r (h.0 ++ (h.1 ++ rest))) (x.0, h.1 ++ rest) (λ y. s y.0 y.1 >>= λ z. Ok ((y.0, z.0), z.1)) h.0 (h.1 ++ rest) first) in
    let two : Leads (s x.0 (h.1 ++ rest) >>= λ z. Ok ((x.0, z.0), z.1)) (Ok (x, rest)) (h.0 ++ h.1) rest =
    leads_right _ _ h.0 h.1 rest (bind_leads (s x.0 (h.1 ++ rest)) (x.1, rest) (λ z. Ok ((x.0, z.0), z.1)) h.1 rest second) in
    let go : Leads (then_at r s (h.0 ++ (h.1 ++ rest))) (Ok (x, rest)) (h.0 ++ h.1) rest = then_leads _ _ (Ok (x, rest)) (h.0 ++ h.1) rest one two in
    subst (λ (ws : List Tok). Leads (then_at r s (ws ++ rest)) (Ok (x, rest)) ws rest) (sym h.2)
    (subst (λ (ws : List Tok). Leads (then_at r s ws) (Ok (x, rest)) (h.0 ++ h.1) rest) (sym (append_assoc h.0 h.1 rest)) go)

pub seq_again : {A B : Type 0} (P : Rule A) (Q : Rule B) (G : List Tok → Type 0) (r : Reader A) (s : Reader B) → Again P Any r → Again Q G s → Again (Seq P Q) G (then_at r (λ x. s))
seq_again P Q G r s p q = then_again P (λ x. Q) Any G r (λ x. s) p (λ x. q) (λ x vs y rest h g. tt)

-- ---- a value made of another

pub placed_again : {A B : Type 0} (f : Span → A → B) (P : Rule A) (F : List Tok → Type 0) (r : Reader A) → Again P F r → Again (Placed f P) F (placed_at f r)
placed_again {A} {B} f P F r p us x rest h follows =
    let go = bind_leads (r (us ++ rest)) (h.0, rest) (λ y. Ok (f (extent (consumed (us ++ rest) y.1)) y.0, y.1)) us rest (p us h.0 rest h.1 follows) in
    let value : f (extent (consumed (us ++ rest) rest)) h.0 ≡ x = ap (λ (ws : List Tok). f (extent ws) h.0) (consumed_append us rest) ∙ sym h.2 in
    subst (λ (y : B). Leads (placed_at f r (us ++ rest)) (Ok (y, rest)) us rest) value go

pub made_again : {A B : Type 0} (f : A → B) (P : Rule A) (F : List Tok → Type 0) (r : Reader A) → Again P F r → Again (Made f P) F (made f r)
made_again f P F r p = placed_again (λ at. f) P F r p

-- ---- the one or the other

-- whether the first token of what has the rule, and of what follows it, passes
abbrev pub Heads : {A : Type 0} → (TokenNode → Bool) → Bool → Rule A → (List Tok → Type 0) → Type 0
Heads p b G F = (us : List Tok) (x : _) (rest : List Tok) → G us x → F rest → first_is p (us ++ rest) ≡ b

pub or_again : {A : Type 0} (P Q : Rule A) (F : List Tok → Type 0) (p : TokenNode → Bool) (r s : Reader A)
    → Again P F r → Again Q F s → Heads p true P F → Heads p false Q F → Again (Or P Q) F (or_at p r s)
or_again P Q F p r s a b first other us x rest (inl h) follows = rw (first us x rest h follows) (a us x rest h follows)
or_again P Q F p r s a b first other us x rest (inr h) follows = rw (other us x rest h follows) (b us x rest h follows)

pub turned_again : {A : Type 0} (G H : Rule A) (F : List Tok → Type 0) (r : Reader A) → ((us : List Tok) (x : A) → H us x → G us x) → Again G F r → Again H F r
turned_again G H F r turn p us x rest h follows = p us x rest (turn us x h) follows

-- ---- what the first token is

pub one_heads : {A : Type 0} (f : TokenNode → Option A) (p : TokenNode → Bool) (b : Bool) (F : List Tok → Type 0) → ((n : TokenNode) (x : A) → f n ≡ Some x → p n ≡ b) → Heads p b (One f) F
one_heads f p b F is us x rest h follows = rw h.1 (is h.0.token.node x h.2)

pub then_heads : {A B : Type 0} (P : Rule A) (Q : A → Rule B) (p : TokenNode → Bool) (b : Bool) (F : List Tok → Type 0) → Heads p b P Any → Heads p b (Then P Q) F
then_heads P Q p b F heads ts x rest h follows = ap (λ (ws : List Tok). first_is p (ws ++ rest)) h.2 ∙ ap (λ (ws : List Tok). first_is p ws) (append_assoc h.0 h.1 rest) ∙ heads h.0 x.0 (h.1 ++ rest) h.3 tt

pub placed_heads : {A B : Type 0} (f : Span → A → B) (P : Rule A) (p : TokenNode → Bool) (b : Bool) (F : List Tok → Type 0) → Heads p b P F → Heads p b (Placed f P) F
placed_heads f P p b F heads us x rest h follows = heads us h.0 rest h.1 follows

pub or_heads : {A : Type 0} (P Q : Rule A) (p : TokenNode → Bool) (b : Bool) (F : List Tok → Type 0) → Heads p b P F → Heads p b Q F → Heads p b (Or P Q) F
or_heads P Q p b F one other us x rest (inl h) follows = one us x rest h follows
or_heads P Q p b F one other us x rest (inr h) follows = other us x rest h follows
