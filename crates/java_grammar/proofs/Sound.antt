-- What is proved of a reader once, for each way to make readers of readers: what is read has its tokens; where reading
-- stops, something begins with the tokens before; and no token past that place is looked at.
use Rattle.std.proofs.Common.{◌≡◌, ℕ, zero, suc, ◌≤◌, ◌<◌, ◌+◌, ◌-◌, Bool, true, false, cond, List, [], ◌∷◌, ◌++◌, length, take, Option, Some, None, Ok, Err, refl, sym, ap, subst, ◌∙◌, append_assoc, arith, inl, inr, ◌⊎◌}
use Rattle.std.proofs.lemmas.List.{append-nil, length-append}
use Rattle.qbs_base.specs.declared.span.Span.{Span}
use Rattle.java_lex.specs.declared.token.Token.{Token}
use Rattle.java_lex.specs.declared.token.TokenNode.{TokenNode}
use Rattle.readers.specs.declared.fault.Fault.{Fault}
use Rattle.readers.specs.declared.fault.Fault.TheVariants.{Unexpected, TooDeep}
use Rattle.readers.specs.Reading.{◌>>=◌, Read, accepted, made}
use Rattle.readers.proofs.Tools.{bind_ok, ok_is, bind_err, is_left, chosen}
use Rattle.java_grammar.specs.Marks.{Tok, freely, freed, Allows, tokens_of, between, extent}
use Rattle.java_grammar.specs.Rules.{Rule, Empty, One, Then, Or, Made, Placed}
use Rattle.java_grammar.specs.Reading.{Reader, then_at, empty_at, one_at, consumed, placed_at, first_is, or_at, enter, held, held_at}

-- ---- the laws

pub record Takes {A : Type 0} (G : Rule A) (ts : List Tok) (x : A) (rest : List Tok) : Type 0 where
  pub front : List Tok
  pub parts : ts ≡ front ++ rest
  pub has : G front x

abbrev pub Finds : {A : Type 0} → Rule A → Reader A → Type 0
Finds G r = (ts : List Tok) (x : _) → r ts ≡ Ok x → Takes G ts x.0 x.1

abbrev pub left_of : Fault → ℕ
left_of (Unexpected n) = n
left_of (TooDeep n) = n

-- where the fault is the depth, what begins with the tokens before goes on with the token there, its depth left aside
abbrev pub Goes : Fault → List Tok → List Tok → Type 0
Goes (Unexpected n) rest tail = Unit {0}
Goes (TooDeep n) rest tail = (t : Tok) × (us : List Tok) × (vs : List Tok) × (rest ≡ t ∷ us) × (tail ≡ freed t ∷ vs)

pub record Stopped {A : Type 0} (G : Rule A) (ts : List Tok) (e : Fault) : Type 0 where
  pub front : List Tok
  pub rest : List Tok
  pub parts : ts ≡ front ++ rest
  pub left : length rest ≡ left_of e
  pub tail : List Tok
  pub value : A
  pub has : G (front ++ tail) value
  pub goes : Goes e rest tail

abbrev pub Stops : {A : Type 0} → Rule A → Reader A → Type 0
Stops G r = (ts : List Tok) (e : Fault) → r ts ≡ Err e → Stopped G ts e

-- no more than n tokens are left
abbrev pub IsPast : {A : Type 0} → ℕ → Read Tok A → Type 0
IsPast n (Ok x) = length x.1 ≤ n
IsPast n (Err e) = left_of e ≤ n

abbrev pub Stays : {A : Type 0} → Reader A → Type 0
Stays r = (n : ℕ) (us : List Tok) → length us ≤ n → IsPast n (r us)

-- two lists that agree up to a token, its mark left aside, and go on with rest and rest'
pub data Agree (rest rest' : List Tok) : List Tok → List Tok → Type 0 where
  here : {t t' : Tok} → t.token ≡ t'.token → Agree rest rest' (t ∷ rest) (t' ∷ rest')
  later : {t : Tok} {us vs : List Tok} → Agree rest rest' us vs → Agree rest rest' (t ∷ us) (t ∷ vs)

abbrev pub fault_of : Bool → ℕ → Fault
fault_of false n = Unexpected n
fault_of true n = TooDeep n

pub data Alike (rest rest' : List Tok) (A : Type 0) : Read Tok A → Read Tok A → Type 0 where
  alike : {x : A} {us vs : List Tok} → Agree rest rest' us vs → Alike rest rest' A (Ok (x, us)) (Ok (x, vs))
  stuck : {us vs : List Tok} (deep : Bool) → Agree rest rest' us vs → Alike rest rest' A (Err (fault_of deep (length us))) (Err (fault_of deep (length vs)))
  past : {a b : Read Tok A} → IsPast (length rest) a → Alike rest rest' A a b

abbrev pub Same : {A : Type 0} → Reader A → Type 0
Same {A} r = (rest rest' us vs : List Tok) → Agree rest rest' us vs → Alike rest rest' A (r us) (r vs)

-- lists that differ in their marks alone
pub data Twins : List Tok → List Tok → Type 0 where
  no_twins : Twins [] []
  twins : {s t : Tok} {us vs : List Tok} → s.token ≡ t.token → Twins us vs → Twins (s ∷ us) (t ∷ vs)

-- what is read of such lists differs in the marks of what is left alone
pub data Twin (A : Type 0) : Read Tok A → Read Tok A → Type 0 where
  both_read : {x : A} {us vs : List Tok} → Twins us vs → Twin A (Ok (x, us)) (Ok (x, vs))
  both_stop : {e : Fault} → Twin A (Err e) (Err e)

-- no mark is looked at
abbrev pub Blind : {A : Type 0} → Reader A → Type 0
Blind {A} r = (us vs : List Tok) → Twins us vs → Twin A (r us) (r vs)

-- some tokens have it
pub record Inhabited {A : Type 0} (G : Rule A) : Type 0 where
  pub tokens : List Tok
  pub value : A
  pub has : G tokens value

pub record Sound {A : Type 0} (G : Rule A) (r : Reader A) : Type 0 where
  pub found : Finds G r
  pub stops : Stops G r
  pub stays : Stays r
  pub same : Same r
  pub blind : Blind r
  pub some : Inhabited G

-- ---- what helps

goes_more : (e : Fault) (rest tail vs : List Tok) → Goes e rest tail → Goes e rest (tail ++ vs)
goes_more (Unexpected n) rest tail vs g = tt
goes_more (TooDeep n) rest tail vs g = (g.0, g.1, g.2 ++ vs, g.3, ap (λ (ws : List Tok). ws ++ vs) g.4)

-- the fault is inside of what stands between us and vs
pub moved : {A B : Type 0} (G : Rule A) (Outer : Rule B) (us vs ts : List Tok) (e : Fault) (b : Stopped G ts e) (y : B) → Outer (us ++ ((b.front ++ b.tail) ++ vs)) y → Stopped Outer (us ++ ts) e
moved G Outer us vs ts e b y has = record {
  front = us ++ b.front;
  rest = b.rest;
  parts = ap (λ (ws : List Tok). us ++ ws) b.parts ∙ sym (append_assoc us b.front b.rest);
  left = b.left;
  tail = b.tail ++ vs;
  value = y;
  has = subst (λ (ws : List Tok). Outer ws y) (ap (λ (ws : List Tok). us ++ ws) (append_assoc b.front b.tail vs) ∙ sym (append_assoc us b.front (b.tail ++ vs))) has;
  goes = goes_more e b.rest b.tail vs b.goes;
}

pub at_start : {A : Type 0} (G : Rule A) (ts : List Tok) (n : ℕ) → length ts ≡ n → Inhabited G → Stopped G ts (Unexpected n)
at_start G ts n left some = record { front = []; rest = ts; parts = refl; left = left; tail = some.tokens; value = some.value; has = some.has; goes = tt }

pub past_bind : {A B : Type 0} (n : ℕ) (a : Read Tok A) (f : A × List Tok → Read Tok B) → IsPast n a → ((x : A) (us : List Tok) → length us ≤ n → IsPast n (f (x, us))) → IsPast n (a >>= f)
past_bind n (Ok x) f p h = h x.0 x.1 p
past_bind n (Err e) f p h = p

pub alike_bind : {A B : Type 0} (rest rest' : List Tok) {a b : Read Tok A} (f g : A × List Tok → Read Tok B) → Alike rest rest' A a b
    → ((x : A) (us vs : List Tok) → Agree rest rest' us vs → a ≡ Ok (x, us) → b ≡ Ok (x, vs) → Alike rest rest' B (f (x, us)) (g (x, vs)))
    → ((x : A) (us : List Tok) → length us ≤ length rest → IsPast (length rest) (f (x, us))) → Alike rest rest' B (a >>= f) (b >>= g)
alike_bind rest rest' f g (alike ag) h k = h _ _ _ ag refl refl
alike_bind rest rest' f g (stuck deep ag) h k = stuck deep ag
alike_bind rest rest' f g (past {a} p) h k = past (past_bind (length rest) a f p k)

pub past_cond : {A : Type 0} (n : ℕ) (b : Bool) (x y : Read Tok A) → IsPast n x → IsPast n y → IsPast n (cond b x y)
past_cond n true x y p q = p
past_cond n false x y p q = q

pub alike_cond : {A : Type 0} (rest rest' : List Tok) {x y x' y' : Read Tok A} (b b' : Bool) → b ≡ b' → Alike rest rest' A x x' → Alike rest rest' A y y' → Alike rest rest' A (cond b x y) (cond b' x' y')
alike_cond rest rest' true true e p q = p
alike_cond rest rest' false false e p q = q
alike_cond rest rest' true false e p q = absurd cc
alike_cond rest rest' false true e p q = absurd cc

pub same_first : (p : TokenNode → Bool) (rest rest' us vs : List Tok) → Agree rest rest' us vs → first_is p us ≡ first_is p vs
same_first p rest rest' _ _ (here e) = ap (λ (t : Token). p t.node) e
same_first p rest rest' _ _ (later ag) = refl

pub agree_length : (rest rest' us vs : List Tok) → Agree rest rest' us vs → (length us + length rest' ≡ length vs + length rest) × (length rest < length us)
agree_length rest rest' _ _ (here e) = (omega arith, omega arith)
agree_length rest rest' _ _ (later {t} {us} {vs} ag) = let h = agree_length rest rest' us vs ag in (omega (arith, h.0), omega (arith, h.1))

-- ---- marks

pub twins_length : (us vs : List Tok) → Twins us vs → length us ≡ length vs
twins_length _ _ no_twins = refl
twins_length _ _ (twins {us} {vs} e h) = let n = twins_length us vs h in omega (arith, n)

twins_tokens : (us vs : List Tok) → Twins us vs → tokens_of us ≡ tokens_of vs
twins_tokens _ _ no_twins = refl
twins_tokens _ _ (twins {s} {t} {us} {vs} e h) = ap (λ (ks : List Token). s.token ∷ ks) (twins_tokens us vs h) ∙ ap (λ (k : Token). k ∷ tokens_of vs) e

twins_take : (n : ℕ) (us vs : List Tok) → Twins us vs → Twins (take n us) (take n vs)
twins_take zero _ _ no_twins = no_twins
twins_take zero _ _ (twins e h) = no_twins
twins_take (suc n) _ _ no_twins = no_twins
twins_take (suc n) _ _ (twins {s} {t} {us} {vs} e h) = twins {s = s} {t = t} e (twins_take n us vs h)

pub twins_extent : (from from' us vs : List Tok) → Twins from from' → Twins us vs → extent (consumed from us) ≡ extent (consumed from' vs)
twins_extent from from' us vs all h =
    let n : length from - length us ≡ length from' - length vs = ap (λ (k : ℕ). k - length us) (twins_length from from' all) ∙ ap (λ (k : ℕ). length from' - k) (twins_length us vs h) in
    ap between (twins_tokens (consumed from us) (take (length from - length us) from') (twins_take (length from - length us) from from' all)) ∙ ap (λ (k : ℕ). extent (take k from')) n

pub twins_first : (p : TokenNode → Bool) (us vs : List Tok) → Twins us vs → first_is p us ≡ first_is p vs
twins_first p _ _ no_twins = refl
twins_first p _ _ (twins e h) = ap (λ (k : Token). p k.node) e

pub twin_stop : {A : Type 0} (fault : ℕ → Fault) (us vs : List Tok) → Twins us vs → Twin A (Err (fault (length us))) (Err (fault (length vs)))
twin_stop {A} fault us vs h = subst (λ (n : ℕ). Twin A (Err (fault (length us))) (Err (fault n))) (twins_length us vs h) both_stop

pub twin_bind : {A B : Type 0} {a b : Read Tok A} (f g : A × List Tok → Read Tok B) → Twin A a b → ((x : A) (us vs : List Tok) → Twins us vs → Twin B (f (x, us)) (g (x, vs))) → Twin B (a >>= f) (b >>= g)
twin_bind f g (both_read h) k = k _ _ _ h
twin_bind f g both_stop k = both_stop

pub twin_cond : {A : Type 0} {x y x' y' : Read Tok A} (b b' : Bool) → b ≡ b' → Twin A x x' → Twin A y y' → Twin A (cond b x y) (cond b' x' y')
twin_cond true true e p q = p
twin_cond false false e p q = q
twin_cond true false e p q = absurd cc
twin_cond false true e p q = absurd cc

-- ---- nothing, and single tokens

pub empty_sound : {A : Type 0} (a : A) → Sound (Empty a) (empty_at a)
empty_sound {A} a = record {
  found = λ ts x e. subst (λ (y : A × List Tok). Takes (Empty a) ts y.0 y.1) (ok_is (a, ts) x e) (record { front = []; parts = refl; has = (refl, refl) });
  stops = λ ts e h. absurd cc;
  stays = λ n us le. le;
  same = λ rest rest' us vs ag. alike ag;
  blind = λ us vs h. both_read h;
  some = record { tokens = []; value = a; has = (refl, refl) };
}

-- some token passes
pub record Passes {A : Type 0} (f : TokenNode → Option A) : Type 0 where
  pub token : Token
  pub value : A
  pub is : f token.node ≡ Some value

module _ {A : Type 0} (f : TokenNode → Option A) (some : Passes f) where
  one_inhabited : Inhabited (One f)
  one_inhabited = record { tokens = freely some.token ∷ []; value = some.value; has = (freely some.token, refl, some.is) }

  accepted_ok : (t : Tok) (o : Option A) (ts : List Tok) (x : A × List Tok) → f t.token.node ≡ o → accepted o ts ≡ Ok x → Takes (One f) (t ∷ ts) x.0 x.1
  accepted_ok t None ts x is e = absurd cc
  accepted_ok t (Some a) ts x is e = subst (λ (y : A × List Tok). Takes (One f) (t ∷ ts) y.0 y.1) (ok_is (a, ts) x e) (record { front = t ∷ []; parts = refl; has = (t, refl, is) })

  one_finds : Finds (One f) (one_at f)
  one_finds [] x e = absurd cc
  one_finds (t ∷ ts) x e = accepted_ok t (f t.token.node) ts x refl e

  accepted_err : (o : Option A) (t : Tok) (ts : List Tok) (e : Fault) → accepted o ts ≡ Err e → Stopped (One f) (t ∷ ts) e
  accepted_err None t ts (Unexpected n) e = at_start (One f) (t ∷ ts) n (is_left (suc (length ts)) n e) one_inhabited
  accepted_err None t ts (TooDeep n) e = absurd cc
  accepted_err (Some a) t ts fault e = absurd cc

  one_stops : Stops (One f) (one_at f)
  one_stops [] (Unexpected n) e = at_start (One f) [] n (is_left 0 n e) one_inhabited
  one_stops [] (TooDeep n) e = absurd cc
  one_stops (t ∷ ts) fault e = accepted_err (f t.token.node) t ts fault e

  accepted_past : (o : Option A) (n : ℕ) (ts : List Tok) → suc (length ts) ≤ n → IsPast n (accepted o ts)
  accepted_past None n ts le = le
  accepted_past (Some a) n ts le = omega arith

  one_stays : Stays (one_at f)
  one_stays n [] le = omega arith
  one_stays n (t ∷ ts) le = accepted_past (f t.token.node) n ts le

  accepted_here : (o o' : Option A) (t t' : Tok) (rest rest' : List Tok) → o ≡ o' → t.token ≡ t'.token → Alike rest rest' A (accepted o rest) (accepted o' rest')
  accepted_here None None t t' rest rest' is e = stuck false (here {t = t} {t' = t'} e)
  accepted_here None (Some b) t t' rest rest' is e = absurd cc
  accepted_here (Some a) o' t t' rest rest' is e = past (omega arith)

  accepted_later : (o : Option A) (t : Tok) (rest rest' us vs : List Tok) → Agree rest rest' us vs → Alike rest rest' A (accepted o us) (accepted o vs)
  accepted_later None t rest rest' us vs ag = stuck false (later {t = t} ag)
  accepted_later (Some a) t rest rest' us vs ag = alike ag

  one_same : Same (one_at f)
  one_same rest rest' _ _ (here {t} {t'} e) = accepted_here (f t.token.node) (f t'.token.node) t t' rest rest' (ap (λ (s : Token). f s.node) e) e
  one_same rest rest' _ _ (later {t} {us} {vs} ag) = accepted_later (f t.token.node) t rest rest' us vs ag

  accepted_blind : (o : Option A) (us vs : List Tok) → Twins us vs → Twin A (accepted o us) (accepted o vs)
  accepted_blind None us vs h = twin_stop (λ n. Unexpected (suc n)) us vs h
  accepted_blind (Some a) us vs h = both_read h

  one_blind : Blind (one_at f)
  one_blind _ _ no_twins = both_stop
  one_blind _ _ (twins {s} {t} {us} {vs} e h) = subst (λ (o : Option A). Twin A (accepted (f s.token.node) us) (accepted o vs)) (ap (λ (k : Token). f k.node) e) (accepted_blind (f s.token.node) us vs h)

  pub one_sound : Sound (One f) (one_at f)
  one_sound = record { found = one_finds; stops = one_stops; stays = one_stays; same = one_same; blind = one_blind; some = one_inhabited }

-- one token at which something opens
abbrev pub Held : {A : Type 0} → ℕ → (TokenNode → Option A) → Rule A
Held room f ts x = (t : Tok) × (ts ≡ t ∷ []) × (f t.token.node ≡ Some x) × Allows room t

module _ {A : Type 0} (room : ℕ) (f : TokenNode → Option A) (some : Passes f) where
  held_inhabited : Inhabited (Held room f)
  held_inhabited = record { tokens = freely some.token ∷ []; value = some.value; has = (freely some.token, refl, some.is, λ e. absurd cc) }

  enter_ok : (n : ℕ) (a : A) (ts : List Tok) (x : A × List Tok) → enter n a ts ≡ Ok x → (0 < n) × ((a, ts) ≡ x)
  enter_ok zero a ts x e = absurd cc
  enter_ok (suc n) a ts x e = (omega arith, ok_is (a, ts) x e)

  held_ok : (t : Tok) (o : Option A) (ts : List Tok) (x : A × List Tok) → f t.token.node ≡ o → held room o ts ≡ Ok x → Takes (Held room f) (t ∷ ts) x.0 x.1
  held_ok t None ts x is e = absurd cc
  held_ok t (Some a) ts x is e =
      let h = enter_ok room a ts x e in
      subst (λ (y : A × List Tok). Takes (Held room f) (t ∷ ts) y.0 y.1) h.1 (record { front = t ∷ []; parts = refl; has = (t, refl, is, λ s. h.0) })

  held_finds : Finds (Held room f) (held_at room f)
  held_finds [] x e = absurd cc
  held_finds (t ∷ ts) x e = held_ok t (f t.token.node) ts x refl e

  enter_err : (n : ℕ) (a : A) (t : Tok) (ts : List Tok) (e : Fault) → f t.token.node ≡ Some a → enter n a ts ≡ Err e → Stopped (Held room f) (t ∷ ts) e
  enter_err zero a t ts (Unexpected k) is e = absurd cc
  enter_err zero a t ts (TooDeep k) is e = record { front = []; rest = t ∷ ts; parts = refl; left = let q : suc (length ts) ≡ k = cc in q; tail = freed t ∷ []; value = a; has = (freed t, refl, is, λ s. absurd cc); goes = (t, ts, [], refl, refl) }
  enter_err (suc n) a t ts fault is e = absurd cc

  held_err : (o : Option A) (t : Tok) (ts : List Tok) (e : Fault) → f t.token.node ≡ o → held room o ts ≡ Err e → Stopped (Held room f) (t ∷ ts) e
  held_err None t ts (Unexpected n) is e = at_start (Held room f) (t ∷ ts) n (is_left (suc (length ts)) n e) held_inhabited
  held_err None t ts (TooDeep n) is e = absurd cc
  held_err (Some a) t ts fault is e = enter_err room a t ts fault is e

  held_stops : Stops (Held room f) (held_at room f)
  held_stops [] (Unexpected n) e = at_start (Held room f) [] n (is_left 0 n e) held_inhabited
  held_stops [] (TooDeep n) e = absurd cc
  held_stops (t ∷ ts) fault e = held_err (f t.token.node) t ts fault refl e

  enter_past : (k : ℕ) (a : A) (n : ℕ) (ts : List Tok) → suc (length ts) ≤ n → IsPast n (enter k a ts)
  enter_past zero a n ts le = le
  enter_past (suc k) a n ts le = omega arith

  held_past : (o : Option A) (n : ℕ) (ts : List Tok) → suc (length ts) ≤ n → IsPast n (held room o ts)
  held_past None n ts le = le
  held_past (Some a) n ts le = enter_past room a n ts le

  held_stays : Stays (held_at room f)
  held_stays n [] le = omega arith
  held_stays n (t ∷ ts) le = held_past (f t.token.node) n ts le

  enter_here : (k : ℕ) (a : A) (t t' : Tok) (rest rest' : List Tok) → t.token ≡ t'.token → Alike rest rest' A (enter k a rest) (enter k a rest')
  enter_here zero a t t' rest rest' e = stuck true (here {t = t} {t' = t'} e)
  enter_here (suc k) a t t' rest rest' e = past (omega arith)

  enter_later : (k : ℕ) (a : A) (t : Tok) (rest rest' us vs : List Tok) → Agree rest rest' us vs → Alike rest rest' A (enter k a us) (enter k a vs)
  enter_later zero a t rest rest' us vs ag = stuck true (later {t = t} ag)
  enter_later (suc k) a t rest rest' us vs ag = alike ag

  held_here : (o : Option A) (t t' : Tok) (rest rest' : List Tok) → t.token ≡ t'.token → Alike rest rest' A (held room o rest) (held room o rest')
  held_here None t t' rest rest' e = stuck false (here {t = t} {t' = t'} e)
  held_here (Some a) t t' rest rest' e = enter_here room a t t' rest rest' e

  held_later : (o : Option A) (t : Tok) (rest rest' us vs : List Tok) → Agree rest rest' us vs → Alike rest rest' A (held room o us) (held room o vs)
  held_later None t rest rest' us vs ag = stuck false (later {t = t} ag)
  held_later (Some a) t rest rest' us vs ag = enter_later room a t rest rest' us vs ag

  held_same : Same (held_at room f)
  held_same rest rest' _ _ (here {t} {t'} e) = subst (λ (o : Option A). Alike rest rest' A (held room (f t.token.node) rest) (held room o rest')) (ap (λ (s : Token). f s.node) e) (held_here (f t.token.node) t t' rest rest' e)
  held_same rest rest' _ _ (later {t} {us} {vs} ag) = held_later (f t.token.node) t rest rest' us vs ag

  enter_blind : (k : ℕ) (a : A) (us vs : List Tok) → Twins us vs → Twin A (enter k a us) (enter k a vs)
  enter_blind zero a us vs h = twin_stop (λ n. TooDeep (suc n)) us vs h
  enter_blind (suc k) a us vs h = both_read h

  held_is_blind : (o : Option A) (us vs : List Tok) → Twins us vs → Twin A (held room o us) (held room o vs)
  held_is_blind None us vs h = twin_stop (λ n. Unexpected (suc n)) us vs h
  held_is_blind (Some a) us vs h = enter_blind room a us vs h

  held_blind : Blind (held_at room f)
  held_blind _ _ no_twins = both_stop
  held_blind _ _ (twins {s} {t} {us} {vs} e h) = subst (λ (o : Option A). Twin A (held room (f s.token.node) us) (held room o vs)) (ap (λ (k : Token). f k.node) e) (held_is_blind (f s.token.node) us vs h)

  pub held_sound : Sound (Held room f) (held_at room f)
  held_sound = record { found = held_finds; stops = held_stops; stays = held_stays; same = held_same; blind = held_blind; some = held_inhabited }

-- ---- one and then another

pub then_sound : {A B : Type 0} (P : Rule A) (Q : A → Rule B) (r : Reader A) (s : A → Reader B) → Sound P r → ((x : A) → Sound (Q x) (s x)) → Sound (Then P Q) (then_at r s)
then_sound {A} {B} P Q r s p q = record {
  found = λ ts x e.
      let a = bind_ok (r ts) (λ y. s y.0 y.1 >>= λ z. Ok ((y.0, z.0), z.1)) x e in
      let b = bind_ok (s a.0.0 a.0.1) (λ z. Ok ((a.0.0, z.0), z.1)) x a.2 in
      let first = p.found ts a.0 a.1 in
      let second = (q a.0.0).found a.0.1 b.0 b.1 in
      subst (λ (y : (A × B) × List Tok). Takes (Then P Q) ts y.0 y.1) (ok_is ((a.0.0, b.0.0), b.0.1) x b.2)
      (record { front = first.front ++ second.front; parts = first.parts ∙ ap (λ (ws : List Tok). first.front ++ ws) second.parts ∙ sym (append_assoc first.front second.front b.0.1); has = (first.front, second.front, refl, first.has, second.has) });
  stops = λ ts e h. elim (bind_err (r ts) (λ y. s y.0 y.1 >>= λ z. Ok ((y.0, z.0), z.1)) e h) [
    | inl k ↦
        let b = p.stops ts e k in
        let some = (q b.value).some in
        moved P (Then P Q) [] some.tokens ts e b (b.value, some.value) (b.front ++ b.tail, some.tokens, refl, b.has, some.has)
    | inr k ↦
        let first = p.found ts k.0 k.1 in
        elim (bind_err (s k.0.0 k.0.1) (λ z. Ok ((k.0.0, z.0), z.1)) e k.2) [
          | inl m ↦
              let b = (q k.0.0).stops k.0.1 e m in
              subst (λ (ws : List Tok). Stopped (Then P Q) ws e) (sym first.parts)
              (moved (Q k.0.0) (Then P Q) first.front [] k.0.1 e b (k.0.0, b.value) (first.front, b.front ++ b.tail, ap (λ (ws : List Tok). first.front ++ ws) (append-nil (b.front ++ b.tail)), first.has, b.has))
          | inr m ↦ absurd cc
        ]
  ];
  stays = λ n us le. past_bind n (r us) (λ y. s y.0 y.1 >>= λ z. Ok ((y.0, z.0), z.1)) (p.stays n us le) (λ x vs lt. past_bind n (s x vs) (λ z. Ok ((x, z.0), z.1)) ((q x).stays n vs lt) (λ y ws le'. le'));
  same = λ rest rest' us vs ag. alike_bind rest rest' (λ y. s y.0 y.1 >>= λ z. Ok ((y.0, z.0), z.1)) (λ y. s y.0 y.1 >>= λ z. Ok ((y.0, z.0), z.1)) (p.same rest rest' us vs ag)
      (λ x us' vs' ag' e e'. alike_bind rest rest' (λ z. Ok ((x, z.0), z.1)) (λ z. Ok ((x, z.0), z.1)) ((q x).same rest rest' us' vs' ag') (λ y ws zs last f f'. alike last) (λ y ws lt. lt))
      (λ x us' lt. past_bind (length rest) (s x us') (λ z. Ok ((x, z.0), z.1)) ((q x).stays (length rest) us' lt) (λ y ws le. le));
  blind = λ us vs h. twin_bind (λ y. s y.0 y.1 >>= λ z. Ok ((y.0, z.0), z.1)) (λ y. s y.0 y.1 >>= λ z. Ok ((y.0, z.0), z.1)) (p.blind us vs h)
      (λ x us' vs' h'. twin_bind (λ z. Ok ((x, z.0), z.1)) (λ z. Ok ((x, z.0), z.1)) ((q x).blind us' vs' h') (λ y ws zs last. both_read last));
  some = let first = p.some in let second = (q first.value).some in record { tokens = first.tokens ++ second.tokens; value = (first.value, second.value); has = (first.tokens, second.tokens, refl, first.has, second.has) };
}

-- ---- a value made of another

pub consumed_append : (us rest : List Tok) → consumed (us ++ rest) rest ≡ us
consumed_append us rest = let n : length (us ++ rest) - length rest ≡ length us = omega (arith, length-append us rest) in rw n (take_front us rest)
  where
    take_front : (us rest : List Tok) → take (length us) (us ++ rest) ≡ us
    take_front [] rest = refl
    take_front (t ∷ us) rest = ap (λ (ws : List Tok). t ∷ ws) (take_front us rest)

pub consumed_is : (ts front rest : List Tok) → ts ≡ front ++ rest → consumed ts rest ≡ front
consumed_is ts front rest e = ap (λ (ws : List Tok). consumed ws rest) e ∙ consumed_append front rest

-- two lists that agree and begin with these tokens
agree_tails : (rest rest' us vs : List Tok) → Agree rest rest' us vs → (s t : Tok) (us' vs' : List Tok) → us ≡ s ∷ us' → vs ≡ t ∷ vs' → ((s ≡ t) × Agree rest rest' us' vs') ⊎ (length us' ≡ length rest)
agree_tails rest rest' _ _ (here e) s t us' vs' is is' = inr (let q : us' ≡ rest = cc in ap length q)
agree_tails rest rest' _ _ (later {t = w} {us} {vs} ag) s t us' vs' is is' =
    let p : us ≡ us' = cc in
    let q : vs ≡ vs' = cc in
    inl (cc, subst (λ (ws : List Tok). Agree rest rest' ws vs') p (subst (λ (ws : List Tok). Agree rest rest' us ws) q ag))

same_front : (rest rest' front front' us vs : List Tok) → Agree rest rest' us vs → Agree rest rest' (front ++ us) (front' ++ vs) → front ≡ front'
same_front rest rest' [] [] us vs ag all = refl
same_front rest rest' [] (t ∷ front') us vs ag all = absurd (omega (arith, (agree_length rest rest' us vs ag).0, (agree_length rest rest' us (t ∷ (front' ++ vs)) all).0, length-append front' vs))
same_front rest rest' (s ∷ front) [] us vs ag all = absurd (omega (arith, (agree_length rest rest' us vs ag).0, (agree_length rest rest' (s ∷ (front ++ us)) vs all).0, length-append front us))
same_front rest rest' (s ∷ front) (t ∷ front') us vs ag all =
    elim (agree_tails rest rest' (s ∷ (front ++ us)) (t ∷ (front' ++ vs)) all s t (front ++ us) (front' ++ vs) refl refl) [
      | inl h ↦ let q = same_front rest rest' front front' us vs ag h.1 in let p = h.0 in cc
      | inr h ↦ absurd (omega (arith, h, (agree_length rest rest' us vs ag).1, length-append front us))
    ]

pub same_consumed : (rest rest' front front' from from' us vs : List Tok) → from ≡ front ++ us → from' ≡ front' ++ vs → Agree rest rest' us vs → Agree rest rest' from from' → consumed from us ≡ consumed from' vs
same_consumed rest rest' front front' from from' us vs parts parts' ag all =
    let fronts = same_front rest rest' front front' us vs ag (subst (λ (ws : List Tok). Agree rest rest' ws (front' ++ vs)) parts (subst (λ (ws : List Tok). Agree rest rest' from ws) parts' all)) in
    consumed_is from front us parts ∙ fronts ∙ sym (consumed_is from' front' vs parts')

pub placed_sound : {A B : Type 0} (f : Span → A → B) (P : Rule A) (r : Reader A) → Sound P r → Sound (Placed f P) (placed_at f r)
placed_sound {A} {B} f P r p = record {
  found = λ ts x e.
      let a = bind_ok (r ts) (λ y. Ok (f (extent (consumed ts y.1)) y.0, y.1)) x e in
      let first = p.found ts a.0 a.1 in
      subst (λ (y : B × List Tok). Takes (Placed f P) ts y.0 y.1) (ok_is (f (extent (consumed ts a.0.1)) a.0.0, a.0.1) x a.2)
      (record { front = first.front; parts = first.parts; has = (a.0.0, first.has, ap (λ (ws : List Tok). f (extent ws) a.0.0) (consumed_is ts first.front a.0.1 first.parts)) });
  stops = λ ts e h. elim (bind_err (r ts) (λ y. Ok (f (extent (consumed ts y.1)) y.0, y.1)) e h) [
    | inl k ↦ let b = p.stops ts e k in record { front = b.front; rest = b.rest; parts = b.parts; left = b.left; tail = b.tail; value = f (extent (b.front ++ b.tail)) b.value; has = (b.value, b.has, refl); goes = b.goes }
    | inr k ↦ absurd cc
  ];
  stays = λ n us le. past_bind n (r us) (λ y. Ok (f (extent (consumed us y.1)) y.0, y.1)) (p.stays n us le) (λ x vs lt. lt);
  same = λ rest rest' us vs ag. alike_bind rest rest' (λ y. Ok (f (extent (consumed us y.1)) y.0, y.1)) (λ y. Ok (f (extent (consumed vs y.1)) y.0, y.1)) (p.same rest rest' us vs ag)
      (λ x us' vs' ag' e e'.
      let one = p.found us (x, us') e in
      let two = p.found vs (x, vs') e' in
      let path = same_consumed rest rest' one.front two.front us vs us' vs' one.parts two.parts ag' ag in
      subst (λ (ws : List Tok). Alike rest rest' B (Ok (f (extent (consumed us us')) x, us')) (Ok (f (extent ws) x, vs'))) path (alike ag'))
      (λ x us' lt. lt);
  blind = λ us vs h. twin_bind (λ y. Ok (f (extent (consumed us y.1)) y.0, y.1)) (λ y. Ok (f (extent (consumed vs y.1)) y.0, y.1)) (p.blind us vs h)
      (λ x us' vs' h'. subst (λ (at : Span). Twin B (Ok (f (extent (consumed us us')) x, us')) (Ok (f at x, vs'))) (twins_extent us vs us' vs' h h') (both_read h'));
  some = record { tokens = p.some.tokens; value = f (extent p.some.tokens) p.some.value; has = (p.some.value, p.some.has, refl) };
}

pub made_sound : {A B : Type 0} (f : A → B) (P : Rule A) (r : Reader A) → Sound P r → Sound (Made f P) (made f r)
made_sound f P r p = placed_sound (λ at. f) P r p

-- ---- the one or the other, by the first token

pub either_sound : {A : Type 0} (G : Rule A) (p : TokenNode → Bool) (r s : Reader A) → Sound G r → Sound G s → Sound G (or_at p r s)
either_sound G p r s a b = record {
  found = λ ts x e. elim (chosen (first_is p ts) (r ts) (s ts) (Ok x) e) [ inl h ↦ a.found ts x h.1 | inr h ↦ b.found ts x h.1 ];
  stops = λ ts fault e. elim (chosen (first_is p ts) (r ts) (s ts) (Err fault) e) [ inl h ↦ a.stops ts fault h.1 | inr h ↦ b.stops ts fault h.1 ];
  stays = λ n us le. past_cond n (first_is p us) (r us) (s us) (a.stays n us le) (b.stays n us le);
  same = λ rest rest' us vs ag. alike_cond rest rest' (first_is p us) (first_is p vs) (same_first p rest rest' us vs ag) (a.same rest rest' us vs ag) (b.same rest rest' us vs ag);
  blind = λ us vs h. twin_cond (first_is p us) (first_is p vs) (twins_first p us vs h) (a.blind us vs h) (b.blind us vs h);
  some = a.some;
}

-- a rule that all of another have
pub turned_sound : {A : Type 0} (G H : Rule A) (r : Reader A) → ((us : List Tok) (x : A) → G us x → H us x) → Sound G r → Sound H r
turned_sound G H r turn p = record {
  found = λ ts x e. let t = p.found ts x e in record { front = t.front; parts = t.parts; has = turn t.front x.0 t.has };
  stops = λ ts e h. let b = p.stops ts e h in record { front = b.front; rest = b.rest; parts = b.parts; left = b.left; tail = b.tail; value = b.value; has = turn (b.front ++ b.tail) b.value b.has; goes = b.goes };
  stays = p.stays;
  same = p.same;
  blind = p.blind;
  some = record { tokens = p.some.tokens; value = p.some.value; has = turn p.some.tokens p.some.value p.some.has };
}

pub or_sound : {A : Type 0} (P Q : Rule A) (p : TokenNode → Bool) (r s : Reader A) → Sound P r → Sound Q s → Sound (Or P Q) (or_at p r s)
or_sound P Q p r s a b = either_sound (Or P Q) p r s (turned_sound P (Or P Q) r (λ us x h. inl h) a) (turned_sound Q (Or P Q) s (λ us x h. inr h) b)
