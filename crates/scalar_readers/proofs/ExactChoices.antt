-- Exact readers: single bytes, two of which the first decides the second, and those that refuse some bytes at once.
use Rattle.std.proofs.Common.{◌≡◌, ℕ, ◌≤◌, Bool, true, false, cond, ◌&&◌, List, [], ◌∷◌, ◌++◌, length, Option, Some, None, Ok, Err, refl, sym, ap, ap₂, subst, ◌∙◌, append_assoc, arith, inl, inr}
use Rattle.std.specs.Prelude.{nat_le}
use Rattle.std.proofs.lemmas.List.{append-nil}
use Rattle.std.proofs.lemmas.Bool.{leb-true, le-leb}
use Rattle.readers.specs.declared.fault.Fault.TheVariants.{Unexpected}
use Rattle.readers.specs.Reading.{◌>>=◌, token_at, first_passes, IsToken}
use Rattle.readers.proofs.Tools.{bind_ok, ok_is, bind_err, is_left, chosen}
use Rattle.readers.proofs.Lawful.{Takes, Begun, at_start, inside, past_bind, past_cond, Agree, here, later, alike, stuck, alike_bind, alike_cond, token_lawful}
use Rattle.readers.proofs.Again.{Any, Leads, Leads-then, Leads-bind, token_again}
use Rattle.readers.proofs.Shallow.{shallow_bind, shallow_cond, token_shallow}
use Rattle.text_readers.specs.Bytes.{Reader}
use Rattle.text_readers.proofs.Exact.{IsText, Exact, as_lawful}
use Rattle.scalar_readers.specs.Choices.{and_then, refused, unless, between}

-- ---- one byte

module _ {A : Type 0} (text : A → List ℕ) (fits : A → Type 0) (f : ℕ → Option A) (to : (t : ℕ) (x : A) → f t ≡ Some x → (text x ≡ t ∷ []) × fits x) (back : (x : A) → fits x → (t : ℕ) × (text x ≡ t ∷ []) × (f t ≡ Some x)) where
  pub exact_token : (x : A) → fits x → Exact text fits Any (λ ts. token_at f ts)
  exact_token x h =
      let b = back x h in
      record {
        lawful = as_lawful (IsToken f) (IsText text fits) (token_at f) (λ ts y k. let t = to k.0 y k.2 in (k.1 ∙ sym t.0, t.1)) (token_lawful f (record { tokens = b.0 ∷ []; value = x; has = (b.0, refl, b.2) }));
        again = λ us y rest k any. let c = back y k.1 in token_again f us y rest (c.0, k.0 ∙ c.1, c.2) any;
        shallow = token_shallow f;
        some = x;
        fit = h;
      }

abbrev pub IsBetween : ℕ → ℕ → ℕ → Type 0
IsBetween low high b = (low ≤ b) × (b ≤ high)

pub between_is : (low high t x : ℕ) → between low high t ≡ Some x → (x ≡ t) × IsBetween low high t
between_is low high t x e = by_test (nat_le low t) (nat_le t high) refl refl e
  where
    some_is : (m n : ℕ) → Some m ≡ Some n → m ≡ n
    some_is m n e = cc

    by_test : (v w : Bool) → nat_le low t ≡ v → nat_le t high ≡ w → cond (v && w) (Some t) None ≡ Some x → (x ≡ t) × IsBetween low high t
    by_test true true p q e = (sym (some_is t x e), (leb-true low t p, leb-true t high q))
    by_test true false p q e = absurd cc
    by_test false w p q e = absurd cc

between_of : (low high b : ℕ) → IsBetween low high b → between low high b ≡ Some b
between_of low high b h = rw (le-leb low b h.0, le-leb b high h.1) refl

pub exact_between : (low high : ℕ) → low ≤ high → Exact (λ b. b ∷ []) (IsBetween low high) Any (λ ts. token_at (between low high) ts)
exact_between low high le =
    exact_token (λ b. b ∷ []) (IsBetween low high) (between low high)
    (λ t x e. let b = between_is low high t x e in (ap (λ (c : ℕ). c ∷ []) b.0, subst (λ (c : ℕ). IsBetween low high c) (sym b.0) b.1))
    (λ x h. (x, refl, between_of low high x h)) low (omega arith, le)

-- ---- what may follow

pub exact_before : {A : Type 0} {text : A → List ℕ} {fits : A → Type 0} {F : List ℕ → Type 0} {r : Reader A} (G : List ℕ → Type 0) → ((rest : List ℕ) → G rest → F rest) → Exact text fits F r → Exact text fits G r
exact_before G turn e = record { lawful = e.lawful; again = λ us x rest h follows. e.again us x rest h (turn rest follows); shallow = e.shallow; some = e.some; fit = e.fit }

-- ---- one, and then the other, which depends on it

abbrev pub then_text : {A B : Type 0} → (A → List ℕ) → (A → B → List ℕ) → A × B → List ℕ
then_text ta tb x = ta x.0 ++ tb x.0 x.1

abbrev pub then_fits : {A B : Type 0} → (A → Type 0) → (A → B → Type 0) → A × B → Type 0
then_fits fa fb x = fa x.0 × fb x.0 x.1

module _ {A B : Type 0} {ta : A → List ℕ} {fa : A → Type 0} {tb : A → B → List ℕ} {fb : A → B → Type 0} {F G : List ℕ → Type 0} {r : Reader A} {s : A → Reader B} (p : Exact ta fa F r) (q : (x : A) → Exact (tb x) (fb x) G (s x)) where
  then_found : (ts : List ℕ) (x : (A × B) × List ℕ) → and_then r s ts ≡ Ok x → Takes (IsText (then_text ta tb) (then_fits fa fb)) ts x.0 x.1
  then_found ts x e =
      let a = bind_ok (r ts) (λ x. s x.0 x.1 >>= λ y. Ok ((x.0, y.0), y.1)) x e in
      let b = bind_ok (s a.0.0 a.0.1) (λ y. Ok ((a.0.0, y.0), y.1)) x a.2 in
      let one = p.lawful.found ts a.0 a.1 in
      let two = (q a.0.0).lawful.found a.0.1 b.0 b.1 in
      subst (λ (y : (A × B) × List ℕ). Takes (IsText (then_text ta tb) (then_fits fa fb)) ts y.0 y.1) (ok_is ((a.0.0, b.0.0), b.0.1) x b.2)
      (record { front = one.front ++ two.front; parts = one.parts ∙ ap (λ (ws : List ℕ). one.front ++ ws) two.parts ∙ sym (append_assoc one.front two.front b.0.1); has = (ap₂ (λ (us vs : List ℕ). us ++ vs) one.has.0 two.has.0, (one.has.1, two.has.1)) })

  then_begins : (ts : List ℕ) (n : ℕ) → and_then r s ts ≡ Err (Unexpected n) → Begun (IsText (then_text ta tb) (then_fits fa fb)) ts n
  then_begins ts n e = elim (bind_err (r ts) (λ x. s x.0 x.1 >>= λ y. Ok ((x.0, y.0), y.1)) (Unexpected n) e) [
    | inl h ↦
        let b = p.lawful.begins ts n h in
        let other = q b.value in
        let more = tb b.value other.some in
        record {
          front = b.front;
          rest = b.rest;
          parts = b.parts;
          left = b.left;
          tail = b.tail ++ more;
          value = (b.value, other.some);
          has = (sym (append_assoc b.front b.tail more) ∙ ap (λ (us : List ℕ). us ++ more) b.has.0, (b.has.1, other.fit));
        }
    | inr h ↦
        let one = p.lawful.found ts h.0 h.1 in
        elim (bind_err (s h.0.0 h.0.1) (λ y. Ok ((h.0.0, y.0), y.1)) (Unexpected n) h.2) [
          | inl k ↦ subst (λ (ws : List ℕ). Begun (IsText (then_text ta tb) (then_fits fa fb)) ws n) (sym one.parts)
              (inside (IsText (tb h.0.0) (fb h.0.0)) (IsText (then_text ta tb) (then_fits fa fb)) one.front [] h.0.1 n (λ y. (h.0.0, y)) (λ ws y has. (ap₂ (λ (us vs : List ℕ). us ++ vs) one.has.0 (append-nil ws ∙ has.0), (one.has.1, has.1))) ((q h.0.0).lawful.begins h.0.1 n k))
          | inr k ↦ absurd cc
        ]
  ]

  -- the first is read up to where the second begins
  pub exact_then : ((x : A) (y : B) (rest : List ℕ) → fa x → fb x y → G rest → F (tb x y ++ rest)) → Exact (then_text ta tb) (then_fits fa fb) G (and_then r s)
  exact_then joins = record {
    lawful = record {
      found = then_found;
      begins = then_begins;
      stays = λ n us le. past_bind n (r us) (λ x. s x.0 x.1 >>= λ y. Ok ((x.0, y.0), y.1)) (p.lawful.stays n us le)
          (λ x vs lt. past_bind n (s x vs) (λ y. Ok ((x, y.0), y.1)) ((q x).lawful.stays n vs lt) (λ y ws last. last));
      same = λ rest rest' us vs ag. alike_bind rest rest' (λ x. s x.0 x.1 >>= λ y. Ok ((x.0, y.0), y.1)) (λ x. s x.0 x.1 >>= λ y. Ok ((x.0, y.0), y.1)) (p.lawful.same rest rest' us vs ag)
          (λ x us' vs' ag' e e'. alike_bind rest rest' (λ y. Ok ((x, y.0), y.1)) (λ y. Ok ((x, y.0), y.1)) ((q x).lawful.same rest rest' us' vs' ag') (λ y ws zs last f f'. alike last) (λ y ws lt. lt))
          (λ x us' lt. past_bind (length rest) (s x us') (λ y. Ok ((x, y.0), y.1)) ((q x).lawful.stays (length rest) us' lt) (λ y ws last. last));
    };
    again = λ us x rest h follows.
        let first = p.again (ta x.0) x.0 (tb x.0 x.1 ++ rest) (refl, h.1.0) (joins x.0 x.1 rest h.1.0 h.1.1 follows) in
        let second = (q x.0).again (tb x.0 x.1) x.1 rest (refl, h.1.1) follows in
        let go : Leads (and_then r s (ta x.0 ++ (tb x.0 x.1 ++ rest))) (Ok (x, rest)) =
        Leads-then _ _ (Ok (x, rest)) (Leads-bind (r (ta x.0 ++ (tb x.0 x.1 ++ rest))) (x.0, tb x.0 x.1 ++ rest) (λ a. s a.0 a.1 >>= λ b. Ok ((a.0, b.0), b.1)) first)
        (Leads-bind (s x.0 (tb x.0 x.1 ++ rest)) (x.1, rest) (λ b. Ok ((x.0, b.0), b.1)) second) in
        subst (λ (ws : List ℕ). Leads (and_then r s ws) (Ok (x, rest))) (sym (ap (λ (ws : List ℕ). ws ++ rest) h.0 ∙ append_assoc (ta x.0) (tb x.0 x.1) rest)) go;
    shallow = λ ts. shallow_bind (r ts) (λ x. s x.0 x.1 >>= λ y. Ok ((x.0, y.0), y.1)) (p.shallow ts) (λ x. shallow_bind (s x.0 x.1) (λ y. Ok ((x.0, y.0), y.1)) ((q x.0).shallow x.1) (λ y d. d));
    some = (p.some, (q p.some).some);
    fit = (p.fit, (q p.some).fit);
  }

-- ---- nothing where the first byte passes

same_first : (test : ℕ → Bool) (rest rest' us vs : List ℕ) → Agree rest rest' us vs → first_passes test us ≡ first_passes test vs
same_first test rest rest' _ _ here = refl
same_first test rest rest' _ _ (later ag) = refl

-- some text begins with a byte that does not pass, and each other text that does not is one of these
module _ {A : Type 0} {text : A → List ℕ} {fits : A → Type 0} {F : List ℕ → Type 0} {r : Reader A} (part : A → Type 0) (test : ℕ → Bool) (e : Exact text fits F r) (some : A) (own : part some)
    (weaker : (x : A) → part x → fits x) (starts : (x : A) (rest : List ℕ) → part x → first_passes test (text x ++ rest) ≡ false)
    (back : (x : A) (rest : List ℕ) → fits x → first_passes test (text x ++ rest) ≡ false → part x) where
  unless_found : (ts : List ℕ) (x : A × List ℕ) → unless test r ts ≡ Ok x → Takes (IsText text part) ts x.0 x.1
  unless_found ts x h = elim (chosen (first_passes test ts) (refused ts) (r ts) (Ok x) h) [
    | inl k ↦ absurd cc
    | inr k ↦
        let t = e.lawful.found ts x k.1 in
        let no : first_passes test (text x.0 ++ x.1) ≡ false = ap (λ (us : List ℕ). first_passes test (us ++ x.1)) (sym t.has.0) ∙ ap (first_passes test) (sym t.parts) ∙ k.0 in
        record { front = t.front; parts = t.parts; has = (t.has.0, back x.0 x.1 t.has.1 no) }
  ]

  begun : (ts front rest tail : List ℕ) (n : ℕ) (x : A) → ts ≡ front ++ rest → length rest ≡ n → first_passes test ts ≡ false → front ++ tail ≡ text x → fits x → Begun (IsText text part) ts n
  begun ts [] rest tail n x parts left off is fit = at_start (IsText text part) ts n (text some) some (ap length parts ∙ left) (refl, own)
  begun ts (b ∷ front) rest tail n x parts left off is fit =
      let here : first_passes test (text x ++ []) ≡ false = ap (λ (us : List ℕ). first_passes test (us ++ [])) (sym is) ∙ ap (first_passes test) (sym parts) ∙ off in
      record { front = b ∷ front; rest = rest; parts = parts; left = left; tail = tail; value = x; has = (is, back x [] fit here) }

  unless_begins : (ts : List ℕ) (n : ℕ) → unless test r ts ≡ Err (Unexpected n) → Begun (IsText text part) ts n
  unless_begins ts n h = elim (chosen (first_passes test ts) (refused ts) (r ts) (Err (Unexpected n)) h) [
    | inl k ↦ at_start (IsText text part) ts n (text some) some (is_left (length ts) n k.1) (refl, own)
    | inr k ↦ let b = e.lawful.begins ts n k.1 in begun ts b.front b.rest b.tail n b.value b.parts b.left k.0 b.has.0 b.has.1
  ]

  pub exact_unless : Exact text part F (unless test r)
  exact_unless = record {
    lawful = record {
      found = unless_found;
      begins = unless_begins;
      stays = λ n us le. past_cond n (first_passes test us) (refused us) (r us) le (e.lawful.stays n us le);
      same = λ rest rest' us vs ag. alike_cond rest rest' (first_passes test us) (first_passes test vs) (same_first test rest rest' us vs ag) (stuck ag) (e.lawful.same rest rest' us vs ag);
    };
    again = λ us x rest h follows.
        let no : first_passes test (us ++ rest) ≡ false = ap (λ (ws : List ℕ). first_passes test (ws ++ rest)) h.0 ∙ starts x rest h.1 in
        rw no (e.again us x rest (h.0, weaker x h.1) follows);
    shallow = λ ts. shallow_cond (first_passes test ts) (refused ts) (r ts) (λ d. d) (e.shallow ts);
    some = some;
    fit = own;
  }
