-- Numbers: the reader is exact.
use Rattle.std.proofs.Common.{◌≡◌, ℕ, zero, suc, ◌+◌, ◌-◌, ◌*◌, ◌/◌, ◌%◌, ◌^◌, ◌≤◌, ◌<◌, Bool, true, false, cond, not, ◌&&◌, List, [], ◌∷◌, ◌++◌, length, Option, Some, None, Result, Ok, Err, IfOk, refl, sym, ap, subst, ◌∙◌, append_assoc, arith, inl, inr}
use Rattle.std.specs.Prelude.{nat_eq, nat_lt, nat_le}
use Rattle.std.specs.Fmt.{decimal}
use Rattle.std.proofs.lemmas.Bool.{ltb-true, lt-ltb}
use Rattle.std.proofs.lemmas.Fmt.{decimal_digit, decimal_step, decimal_by_steps}
use Rattle.readers.specs.declared.fault.Fault.TheVariants.{Unexpected}
use Rattle.readers.specs.declared.fault.ReadError.{ReadError}
use Rattle.readers.specs.Reading.{◌>>=◌, Gives, accepted, token_at, is_over, option_cases}
use Rattle.readers.proofs.Tools.{ok_is, bind_err}
use Rattle.readers.proofs.Lawful.{Takes, Begun, past_bind, Agree, here, later, Alike, alike, past, alike_bind, Lawful, token_lawful}
use Rattle.text_readers.specs.Bytes.{is_digit, digit_in, below, with_digit, digits_from, behind, number_at}
use Rattle.text_readers.specs.Offsets.{IsBelow}
use Rattle.text_readers.proofs.Exact.{IsText, Exact}
use Rattle.readers.proofs.Shallow.{token_shallow, shallow_bind}

-- what follows a number does not begin with a digit
abbrev pub ends_number : ℕ → Bool
ends_number b = not (is_digit b)

abbrev pub NoDigit : List ℕ → Type 0
NoDigit rest = is_over ends_number rest ≡ true

-- ---- digits

digit_is : (b d : ℕ) → digit_in b ≡ Some d → (b ≡ 48 + d) × (d < 10)
digit_is b d e = by_test (nat_le 48 b) (nat_le b 57) refl refl e
  where
    some_is : (m n : ℕ) → Some m ≡ Some n → m ≡ n
    some_is m n e = cc

    by_test : (v w : Bool) → nat_le 48 b ≡ v → nat_le b 57 ≡ w → cond (v && w) (Some (b - 48)) None ≡ Some d → (b ≡ 48 + d) × (d < 10)
    by_test true true p q e = let f = some_is (b - 48) d e in (grind (arith, p, q, f), grind (arith, p, q, f))
    by_test true false p q e = absurd cc
    by_test false w p q e = absurd cc

digit_of : (d : ℕ) → d < 10 → digit_in (48 + d) ≡ Some d
digit_of d lt =
    let p : nat_le 48 (48 + d) ≡ true = grind arith in
    let q : nat_le (48 + d) 57 ≡ true = grind (arith, lt) in
    let r : 48 + d - 48 ≡ d = omega arith in
    rw (p, q, r) refl

no_digit : (b : ℕ) → ends_number b ≡ true → digit_in b ≡ None
no_digit b e = by_test (is_digit b) refl e
  where
    by_test : (v : Bool) → is_digit b ≡ v → not v ≡ true → cond v (Some (b - 48)) None ≡ None
    by_test true p e = absurd cc
    by_test false p e = refl

-- the digits of a number below 10 and of others
one_digit : (d : ℕ) → d < 10 → decimal d ≡ (48 + d) ∷ []
one_digit d lt = decimal_digit d lt

-- a digit that goes on, and the number that it makes
with_is : (limit n b m : ℕ) → with_digit limit n b ≡ Some m → (d : ℕ) × (b ≡ 48 + d) × (d < 10) × (m ≡ n * 10 + d) × (m < limit)
with_is limit n b m e = by_digit (digit_in b) refl e
  where
    some_is : (m n : ℕ) → Some m ≡ Some n → m ≡ n
    some_is m n e = cc

    by_test : (d : ℕ) → (b ≡ 48 + d) × (d < 10) → (v : Bool) → nat_lt (n * 10 + d) limit ≡ v → cond v (Some (n * 10 + d)) None ≡ Some m → (d : ℕ) × (b ≡ 48 + d) × (d < 10) × (m ≡ n * 10 + d) × (m < limit)
    by_test d is true p e = let f = some_is (n * 10 + d) m e in (d, is.0, is.1, sym f, omega (arith, ltb-true (n * 10 + d) limit p, f))
    by_test d is false p e = absurd cc

    by_digit : (o : Option ℕ) → digit_in b ≡ o → option_cases o None (λ d. below limit (n * 10 + d)) ≡ Some m → (d : ℕ) × (b ≡ 48 + d) × (d < 10) × (m ≡ n * 10 + d) × (m < limit)
    by_digit None p e = absurd cc
    by_digit (Some d) p e = by_test d (digit_is b d p) (nat_lt (n * 10 + d) (limit)) refl e

-- ---- a number that is read is below the limit

digits_below : (limit : ℕ) (ts : List ℕ) (n : ℕ) → n < limit → (digits_from limit n ts).0 < limit
unfolding digits_from
digits_below limit [] n lt = lt
digits_below limit (b ∷ bs) n lt = by_digit (with_digit limit n b) refl (λ m p. digits_below limit bs m p)
  where
    by_digit : (o : Option ℕ) → with_digit limit n b ≡ o → ((m : ℕ) → m < limit → (digits_from limit m bs).0 < limit) → (option_cases {A = ℕ} {B = ℕ × List ℕ} o (n, b ∷ bs) (λ m. digits_from limit m bs)).0 < limit
    by_digit None p on = lt
    by_digit (Some m) p on = on m (with_is limit n b m p).4

behind_below : (limit d : ℕ) (ts : List ℕ) → d < limit → (behind limit d ts).0 < limit
behind_below limit d ts lt = by_test (nat_eq d 0)
  where
    by_test : (v : Bool) → (cond {A = ℕ × List ℕ} v (d, ts) (digits_from limit d ts)).0 < limit
    by_test true = lt
    by_test false = digits_below limit ts d lt

number_below : (limit : ℕ) → 10 ≤ limit → (ts : List ℕ) (x : ℕ × List ℕ) → number_at limit ts ≡ Ok x → x.0 < limit
unfolding number_at
number_below limit wide [] x e = absurd cc
number_below limit wide (b ∷ bs) x e = by_digit (digit_in b) refl e
  where
    by_digit : (o : Option ℕ) → digit_in b ≡ o → (accepted o bs >>= λ y. Ok (behind limit y.0 y.1)) ≡ Ok x → x.0 < limit
    by_digit None p e = absurd cc
    by_digit (Some d) p e =
        subst (λ (y : ℕ × List ℕ). y.0 < limit) (ok_is (behind limit d bs) x e) (behind_below limit d bs (omega (arith, (digit_is b d p).1, wide)))

pub given_below : {X : Type 0} (view : X → ℕ × List ℕ) (limit : ℕ) → 10 ≤ limit → (ts : List ℕ) (r : Result X ReadError) → Gives view r (number_at limit ts) → IfOk r (λ x. (view x).0 < limit)
given_below view limit wide ts (Ok x) e = number_below limit wide ts (view x) e
given_below view limit wide ts (Err f) e = tt

-- ---- numbers below a limit

module _ (limit : ℕ) (wide : 10 ≤ limit) (most : limit ≤ 2 ^ 64) where
  more_digits : (n d : ℕ) → 0 < n → d < 10 → n * 10 + d < limit → decimal (n * 10 + d) ≡ decimal n ++ (48 + d) ∷ []
  more_digits n d some lt small =
      let front : (n * 10 + d) / 10 ≡ n = omega arith in
      let last : 48 + (n * 10 + d) % 10 ≡ 48 + d = omega arith in
      decimal_step (n * 10 + d) (omega arith) (omega arith) ∙ ap (λ (m : ℕ). decimal m ++ (48 + (n * 10 + d) % 10) ∷ []) front ∙ ap (λ (b : ℕ). decimal n ++ b ∷ []) last

  with_of : (n d : ℕ) → d < 10 → n * 10 + d < limit → with_digit limit n (48 + d) ≡ Some (n * 10 + d)
  with_of n d lt le = let p : nat_lt (n * 10 + d) limit ≡ true = lt-ltb (n * 10 + d) limit le in rw (digit_of d lt, p) refl

  -- ---- what is read is a number

  -- the value that was read, and what of the bytes is left, behind those of n
  abbrev Grown : ℕ → List ℕ → ℕ × List ℕ → Type 0
  Grown n ts x = (decimal n ++ ts ≡ decimal x.0 ++ x.1) × (x.0 < limit)

  grows : (ts : List ℕ) (n : ℕ) → 0 < n → n < limit → Grown n ts (digits_from limit n ts)
  unfolding digits_from
  grows [] n some lt = (refl, lt)
  grows (b ∷ bs) n some lt = by_digit (with_digit limit n b) refl (λ m p q. grows bs m p q)
    where
      by_digit : (o : Option ℕ) → with_digit limit n b ≡ o → ((m : ℕ) → 0 < m → m < limit → Grown m bs (digits_from limit m bs)) → Grown n (b ∷ bs) (option_cases {A = ℕ} {B = ℕ × List ℕ} o (n, b ∷ bs) (λ m. digits_from limit m bs))
      by_digit None p on = (refl, lt)
      by_digit (Some m) p on =
          let w = with_is limit n b m p in
          let rest = on m (omega (arith, w.3, some)) w.4 in
          let text : decimal m ≡ decimal n ++ b ∷ [] = ap decimal w.3 ∙ more_digits n w.0 some w.2 (omega (arith, w.3, w.4)) ∙ ap (λ (c : ℕ). decimal n ++ c ∷ []) (sym w.1) in
          (sym (append_assoc (decimal n) (b ∷ []) bs) ∙ ap (λ (us : List ℕ). us ++ bs) (sym text) ∙ rest.0, rest.1)

  first_grows : (d : ℕ) (ts : List ℕ) → d < 10 → ((48 + d) ∷ ts ≡ decimal (behind limit d ts).0 ++ (behind limit d ts).1) × ((behind limit d ts).0 < limit)
  first_grows d ts lt = by_test (nat_eq d 0) refl
    where
      nonzero : (d : ℕ) → nat_eq d 0 ≡ false → 0 < d
      nonzero zero e = absurd cc
      nonzero (suc d) e = omega arith

      by_test : (v : Bool) → nat_eq d 0 ≡ v → ((48 + d) ∷ ts ≡ decimal (cond {A = ℕ × List ℕ} v (d, ts) (digits_from limit d ts)).0 ++ (cond {A = ℕ × List ℕ} v (d, ts) (digits_from limit d ts)).1) × ((cond {A = ℕ × List ℕ} v (d, ts) (digits_from limit d ts)).0 < limit)
      by_test true p = (ap (λ (us : List ℕ). us ++ ts) (sym (one_digit d lt)), omega arith)
      by_test false p = let g = grows ts d (nonzero d p) (omega arith) in (ap (λ (us : List ℕ). us ++ ts) (sym (one_digit d lt)) ∙ g.0, g.1)

  -- ---- a number is read up to what is no digit

  stays_there : (n : ℕ) (rest : List ℕ) → NoDigit rest → digits_from limit n rest ≡ (n, rest)
  unfolding digits_from
  stays_there n [] e = refl
  stays_there n (b ∷ bs) e = rw (no_digit b e) refl

  -- reading the digits of n from their first on comes to n
  abbrev Reaches : ℕ → List ℕ → Type 0
  Reaches n ds = (0 < n → n < limit → (d : ℕ) × (ms : List ℕ) × (ds ≡ (48 + d) ∷ ms) × (0 < d) × (d < 10) × ((rest : List ℕ) → digits_from limit d (ms ++ rest) ≡ digits_from limit n rest))

  reaches_one : (n : ℕ) → n < 10 → Reaches n ((48 + n) ∷ [])
  reaches_one n lt = λ some small. (n, [], refl, some, lt, λ rest. refl)

  goes_on : (n : ℕ) (rest : List ℕ) → 10 ≤ n → n < limit → digits_from limit (n / 10) ((48 + n % 10) ∷ rest) ≡ digits_from limit n rest
  unfolding digits_from
  goes_on n rest le lt =
      let same : n / 10 * 10 + n % 10 ≡ n = omega arith in
      let w : with_digit limit (n / 10) (48 + n % 10) ≡ Some n = with_of (n / 10) (n % 10) (omega arith) (omega arith) ∙ ap (λ (m : ℕ). Some m) same in
      rw w refl

  reaches_more : (n : ℕ) (ds : List ℕ) → 10 ≤ n → Reaches (n / 10) ds → Reaches n (ds ++ (48 + n % 10) ∷ [])
  reaches_more n ds le before = λ some small.
      let b = before (omega arith) (omega arith) in (
        b.0,
        b.1 ++ (48 + n % 10) ∷ [],
        ap (λ (us : List ℕ). us ++ (48 + n % 10) ∷ []) b.2,
        b.3,
        b.4,
        λ rest. ap (λ (us : List ℕ). digits_from limit b.0 us) (append_assoc b.1 ((48 + n % 10) ∷ []) rest) ∙ b.5 ((48 + n % 10) ∷ rest) ∙ goes_on n rest le small,
      )

  reaches : (n : ℕ) → n < limit → Reaches n (decimal n)
  reaches n lt = decimal_by_steps Reaches reaches_one (λ m ds le before. reaches_more m ds le before) n (omega arith)

  -- the text of a number begins with a digit
  pub first_digit : (n : ℕ) → n < limit → (d : ℕ) × (ms : List ℕ) × (decimal n ≡ (48 + d) ∷ ms) × (d < 10)
  first_digit zero lt = (0, [], one_digit 0 (omega arith), omega arith)
  first_digit (suc n) lt = let r = reaches (suc n) lt (omega arith) lt in (r.0, r.1, r.2, r.4)

  reads : (n : ℕ) (rest : List ℕ) → n < limit → NoDigit rest → number_at limit (decimal n ++ rest) ≡ Ok (n, rest)
  unfolding number_at
  reads zero rest lt e = rw (one_digit 0 (omega arith)) refl
  reads (suc n) rest lt e =
      let r = reaches (suc n) lt (omega arith) lt in
      let no : nat_eq r.0 0 ≡ false = grind (arith, r.3) in
      let first : digit_in (48 + r.0) ≡ Some r.0 = digit_of r.0 r.4 in
      let last : digits_from limit r.0 (r.1 ++ rest) ≡ (suc n, rest) = r.5 rest ∙ stays_there (suc n) rest e in
      rw (r.2, first, no, last) refl

  -- ---- the laws

  number_found : (ts : List ℕ) (x : ℕ × List ℕ) → number_at limit ts ≡ Ok x → Takes (IsText decimal (IsBelow limit)) ts x.0 x.1
  unfolding number_at
  number_found [] x e = absurd cc
  number_found (b ∷ bs) x e = by_digit (digit_in b) refl e
    where
      by_digit : (o : Option ℕ) → digit_in b ≡ o → (accepted o bs >>= λ y. Ok (behind limit y.0 y.1)) ≡ Ok x → Takes (IsText decimal (IsBelow limit)) (b ∷ bs) x.0 x.1
      by_digit None p e = absurd cc
      by_digit (Some d) p e =
          let is = digit_is b d p in
          let g = first_grows d bs is.1 in
          subst (λ (y : ℕ × List ℕ). Takes (IsText decimal (IsBelow limit)) (b ∷ bs) y.0 y.1) (ok_is (behind limit d bs) x e)
          (record { front = decimal (behind limit d bs).0; parts = ap (λ (c : ℕ). c ∷ bs) is.0 ∙ g.0; has = (refl, g.1) })

  number_begins : (ts : List ℕ) (n : ℕ) → number_at limit ts ≡ Err (Unexpected n) → Begun (IsText decimal (IsBelow limit)) ts n
  unfolding number_at
  number_begins ts n e = elim (bind_err (token_at digit_in ts) (λ x. Ok (behind limit x.0 x.1)) (Unexpected n) e) [
    | inl h ↦
        let law = token_lawful digit_in (record { tokens = 48 ∷ []; value = 0; has = (48, refl, refl) }) in
        let b = law.begins ts n h in
        let t = b.has in
        record { front = b.front; rest = b.rest; parts = b.parts; left = b.left; tail = b.tail; value = b.value; has = (t.1 ∙ ap (λ (c : ℕ). c ∷ []) (digit_is t.0 b.value t.2).0 ∙ sym (one_digit b.value (digit_is t.0 b.value t.2).1), omega (arith, (digit_is t.0 b.value t.2).1)) }
    | inr h ↦ absurd cc
  ]

  digits_stay : (ts : List ℕ) (n k : ℕ) → length ts ≤ k → length (digits_from limit n ts).1 ≤ k
  unfolding digits_from
  digits_stay [] n k le = le
  digits_stay (b ∷ bs) n k le = by_digit (with_digit limit n b) (λ m. digits_stay bs m k (omega arith))
    where
      by_digit : (o : Option ℕ) → ((m : ℕ) → length (digits_from limit m bs).1 ≤ k) → length (option_cases {A = ℕ} {B = ℕ × List ℕ} o (n, b ∷ bs) (λ m. digits_from limit m bs)).1 ≤ k
      by_digit None on = le
      by_digit (Some m) on = on m

  behind_stays : (ts : List ℕ) (n k : ℕ) → length ts ≤ k → length (behind limit n ts).1 ≤ k
  behind_stays ts n k le = by_test (nat_eq n 0)
    where
      by_test : (v : Bool) → length (cond {A = ℕ × List ℕ} v (n, ts) (digits_from limit n ts)).1 ≤ k
      by_test true = le
      by_test false = digits_stay ts n k le

  -- two lists of digits that agree up to a byte
  digits_same : (rest rest' us vs : List ℕ) (n : ℕ) → Agree rest rest' us vs → Alike rest rest' ℕ (Ok (digits_from limit n us)) (Ok (digits_from limit n vs))
  unfolding digits_from
  digits_same rest rest' _ _ n (here {t}) = by_digit (with_digit limit n t)
    where
      by_digit : (o : Option ℕ) → Alike rest rest' ℕ (Ok (option_cases {A = ℕ} {B = ℕ × List ℕ} o (n, t ∷ rest) (λ m. digits_from limit m rest))) (Ok (option_cases {A = ℕ} {B = ℕ × List ℕ} o (n, t ∷ rest') (λ m. digits_from limit m rest')))
      by_digit None = alike here
      by_digit (Some m) = past (digits_stay rest m (length rest) (omega arith))
  digits_same rest rest' _ _ n (later {t} {us} {vs} ag) = by_digit (with_digit limit n t) (λ m. digits_same rest rest' us vs m ag)
    where
      by_digit : (o : Option ℕ) → ((m : ℕ) → Alike rest rest' ℕ (Ok (digits_from limit m us)) (Ok (digits_from limit m vs))) → Alike rest rest' ℕ (Ok (option_cases {A = ℕ} {B = ℕ × List ℕ} o (n, t ∷ us) (λ m. digits_from limit m us))) (Ok (option_cases {A = ℕ} {B = ℕ × List ℕ} o (n, t ∷ vs) (λ m. digits_from limit m vs)))
      by_digit None on = alike (later {t = t} ag)
      by_digit (Some m) on = on m

  behind_same : (rest rest' us vs : List ℕ) (n : ℕ) → Agree rest rest' us vs → Alike rest rest' ℕ (Ok (behind limit n us)) (Ok (behind limit n vs))
  behind_same rest rest' us vs n ag = by_test (nat_eq n 0)
    where
      by_test : (v : Bool) → Alike rest rest' ℕ (Ok (cond {A = ℕ × List ℕ} v (n, us) (digits_from limit n us))) (Ok (cond {A = ℕ × List ℕ} v (n, vs) (digits_from limit n vs)))
      by_test true = alike ag
      by_test false = digits_same rest rest' us vs n ag

  number_lawful : Lawful (IsText decimal (IsBelow limit)) (number_at limit)
  unfolding number_at
  number_lawful =
      let token = token_lawful digit_in (record { tokens = 48 ∷ []; value = 0; has = (48, refl, refl) }) in
      record {
        found = number_found;
        begins = number_begins;
        stays = λ n us le. past_bind n (token_at digit_in us) (λ x. Ok (behind limit x.0 x.1)) (token.stays n us le) (λ d vs lt. behind_stays vs d n lt);
        same = λ rest rest' us vs ag. alike_bind rest rest' (λ x. Ok (behind limit x.0 x.1)) (λ x. Ok (behind limit x.0 x.1)) (token.same rest rest' us vs ag)
            (λ d ws zs ag' e e'. behind_same rest rest' ws zs d ag') (λ d ws lt. behind_stays ws d (length rest) lt);
      }

  pub exact_number : Exact decimal (IsBelow limit) NoDigit (number_at limit)
  unfolding number_at
  exact_number = record {
    lawful = number_lawful;
    again = λ us n rest h follows. inl (ap (λ (ws : List ℕ). number_at limit (ws ++ rest)) h.0 ∙ reads n rest h.1 follows);
    shallow = λ ts. shallow_bind (token_at digit_in ts) (λ x. Ok (behind limit x.0 x.1)) (token_shallow digit_in ts) (λ x d. d);
    some = 0;
    fit = omega (arith, wide);
  }
