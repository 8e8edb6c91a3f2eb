-- What a rule that nothing breaks says of each site.
use Rattle.std.proofs.Common.{◌≡◌, ℕ, zero, suc, ◌+◌, Bool, true, false, ◌||◌, List, [], ◌∷◌, Option, Some, None, refl, sym, ◌∙◌, subst, slice_get, arith}
use Rattle.std.proofs.lemmas.Bool.{or_parts, true_from_ne_false}
use Rattle.qbs_base.specs.declared.span.Span.{Span}
use Rattle.loop_text.specs.Sites.Sites.{Site, first_place, first_broken, place_where, any_site}

-- ---- Places

pub first_none : (o p : Option Span) → first_place o p ≡ None → (o ≡ None) × (p ≡ None)
first_none None p e = (refl, e)
first_none (Some at) p e = absurd cc

pub none_where : (b : Bool) (at : Span) → place_where b at ≡ None → b ≡ false
none_where true at e = absurd cc
none_where false at e = refl

-- ---- Sites

some_same : (x s : Site) → Some x ≡ Some s → x ≡ s
some_same x s e = cc

pub get_same : (sites : List Site) (n : ℕ) (s t : Site) → slice_get sites n ≡ Some s → slice_get sites n ≡ Some t → s ≡ t
get_same sites n s t p q = some_same s t (sym p ∙ q)

here_none : (test : ℕ → Site → Option Span) (k m : ℕ) (x s : Site) → k ≡ m → x ≡ s → test k x ≡ None → test m s ≡ None
here_none test k m x s e h q = subst (λ y. test m y ≡ None) h (subst (λ i. test i x ≡ None) e q)

first_at : (test : ℕ → Site → Option Span) (k n m : ℕ) (sites : List Site) (s : Site) → k + n ≡ m → first_broken test k sites ≡ None → slice_get sites n ≡ Some s → test m s ≡ None
first_at test k n m [] s e h q = absurd cc
first_at test k zero m (x ∷ xs) s e h q = here_none test k m x s (omega arith) (some_same x s q) (first_none (test k x) (first_broken test (suc k) xs) h).0
first_at test k (suc n) m (x ∷ xs) s e h q = first_at test (suc k) n m xs s (omega arith) (first_none (test k x) (first_broken test (suc k) xs) h).1 q

-- no site breaks a rule of which no place is found
pub unbroken_at : (test : ℕ → Site → Option Span) (sites : List Site) → first_broken test 0 sites ≡ None → (n : ℕ) (s : Site) → slice_get sites n ≡ Some s → test n s ≡ None
unbroken_at test sites h n s q = first_at test 0 n n sites s (omega arith) h q

here_fails : (test : ℕ → Site → Bool) (k m : ℕ) (x s : Site) → k ≡ m → x ≡ s → test k x ≡ false → test m s ≡ false
here_fails test k m x s e h q = subst (λ y. test m y ≡ false) h (subst (λ i. test i x ≡ false) e q)

fails_from : (test : ℕ → Site → Bool) (k n m : ℕ) (sites : List Site) (s : Site) → k + n ≡ m → any_site test k sites ≡ false → slice_get sites n ≡ Some s → test m s ≡ false
fails_from test k n m [] s e h q = absurd cc
fails_from test k zero m (x ∷ xs) s e h q = here_fails test k m x s (omega arith) (some_same x s q) (or_parts (test k x) (any_site test (suc k) xs) h).0
fails_from test k (suc n) m (x ∷ xs) s e h q = fails_from test (suc k) n m xs s (omega arith) (or_parts (test k x) (any_site test (suc k) xs) h).1 q

-- no site passes a test that none of them passes
pub fails_at : (test : ℕ → Site → Bool) (sites : List Site) → any_site test 0 sites ≡ false → (n : ℕ) (s : Site) → slice_get sites n ≡ Some s → test n s ≡ false
fails_at test sites h n s q = fails_from test 0 n n sites s (omega arith) h q

-- a site that passes a test
pub record PassesAt (test : ℕ → Site → Bool) (sites : List Site) : Type 0 where
  pub number : ℕ
  pub site : Site
  pub there : slice_get sites number ≡ Some site
  pub passes : test number site ≡ true

record PassesFrom (test : ℕ → Site → Bool) (k : ℕ) (sites : List Site) : Type 0 where
  offset : ℕ
  number : ℕ
  site : Site
  sum : k + offset ≡ number
  there : slice_get sites offset ≡ Some site
  passes : test number site ≡ true

passes_step : (test : ℕ → Site → Bool) (k : ℕ) (x : Site) (xs : List Site) (b : Bool) → test k x ≡ b → (b || any_site test (suc k) xs) ≡ true → (any_site test (suc k) xs ≡ true → PassesFrom test (suc k) xs) → PassesFrom test k (x ∷ xs)
passes_step test k x xs true e h more = record { offset = 0; number = k; site = x; sum = omega arith; there = refl; passes = e }
passes_step test k x xs false e h more =
    let p : PassesFrom test (suc k) xs = more h in
    let sum : suc k + p.offset ≡ p.number = p.sum in
    record { offset = suc p.offset; number = p.number; site = p.site; sum = omega arith; there = p.there; passes = p.passes }

passes_from : (test : ℕ → Site → Bool) (k : ℕ) (sites : List Site) → any_site test k sites ≡ true → PassesFrom test k sites
passes_from test k [] h = absurd cc
passes_from test k (x ∷ xs) h = passes_step test k x xs (test k x) refl h (λ e. passes_from test (suc k) xs e)

-- one site passes a test that some site passes
pub passes_at : (test : ℕ → Site → Bool) (sites : List Site) → any_site test 0 sites ≡ true → PassesAt test sites
passes_at test sites h =
    let p : PassesFrom test 0 sites = passes_from test 0 sites h in
    let sum : 0 + p.offset ≡ p.number = p.sum in
    let same : p.offset ≡ p.number = omega arith in
    record { number = p.number; site = p.site; there = subst (λ n. slice_get sites n ≡ Some p.site) same p.there; passes = p.passes }

-- where a site passes a test, some site does
pub some_passes : (test : ℕ → Site → Bool) (sites : List Site) (n : ℕ) (s : Site) → slice_get sites n ≡ Some s → test n s ≡ true → any_site test 0 sites ≡ true
some_passes test sites n s there e =
    true_from_ne_false (any_site test 0 sites) (λ none. let fails : test n s ≡ false = fails_at test sites none n s there in absurd cc)
