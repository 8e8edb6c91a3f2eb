-- The numbers of the sites that pass a test.
use Rattle.std.specs.Prelude.{nat_lt}
use Rattle.std.specs.List.{list_any}
use Rattle.std.proofs.Common.{◌≡◌, ◌≤◌, ◌<◌, ◌+◌, ℕ, zero, suc, Bool, true, false, ◌&&◌, ◌||◌, List, [], ◌∷◌, ◌++◌, length, take, drop, map, get_or, refl, sym, ap, ◌∙◌, arith, lt-ltb, le-ltb, append_assoc}
use Rattle.loop_text.specs.declared.sites.list.Site as code
use Rattle.loop_text.specs.Sites.Indexed.{with_number, passing}
use Rattle.loop_text.specs.Sites.Reading.{site_of}
use Rattle.loop_text.specs.Sites.Sites.{Site, any_site}
use Rattle.loop_text.proofs.Trees.Walked.{next_item}

-- ---- One more

before_rest : (t : Bool) (n : ℕ) (rest : List ℕ) → with_number t n [] ++ rest ≡ with_number t n rest
before_rest true n rest = refl
before_rest false n rest = refl

-- the next site is listed where it passes
pub next_passing : (test : ℕ → Site → Bool) (old new : List ℕ) (t : Bool) (n : ℕ) (all : List code.Site) (s : code.Site) (whole : List ℕ) → n < length all → s ≡ get_or all n s → t ≡ test n (site_of s) → new ≡ old ++ with_number t n [] → old ++ passing test n (map site_of (drop n all)) ≡ whole → new ++ passing test (n + 1) (map site_of (drop (n + 1) all)) ≡ whole
next_passing test old new t n all s whole h is tested added before =
    let rest = map site_of (drop (n + 1) all) in
    let next : n + 1 ≡ suc n = omega arith in
    ap (λ (l : List ℕ). l ++ passing test (n + 1) rest) added
    ∙ append_assoc old (with_number t n []) (passing test (n + 1) rest)
    ∙ ap (λ (l : List ℕ). old ++ l) (before_rest t n (passing test (n + 1) rest))
    ∙ ap (λ (b : Bool). old ++ with_number b n (passing test (n + 1) rest)) tested
    ∙ ap (λ (k : ℕ). old ++ with_number (test n (site_of s)) n (passing test k rest)) next
    ∙ sym (ap (λ (l : List code.Site). old ++ passing test n (map site_of l)) (next_item all n s h is))
    ∙ before

-- ---- What is asked of the numbers

where_step : (t : Bool) (c : ℕ → Bool) (k : ℕ) (rest : List ℕ) (b : Bool) → b ≡ list_any c rest → ((t && c k) || b) ≡ list_any c (with_number t k rest)
where_step true c k rest b h = ap (λ d. c k || d) h
where_step false c k rest b h = h

-- some site passes a test and has a number of a kind
pub any_where : (f p : ℕ → Site → Bool) (c : ℕ → Bool) → ((m : ℕ) (t : Site) → f m t ≡ (p m t && c m)) → (k : ℕ) (ss : List Site) → any_site f k ss ≡ list_any c (passing p k ss)
any_where f p c e k [] = refl
any_where f p c e k (s ∷ ss) =
    ap (λ b. b || any_site f (suc k) ss) (e k s)
    ∙ where_step (p k s) c k (passing p (suc k) ss) (any_site f (suc k) ss) (any_where f p c e (suc k) ss)

none_step : (t : Bool) (n k : ℕ) (rest : List ℕ) → n ≤ k → list_any (λ m. nat_lt m n) rest ≡ false → list_any (λ m. nat_lt m n) (with_number t k rest) ≡ false
none_step true n k rest h r = ap (λ b. b || list_any (λ m. nat_lt m n) rest) (le-ltb k n h) ∙ r
none_step false n k rest h r = r

none_from : (p : ℕ → Site → Bool) (n k : ℕ) (ss : List Site) → n ≤ k → list_any (λ m. nat_lt m n) (passing p k ss) ≡ false
none_from p n k [] h = refl
none_from p n k (s ∷ ss) h = none_step (p k s) n k (passing p (suc k) ss) h (none_from p n (suc k) ss (omega (arith, h)))

first_step : (t : Bool) (n k : ℕ) (rest : List ℕ) (b : Bool) → k < n → b ≡ list_any (λ m. nat_lt m n) rest → (t || b) ≡ list_any (λ m. nat_lt m n) (with_number t k rest)
first_step true n k rest b h r = sym (ap (λ c. c || list_any (λ m. nat_lt m n) rest) (lt-ltb k n h))
first_step false n k rest b h r = r

-- one of the first sites passes a test
pub first_ones : (f p : ℕ → Site → Bool) (n k j : ℕ) (ss : List Site) → k + j ≡ n → ((m : ℕ) (t : Site) → m < n → f m t ≡ p m t) → any_site f k (take j ss) ≡ list_any (λ m. nat_lt m n) (passing p k ss)
first_ones f p n k zero [] e same = refl
first_ones f p n k (suc j) [] e same = refl
first_ones f p n k zero (s ∷ ss) e same = sym (none_from p n k (s ∷ ss) (omega (arith, e)))
first_ones f p n k (suc j) (s ∷ ss) e same =
    let h : k < n = omega (arith, e) in
    ap (λ b. b || any_site f (suc k) (take j ss)) (same k s h)
    ∙ first_step (p k s) n k (passing p (suc k) ss) (any_site f (suc k) (take j ss)) h (first_ones f p n (suc k) j ss (omega (arith, e)) same)

never_step : (t : Bool) (b : Bool) (k : ℕ) (rest : List ℕ) → b ≡ list_any (λ m. true) rest → (t || b) ≡ list_any (λ m. true) (with_number t k rest)
never_step true b k rest h = refl
never_step false b k rest h = h

any_listed : (p : ℕ → Site → Bool) (k : ℕ) (ss : List Site) → any_site p k ss ≡ list_any (λ m. true) (passing p k ss)
any_listed p k [] = refl
any_listed p k (s ∷ ss) = never_step (p k s) (any_site p (suc k) ss) k (passing p (suc k) ss) (any_listed p (suc k) ss)

pub none_listed : (p : ℕ → Site → Bool) (ss : List Site) (ns : List ℕ) → ns ≡ passing p 0 ss → length ns ≡ 0 → false ≡ any_site p 0 ss
none_listed p ss [] is none = sym (any_listed p 0 ss ∙ ap (list_any (λ m. true)) (sym is))
none_listed p ss (n ∷ ns) is none = absurd (omega (arith, none))

pub one_listed : (p : ℕ → Site → Bool) (ss : List Site) (ns ms : List ℕ) (n : ℕ) → ns ≡ passing p 0 ss → ns ≡ n ∷ ms → true ≡ any_site p 0 ss
one_listed p ss ns ms n is some = sym (any_listed p 0 ss ∙ ap (list_any (λ m. true)) (sym is ∙ some))

pub and_turned : (a b : Bool) → (a && b) ≡ (b && a)
and_turned true true = refl
and_turned true false = refl
and_turned false true = refl
and_turned false false = refl
