-- Numbers one after the other.
use Rattle.std.proofs.Common.{◌≡◌, ℕ, suc, ◌+◌, ◌-◌, ◌<◌, ◌≤◌, Bool, true, false, List, [], ◌∷◌, ◌++◌, refl, sym, ap, ◌∙◌, append_assoc, arith}
use Rattle.std.proofs.lemmas.List.{append-nil}
use Rattle.std.specs.List.{list_any, list_all, filter}
use Rattle.view_shapes.specs.Mentions.{numbers, one_if}

pub numbers_more : (k to : ℕ) → k < to → numbers k (to - k) ≡ k ∷ numbers (k + 1) (to - (k + 1))
unfolding numbers
numbers_more k to lt = let e : to - k ≡ suc (to - (k + 1)) = omega (arith, lt) in rw e refl

pub numbers_none : (k to : ℕ) → to ≤ k → numbers k (to - k) ≡ []
unfolding numbers
numbers_none k to le = let e : to - k ≡ 0 = omega (arith, le) in rw e refl

pub any_here : (test : ℕ → Bool) (k to : ℕ) (t : Bool) → list_any test (numbers k (to - k)) ≡ t → k < to → test k ≡ true → true ≡ t
any_here test k to t so_far lt here =
    let h : list_any test (numbers k (to - k)) ≡ true = rw (numbers_more k to lt, here) refl in
    sym h ∙ so_far

pub any_next : (test : ℕ → Bool) (k to : ℕ) (t : Bool) → list_any test (numbers k (to - k)) ≡ t → k < to → test k ≡ false → list_any test (numbers (k + 1) (to - (k + 1))) ≡ t
any_next test k to t so_far lt other =
    let h : list_any test (numbers k (to - k)) ≡ list_any test (numbers (k + 1) (to - (k + 1))) = rw (numbers_more k to lt, other) refl in
    sym h ∙ so_far

pub any_end : (test : ℕ → Bool) (k to : ℕ) (t : Bool) → list_any test (numbers k (to - k)) ≡ t → to ≤ k → false ≡ t
any_end test k to t so_far le =
    let h : list_any test (numbers k (to - k)) ≡ false = rw (numbers_none k to le) refl in
    sym h ∙ so_far

pub all_but : (test : ℕ → Bool) (k to : ℕ) (t : Bool) → list_all test (numbers k (to - k)) ≡ t → k < to → test k ≡ false → false ≡ t
all_but test k to t so_far lt other =
    let h : list_all test (numbers k (to - k)) ≡ false = rw (numbers_more k to lt, other) refl in
    sym h ∙ so_far

pub all_next : (test : ℕ → Bool) (k to : ℕ) (t : Bool) → list_all test (numbers k (to - k)) ≡ t → k < to → test k ≡ true → list_all test (numbers (k + 1) (to - (k + 1))) ≡ t
all_next test k to t so_far lt here =
    let h : list_all test (numbers k (to - k)) ≡ list_all test (numbers (k + 1) (to - (k + 1))) = rw (numbers_more k to lt, here) refl in
    sym h ∙ so_far

pub all_end : (test : ℕ → Bool) (k to : ℕ) (t : Bool) → list_all test (numbers k (to - k)) ≡ t → to ≤ k → true ≡ t
all_end test k to t so_far le =
    let h : list_all test (numbers k (to - k)) ≡ true = rw (numbers_none k to le) refl in
    sym h ∙ so_far

-- ---- those that pass a test, behind those that came before

filter_more : (test : ℕ → Bool) (k : ℕ) (ks : List ℕ) (b : Bool) → b ≡ test k → filter test (k ∷ ks) ≡ one_if b k ++ filter test ks
filter_more test k ks true e = rw (sym e) refl
filter_more test k ks false e = rw (sym e) refl

pub filter_next : (test : ℕ → Bool) (k to : ℕ) (ks more t : List ℕ) (b : Bool) → ks ++ filter test (numbers k (to - k)) ≡ t → k < to → b ≡ test k → more ≡ ks ++ one_if b k
    → more ++ filter test (numbers (k + 1) (to - (k + 1))) ≡ t
filter_next test k to ks more t b so_far lt e is_more =
    let h : filter test (numbers k (to - k)) ≡ one_if b k ++ filter test (numbers (k + 1) (to - (k + 1))) =
    ap (λ (js : List ℕ). filter test js) (numbers_more k to lt) ∙ filter_more test k (numbers (k + 1) (to - (k + 1))) b e in
    rw is_more (append_assoc ks (one_if b k) (filter test (numbers (k + 1) (to - (k + 1)))) ∙ ap (λ (js : List ℕ). ks ++ js) (sym h) ∙ so_far)

pub filter_end : (test : ℕ → Bool) (k to : ℕ) (ks t : List ℕ) → ks ++ filter test (numbers k (to - k)) ≡ t → to ≤ k → ks ≡ t
filter_end test k to ks t so_far le =
    let h : filter test (numbers k (to - k)) ≡ [] = ap (λ (js : List ℕ). filter test js) (numbers_none k to le) in
    sym (append-nil ks) ∙ ap (λ (js : List ℕ). ks ++ js) (sym h) ∙ so_far
