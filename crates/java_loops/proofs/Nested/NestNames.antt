-- Lists of names: what is among them.
use Rattle.std.proofs.Common.{◌≡◌, ℕ, Bool, true, false, ◌||◌, List, [], ◌∷◌, ◌++◌, refl, sym, ap, ◌∙◌, cond, bytes_eq, ◌⊎◌, ⊎_elim}
use Rattle.std.specs.List.{filter, list_any}
use Rattle.std.proofs.lemmas.Bool.{or_cases, or_parts, or_left, or_right}
use Rattle.java_mean.proofs.Puts.{names_equal}
use Rattle.java_ast.specs.Names.{Names, is_among}
use Rattle.java_ast.proofs.Among.{among_both}

-- ---- Filters

-- what no name of a list passes isn't passed by one of them
pub among_fails : (test : List ℕ → Bool) (xs : Names) (x : List ℕ) → is_among xs x ≡ true → list_any test xs ≡ false → test x ≡ false
among_fails test [] x h e = absurd cc
among_fails test (y ∷ ys) x h e =
    let two = or_parts (test y) (list_any test ys) e in
    ⊎_elim (λ same. ap test (names_equal x y same) ∙ two.0) (λ more. among_fails test ys x more two.1) (or_cases (bytes_eq x y) (is_among ys x) h)

filter_wider : (y x : List ℕ) (fs : Names) (b : Bool) → is_among fs x ≡ true → is_among (cond b (y ∷ fs) fs) x ≡ true
filter_wider y x fs true h = or_right (bytes_eq x y) (is_among fs x) h
filter_wider y x fs false h = h

pub among_filter : (q : List ℕ → Bool) (xs : Names) (x : List ℕ) → is_among xs x ≡ true → q x ≡ true → is_among (filter q xs) x ≡ true
among_filter q [] x h p = absurd cc
among_filter q (y ∷ ys) x h p =
    ⊎_elim (λ same. ap (λ b. is_among (cond b (y ∷ filter q ys) (filter q ys)) x) (ap q (sym (names_equal x y same)) ∙ p) ∙ or_left (bytes_eq x y) (is_among (filter q ys) x) same) (λ more. filter_wider y x (filter q ys) (q y) (among_filter q ys x more p)) (or_cases (bytes_eq x y) (is_among ys x) h)

filtered_step : (q : List ℕ → Bool) (y x : List ℕ) (ys : Names) (b : Bool) → q y ≡ b → (is_among (filter q ys) x ≡ true → (is_among ys x ≡ true) × (q x ≡ true)) → is_among (cond b (y ∷ filter q ys) (filter q ys)) x ≡ true → ((bytes_eq x y || is_among ys x) ≡ true) × (q x ≡ true)
filtered_step q y x ys true e more h =
    ⊎_elim (λ same. (or_left (bytes_eq x y) (is_among ys x) same, ap q (names_equal x y same) ∙ e)) (λ i. (or_right (bytes_eq x y) (is_among ys x) (more i).0, (more i).1)) (or_cases (bytes_eq x y) (is_among (filter q ys) x) h)
filtered_step q y x ys false e more h = (or_right (bytes_eq x y) (is_among ys x) (more h).0, (more h).1)

pub among_filtered : (q : List ℕ → Bool) (xs : Names) (x : List ℕ) → is_among (filter q xs) x ≡ true → (is_among xs x ≡ true) × (q x ≡ true)
among_filtered q [] x h = absurd cc
among_filtered q (y ∷ ys) x h = filtered_step q y x ys (q y) refl (λ i. among_filtered q ys x i) h

-- ---- Joined lists

pub among_either : (xs ys : Names) (x : List ℕ) → is_among (xs ++ ys) x ≡ true → (is_among xs x ≡ true) ⊎ (is_among ys x ≡ true)
among_either xs ys x h = or_cases (is_among xs x) (is_among ys x) (sym (among_both xs ys x) ∙ h)

pub among_left : (xs ys : Names) (x : List ℕ) → is_among xs x ≡ true → is_among (xs ++ ys) x ≡ true
among_left xs ys x h = among_both xs ys x ∙ or_left (is_among xs x) (is_among ys x) h

pub among_right : (xs ys : Names) (x : List ℕ) → is_among ys x ≡ true → is_among (xs ++ ys) x ≡ true
among_right xs ys x h = among_both xs ys x ∙ or_right (is_among xs x) (is_among ys x) h
