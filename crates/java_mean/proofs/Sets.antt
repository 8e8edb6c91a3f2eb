-- What is among names of which each stands once.
use Rattle.std.specs.Prelude.{ℕ, Bool, true, false, ◌||◌, List, [], ◌∷◌, ◌++◌, if◌then◌else◌, Option}
use Rattle.std.specs.Str.{bytes_eq}
use Rattle.std.proofs.Common.{◌≡◌, refl, sym, ap, ◌∙◌}
use Rattle.std.proofs.lemmas.List.{map-append}
use Rattle.java_mean.proofs.Puts.{names_equal}
use Rattle.java_mean.specs.Visible.{Visible, is_visible, declared_in, names_seen}
use Rattle.java_mean.specs.declared.types.JavaType.{JavaType}
use Rattle.std.specs.Borrow.{Bor}
use Rattle.java_ast.specs.Names.{names_lent, Names, is_among, with_name, with_names}
use Rattle.java_ast.proofs.Among.{among_both}

or_false : (b : Bool) → (b || false) ≡ b
or_false true = refl
or_false false = refl

or_assoc : (a b c : Bool) → ((a || b) || c) ≡ (a || (b || c))
or_assoc true b c = refl
or_assoc false b c = refl

-- a name that equals one that is there is there
there_already : (xs : Names) (x y : List ℕ) (c : Bool) → bytes_eq x y ≡ c → is_among xs y ≡ true → is_among xs x ≡ (is_among xs x || c)
there_already xs x y true same there =
    let found : is_among xs x ≡ true = ap (is_among xs) (names_equal x y same) ∙ there in
    found ∙ sym (ap (λ (b : Bool). b || true) found)
there_already xs x y false same there = sym (or_false (is_among xs x))

among_by : (b : Bool) (xs : Names) (y x : List ℕ) → is_among xs y ≡ b → is_among (if b then xs else xs ++ y ∷ []) x ≡ (is_among xs x || bytes_eq x y)
among_by true xs y x h = there_already xs x y (bytes_eq x y) refl h
among_by false xs y x h = among_both xs (y ∷ []) x ∙ ap (λ (b : Bool). is_among xs x || b) (or_false (bytes_eq x y))

among_one_more : (xs : Names) (y x : List ℕ) → is_among (with_name xs y) x ≡ (is_among xs x || bytes_eq x y)
among_one_more xs y x = among_by (is_among xs y) xs y x refl

pub among_with : (xs ys : Names) (x : List ℕ) → is_among (with_names xs ys) x ≡ (is_among xs x || is_among ys x)
among_with xs [] x = sym (or_false (is_among xs x))
among_with xs (y ∷ ys) x =
    among_with (with_name xs y) ys x ∙ ap (λ (b : Bool). b || is_among ys x) (among_one_more xs y x) ∙ or_assoc (is_among xs x) (bytes_eq x y) (is_among ys x)

pub among_set : (ys : Names) (x : List ℕ) → is_among (with_names [] ys) x ≡ is_among ys x
among_set ys x = among_with [] ys x

seen_by : (b c d : Bool) → c ≡ d → (b || c) ≡ (if b then true else d)
seen_by true c d h = refl
seen_by false c d h = h

pub among_seen : (vs : Visible) (x : List ℕ) → is_among (names_seen vs) x ≡ is_visible vs x
among_seen [] x = refl
among_seen (v ∷ vs) x = seen_by (bytes_eq x v.0) (is_among (names_seen vs) x) (is_visible vs x) (among_seen vs x)

declared_by_test : (b : Bool) (vs : Visible) (x : List ℕ) (k : Option JavaType) → is_visible vs x ≡ b → names_seen (if b then vs else vs ++ (x, k) ∷ []) ≡ (if b then names_seen vs else names_seen vs ++ x ∷ [])
declared_by_test true vs x k h = refl
declared_by_test false vs x k h = map-append (λ v. v.0) vs ((x, k) ∷ [])

-- a variable that is declared is a name put behind the others
pub seen_declared : (vs : Visible) (x : List ℕ) (k : Option JavaType) → names_seen (declared_in vs x k) ≡ with_name (names_seen vs) x
seen_declared vs x k =
    declared_by_test (is_visible vs x) vs x k refl ∙ ap (λ (b : Bool). if b then names_seen vs else names_seen vs ++ x ∷ []) (sym (among_seen vs x))

among_listed : (vs : Visible) (xs : Names) (x : List ℕ) → names_seen vs ≡ xs → is_among xs x ≡ is_visible vs x
among_listed vs xs x listed = ap (λ (l : Names). is_among l x) (sym listed) ∙ among_seen vs x

-- a name that isn't found is put behind the others
pub names_more : (vs : Visible) (names new : List (Bor (List ℕ))) (x : Bor (List ℕ)) → names_seen vs ≡ names_lent names → is_visible vs x.now ≡ false → new ≡ names ++ x ∷ [] → names_lent new ≡ with_name (names_lent names) x.now
names_more vs names new x listed hidden pushed =
    ap names_lent pushed
    ∙ map-append (λ (y : Bor (List ℕ)). y.now) names (x ∷ [])
    ∙ sym (ap (λ (b : Bool). if b then names_lent names else names_lent names ++ x.now ∷ []) (among_listed vs (names_lent names) x.now listed ∙ hidden))

pub ruleset sets = (among_set, among_with, among_seen, seen_declared)
