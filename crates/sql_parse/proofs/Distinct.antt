-- Aliases that differ, met one after the other.
use Rattle.std.proofs.Common.{◌≡◌, ℕ, ◌+◌, ◌<◌, ◌≤◌, zero, suc, Bool, true, false, ◌&&◌, ◌||◌, not, List, [], ◌∷◌, ◌++◌, length, take, drop, get_or, Some, refl, sym, ap, ap₂, ◌∙◌, arith, add-one}
use Rattle.std.specs.Prelude.{is_some, if◌then◌else◌}
use Rattle.std.specs.List.{list_any}
use Rattle.std.specs.Str.{bytes_eq}
use Rattle.std.proofs.Math.Seq.{take-suc}
use Rattle.std.proofs.lemmas.List.{map-append}
use Rattle.std.proofs.lemmas.List.Folds.{list_any-append}
use Rattle.std.proofs.lemmas.Slice.Eq.{bytes_eq-Decides}
use Rattle.sql_ast.specs.declared.known.Known.{Known}
use Rattle.sql_ast.specs.declared.places.Places.{Places}
use Rattle.sql_ast.specs.Knowns.{known_of, knowns_of}
use Rattle.sql_ast.specs.Names.{are_distinct}
use Rattle.sql_ast.specs.Names as names
use Rattle.sql_ast.specs.Places.{number_of, replaced}
use Rattle.sql_parse.specs.Scopes.{aliases_of}

-- ---- names

same_either_way : (x y : List ℕ) → bytes_eq x y ≡ bytes_eq y x
same_either_way x y = by (bytes_eq x y) (bytes_eq y x) refl refl
  where
    by : (v w : Bool) → bytes_eq x y ≡ v → bytes_eq y x ≡ w → v ≡ w
    by true true e f = refl
    by false false e f = refl
    by true false e f = sym (sym f ∙ (bytes_eq-Decides y x).1 (sym ((bytes_eq-Decides x y).0 e)))
    by false true e f = sym e ∙ (bytes_eq-Decides x y).1 (sym ((bytes_eq-Decides y x).0 f))

one_any : (name last : List ℕ) (v : Bool) → bytes_eq name last ≡ v → list_any (bytes_eq name) (last ∷ []) ≡ v
one_any name last true e = rw e refl
one_any name last false e = rw e refl

any_last : (name : List ℕ) (xs : List (List ℕ)) (last : List ℕ) → list_any (bytes_eq name) (xs ++ last ∷ []) ≡ (list_any (bytes_eq name) xs || bytes_eq name last)
any_last name xs last = list_any-append (bytes_eq name) xs (last ∷ []) ∙ ap (λ (b : Bool). list_any (bytes_eq name) xs || b) (one_any name last (bytes_eq name last) refl)

shuffled : (a b c d : Bool) → (not (a || b) && (c && not d)) ≡ ((not a && c) && not (b || d))
shuffled true b c d = refl
shuffled false true true d = refl
shuffled false true false d = refl
shuffled false false true d = refl
shuffled false false false d = refl

distinct_last : (xs : List (List ℕ)) (last : List ℕ) → are_distinct (xs ++ last ∷ []) ≡ (are_distinct xs && not (list_any (bytes_eq last) xs))
distinct_last [] last = refl
distinct_last (x ∷ xs) last =
    ap₂ (λ (b c : Bool). not b && c) (any_last x xs last ∙ ap (λ (b : Bool). list_any (bytes_eq x) xs || b) (same_either_way x last)) (distinct_last xs last)
    ∙ shuffled (list_any (bytes_eq x) xs) (bytes_eq last x) (are_distinct xs) (list_any (bytes_eq last) xs)
    ∙ last_step (bytes_eq last x) refl
  where
    last_step : (v : Bool) → bytes_eq last x ≡ v → ((not (list_any (bytes_eq x) xs) && are_distinct xs) && not (bytes_eq last x || list_any (bytes_eq last) xs)) ≡ (are_distinct (x ∷ xs) && not (list_any (bytes_eq last) (x ∷ xs)))
    last_step true e = rw e refl
    last_step false e = rw e refl

again_inside : (xs ys : List (List ℕ)) → are_distinct xs ≡ false → are_distinct (xs ++ ys) ≡ false
again_inside [] ys e = absurd cc
again_inside (x ∷ xs) ys e = by (list_any (bytes_eq x) xs) (are_distinct xs) refl refl (again_inside xs ys)
  where
    none : (b : Bool) → (b && false) ≡ false
    none true = refl
    none false = refl

    by : (v w : Bool) → list_any (bytes_eq x) xs ≡ v → are_distinct xs ≡ w → (are_distinct xs ≡ false → are_distinct (xs ++ ys) ≡ false) → are_distinct ((x ∷ xs) ++ ys) ≡ false
    by true w g h ih = rw (list_any-append (bytes_eq x) xs ys, g) refl
    by false true g h ih = let whole : (not (list_any (bytes_eq x) xs) && are_distinct xs) ≡ false = e in let wrong : true ≡ false = rw (g, h) at whole in absurd cc
    by false false g h ih = ap (λ (b : Bool). not (list_any (bytes_eq x) (xs ++ ys)) && b) (ih h) ∙ none (not (list_any (bytes_eq x) (xs ++ ys)))

-- ---- items

abbrev pub names_of : List Known → List (List ℕ)
names_of ks = aliases_of (knowns_of ks)

names_append : (ks js : List Known) → names_of (ks ++ js) ≡ names_of ks ++ names_of js
names_append ks js = ap aliases_of (map-append known_of ks js) ∙ map-append (λ (k : names.Known). k.alias) (knowns_of ks) (knowns_of js)

names_next : (own : List Known) (n : ℕ) (k : Known) → n < length own → k ≡ get_or own n k → names_of (take (n + 1) own) ≡ names_of (take n own) ++ k.alias.now ∷ []
names_next own n k h e =
    ap (λ (m : ℕ). names_of (take m own)) (add-one n)
    ∙ ap names_of (take-suc own n k h ∙ ap (λ (x : Known). take n own ++ x ∷ []) (sym e))
    ∙ names_append (take n own) (k ∷ [])

halves : (n : ℕ) (ks : List Known) → take n ks ++ drop n ks ≡ ks
halves zero ks = refl
halves (suc n) [] = refl
halves (suc n) (k ∷ ks) = ap (λ (js : List Known). k ∷ js) (halves n ks)

-- the aliases of the first items differ, and those are the names that have numbers
pub record AreMet (met : Places) (own : List Known) (n : ℕ) : Type 0 where
  pub differ : are_distinct (names_of (take n own)) ≡ true
  pub held : (name : List ℕ) → is_some (number_of met name) ≡ list_any (bytes_eq name) (names_of (take n own))

pub none_met : (met : Places) (own : List Known) → ((name : List ℕ) → is_some (number_of met name) ≡ false) → AreMet met own 0
none_met met own e = record { differ = refl; held = e }

pub met_again : (met : Places) (own : List Known) (n : ℕ) (k : Known) → n < length own → k ≡ get_or own n k → AreMet met own n → is_some (number_of met k.alias.now) ≡ true → are_distinct (names_of own) ≡ false
met_again met own n k h e m again =
    let known : list_any (bytes_eq k.alias.now) (names_of (take n own)) ≡ true = sym (m.held k.alias.now) ∙ again in
    let front : are_distinct (names_of (take (n + 1) own)) ≡ false = ap are_distinct (names_next own n k h e) ∙ distinct_last (names_of (take n own)) k.alias.now ∙ rw (m.differ, known) refl in
    ap (λ (ks : List Known). are_distinct (names_of ks)) (sym (halves (n + 1) own))
    ∙ ap are_distinct (names_append (take (n + 1) own) (drop (n + 1) own))
    ∙ again_inside (names_of (take (n + 1) own)) (names_of (drop (n + 1) own)) front

pub met_more : (met then_ : Places) (own : List Known) (n : ℕ) (k : Known) → n < length own → k ≡ get_or own n k → AreMet met own n → is_some (number_of met k.alias.now) ≡ false
    → ((other : List ℕ) → number_of then_ other ≡ replaced (number_of met) k.alias.now (Some n) other) → AreMet then_ own (n + 1)
met_more met then_ own n k h e m fresh up = record {
  differ = ap are_distinct (names_next own n k h e) ∙ distinct_last (names_of (take n own)) k.alias.now ∙ rw (m.differ, sym (m.held k.alias.now) ∙ fresh) refl;
  held = λ name. ap is_some (up name) ∙ by name (bytes_eq k.alias.now name) refl ∙ sym (ap (list_any (bytes_eq name)) (names_next own n k h e));
}
  where
    or_true : (b : Bool) → true ≡ (b || true)
    or_true true = refl
    or_true false = refl

    or_false : (b : Bool) → b ≡ (b || false)
    or_false true = refl
    or_false false = refl

    by : (name : List ℕ) (v : Bool) → bytes_eq k.alias.now name ≡ v → is_some (replaced (number_of met) k.alias.now (Some n) name) ≡ list_any (bytes_eq name) (names_of (take n own) ++ k.alias.now ∷ [])
    by name true g = rw g (or_true (list_any (bytes_eq name) (names_of (take n own))) ∙ ap (λ (b : Bool). list_any (bytes_eq name) (names_of (take n own)) || b) (sym g ∙ same_either_way k.alias.now name) ∙ sym (any_last name (names_of (take n own)) k.alias.now))
    by name false g = rw g (m.held name ∙ or_false (list_any (bytes_eq name) (names_of (take n own))) ∙ ap (λ (b : Bool). list_any (bytes_eq name) (names_of (take n own)) || b) (sym g ∙ same_either_way k.alias.now name) ∙ sym (any_last name (names_of (take n own)) k.alias.now))

all_of : (own : List Known) (n : ℕ) → length own ≤ n → take n own ≡ own
all_of [] zero h = refl
all_of [] (suc n) h = refl
all_of (k ∷ own) zero h = absurd (omega (arith, h))
all_of (k ∷ own) (suc n) h = ap (λ (ks : List Known). k ∷ ks) (all_of own n (omega (arith, h)))

pub all_met : (met : Places) (own : List Known) (n : ℕ) → length own ≤ n → AreMet met own n → are_distinct (names_of own) ≡ true
all_met met own n h m = ap (λ (ks : List Known). are_distinct (names_of ks)) (sym (all_of own n h)) ∙ m.differ
