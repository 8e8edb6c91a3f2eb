-- Lists that have the same members pass the same tests of all members, and the first occurrences of a list have its members.
use Rattle.std.proofs.Common.{◌≡◌, ℕ, zero, suc, Bool, true, false, not, ◌&&◌, ◌||◌, List, [], ◌∷◌, map, length, get_or, Option, Some, None, refl, sym, ap, ap₂, ◌∙◌, cond, ⊎_elim}
use Rattle.std.specs.List.{filter, list_any, list_all}
use Rattle.std.proofs.lemmas.Bool.{and_parts, or_left, or_right, or_cases}
use Rattle.qbs_base.specs.declared.scalar.Row.{Row}
use Rattle.qbs_base.specs.declared.scalar.Scalar.{Scalar}
use Rattle.qbs_base.specs.Scalar.{scalar_same}
use Rattle.sql_ast.specs.Grouped.{firsts}
use Rattle.java_mean.specs.Expression.{alone, same_member}
use Rattle.tor_terms.proofs.Scalars.{scalar_same-true, scalar_same-self}
use Rattle.tor_terms.specs.Truth.{same_variant, is_member}
use Rattle.kernel_lang.specs.Fitting.{of_variant_of_all}
use Rattle.java_loops.specs.Meant.Members.{AreMatched, HaveSameMembers}

-- ---- Tests of all members

same_truth : (a b : Bool) → (a ≡ true → b ≡ true) → (b ≡ true → a ≡ true) → a ≡ b
same_truth true b h i = sym (h refl)
same_truth false true h i = i refl
same_truth false false h i = refl

-- a member passes what all pass
member_passes : (test : Scalar → Bool) (xs : List Scalar) (x : Scalar) → list_all test xs ≡ true → list_any (scalar_same x) xs ≡ true → test x ≡ true
member_passes test [] x h k = absurd cc
member_passes test (y ∷ ys) x h k =
    let two = and_parts (test y) (list_all test ys) h in
    ⊎_elim (λ e. ap test (scalar_same-true x y e) ∙ two.0) (λ e. member_passes test ys x two.1 e) (or_cases (scalar_same x y) (list_any (scalar_same x) ys) k)

all_pass : (test : Scalar → Bool) (ys : List Scalar) → ((x : Scalar) → list_any (scalar_same x) ys ≡ true → test x ≡ true) → list_all test ys ≡ true
all_pass test [] h = refl
all_pass test (y ∷ ys) h = rw (h y (or_left (scalar_same y y) (list_any (scalar_same y) ys) (scalar_same-self y)), all_pass test ys (λ x k. h x (or_right (scalar_same x y) (list_any (scalar_same x) ys) k))) refl

all_further : (test : Scalar → Bool) (xs ys : List Scalar) → HaveSameMembers xs ys → list_all test xs ≡ true → list_all test ys ≡ true
all_further test xs ys h k = all_pass test ys (λ x e. member_passes test xs x k (h x ∙ e))

members_back : (xs ys : List Scalar) → HaveSameMembers xs ys → HaveSameMembers ys xs
members_back xs ys h = λ x. sym (h x)

all_alike : (test : Scalar → Bool) (xs ys : List Scalar) → HaveSameMembers xs ys → list_all test xs ≡ list_all test ys
all_alike test xs ys h = same_truth (list_all test xs) (list_all test ys) (all_further test xs ys h) (all_further test ys xs (members_back xs ys h))

-- a scalar is a member of both or of none
pub member_alike : (o : Option Scalar) (xs ys : List Scalar) → HaveSameMembers xs ys → is_member o xs ≡ is_member o ys
member_alike None xs ys h = refl
member_alike (Some x) xs ys h = ap₂ (λ a b. a && b) (h x) (all_alike (same_variant x) xs ys h)

pub variants_alike : (o : Option Scalar) (xs ys : List Scalar) → HaveSameMembers xs ys → of_variant_of_all o xs ≡ of_variant_of_all o ys
variants_alike None xs ys h = refl
variants_alike (Some x) xs ys h = all_alike (same_variant x) xs ys h

-- ---- Lists with numbers

pub list_alike : (xs ys : List (List Scalar)) → AreMatched HaveSameMembers xs ys → (q : ℕ) → HaveSameMembers (get_or xs q []) (get_or ys q [])
list_alike [] [] h q = λ x. refl
list_alike (x ∷ xs) (y ∷ ys) h zero = h.0
list_alike (x ∷ xs) (y ∷ ys) h (suc q) = list_alike xs ys h.1 q
list_alike [] (y ∷ ys) h q = absurd h
list_alike (x ∷ xs) [] h q = absurd h

pub count_alike : (xs ys : List (List Scalar)) → AreMatched HaveSameMembers xs ys → length xs ≡ length ys
count_alike [] [] h = refl
count_alike (x ∷ xs) (y ∷ ys) h = ap suc (count_alike xs ys h.1)
count_alike [] (y ∷ ys) h = absurd h
count_alike (x ∷ xs) [] h = absurd h

-- ---- First occurrences

module _ (test : Scalar → Bool) where
  -- the others of a scalar that fails
  any_other : (x : Scalar) (ys : List Scalar) → test x ≡ false → list_any test (filter (λ y. not (scalar_same x y)) ys) ≡ list_any test ys
  any_other x [] h = refl
  any_other x (y ∷ ys) h = by_same (scalar_same x y) refl (any_other x ys h)
    where
      by_same : (b : Bool) → scalar_same x y ≡ b → list_any test (filter (λ z. not (scalar_same x z)) ys) ≡ list_any test ys → list_any test (cond (not b) (y ∷ filter (λ z. not (scalar_same x z)) ys) (filter (λ z. not (scalar_same x z)) ys)) ≡ (test y || list_any test ys)
      by_same true e r = r ∙ sym (ap (λ b. b || list_any test ys) (ap test (sym (scalar_same-true x y e)) ∙ h))
      by_same false e r = ap (λ b. test y || b) r

  any_first : (xs : List Scalar) → list_any test (firsts scalar_same xs) ≡ list_any test xs
  any_first [] = refl
  any_first (x ∷ xs) = by_test (test x) refl (any_first xs)
    where
      by_test : (b : Bool) → test x ≡ b → list_any test (firsts scalar_same xs) ≡ list_any test xs → (test x || list_any test (filter (λ y. not (scalar_same x y)) (firsts scalar_same xs))) ≡ (test x || list_any test xs)
      by_test true e r = ap (λ b. b || list_any test (filter (λ y. not (scalar_same x y)) (firsts scalar_same xs))) e ∙ sym (ap (λ b. b || list_any test xs) e)
      by_test false e r = ap (λ b. test x || b) (any_other x (firsts scalar_same xs) e ∙ r)

-- The first occurrences of a list have its members.
pub firsts_members : (xs : List Scalar) → HaveSameMembers (firsts scalar_same xs) xs
firsts_members xs = λ x. any_first (scalar_same x) xs

-- ---- Sets

other_step : (x z : Scalar) (zs : List Scalar) (b : Bool) → cond (not (b && true)) (alone z ∷ map alone (filter (λ y. not (scalar_same x y)) zs)) (map alone (filter (λ y. not (scalar_same x y)) zs)) ≡ map alone (cond (not b) (z ∷ filter (λ y. not (scalar_same x y)) zs) (filter (λ y. not (scalar_same x y)) zs))
other_step x z zs true = refl
other_step x z zs false = refl

others_alone : (x : Scalar) (zs : List Scalar) → filter (λ row. not (same_member (alone x) row)) (map alone zs) ≡ map alone (filter (λ y. not (scalar_same x y)) zs)
others_alone x [] = refl
others_alone x (z ∷ zs) =
    ap (λ rows. cond (not (scalar_same x z && true)) (alone z ∷ rows) rows) (others_alone x zs) ∙ other_step x z zs (scalar_same x z)

firsts_alone : (xs : List Scalar) → firsts same_member (map alone xs) ≡ map alone (firsts scalar_same xs)
firsts_alone [] = refl
firsts_alone (x ∷ xs) =
    ap (λ rows. alone x ∷ filter (λ row. not (same_member (alone x) row)) rows) (firsts_alone xs)
    ∙ ap (λ rows. alone x ∷ rows) (others_alone x (firsts scalar_same xs))

pub alone_same : (xs ys : List Scalar) → map alone xs ≡ map alone ys → xs ≡ ys
alone_same [] [] e = refl
alone_same (x ∷ xs) (y ∷ ys) e =
    let both : alone x ∷ map alone xs ≡ alone y ∷ map alone ys = e in
    let first : alone x ≡ alone y = cc in
    let rest : map alone xs ≡ map alone ys = cc in
    let cells : x ∷ [] ≡ y ∷ [] = ap (λ (row : Row). row.cells) first in
    let same : x ≡ y = cc in
    ap₂ (λ z zs. z ∷ zs) same (alone_same xs ys rest)
alone_same [] (y ∷ ys) e = absurd cc
alone_same (x ∷ xs) [] e = absurd cc

-- What a set of a list's scalars holds has the members of the list.
pub set_members : (xs ys : List Scalar) → firsts same_member (map alone xs) ≡ map alone ys → HaveSameMembers ys xs
set_members xs ys h =
    let same : firsts scalar_same xs ≡ ys = alone_same (firsts scalar_same xs) ys (sym (firsts_alone xs) ∙ h) in
    λ x. ap (list_any (scalar_same x)) (sym same) ∙ firsts_members xs x
