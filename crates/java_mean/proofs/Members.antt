-- Members of lists and sets: what holds of them after each change.
use Rattle.std.proofs.Common.{◌≡◌, Bool, true, false, not, ◌&&◌, ◌||◌, List, [], ◌∷◌, ◌++◌, refl, ap, ◌∙◌, cond}
use Rattle.std.specs.List.{filter, list_any, AllByRecursion}
use Rattle.std.specs.Ordering.{is_eq, int_cmp, bool_cmp, nat_cmp, ordering_reverse}
use Rattle.std.specs.declared.cmp.Ordering.{Ordering}
use Rattle.std.specs.declared.cmp.Ordering.TheVariants.{Less, Equal, Greater}
use Rattle.std.specs.Cmp.{IsTotalOrder, int_cmp_total, bool_cmp_total}
use Rattle.std.specs.Cmp.Lexicographic.{slice_cmp, nat_list_cmp_total}
use Rattle.qbs_base.specs.declared.scalar.Scalar.{Scalar}
use Rattle.qbs_base.specs.declared.scalar.Scalar.TheVariants as scalars
use Rattle.qbs_base.specs.declared.scalar.Row.{Row}
use Rattle.qbs_base.specs.Scalar.{scalar_same, same_cells}
use Rattle.qbs_base.specs.Sort.{put_in, stable_sort}
use Rattle.sql_ast.specs.Grouped.{firsts}
use Rattle.java_mean.specs.Expression.{same_member, is_among}
use Rattle.java_mean.specs.Statement.{added}
use Rattle.java_mean.specs.Types.{AreDistinct}

-- ---- Equality goes both ways

eq_reversed : (o : Ordering) → is_eq (ordering_reverse o) ≡ is_eq o
eq_reversed Less = refl
eq_reversed Equal = refl
eq_reversed Greater = refl

same_back : {K : Type 0} (R : K → K → Ordering) → IsTotalOrder R → (x y : K) → is_eq (R x y) ≡ is_eq (R y x)
same_back R o x y = ap is_eq (o.antisymm x y) ∙ eq_reversed (R y x)

scalars_back : (x y : Scalar) → scalar_same x y ≡ scalar_same y x
scalars_back (scalars.Long x) (scalars.Long y) = same_back int_cmp int_cmp_total x y
scalars_back (scalars.Long x) (scalars.Bool y) = refl
scalars_back (scalars.Long x) (scalars.Text y) = refl
scalars_back (scalars.Bool x) (scalars.Long y) = refl
scalars_back (scalars.Bool x) (scalars.Bool y) = same_back bool_cmp bool_cmp_total x y
scalars_back (scalars.Bool x) (scalars.Text y) = refl
scalars_back (scalars.Text x) (scalars.Long y) = refl
scalars_back (scalars.Text x) (scalars.Bool y) = refl
scalars_back (scalars.Text x) (scalars.Text y) = same_back (slice_cmp nat_cmp) nat_list_cmp_total x y

pub cells_back : (xs ys : List Scalar) → same_cells xs ys ≡ same_cells ys xs
cells_back [] [] = refl
cells_back [] (y ∷ ys) = refl
cells_back (x ∷ xs) [] = refl
cells_back (x ∷ xs) (y ∷ ys) = ap (λ b. b && same_cells xs ys) (scalars_back x y) ∙ ap (λ b. scalar_same y x && b) (cells_back xs ys)

members_back : (a b : Row) → same_member a b ≡ same_member b a
members_back a b = cells_back a.cells b.cells

-- ---- A fact of each member

pub all_added : {X : Type 0} (P : X → Type 0) (xs : List X) (x : X) → AllByRecursion P xs → P x → AllByRecursion P (xs ++ x ∷ [])
all_added P [] x h k = (k, tt)
all_added P (y ∷ ys) x h k = (h.0, all_added P ys x h.1 k)

all_chosen : {X : Type 0} (P : X → Type 0) (b : Bool) (x : X) (xs : List X) → P x → AllByRecursion P xs → AllByRecursion P (cond b (x ∷ xs) xs)
all_chosen P true x xs h k = (h, k)
all_chosen P false x xs h k = k

pub all_filtered : {X : Type 0} (P : X → Type 0) (p : X → Bool) (xs : List X) → AllByRecursion P xs → AllByRecursion P (filter p xs)
all_filtered P p [] h = tt
all_filtered P p (x ∷ xs) h = all_chosen P (p x) x (filter p xs) h.0 (all_filtered P p xs h.1)

pub all_firsts : {X : Type 0} (P : X → Type 0) (same : X → X → Bool) (xs : List X) → AllByRecursion P xs → AllByRecursion P (firsts same xs)
all_firsts P same [] h = tt
all_firsts P same (x ∷ xs) h = (h.0, all_filtered P (λ y. not (same x y)) (firsts same xs) (all_firsts P same xs h.1))

all_put : {X : Type 0} (P : X → Type 0) (lt : X → X → Bool) (x : X) (xs : List X) → P x → AllByRecursion P xs → AllByRecursion P (put_in lt x xs)
all_put P lt x [] k h = (k, tt)
all_put P lt x (y ∷ ys) k h =
    elim (lt y x) as (λ b. AllByRecursion P (cond b (y ∷ put_in lt x ys) (x ∷ y ∷ ys))) [
      | true ↦ (h.0, all_put P lt x ys k h.1)
      | false ↦ (k, h)
    ]

pub all_sorted : {X : Type 0} (P : X → Type 0) (lt : X → X → Bool) (xs : List X) → AllByRecursion P xs → AllByRecursion P (stable_sort lt xs)
all_sorted P lt [] h = tt
all_sorted P lt (x ∷ xs) h = all_put P lt x (stable_sort lt xs) h.0 (all_sorted P lt xs h.1)

-- ---- No two equal members

any_false : (a b : Bool) → a ≡ false → b ≡ false → (a || b) ≡ false
any_false true b e h = absurd cc
any_false false b e h = h

left_false : (a b : Bool) → (a || b) ≡ false → a ≡ false
left_false true b e = absurd cc
left_false false b e = refl

right_false : (a b : Bool) → (a || b) ≡ false → b ≡ false
right_false true b e = absurd cc
right_false false b e = e

any_chosen : {X : Type 0} (t : X → Bool) (b : Bool) (x : X) (xs : List X) → t x ≡ false → list_any t xs ≡ false → list_any t (cond b (x ∷ xs) xs) ≡ false
any_chosen t true x xs e h = any_false (t x) (list_any t xs) e h
any_chosen t false x xs e h = h

any_filtered : {X : Type 0} (t p : X → Bool) (xs : List X) → list_any t xs ≡ false → list_any t (filter p xs) ≡ false
any_filtered t p [] e = refl
any_filtered t p (x ∷ xs) e = any_chosen t (p x) x (filter p xs) (left_false (t x) (list_any t xs) e) (any_filtered t p xs (right_false (t x) (list_any t xs) e))

none_kept : {X : Type 0} (t : X → Bool) (b : Bool) (x : X) (xs : List X) → t x ≡ b → list_any t xs ≡ false → list_any t (cond (not b) (x ∷ xs) xs) ≡ false
none_kept t true x xs e h = h
none_kept t false x xs e h = any_false (t x) (list_any t xs) e h

none_left : {X : Type 0} (t : X → Bool) (xs : List X) → list_any t (filter (λ y. not (t y)) xs) ≡ false
none_left t [] = refl
none_left t (x ∷ xs) = none_kept t (t x) x (filter (λ y. not (t y)) xs) refl (none_left t xs)

distinct_filtered : (p : Row → Bool) (rows : List Row) → AreDistinct rows → AreDistinct (filter p rows)
distinct_filtered p [] h = tt
distinct_filtered p (row ∷ rows) h =
    elim (p row) as (λ b. AreDistinct (cond b (row ∷ filter p rows) (filter p rows))) [
      | true ↦ (any_filtered (same_member row) p rows h.0, distinct_filtered p rows h.1)
      | false ↦ distinct_filtered p rows h.1
    ]

pub distinct_firsts : (rows : List Row) → AreDistinct (firsts same_member rows)
distinct_firsts [] = tt
distinct_firsts (row ∷ rows) = (none_left (same_member row) (firsts same_member rows), distinct_filtered (λ other. not (same_member row other)) (firsts same_member rows) (distinct_firsts rows))

any_more : (t : Row → Bool) (rows : List Row) (row : Row) → list_any t rows ≡ false → t row ≡ false → list_any t (rows ++ row ∷ []) ≡ false
any_more t [] row e h = any_false (t row) false h refl
any_more t (other ∷ rows) row e h = any_false (t other) (list_any t (rows ++ row ∷ [])) (left_false (t other) (list_any t rows) e) (any_more t rows row (right_false (t other) (list_any t rows) e) h)

distinct_more : (rows : List Row) (row : Row) → AreDistinct rows → is_among rows row ≡ false → AreDistinct (rows ++ row ∷ [])
distinct_more [] row h e = (refl, tt)
distinct_more (other ∷ rows) row h e =
    (any_more (same_member other) rows row h.0 (members_back other row ∙ left_false (same_member row other) (list_any (same_member row) rows) e), distinct_more rows row h.1 (right_false (same_member row other) (list_any (same_member row) rows) e))

-- what is added to a set
pub all_once : (P : Row → Type 0) (is_set : Bool) (rows : List Row) (row : Row) → AllByRecursion P rows → P row → AllByRecursion P (added is_set rows row)
all_once P is_set rows row h k = once (is_set && is_among rows row)
  where
    once : (b : Bool) → AllByRecursion P (cond b rows (rows ++ row ∷ []))
    once true = h
    once false = all_added P rows row h k

pub distinct_once : (rows : List Row) (row : Row) → AreDistinct rows → AreDistinct (added true rows row)
distinct_once rows row h = once (is_among rows row) refl
  where
    once : (b : Bool) → is_among rows row ≡ b → AreDistinct (cond b rows (rows ++ row ∷ []))
    once true e = h
    once false e = distinct_more rows row h e
