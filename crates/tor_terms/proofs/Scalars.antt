-- What the tests of scalars say.
use Rattle.std.proofs.Common.{◌≡◌, ◌↔◌, ℕ, Bool, true, false, IsTrue, List, [], ◌∷◌, refl, sym, ap, ap₂, ◌∙◌, ◌<ℤ◌}
use Rattle.std.specs.Ordering.{MatchOrdering, nat_cmp, int_cmp, bool_cmp, is_lt, is_eq, ordering_then}
use Rattle.std.specs.Cmp.{IsStrictWeakOrder, bool_cmp_total}
use Rattle.std.specs.Cmp.Lexicographic.{nat_list_cmp_total, slice_cmp}
use Rattle.std.specs.declared.cmp.Ordering.{Ordering}
use Rattle.std.specs.declared.cmp.Ordering.TheVariants.{Less, Equal, Greater}
use Rattle.std.proofs.lemmas.Cmp.{ranked, int_ranked, int_cmp_total, tied_itself}
use Rattle.std.proofs.lemmas.List.MinMax.{ranks_by}
use Rattle.qbs_base.specs.declared.scalar.Scalar.{Scalar}
use Rattle.qbs_base.specs.declared.scalar.Scalar.TheVariants.{Long, Bool as Truth, Text}
use Rattle.qbs_base.specs.Scalar.{scalar_same}
use Rattle.tor_terms.specs.Truth.{less}

equal_ranked : (P Q R : Type 0) (o : Ordering) → is_eq o ≡ true → MatchOrdering o P Q R → Q
equal_ranked P Q R Less e m = absurd cc
equal_ranked P Q R Equal e m = m
equal_ranked P Q R Greater e m = absurd cc

same_truths : (x y : Bool) → is_eq (bool_cmp x y) ≡ true → x ≡ y
same_truths true true e = refl
same_truths false false e = refl
same_truths true false e = absurd cc
same_truths false true e = absurd cc

same_texts : (xs ys : List ℕ) → is_eq (slice_cmp nat_cmp xs ys) ≡ true → xs ≡ ys
same_texts [] [] e = refl
same_texts [] (y ∷ ys) e = absurd cc
same_texts (x ∷ xs) [] e = absurd cc
same_texts (x ∷ xs) (y ∷ ys) e = go (nat_cmp x y) refl e (same_texts xs ys)
  where
    go : (o : Ordering) → o ≡ nat_cmp x y → is_eq (ordering_then o (slice_cmp nat_cmp xs ys)) ≡ true → (is_eq (slice_cmp nat_cmp xs ys) ≡ true → xs ≡ ys) → x ∷ xs ≡ y ∷ ys
    go Less p f r = absurd cc
    go Equal p f r = ap₂ (λ z zs. z ∷ zs) (ranked x y Equal p) (r f)
    go Greater p f r = absurd cc

pub scalar_same-true : (x y : Scalar) → scalar_same x y ≡ true → x ≡ y
scalar_same-true (Long x) (Long y) e = ap Long (equal_ranked (x <ℤ y) (x ≡ y) (y <ℤ x) (int_cmp x y) e (int_ranked x y (int_cmp x y) refl))
scalar_same-true (Truth x) (Truth y) e = ap Truth (same_truths x y e)
scalar_same-true (Text x) (Text y) e = ap Text (same_texts x y e)
scalar_same-true (Long x) (Truth y) e = absurd cc
scalar_same-true (Long x) (Text y) e = absurd cc
scalar_same-true (Truth x) (Long y) e = absurd cc
scalar_same-true (Truth x) (Text y) e = absurd cc
scalar_same-true (Text x) (Long y) e = absurd cc
scalar_same-true (Text x) (Truth y) e = absurd cc

pub scalar_same-self : (x : Scalar) → scalar_same x x ≡ true
scalar_same-self (Long x) = ap is_eq (tied_itself int_cmp_total x)
scalar_same-self (Truth x) = ap is_eq (tied_itself bool_cmp_total x)
scalar_same-self (Text x) = ap is_eq (tied_itself nat_list_cmp_total x)

numbers : IsStrictWeakOrder (λ x y. is_lt (int_cmp x y))
numbers = ranks_by int_cmp_total (λ x. x)

texts : IsStrictWeakOrder (λ x y. is_lt (slice_cmp nat_cmp x y))
texts = ranks_by nat_list_cmp_total (λ x. x)

pub less-self : (x : Scalar) → less x x ≡ false
less-self (Long x) = ap is_lt (tied_itself int_cmp_total x)
less-self (Truth x) = refl
less-self (Text x) = ap is_lt (tied_itself nat_list_cmp_total x)

pub less-back : (x y : Scalar) → less x y ≡ true → less y x ≡ false
less-back (Long x) (Long y) e = numbers.one_way x y e
less-back (Text x) (Text y) e = texts.one_way x y e
less-back (Long x) (Truth y) e = absurd cc
less-back (Long x) (Text y) e = absurd cc
less-back (Truth x) y e = absurd cc
less-back (Text x) (Long y) e = absurd cc
less-back (Text x) (Truth y) e = absurd cc

pub scalar_same-is : (b : Bool) (x y : Scalar) → (IsTrue b ↔ (x ≡ y)) → b ≡ scalar_same x y
scalar_same-is true x y h = sym (ap (scalar_same x) (sym (h.0 refl)) ∙ scalar_same-self x)
scalar_same-is false x y h = go (scalar_same x y) refl
  where
    go : (s : Bool) → scalar_same x y ≡ s → false ≡ s
    go true e = h.1 (scalar_same-true x y e)
    go false e = refl
