-- Sums and choices of the greatest, in any order.
use Rattle.std.proofs.Common.{◌≡◌, ℤ, pos, ◌+ℤ◌, Bool, true, false, cond, List, [], ◌∷◌, map, refl, sym, ap, ◌∙◌, arith, int_lt}
use Rattle.std.specs.List.{AllByRecursion, filter}
use Rattle.std.specs.Int.{int_max, int_min}
use Rattle.std.proofs.lemmas.Int.{ints, clamps}
use Rattle.qbs_base.specs.declared.scalar.Scalar.TheVariants as scalars
use Rattle.qbs_base.proofs.Moves.{Moves, still, under, swaps, joins}
use Rattle.tor_terms.specs.declared.term.Way.{Way}
use Rattle.tor_terms.specs.declared.term.Way.TheVariants.{Max, Min}
use Rattle.tor_terms.specs.Truth.{Datum, Element}
use Rattle.tor_terms.specs.Value.{plain_row, only_number, added, total, better, best}
use Rattle.std.specs.declared.option.Option.TheVariants.{Some}
use Rattle.sql_ast.specs.Meaning.{sum_of, greatest_of, least_of, coalesced}

-- a number as an element
abbrev pub long : ℤ → Datum
long n = Element (plain_row (Some (scalars.Long n)))

-- ---- sums

pub total_is : (ns : List ℤ) → total (map long ns) ≡ only_number (sum_of ns)
total_is [] = refl
total_is (n ∷ ns) = ap (added (long n ∷ [])) (total_is ns)

other_order : (m n s : ℤ) → m +ℤ (n +ℤ s) ≡ n +ℤ (m +ℤ s)
other_order m n s = omega (arith, ints)

pub moves_sum : (xs ys : List ℤ) → Moves xs ys → sum_of xs ≡ sum_of ys
moves_sum xs ys (still zs) = refl
moves_sum xs ys (under x us vs m) = ap (λ s. x +ℤ s) (moves_sum us vs m)
moves_sum xs ys (swaps x y zs) = other_order x y (sum_of zs)
moves_sum xs ys (joins us vs ws m n) = moves_sum us vs m ∙ moves_sum vs ws n

pub coalesced_sum : (ns : List ℤ) → coalesced (λ n ns. sum_of (n ∷ ns)) (pos 0) ns ≡ sum_of ns
coalesced_sum [] = refl
coalesced_sum (n ∷ ns) = refl

pub nought_first : (n : ℤ) → pos 0 +ℤ n ≡ n
nought_first n = omega (arith, ints)

-- ---- the greatest or the least

abbrev pub best_of : Way → ℤ → List ℤ → ℤ
best_of way m [] = m
best_of way m (n ∷ ns) = best_of way (better way m n) ns

pub greatest_is : (m : ℤ) (ns : List ℤ) → greatest_of m ns ≡ best_of Max m ns
greatest_is m [] = refl
greatest_is m (n ∷ ns) = greatest_is (cond (int_lt m n) n m) ns

pub least_is : (m : ℤ) (ns : List ℤ) → least_of m ns ≡ best_of Min m ns
least_is m [] = refl
least_is m (n ∷ ns) = least_is (cond (int_lt n m) n m) ns

greater_twice : (m x y : ℤ) → int_max y (int_max x m) ≡ int_max x (int_max y m)
greater_twice m x y = omega (arith, ints, clamps)

lesser_twice : (m x y : ℤ) → int_min (int_min m x) y ≡ int_min (int_min m y) x
lesser_twice m x y = omega (arith, ints, clamps)

better_twice : (way : Way) (m x y : ℤ) → better way (better way m x) y ≡ better way (better way m y) x
better_twice Max m x y = greater_twice m x y
better_twice Min m x y = lesser_twice m x y

pub moves_best : (way : Way) (xs ys : List ℤ) → Moves xs ys → (m : ℤ) → best_of way m xs ≡ best_of way m ys
moves_best way xs ys (still zs) m = refl
moves_best way xs ys (under x us vs n) m = moves_best way us vs n (better way m x)
moves_best way xs ys (swaps x y zs) m = ap (λ k. best_of way k zs) (better_twice way m x y)
moves_best way xs ys (joins us vs ws n k) m = moves_best way us vs n m ∙ moves_best way vs ws k m

pub best_longs : (way : Way) (m : ℤ) (ns : List ℤ) → best way (only_number m) (map long ns) ≡ only_number (best_of way m ns)
best_longs way m [] = refl
best_longs way m (n ∷ ns) = best_longs way (better way m n) ns

-- n is better than m
abbrev pub beats : Way → ℤ → ℤ → Bool
beats Max m n = int_lt m n
beats Min m n = int_lt n m

better_is : (way : Way) (m n : ℤ) → beats way m n ≡ true → better way m n ≡ n
better_is Max m n e = ap (λ b. cond b n m) e
better_is Min m n e = ap (λ b. cond b n m) e

not_better : (way : Way) (m n : ℤ) → beats way m n ≡ false → better way m n ≡ m
not_better Max m n e = ap (λ b. cond b n m) e
not_better Min m n e = ap (λ b. cond b n m) e

lt_chain : (a b c : ℤ) → int_lt a b ≡ false → int_lt b c ≡ false → int_lt a c ≡ false
lt_chain a b c h k = go (int_lt a c) refl
  where
    go : (t : Bool) → int_lt a c ≡ t → int_lt a c ≡ false
    go false e = e
    go true e = absurd (omega (arith, ints, h, k, e))

-- what isn't better than a worse one isn't better
beats_chain : (way : Way) (c m n : ℤ) → beats way m c ≡ false → beats way c n ≡ false → beats way m n ≡ false
beats_chain Max c m n h k = lt_chain m c n h k
beats_chain Min c m n h k = lt_chain n c m k h

lt_max : (c m n : ℤ) → int_lt m c ≡ false → int_lt (cond (int_lt m n) n m) c ≡ false
lt_max c m n h = go (int_lt m n) refl
  where
    below : int_lt m n ≡ true → (t : Bool) → int_lt n c ≡ t → int_lt n c ≡ false
    below l false e = e
    below l true e = absurd (omega (arith, ints, h, l, e))

    go : (t : Bool) → int_lt m n ≡ t → int_lt (cond t n m) c ≡ false
    go false e = h
    go true e = below e (int_lt n c) refl

lt_min : (c m n : ℤ) → int_lt c m ≡ false → int_lt c (cond (int_lt n m) n m) ≡ false
lt_min c m n h = go (int_lt n m) refl
  where
    below : int_lt n m ≡ true → (t : Bool) → int_lt c n ≡ t → int_lt c n ≡ false
    below l false e = e
    below l true e = absurd (omega (arith, ints, h, l, e))

    go : (t : Bool) → int_lt n m ≡ t → int_lt c (cond t n m) ≡ false
    go false e = h
    go true e = below e (int_lt c n) refl

better_stays : (way : Way) (c m n : ℤ) → beats way m c ≡ false → beats way (better way m n) c ≡ false
better_stays Max c m n h = lt_max c m n h
better_stays Min c m n h = lt_min c m n h

-- what doesn't beat the start doesn't matter
best_of_better : (way : Way) (c m : ℤ) (ns : List ℤ) → beats way m c ≡ false → best_of way m ns ≡ best_of way m (filter (beats way c) ns)
best_of_better way c m [] h = refl
best_of_better way c m (n ∷ ns) h = go (beats way c n) refl (best_of_better way c (better way m n) ns (better_stays way c m n h)) (best_of_better way c m ns h)
  where
    go : (t : Bool) → beats way c n ≡ t → best_of way (better way m n) ns ≡ best_of way (better way m n) (filter (beats way c) ns) → best_of way m ns ≡ best_of way m (filter (beats way c) ns)
        → best_of way (better way m n) ns ≡ best_of way m (cond t (n ∷ filter (beats way c) ns) (filter (beats way c) ns))
    go true e r s = r
    go false e r s = ap (λ k. best_of way k ns) (not_better way m n (beats_chain way c m n h e)) ∙ s

not_itself : (n : ℤ) → int_lt n n ≡ false
not_itself n = go (int_lt n n) refl
  where
    go : (t : Bool) → int_lt n n ≡ t → int_lt n n ≡ false
    go false e = e
    go true e = absurd (omega (arith, ints, e))

start_stays : (way : Way) (c : ℤ) → beats way c c ≡ false
start_stays Max c = not_itself c
start_stays Min c = not_itself c

first_better : (way : Way) (c : ℤ) (ns : List ℤ) → AllByRecursion (λ n. beats way c n ≡ true) ns → coalesced (best_of way) c ns ≡ best_of way c ns
first_better way c [] h = refl
first_better way c (n ∷ ns) h = ap (λ k. best_of way k ns) (sym (better_is way c n h.0))

all_better : (way : Way) (c : ℤ) (ns : List ℤ) → AllByRecursion (λ n. beats way c n ≡ true) (filter (beats way c) ns)
all_better way c [] = tt
all_better way c (n ∷ ns) = go (beats way c n) refl (all_better way c ns)
  where
    go : (t : Bool) → beats way c n ≡ t → AllByRecursion (λ n. beats way c n ≡ true) (filter (beats way c) ns) → AllByRecursion (λ n. beats way c n ≡ true) (cond t (n ∷ filter (beats way c) ns) (filter (beats way c) ns))
    go true e r = (e, r)
    go false e r = r

moves_all : {X : Type 0} (P : X → Type 0) (xs ys : List X) → Moves xs ys → AllByRecursion P ys → AllByRecursion P xs
moves_all P xs ys (still zs) h = h
moves_all P xs ys (under x us vs m) h = (h.0, moves_all P us vs m h.1)
moves_all P xs ys (swaps x y zs) h = (h.1.0, (h.0, h.1.1))
moves_all P xs ys (joins us vs ws m n) h = moves_all P us vs m (moves_all P vs ws n h)

-- of those that are better than the start, in any order
pub moves_best_ones : (way : Way) (c : ℤ) (xs ns : List ℤ) → Moves xs (filter (beats way c) ns) → coalesced (best_of way) c xs ≡ best_of way c ns
moves_best_ones way c xs ns m =
    first_better way c xs (moves_all (λ n. beats way c n ≡ true) xs (filter (beats way c) ns) m (all_better way c ns)) ∙ moves_best way xs (filter (beats way c) ns) m c ∙ sym (best_of_better way c c ns (start_stays way c))
