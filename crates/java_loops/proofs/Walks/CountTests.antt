-- What the condition of a loop that counts is, and what its body begins and ends with.
use Rattle.std.proofs.Common.{◌≡◌, ℕ, zero, suc, ◌≤◌, ◌<◌, pos, Bool, true, false, ◌&&◌, List, [], ◌∷◌, ◌++◌, take, length, Option, Some, None, Result, Ok, Err, refl, sym, ap, ◌∙◌, subst, cond, arith, nat_lt, ◌⊎◌, inl, inr}
use Rattle.std.specs.Prelude.{int_lt, slice_get}
use Rattle.std.specs.Ordering.{is_lt}
use Rattle.std.specs.declared.cmp.Ordering.TheVariants.{Less, Equal, Greater}
use Rattle.std.proofs.lemmas.Bool.Decides.{nat_tests}
use Rattle.qbs_base.specs.declared.span.Span.{Span}
use Rattle.qbs_base.specs.declared.scalar.Scalar.TheVariants as scalars
use Rattle.qbs_base.specs.declared.scalar.Row.{Row}
use Rattle.qbs_base.specs.declared.scalar.Value.{Value}
use Rattle.qbs_base.specs.declared.scalar.Value.TheVariants.{One, Many}
use Rattle.qbs_base.specs.Named.{at_name}
use Rattle.qbs_base.specs.Values.{fits_long}
use Rattle.java_ast.specs.declared.tree.Op.TheVariants as ops
use Rattle.java_ast.specs.Tree.{Expression, Var, Get, Binary}
use Rattle.java_mean.specs.declared.ending.Ending.{Ending}
use Rattle.java_mean.specs.declared.ending.Ending.TheVariants as endings
use Rattle.java_mean.specs.declared.ending.RunFault.TheVariants.{Overflow}
use Rattle.java_mean.specs.Endings.{◌>>=◌}
use Rattle.java_mean.specs.Expression.{value_of, as_scalar, as_bool, truth, number, settled, or_else, applied, less, element}
use Rattle.java_mean.specs.Statement.{test_of}
use Rattle.java_mean.specs.Store.{Store}
use Rattle.java_mean.specs.World.{World}
use Rattle.kernel_lang.specs.Given.{cut}
use Rattle.java_loops.specs.Walks.Counting.{below_size, below_count, Counts, by_size, size_first, count_first}

-- ---- Numbers

less_by : (b c : Bool) → is_lt (cond b Less (cond c Greater Equal)) ≡ b
less_by true c = refl
less_by false true = refl
less_by false false = refl

less_is : (m n : ℕ) → less (pos m) (pos n) ≡ nat_lt m n
less_is m n = less_by (int_lt (pos m) (pos n)) (int_lt (pos n) (pos m))

lt_yes : (m n : ℕ) → m < n → nat_lt m n ≡ true
lt_yes m n h = grind (arith, nat_tests)

lt_no : (m n : ℕ) → n ≤ m → nat_lt m n ≡ false
lt_no m n h = grind (arith, nat_tests)

-- how long a list is that is cut
take_at_most : (n : ℕ) (rows : List Row) → (length (take n rows) ≤ n) × (length (take n rows) ≤ length rows)
take_at_most zero rows = (omega arith, omega arith)
take_at_most (suc n) [] = (omega arith, omega arith)
take_at_most (suc n) (row ∷ rows) = let k = take_at_most n rows in (omega (arith, k.0), omega (arith, k.1))

take_ends : (n : ℕ) (rows : List Row) → (length (take n rows) ≡ n) ⊎ (length (take n rows) ≡ length rows)
take_ends zero rows = inl refl
take_ends (suc n) [] = inr refl
take_ends (suc n) (row ∷ rows) = longer (take_ends n rows)
  where
    longer : (length (take n rows) ≡ n) ⊎ (length (take n rows) ≡ length rows) → (suc (length (take n rows)) ≡ suc n) ⊎ (suc (length (take n rows)) ≡ suc (length rows))
    longer (inl e) = inl (ap suc e)
    longer (inr e) = inr (ap suc e)

-- ---- Truth values

-- a run of an expression gives this truth value, or a fault
abbrev IsTruth : Result Value Ending → Bool → Type 0
IsTruth (Ok v) b = v ≡ truth b
IsTruth (Err e) b = Unit {0}

abbrev pub Tested : Result Bool Ending → Bool → Type 0
Tested (Ok c) b = c ≡ b
Tested (Err e) b = Unit {0}

truth_tested : (o : Result Value Ending) (b : Bool) → IsTruth o b → Tested (o >>= as_scalar >>= as_bool) b
truth_tested (Ok v) b h = subst (λ u. Tested (Ok u >>= as_scalar >>= as_bool) b) (sym h) refl
truth_tested (Err e) b h = tt

-- both conjuncts
abbrev conjoined : Span → Result Value Ending → Result Value Ending → Result Value Ending
conjoined at o p = o >>= λ v. as_scalar v >>= λ x. or_else (settled ops.And x) (p >>= λ u. as_scalar u >>= λ y. applied ops.And at x y)

second_truth : (at : Span) (a b : Bool) (p : Result Value Ending) → IsTruth p b → IsTruth (or_else (settled ops.And (scalars.Bool a)) (p >>= λ u. as_scalar u >>= λ y. applied ops.And at (scalars.Bool a) y)) (a && b)
second_truth at true b (Ok v) h = subst (λ u. IsTruth (or_else (settled ops.And (scalars.Bool true)) (Ok u >>= λ u. as_scalar u >>= λ y. applied ops.And at (scalars.Bool true) y)) b) (sym h) refl
second_truth at true b (Err e) h = tt
second_truth at false b p h = refl

conjoined_truth : (at : Span) (a b : Bool) (o p : Result Value Ending) → IsTruth o a → IsTruth p b → IsTruth (conjoined at o p) (a && b)
conjoined_truth at a b (Ok v) p h k = subst (λ u. IsTruth (conjoined at (Ok u) p) (a && b)) (sym h) (second_truth at a b p k)
conjoined_truth at a b (Err e) p h k = tt

number_truth : (at at_size : Span) (k n : ℕ) (b : Bool) → IsTruth ((cond b (Ok (One (scalars.Long (pos n)))) (Err (endings.Faulted Overflow at_size))) >>= λ u. as_scalar u >>= λ y. applied ops.Lt at (scalars.Long (pos k)) y) (nat_lt k n)
number_truth at at_size k n true = ap truth (less_is k n)
number_truth at at_size k n false = tt

-- ---- The condition

-- where the counter and the list stand
pub record Standing (i xs : List ℕ) (k : ℕ) (rows : List Row) (b b' : Bool) (s : Store) : Type 0 where
  pub counter : at_name s i ≡ Some (record { value = One (scalars.Long (pos k)); is_set = b })
  pub list : at_name s xs ≡ Some (record { value = Many rows; is_set = b' })

size_truth : (at at_counter at_size : Span) (i xs : List ℕ) (w : World) (k : ℕ) (rows : List Row) (b b' : Bool) (s : Store) → Standing i xs k rows b b' s → IsTruth (value_of (below_size at at_counter at_size i xs) w s) (nat_lt k (length rows))
size_truth at at_counter at_size i xs w k rows b b' s h =
    let e : value_of (below_size at at_counter at_size i xs) w s ≡ (number at_size (pos (length rows)) >>= λ u. as_scalar u >>= λ y. applied ops.Lt at (scalars.Long (pos k)) y) = rw (h.counter, h.list) refl in
    subst (λ o. IsTruth o (nat_lt k (length rows))) (sym e) (number_truth at at_size k (length rows) (fits_long (pos (length rows))))

count_truth : (at at_counter at_count : Span) (i xs : List ℕ) (w : World) (k n : ℕ) (rows : List Row) (b b' : Bool) (s : Store) → Standing i xs k rows b b' s → IsTruth (value_of (below_count at at_counter at_count i n) w s) (nat_lt k n)
count_truth at at_counter at_count i xs w k n rows b b' s h =
    let e : value_of (below_count at at_counter at_count i n) w s ≡ Ok (truth (less (pos k) (pos n))) = rw h.counter refl in
    subst (λ o. IsTruth o (nat_lt k n)) (sym e) (ap truth (less_is k n))

-- while the counter is below what is walked, and after it
abbrev IsBelow : Option ℕ → List Row → ℕ → Bool → Type 0
IsBelow limit rows k true = k < length (cut limit rows)
IsBelow limit rows k false = length (cut limit rows) ≤ k

within_both : (n k : ℕ) (rows : List Row) (b : Bool) → IsBelow (Some n) rows k b → (nat_lt k (length rows) && nat_lt k n) ≡ b
within_both n k rows true h =
    let t = take_at_most n rows in
    ap (λ c. c && nat_lt k n) (lt_yes k (length rows) (omega (arith, h, t.1))) ∙ lt_yes k n (omega (arith, h, t.0))
within_both n k rows false h = ended (take_ends n rows)
  where
    first : (c d : Bool) → c ≡ false → (c && d) ≡ false
    first true d e = absurd cc
    first false d e = refl

    second : (c d : Bool) → d ≡ false → (c && d) ≡ false
    second true d e = e
    second false d e = refl

    ended : (length (take n rows) ≡ n) ⊎ (length (take n rows) ≡ length rows) → (nat_lt k (length rows) && nat_lt k n) ≡ false
    ended (inl e) = second (nat_lt k (length rows)) (nat_lt k n) (lt_no k n (omega (arith, h, e)))
    ended (inr e) = first (nat_lt k (length rows)) (nat_lt k n) (lt_no k (length rows) (omega (arith, h, e)))

and_turned : (a b : Bool) → (a && b) ≡ (b && a)
and_turned true true = refl
and_turned true false = refl
and_turned false true = refl
and_turned false false = refl

size_alone : (k : ℕ) (rows : List Row) (b : Bool) → IsBelow None rows k b → nat_lt k (length rows) ≡ b
size_alone k rows true h = lt_yes k (length rows) h
size_alone k rows false h = lt_no k (length rows) h

counted_truth : (i xs : List ℕ) (limit : Option ℕ) (c : Expression) → Counts i xs limit c → (w : World) (k : ℕ) (rows : List Row) (b b' : Bool) (s : Store) → Standing i xs k rows b b' s → (d : Bool) → IsBelow limit rows k d → IsTruth (value_of c w s) d
counted_truth i xs _ _ (by_size at at_counter at_size) w k rows b b' s h d below = subst (IsTruth (value_of (below_size at at_counter at_size i xs) w s)) (size_alone k rows d below) (size_truth at at_counter at_size i xs w k rows b b' s h)
counted_truth i xs _ _ (size_first at at_left at_counter at_size at_right at_again at_count n) w k rows b b' s h d below =
    let l : Expression = below_size at_left at_counter at_size i xs in
    let r : Expression = below_count at_right at_again at_count i n in
    subst (IsTruth (value_of (Binary at ops.And l r) w s)) (within_both n k rows d below) (conjoined_truth at (nat_lt k (length rows)) (nat_lt k n) (value_of l w s) (value_of r w s) (size_truth at_left at_counter at_size i xs w k rows b b' s h) (count_truth at_right at_again at_count i xs w k n rows b b' s h))
counted_truth i xs _ _ (count_first at at_left at_counter at_count at_right at_again at_size n) w k rows b b' s h d below =
    let l : Expression = below_count at_left at_counter at_count i n in
    let r : Expression = below_size at_right at_again at_size i xs in
    subst (IsTruth (value_of (Binary at ops.And l r) w s)) (and_turned (nat_lt k n) (nat_lt k (length rows)) ∙ within_both n k rows d below) (conjoined_truth at (nat_lt k n) (nat_lt k (length rows)) (value_of l w s) (value_of r w s) (count_truth at_left at_counter at_count i xs w k n rows b b' s h) (size_truth at_right at_again at_size i xs w k rows b b' s h))

-- the condition holds below, and not after
pub holds_below : (i xs : List ℕ) (limit : Option ℕ) (c : Expression) → Counts i xs limit c → (w : World) (k : ℕ) (rows : List Row) (b b' : Bool) (s : Store) → Standing i xs k rows b b' s → k < length (cut limit rows) → Tested (test_of c w s) true
holds_below i xs limit c q w k rows b b' s h below = truth_tested (value_of c w s) true (counted_truth i xs limit c q w k rows b b' s h true below)

pub ends_after : (i xs : List ℕ) (limit : Option ℕ) (c : Expression) → Counts i xs limit c → (w : World) (k : ℕ) (rows : List Row) (b b' : Bool) (s : Store) → Standing i xs k rows b b' s → length (cut limit rows) ≤ k → Tested (test_of c w s) false
ends_after i xs limit c q w k rows b b' s h past = truth_tested (value_of c w s) false (counted_truth i xs limit c q w k rows b b' s h false past)

-- ---- The row

get_middle : (zs ys : List Row) (y : Row) → slice_get (zs ++ y ∷ ys) (length zs) ≡ Some y
get_middle [] ys y = refl
get_middle (z ∷ zs) ys y = get_middle zs ys y

pub row_value : (at_get at_index : Span) (i xs : List ℕ) (w : World) (zs ys : List Row) (y : Row) (b b' : Bool) (s : Store) → Standing i xs (length zs) (zs ++ y ∷ ys) b b' s → value_of (Get at_get xs (Var at_index i)) w s ≡ Ok (element y)
row_value at_get at_index i xs w zs ys y b b' s h = simp (h.counter, h.list, get_middle zs ys y)
