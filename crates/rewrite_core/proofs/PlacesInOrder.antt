-- The loops of a program whose statements begin one behind the other do so too, in text order, and so do those that are left where others vanish.
use Rattle.std.proofs.Common.{◌≡◌, ℕ, zero, suc, ◌≤◌, ◌<◌, false, List, [], ◌∷◌, ◌++◌, drop, slice_get, Some, None, refl, sym, ◌∙◌, subst, arith}
use Rattle.std.specs.List.{AllByRecursion}
use Rattle.qbs_base.specs.declared.span.Span.{Span}
use Rattle.java_ast.specs.Path.{branch_of}
use Rattle.java_ast.specs.Tree as tree
use Rattle.java_ast.specs.Tree.{Statement, Statements, PlainMethod}
use Rattle.java_stretches.specs.Fit.{FitStatement, alone, if_alone, if_else, for_each, while, FitBlock, nothing, followed, FitMethods}
use Rattle.rewrite_core.proofs.LoopPlaces.{places_in, places_among, places_of_methods, LeftOut}

-- ---- Lists of places

-- they begin one behind the other, from the byte lo on
abbrev pub Ascend : ℕ → List Span → Type 0
Ascend lo [] = Unit {0}
Ascend lo (x ∷ xs) = (lo ≤ x.start) × Ascend x.start xs

-- and up to hi
abbrev AscendTo : ℕ → ℕ → List Span → Type 0
AscendTo lo hi [] = lo ≤ hi
AscendTo lo hi (x ∷ xs) = (lo ≤ x.start) × AscendTo x.start hi xs

further : (lo hi q : ℕ) (xs : List Span) → AscendTo lo hi xs → hi ≤ q → AscendTo lo q xs
further lo hi q [] h less = omega (arith, h, less)
further lo hi q (x ∷ xs) h less = (h.0, further x.start hi q xs h.1 less)

earlier_from : (q lo hi : ℕ) (xs : List Span) → q ≤ lo → AscendTo lo hi xs → AscendTo q hi xs
earlier_from q lo hi [] less h = omega (arith, h, less)
earlier_from q lo hi (x ∷ xs) less h = (omega (arith, less, h.0), h.1)

from_before : (q lo : ℕ) (xs : List Span) → q ≤ lo → Ascend lo xs → Ascend q xs
from_before q lo [] less h = tt
from_before q lo (x ∷ xs) less h = (omega (arith, less, h.0), h.1)

both_ascend : (lo m hi : ℕ) (xs ys : List Span) → AscendTo lo m xs → AscendTo m hi ys → AscendTo lo hi (xs ++ ys)
both_ascend lo m hi [] ys h k = earlier_from lo m hi ys h k
both_ascend lo m hi (x ∷ xs) ys h k = (h.0, both_ascend x.start m hi xs ys h.1 k)

then_ascend : (lo m : ℕ) (xs ys : List Span) → AscendTo lo m xs → Ascend m ys → Ascend lo (xs ++ ys)
then_ascend lo m [] ys h k = from_before lo m ys h k
then_ascend lo m (x ∷ xs) ys h k = (h.0, then_ascend x.start m xs ys h.1 k)

-- ---- Of statements

pub no_loops : (s : Statement) → ((b : ℕ) → branch_of b s ≡ None) → places_in s ≡ []
no_loops (tree.Declare at ty x e) none = refl
no_loops (tree.Assign at x e) none = refl
no_loops (tree.Add at x e) none = refl
no_loops (tree.Sort at x keys downs) none = refl
no_loops (tree.If at c a) none = let f : Some a ≡ None = none 0 in absurd cc
no_loops (tree.IfElse at c a b) none = let f : Some a ≡ None = none 0 in absurd cc
no_loops (tree.ForEach at ty x e b) none = let f : Some b ≡ None = none 0 in absurd cc
no_loops (tree.While at c b) none = let f : Some b ≡ None = none 0 in absurd cc
no_loops (tree.Print at e) none = refl
no_loops (tree.Return at e) none = refl
no_loops (tree.Break at) none = refl

mutual
  statement_places : {lo hi : ℕ} {t s : Statement} → FitStatement lo hi t s → AscendTo lo hi (places_in s)
  statement_places {lo} {hi} (alone {s} from to n m e) = subst (AscendTo lo hi) (sym (no_loops s m)) (omega (arith, from, to))
  statement_places (if_alone from h) = block_places h
  statement_places {lo} {hi} (if_else {m} {x} {y} {v} {w} from h k) = both_ascend lo m hi (places_among y) (places_among w) (block_places h) (block_places k)
  statement_places {lo} {hi} (for_each {at} {y} from grows to h) = (from, further at.start at.end hi (places_among y) (block_places h) to)
  statement_places {lo} {hi} (while {at} {y} from grows to h) = (from, further at.start at.end hi (places_among y) (block_places h) to)

  block_places : {lo hi : ℕ} {behind : _} {ts ss : Statements} → FitBlock lo hi behind ts ss → AscendTo lo hi (places_among ss)
  block_places (nothing h) = h
  block_places {lo} {hi} (followed {m} {s} {ss} p h k) = both_ascend lo m hi (places_in s) (places_among ss) (statement_places h) (block_places k)

-- the loops of methods begin one behind the other
pub methods_ascend : (lo : ℕ) (ks ms : List PlainMethod) → FitMethods lo ks ms → Ascend lo (places_of_methods ms)
methods_ascend lo [] [] h = tt
methods_ascend lo [] (m ∷ ms) h = absurd h
methods_ascend lo (k ∷ ks) [] h = absurd h
methods_ascend lo (k ∷ ks) (m ∷ ms) h = then_ascend lo h.0 (places_among m.body) (places_of_methods ms) (block_places h.1) (methods_ascend h.0 ks ms h.2)

-- ---- From a number on

abbrev pub AllFrom : ℕ → List Span → Type 0
AllFrom lo xs = AllByRecursion (λ (x : Span). lo ≤ x.start) xs

all_from : (lo q : ℕ) (xs : List Span) → q ≤ lo → Ascend lo xs → AllFrom q xs
all_from lo q [] less h = tt
all_from lo q (x ∷ xs) less h = (omega (arith, less, h.0), all_from x.start q xs (omega (arith, less, h.0)) h.1)

-- those from one on begin no earlier
pub from_one : (lo n : ℕ) (xs : List Span) (x : Span) → Ascend lo xs → slice_get xs n ≡ Some x → AllFrom x.start (drop n xs)
from_one lo n [] x h e = absurd cc
from_one lo zero (y ∷ xs) x h e =
    let is : y ≡ x = cc in
    subst (λ (z : Span). AllFrom z.start (y ∷ xs)) is (omega arith, all_from y.start y.start xs (omega arith) h.1)
from_one lo (suc n) (y ∷ xs) x h e = from_one y.start n xs x h.1 e

pub one_from : (lo n : ℕ) (xs : List Span) (x : Span) → AllFrom lo (drop n xs) → slice_get xs n ≡ Some x → lo ≤ x.start
one_from lo n [] x h e = absurd cc
one_from lo zero (y ∷ xs) x h e = let is : y ≡ x = cc in subst (λ (z : Span). lo ≤ z.start) is h.0
one_from lo (suc n) (y ∷ xs) x h e = one_from lo n xs x h e

pub one_less : (lo n : ℕ) (xs : List Span) → AllFrom lo (drop n xs) → AllFrom lo (drop (suc n) xs)
one_less lo n [] h = tt
one_less lo zero (x ∷ xs) h = h.1
one_less lo (suc n) (x ∷ xs) h = one_less lo n xs h

without_front : (lo n : ℕ) (left back : List Span) → AllFrom lo (drop n (left ++ back)) → AllFrom lo (drop n back)
without_front lo n [] back h = h
without_front lo zero (l ∷ left) back h = without_front lo zero left back h.1
without_front lo (suc n) (l ∷ left) back h = without_front lo (suc n) left back (one_less lo n (left ++ back) h)

without : (lo n : ℕ) (front left back : List Span) → AllFrom lo (drop n (front ++ (left ++ back))) → AllFrom lo (drop n (front ++ back))
without lo n [] left back h = without_front lo n left back h
without lo zero (f ∷ front) left back h = (h.0, without lo zero front left back h.1)
without lo (suc n) (f ∷ front) left back h = without lo n front left back h

-- and so do those of them that are left
pub still_from : (lo n : ℕ) (new old : List Span) → LeftOut new old → AllFrom lo (drop n old) → AllFrom lo (drop n new)
still_from lo n new old o h = subst (λ xs. AllFrom lo (drop n xs)) (sym o.is) (without lo n o.front o.left o.back (subst (λ xs. AllFrom lo (drop n xs)) o.was h))
