-- What each update keeps, a run keeps, and what holds of all rows of a database holds of those of its lists.
use Rattle.std.proofs.Common.{◌≡◌, ℕ, zero, suc, Bool, true, false, cond, if◌then◌else◌, List, [], ◌∷◌, take, nat_eq, refl, ap, subst}
use Rattle.std.specs.List.{AllByRecursion}
use Rattle.std.specs.declared.option.Option.{Option}
use Rattle.std.specs.declared.option.Option.TheVariants.{Some, None}
use Rattle.qbs_base.specs.declared.scalar.Row.{Row}
use Rattle.qbs_base.specs.Sort.{put_in, stable_sort}
use Rattle.qbs_base.specs.Values.{Database}
use Rattle.tor_terms.specs.declared.term.Atom.{Atom}
use Rattle.tor_terms.specs.Truth.{Datum, World}
use Rattle.kernel_lang.specs.declared.parts.ListDef.{ListDef}
use Rattle.kernel_lang.specs.declared.parts.Update.{Update}
use Rattle.qbs_base.specs.Tables.{rows_of}
use Rattle.kernel_lang.specs.Given.{before, cut, list_at}
use Rattle.kernel_lang.specs.Running.{Layer, with_row, passes, checked, followed_by, each_row, run}

pub some_same : {X : Type 0} (x y : X) → Some x ≡ Some y → x ≡ y
some_same x y e = ap (λ o. elim o [ Some z ↦ z | None ↦ x ]) e

-- ---- rows of lists

all_put : {X : Type 0} (P : X → Type 0) (lt : X → X → Bool) (x : X) (xs : List X) → P x → AllByRecursion P xs → AllByRecursion P (put_in lt x xs)
all_put P lt x [] p h = (p, tt)
all_put P lt x (y ∷ ys) p h = go (lt y x) (all_put P lt x ys p h.1)
  where
    go : (b : Bool) → AllByRecursion P (put_in lt x ys) → AllByRecursion P (cond b (y ∷ put_in lt x ys) (x ∷ y ∷ ys))
    go true g = (h.0, g)
    go false g = (p, h)

pub all_sorted : {X : Type 0} (P : X → Type 0) (lt : X → X → Bool) (xs : List X) → AllByRecursion P xs → AllByRecursion P (stable_sort lt xs)
all_sorted P lt [] h = tt
all_sorted P lt (x ∷ xs) h = all_put P lt x (stable_sort lt xs) h.0 (all_sorted P lt xs h.1)

all_taken : {X : Type 0} (P : X → Type 0) (n : ℕ) (xs : List X) → AllByRecursion P xs → AllByRecursion P (take n xs)
all_taken P zero xs h = tt
all_taken P (suc n) [] h = tt
all_taken P (suc n) (x ∷ xs) h = (h.0, all_taken P n xs h.1)

pub all_cut : (P : Row → Type 0) (o : Option ℕ) (rows : List Row) → AllByRecursion P rows → AllByRecursion P (cut o rows)
all_cut P None rows h = h
all_cut P (Some n) rows h = all_taken P n rows h

pub all_listed : (P : Row → Type 0) (db : Database) → ((number : ℕ) → AllByRecursion P (rows_of db number)) → (o : Option ListDef) → AllByRecursion P (list_at db o)
all_listed P db h None = tt
all_listed P db h (Some d) = all_cut P d.limit (stable_sort (before d.keys) (rows_of db d.table)) (all_sorted P (before d.keys) (rows_of db d.table) (h d.table))

-- ---- runs

-- P is so of what an accumulator has, R of the rows
module _ (P : List Datum → Type 0) (R : Row → Type 0) where
  abbrev pub Keeps : (List Datum → Option (List Datum)) → Type 0
  Keeps f = (v x : List Datum) → P v → f v ≡ Some x → P x

  follow : (o : Option (List Datum)) (f : List Datum → Option (List Datum)) → ((v : List Datum) → o ≡ Some v → P v) → Keeps f → (x : List Datum) → followed_by o f ≡ Some x → P x
  follow None f first rest x e = absurd cc
  follow (Some v) f first rest x e = rest v x (first v refl) e

  rows_keep : (rs : List Row) (f : Row → List Datum → Option (List Datum)) → AllByRecursion R rs → ((r : Row) → R r → Keeps (f r)) → Keeps (each_row rs f)
  rows_keep [] f rows h = λ v x p e. subst P (some_same v x e) p
  rows_keep (r ∷ rs) f rows h = λ v x p e. follow (f r v) (each_row rs f) (λ y. h r rows.0 v y p) (rows_keep rs f rows.1 h) x e

  where_passed : (b : Bool) (f : List Datum → Option (List Datum)) → Keeps f → Keeps (λ v. if b then f v else Some v)
  where_passed true f h = h
  where_passed false f h = λ v x p e. subst P (some_same v x e) p

  placed_row : (rows : ℕ → Row) (j : ℕ) (r : Row) → ((k : ℕ) → R (rows k)) → R r → (k : ℕ) → R (with_row rows j r k)
  placed_row rows j r h g k = go (nat_eq j k)
    where
      go : (b : Bool) → R (if b then r else rows k)
      go true = g
      go false = h k

  pub run_keeps : (w : World) (atoms : List Atom) (u : Update) → ((j : ℕ) → AllByRecursion R (w.lists j)) → ((rows : ℕ → Row) → ((k : ℕ) → R (rows k)) → Keeps (checked u rows))
      → (ys : List Layer) (rows : ℕ → Row) → ((k : ℕ) → R (rows k)) → Keeps (run w atoms u ys rows)
  run_keeps w atoms u lists step [] rows h = step rows h
  run_keeps w atoms u lists step (y ∷ ys) rows h =
      rows_keep (w.lists y.over) (λ r x. if passes w atoms (with_row rows y.over r) y.guard then run w atoms u ys (with_row rows y.over r) x else Some x) (lists y.over) (λ r k.
      where_passed (passes w atoms (with_row rows y.over r) y.guard) (run w atoms u ys (with_row rows y.over r)) (run_keeps w atoms u lists step ys (with_row rows y.over r) (placed_row rows y.over r h k)))
