-- What is read is what databases of a schema and lists of one type have, within the limits of a store.
use Rattle.std.proofs.Common.{◌≡◌, ℕ, ◌≤◌, ◌<◌, ◌^◌, Bool, true, false, ◌&&◌, List, [], ◌∷◌, length, Option, Some, None, refl, arith}
use Rattle.std.specs.Prelude.{nat_le, IsTrue}
use Rattle.std.specs.List.{list_all, AllByRecursion}
use Rattle.std.proofs.lemmas.Bool.{leb-true, le-leb, and_parts, and_from}
use Rattle.qbs_base.specs.declared.columns.Column.{Column}
use Rattle.qbs_base.specs.declared.scalar.Row.{Row}
use Rattle.qbs_base.specs.declared.scalar.Scalar.{Scalar}
use Rattle.qbs_base.specs.declared.scalar.Scalar.TheVariants as scalars
use Rattle.qbs_base.specs.declared.scalar.Ty.{Ty}
use Rattle.qbs_base.specs.declared.scalar.Ty.TheVariants as tys
use Rattle.qbs_base.specs.Values.{HasTy, AreCells, IsRowOf}
use Rattle.tor_terms.specs.Truth.{same_variant}
use Rattle.text_readers.specs.Offsets.{Each}
use Rattle.scalar_readers.specs.Scalars.{ty_of, IsRead}
use Rattle.store_parts.specs.Limits.{are_few, is_written, are_written, are_small_rows, are_small_lists, are_of_one_type}
use Rattle.store_readers.specs.Readable.{AreFew, IsOfKind, AreReadCells, IsReadRow, AreReadRows, AreReadValues, AreAlike, IsReadList, AreReadLists}

few_is : {A : Type 0} (xs : List A) → AreFew xs → are_few xs ≡ true
few_is xs h = le-leb (length xs) 64 (omega (arith, h))

few_of : {A : Type 0} (xs : List A) → are_few xs ≡ true → AreFew xs
few_of xs h = omega (arith, leb-true (length xs) 64 h)

-- ---- scalars

typed : (ty : Ty) (x : Scalar) → IsRead ty x → HasTy ty x × (is_written x ≡ true)
typed tys.Long (scalars.Long n) h = (h, h)
typed tys.Bool (scalars.Bool b) h = (tt, refl)
typed tys.Text (scalars.Text t) h = (tt, h)
typed tys.Long (scalars.Bool b) h = absurd h
typed tys.Long (scalars.Text t) h = absurd h
typed tys.Bool (scalars.Long n) h = absurd h
typed tys.Bool (scalars.Text t) h = absurd h
typed tys.Text (scalars.Long n) h = absurd h
typed tys.Text (scalars.Bool b) h = absurd h

readable : (ty : Ty) (x : Scalar) → HasTy ty x → is_written x ≡ true → IsRead ty x
readable tys.Long (scalars.Long n) h w = h
readable tys.Bool (scalars.Bool b) h w = tt
readable tys.Text (scalars.Text t) h w = w
readable tys.Long (scalars.Bool b) h w = absurd h
readable tys.Long (scalars.Text t) h w = absurd h
readable tys.Bool (scalars.Long n) h w = absurd h
readable tys.Bool (scalars.Text t) h w = absurd h
readable tys.Text (scalars.Long n) h w = absurd h
readable tys.Text (scalars.Bool b) h w = absurd h

any_is : (x : Scalar) → IsOfKind None x → is_written x ≡ true
any_is x h = (typed (ty_of x) x h).1

any_of : (x : Scalar) → is_written x ≡ true → IsOfKind None x
any_of (scalars.Long n) w = w
any_of (scalars.Bool b) w = tt
any_of (scalars.Text t) w = w

alike_is : (x y : Scalar) → IsRead (ty_of x) y → (same_variant x y ≡ true) × (is_written y ≡ true)
alike_is (scalars.Long m) (scalars.Long n) h = (refl, h)
alike_is (scalars.Bool a) (scalars.Bool b) h = (refl, refl)
alike_is (scalars.Text s) (scalars.Text t) h = (refl, h)
alike_is (scalars.Long m) (scalars.Bool b) h = absurd h
alike_is (scalars.Long m) (scalars.Text t) h = absurd h
alike_is (scalars.Bool a) (scalars.Long n) h = absurd h
alike_is (scalars.Bool a) (scalars.Text t) h = absurd h
alike_is (scalars.Text s) (scalars.Long n) h = absurd h
alike_is (scalars.Text s) (scalars.Bool b) h = absurd h

alike_of : (x y : Scalar) → same_variant x y ≡ true → is_written y ≡ true → IsRead (ty_of x) y
alike_of (scalars.Long m) (scalars.Long n) s w = w
alike_of (scalars.Bool a) (scalars.Bool b) s w = tt
alike_of (scalars.Text a) (scalars.Text t) s w = w
alike_of (scalars.Long m) (scalars.Bool b) s w = absurd cc
alike_of (scalars.Long m) (scalars.Text t) s w = absurd cc
alike_of (scalars.Bool a) (scalars.Long n) s w = absurd cc
alike_of (scalars.Bool a) (scalars.Text t) s w = absurd cc
alike_of (scalars.Text a) (scalars.Long n) s w = absurd cc
alike_of (scalars.Text a) (scalars.Bool b) s w = absurd cc

-- ---- rows

cells_are : (cs : List Column) (xs : List Scalar) → AreReadCells cs xs → AreCells cs xs × (list_all is_written xs ≡ true)
cells_are [] [] h = (tt, refl)
cells_are [] (x ∷ xs) h = absurd h
cells_are (c ∷ cs) [] h = absurd h
cells_are (c ∷ cs) (x ∷ xs) h =
    let one = typed c.ty x h.0 in
    let others = cells_are cs xs h.1 in
    ((one.0, others.0), and_from (is_written x) (list_all is_written xs) one.1 others.1)

cells_of : (cs : List Column) (xs : List Scalar) → AreCells cs xs → list_all is_written xs ≡ true → AreReadCells cs xs
cells_of [] [] h w = tt
cells_of [] (x ∷ xs) h w = absurd h
cells_of (c ∷ cs) [] h w = absurd h
cells_of (c ∷ cs) (x ∷ xs) h w =
    let p = and_parts (is_written x) (list_all is_written xs) w in
    (readable c.ty x h.0 p.0, cells_of cs xs h.1 p.1)

abbrev cells_written : Row → Bool
cells_written r = list_all is_written r.cells

each_row_is : (number : ℕ) (cs : List Column) (rows : List Row) → Each (IsReadRow number cs) rows → AllByRecursion (IsRowOf number cs) rows × (list_all cells_written rows ≡ true)
each_row_is number cs [] h = (tt, refl)
each_row_is number cs (r ∷ rows) h =
    let one = cells_are cs r.cells h.0.1 in
    let others = each_row_is number cs rows h.1 in
    (((h.0.0, one.0), others.0), and_from (cells_written r) (list_all cells_written rows) one.1 others.1)

each_row_of : (number : ℕ) (cs : List Column) (rows : List Row) → AllByRecursion (IsRowOf number cs) rows → list_all cells_written rows ≡ true → Each (IsReadRow number cs) rows
each_row_of number cs [] h w = tt
each_row_of number cs (r ∷ rows) h w =
    let p = and_parts (cells_written r) (list_all cells_written rows) w in
    ((h.0.0, cells_of cs r.cells h.0.1 p.0), each_row_of number cs rows h.1 p.1)

pub rows_are : (number : ℕ) (cs : List Column) (rows : List Row) → AreReadRows number cs rows → (length rows < 2 ^ 63) × AllByRecursion (IsRowOf number cs) rows × (are_small_rows rows ≡ true)
rows_are number cs rows h =
    let each = each_row_is number cs rows h.1 in
    (omega (arith, h.0), each.0, and_from (are_few rows) (list_all cells_written rows) (few_is rows h.0) each.1)

pub rows_of : (number : ℕ) (cs : List Column) (rows : List Row) → AllByRecursion (IsRowOf number cs) rows → are_small_rows rows ≡ true → AreReadRows number cs rows
rows_of number cs rows h w =
    let p = and_parts (are_few rows) (list_all cells_written rows) w in
    (few_of rows p.0, each_row_of number cs rows h p.1)

-- ---- entry values and known lists

each_any : (xs : List Scalar) → Each (IsOfKind None) xs → list_all is_written xs ≡ true
each_any [] h = refl
each_any (x ∷ xs) h = and_from (is_written x) (list_all is_written xs) (any_is x h.0) (each_any xs h.1)

any_each : (xs : List Scalar) → list_all is_written xs ≡ true → Each (IsOfKind None) xs
any_each [] w = tt
any_each (x ∷ xs) w = let p = and_parts (is_written x) (list_all is_written xs) w in (any_of x p.0, any_each xs p.1)

pub values_are : (xs : List Scalar) → AreReadValues xs → are_written xs ≡ true
values_are xs h = and_from (are_few xs) (list_all is_written xs) (few_is xs h.0) (each_any xs h.1)

pub values_of : (xs : List Scalar) → are_written xs ≡ true → AreReadValues xs
values_of xs w = let p = and_parts (are_few xs) (list_all is_written xs) w in (few_of xs p.0, any_each xs p.1)

each_alike : (x : Scalar) (ys : List Scalar) → Each (IsRead (ty_of x)) ys → (list_all (same_variant x) ys ≡ true) × (list_all is_written ys ≡ true)
each_alike x [] h = (refl, refl)
each_alike x (y ∷ ys) h =
    let one = alike_is x y h.0 in
    let others = each_alike x ys h.1 in
    (and_from (same_variant x y) (list_all (same_variant x) ys) one.0 others.0, and_from (is_written y) (list_all is_written ys) one.1 others.1)

alike_each : (x : Scalar) (ys : List Scalar) → list_all (same_variant x) ys ≡ true → list_all is_written ys ≡ true → Each (IsRead (ty_of x)) ys
alike_each x [] s w = tt
alike_each x (y ∷ ys) s w =
    let p = and_parts (same_variant x y) (list_all (same_variant x) ys) s in
    let q = and_parts (is_written y) (list_all is_written ys) w in
    (alike_of x y p.0 q.0, alike_each x ys p.1 q.1)

all_alike : (xs : List Scalar) → AreAlike xs → (are_of_one_type xs ≡ true) × (list_all is_written xs ≡ true)
all_alike [] h = (refl, refl)
all_alike (x ∷ xs) h = let others = each_alike x xs h.1 in (others.0, and_from (is_written x) (list_all is_written xs) (any_is x h.0) others.1)

alike_all : (xs : List Scalar) → are_of_one_type xs ≡ true → list_all is_written xs ≡ true → AreAlike xs
alike_all [] s w = tt
alike_all (x ∷ xs) s w = let p = and_parts (is_written x) (list_all is_written xs) w in (any_of x p.0, alike_each x xs s p.1)

each_list : (known : List (List Scalar)) → Each IsReadList known → (list_all are_of_one_type known ≡ true) × (list_all are_written known ≡ true)
each_list [] h = (refl, refl)
each_list (xs ∷ known) h =
    let one = all_alike xs h.0.1 in
    let others = each_list known h.1 in
    (and_from (are_of_one_type xs) (list_all are_of_one_type known) one.0 others.0, and_from (are_written xs) (list_all are_written known) (and_from (are_few xs) (list_all is_written xs) (few_is xs h.0.0) one.1) others.1)

list_each : (known : List (List Scalar)) → list_all are_of_one_type known ≡ true → list_all are_written known ≡ true → Each IsReadList known
list_each [] s w = tt
list_each (xs ∷ known) s w =
    let p = and_parts (are_of_one_type xs) (list_all are_of_one_type known) s in
    let q = and_parts (are_written xs) (list_all are_written known) w in
    let r = and_parts (are_few xs) (list_all is_written xs) q.0 in
    ((few_of xs r.0, alike_all xs p.0 r.1), list_each known p.1 q.1)

pub known_are : (known : List (List Scalar)) → AreReadLists known → (list_all are_of_one_type known ≡ true) × (are_small_lists known ≡ true)
known_are known h = let each = each_list known h.1 in (each.0, and_from (are_few known) (list_all are_written known) (few_is known h.0) each.1)

pub known_of : (known : List (List Scalar)) → list_all are_of_one_type known ≡ true → are_small_lists known ≡ true → AreReadLists known
known_of known s w = let p = and_parts (are_few known) (list_all are_written known) w in (few_of known p.0, list_each known s p.1)
