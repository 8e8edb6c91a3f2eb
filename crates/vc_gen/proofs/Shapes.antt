-- What values are lists of elements, numbers or truth values.
use Rattle.std.proofs.Common.{◌≡◌, ℤ, pos, ◌+ℤ◌, Bool, true, false, cond, ◌||◌, List, [], ◌∷◌, ◌++◌, map, is_some, refl, sym, ap, subst}
use Rattle.std.specs.List.{list_all, list_any, AllByRecursion}
use Rattle.std.specs.declared.option.Option.{Option}
use Rattle.std.specs.declared.option.Option.TheVariants.{Some, None}
use Rattle.qbs_base.specs.declared.scalar.Row.{Row}
use Rattle.qbs_base.specs.declared.scalar.Scalar.{Scalar}
use Rattle.qbs_base.specs.declared.scalar.Scalar.TheVariants as scalars
use Rattle.qbs_base.specs.declared.scalar.Ty.TheVariants as tys
use Rattle.tor_terms.specs.declared.term.Way.{Way}
use Rattle.tor_terms.specs.Fits.{is_number}
use Rattle.tor_terms.specs.Truth.{Datum, Tup, Element}
use Rattle.tor_terms.specs.Value.{plain_row, only_number, only_truth, number_in, inserted, same_datum, first_ones, added, added_numbers, total, either, better, picked, picked_number, best}
use Rattle.kernel_lang.specs.Fitting.{is_of}
use Rattle.tor_axioms.proofs.Decided.{and_left, and_right}
use Rattle.vc_gen.proofs.AllOf.{all_append}

abbrev pub IsElement : Datum → Type 0
IsElement (Tup t) = ⊥
IsElement (Element r) = Unit {0}

abbrev pub AllElements : List Datum → Type 0
AllElements xs = AllByRecursion IsElement xs

pub inserted_elements : (xs : List Datum) (x : Datum) → AllElements xs → IsElement x → AllElements (inserted xs x)
inserted_elements xs x h g = go (list_any (same_datum x) xs)
  where
    go : (b : Bool) → AllElements (cond b xs (xs ++ x ∷ []))
    go true = h
    go false = all_append IsElement xs (x ∷ []) h (g, tt)

pub first_elements : (seen xs : List Datum) → AllElements seen → AllElements xs → AllElements (first_ones seen xs)
first_elements seen [] h g = h
first_elements seen (x ∷ xs) h g = first_elements (inserted seen x) xs (inserted_elements seen x h g.0) g.1

pub rows_of_elements : (xs : List Datum) → AllElements xs → (rows : List Row) × (xs ≡ map Element rows)
rows_of_elements [] h = ([], refl)
rows_of_elements (Element r ∷ xs) h = let k = rows_of_elements xs h.1 in (r ∷ k.0, ap (λ ys. Element r ∷ ys) k.1)
rows_of_elements (Tup t ∷ xs) h = absurd h.0

pub all_elements : (rows : List Row) → AllElements (map Element rows)
all_elements [] = tt
all_elements (r ∷ rows) = (tt, all_elements rows)

abbrev pub IsNumeral : List Datum → Type 0
IsNumeral xs = (n : ℤ) × (xs ≡ only_number n)

pub added_number : (xs ys : List Datum) → IsNumeral xs → IsNumeral ys → IsNumeral (added xs ys)
added_number xs ys h g = (h.0 +ℤ g.0, subst (λ zs. added zs ys ≡ only_number (h.0 +ℤ g.0)) (sym h.1) (subst (λ zs. added (only_number h.0) zs ≡ only_number (h.0 +ℤ g.0)) (sym g.1) refl))

some_number : (o : Option ℤ) → is_some o ≡ true → (n : ℤ) × (o ≡ Some n)
some_number None h = absurd cc
some_number (Some n) h = (n, refl)

pub total_number : (xs : List Datum) → list_all is_number xs ≡ true → IsNumeral (total xs)
total_number [] h = (pos 0, refl)
total_number (x ∷ xs) h =
    let m = some_number (number_in (x ∷ [])) (and_left (is_number x) (list_all is_number xs) h) in
    let rest = total_number xs (and_right (is_number x) (list_all is_number xs) h) in
    (m.0 +ℤ rest.0, subst (λ o. added_numbers (x ∷ []) (total xs) o (number_in (total xs)) ≡ only_number (m.0 +ℤ rest.0)) (sym m.1) (subst (λ ys. added_numbers (x ∷ []) ys (Some m.0) (number_in ys) ≡ only_number (m.0 +ℤ rest.0)) (sym rest.1) refl))

pub picked_numeral : (way : Way) (xs ys : List Datum) → IsNumeral xs → IsNumeral ys → IsNumeral (picked way xs ys)
picked_numeral way xs ys h g = (better way h.0 g.0, subst (λ zs. picked way zs ys ≡ only_number (better way h.0 g.0)) (sym h.1) (subst (λ zs. picked way (only_number h.0) zs ≡ only_number (better way h.0 g.0)) (sym g.1) refl))

best_from : (way : Way) (n : ℤ) (xs : List Datum) → list_all is_number xs ≡ true → IsNumeral (best way (only_number n) xs)
best_from way n [] h = (n, refl)
best_from way n (x ∷ xs) h =
    let m = some_number (number_in (x ∷ [])) (and_left (is_number x) (list_all is_number xs) h) in
    subst (λ o. IsNumeral (best way (picked_number way (only_number n) (Some n) o) xs)) (sym m.1) (best_from way (better way n m.0) xs (and_right (is_number x) (list_all is_number xs) h))

pub best_number : (way : Way) (ys xs : List Datum) → IsNumeral ys → list_all is_number xs ≡ true → IsNumeral (best way ys xs)
best_number way ys xs h e = subst (λ zs. IsNumeral (best way zs xs)) (sym h.1) (best_from way h.0 xs e)

abbrev pub IsVerdict : List Datum → Type 0
IsVerdict xs = (b : Bool) × (xs ≡ only_truth b)

pub either_truth_of : (xs ys : List Datum) → IsVerdict xs → IsVerdict ys → IsVerdict (either xs ys)
either_truth_of xs ys h g = (h.0 || g.0, subst (λ zs. either zs ys ≡ only_truth (h.0 || g.0)) (sym h.1) (subst (λ zs. either (only_truth h.0) zs ≡ only_truth (h.0 || g.0)) (sym g.1) refl))

-- a number that is taken from a row
pub taken_number : (o : Option Scalar) → is_of tys.Long o ≡ true → IsNumeral (Element (plain_row o) ∷ [])
taken_number (Some (scalars.Long n)) h = (n, refl)
taken_number (Some (scalars.Bool b)) h = absurd cc
taken_number (Some (scalars.Text t)) h = absurd cc
taken_number None h = absurd cc

pub numeral_is_number : (x : Datum) → IsNumeral (x ∷ []) → is_number x ≡ true
numeral_is_number x h = ap (λ ys. is_some (number_in ys)) h.1
