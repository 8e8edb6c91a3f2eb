-- The value of a term in a world. It is total: where a term doesn't fit, the value has no meaning of
-- its own, but the laws of values hold of it too.
use Rattle.std.specs.Prelude.{if◌then◌else◌, ℕ, ◌+◌, ℤ, pos, ◌+ℤ◌, int_lt, Bool, true, false, ◌||◌, List, [], ◌∷◌, ◌++◌, map, take, length, slice_get, nat_eq, ◌&&◌}
use Rattle.std.specs.List.{filter, flat_map, list_any}
use Rattle.std.specs.declared.option.Option.{Option}
use Rattle.std.specs.declared.option.Option.TheVariants.{Some, None}
use Rattle.qbs_base.specs.declared.scalar.Kind.{Kind}
use Rattle.qbs_base.specs.declared.scalar.Kind.TheVariants as kinds
use Rattle.qbs_base.specs.declared.scalar.Row.{Row}
use Rattle.qbs_base.specs.declared.scalar.Scalar.{Scalar}
use Rattle.qbs_base.specs.declared.scalar.Scalar.TheVariants as scalars
use Rattle.qbs_base.specs.Scalar.{same_cells}
use Rattle.tor_terms.specs.declared.term.Atom.{Atom}
use Rattle.tor_terms.specs.declared.term.Elem.{Elem}
use Rattle.tor_terms.specs.declared.term.Elem.TheVariants as elems
use Rattle.tor_terms.specs.declared.term.Index.{Index}
use Rattle.tor_terms.specs.declared.term.Index.TheVariants as indexes
use Rattle.tor_terms.specs.declared.term.Way.{Way}
use Rattle.tor_terms.specs.declared.term.Way.TheVariants as ways
use Rattle.tor_terms.specs.Plain.{Tree, Nil, Walk, Top, One, Single, Cat, Join, Sel, Proj, Uniq, Insert, Hold, Lit, Item, Count, Sum, Any, Best, Pick, Add, Or}
use Rattle.tor_terms.specs.Truth.{Tuple, Datum, Tup, Element, World, rows_at, all_hold}

-- a row that stands for a scalar in a list, one without cells where there is no scalar
abbrev pub plain_row : Option Scalar → Row
plain_row (Some x) = record { kind = kinds.Plain; cells = x ∷ [] }
plain_row None = record { kind = kinds.Plain; cells = [] }

-- a scalar, as a list of one
abbrev pub only : Scalar → List Datum
only x = Element (plain_row (Some x)) ∷ []

abbrev pub only_number : ℤ → List Datum
only_number n = only (scalars.Long n)

abbrev pub only_truth : Bool → List Datum
only_truth b = only (scalars.Bool b)

-- the number, or the truth value, that a list is, where it is one
abbrev pub number_of_cells : Kind → List Scalar → Option ℤ
number_of_cells kinds.Plain (scalars.Long n ∷ []) = Some n
number_of_cells _ _ = None

abbrev pub number_in : List Datum → Option ℤ
number_in (Element r ∷ []) = number_of_cells r.kind r.cells
number_in _ = None

abbrev pub truth_of_cells : Kind → List Scalar → Option Bool
truth_of_cells kinds.Plain (scalars.Bool b ∷ []) = Some b
truth_of_cells _ _ = None

abbrev pub truth_in : List Datum → Option Bool
truth_in (Element r ∷ []) = truth_of_cells r.kind r.cells
truth_in _ = None

-- an element at rows
abbrev pub elem_at : (ℕ → Row) → Elem → Row
elem_at rows (elems.Whole j) = rows j
elem_at rows (elems.Field j c) = plain_row (slice_get (rows j).cells c)

-- the current rows of these loops
abbrev pub here : World → List ℕ → Tuple
here w loops = map (λ j. (j, w.current j)) loops

-- the list of a loop, as tuples
abbrev pub walked : ℕ → List Row → List Datum
walked j rows = map (λ r. Tup ((j, r) ∷ [])) rows

-- a tuple with the rows of another after its own
abbrev pub paired : Datum → Datum → Datum
paired (Tup t) (Tup u) = Tup (t ++ u)
paired x _ = x

abbrev pub joined : List Datum → List Datum → List Datum
joined xs ys = flat_map (λ x. map (paired x) ys) xs

abbrev pub count_of : World → Index → ℕ
count_of w indexes.Zero = 0
count_of w (indexes.At j) = w.turns j
count_of w (indexes.Next j) = w.turns j + 1
count_of w (indexes.Len j) = length (w.lists j)

abbrev pub same_kind : Kind → Kind → Bool
same_kind kinds.Plain kinds.Plain = true
same_kind (kinds.Table m) (kinds.Table n) = nat_eq m n
same_kind _ _ = false

abbrev pub same_row : Row → Row → Bool
same_row r s = same_kind r.kind s.kind && same_cells r.cells s.cells

-- whether two elements are the same
abbrev pub same_datum : Datum → Datum → Bool
same_datum (Element r) (Element s) = same_row r s
same_datum _ _ = false

-- the list with something last, where it isn't in the list
abbrev pub inserted : List Datum → Datum → List Datum
inserted xs x = if list_any (same_datum x) xs then xs else xs ++ x ∷ []

-- the first occurrences, after those that were seen
abbrev pub first_ones : List Datum → List Datum → List Datum
first_ones seen [] = seen
first_ones seen (x ∷ xs) = first_ones (inserted seen x) xs

-- The sum of two numbers. What isn't a number counts before any number.
abbrev pub added_numbers : List Datum → List Datum → Option ℤ → Option ℤ → List Datum
added_numbers xs ys (Some m) (Some n) = only_number (m +ℤ n)
added_numbers xs ys (Some m) None = ys
added_numbers xs ys None _ = xs

abbrev pub added : List Datum → List Datum → List Datum
added xs ys = added_numbers xs ys (number_in xs) (number_in ys)

-- the sum of all
abbrev pub total : List Datum → List Datum
total [] = only_number (pos 0)
total (x ∷ xs) = added (x ∷ []) (total xs)

-- The disjunction of two truth values. What isn't one counts before `false`, after `true`.
abbrev pub either_truth : List Datum → List Datum → Option Bool → Option Bool → List Datum
either_truth xs ys (Some a) (Some b) = only_truth (a || b)
either_truth xs ys (Some true) None = xs
either_truth xs ys (Some false) None = ys
either_truth xs ys None (Some true) = ys
either_truth xs ys None (Some false) = xs
either_truth xs ys None None = xs

abbrev pub either : List Datum → List Datum → List Datum
either xs ys = either_truth xs ys (truth_in xs) (truth_in ys)

abbrev pub better : Way → ℤ → ℤ → ℤ
better ways.Max m n = if int_lt m n then n else m
better ways.Min m n = if int_lt n m then n else m

-- the greater or lesser of two numbers, and the first where one isn't a number
abbrev pub picked_number : Way → List Datum → Option ℤ → Option ℤ → List Datum
picked_number way xs (Some m) (Some n) = only_number (better way m n)
picked_number way xs _ _ = xs

abbrev pub picked : Way → List Datum → List Datum → List Datum
picked way xs ys = picked_number way xs (number_in xs) (number_in ys)

-- the greatest or least of a number and all of a list
abbrev pub best : Way → List Datum → List Datum → List Datum
best way xs [] = xs
best way xs (y ∷ ys) = best way (picked way xs (y ∷ [])) ys

abbrev pub not_empty : List Datum → Bool
not_empty [] = false
not_empty (x ∷ xs) = true

abbrev pub value : World → List Atom → Tree → List Datum
value w atoms Nil = []
value w atoms (Walk j) = walked j (w.lists j)
value w atoms (Top index r) = take (count_of w index) (value w atoms r)
value w atoms (One loops) = Tup (here w loops) ∷ []
value w atoms (Single e) = Element (elem_at w.current e) ∷ []
value w atoms (Cat r s) = value w atoms r ++ value w atoms s
value w atoms (Join r s) = joined (value w atoms r) (value w atoms s)
value w atoms (Sel fs r) = filter (λ x. all_hold w atoms (rows_at w.current x) fs) (value w atoms r)
value w atoms (Proj e r) = map (λ x. Element (elem_at (rows_at w.current x) e)) (value w atoms r)
value w atoms (Uniq r) = first_ones [] (value w atoms r)
value w atoms (Insert r e) = inserted (value w atoms r) (Element (elem_at w.current e))
value w atoms (Hold n) = w.held n
value w atoms (Lit x) = only x
value w atoms (Item e) = Element (elem_at w.current e) ∷ []
value w atoms (Count r) = only_number (pos (length (value w atoms r)))
value w atoms (Sum r) = total (value w atoms r)
value w atoms (Any r) = only_truth (not_empty (value w atoms r))
value w atoms (Best way v r) = best way (value w atoms v) (value w atoms r)
value w atoms (Pick way v n) = picked way (value w atoms v) (value w atoms n)
value w atoms (Add a b) = added (value w atoms a) (value w atoms b)
value w atoms (Or a b) = either (value w atoms a) (value w atoms b)
