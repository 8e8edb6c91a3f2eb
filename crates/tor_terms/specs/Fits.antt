-- Which terms fit an environment, their sorts, and what a term that fits is evaluated to.
use Rattle.std.specs.Prelude.{if◌then◌else◌, ℕ, ℤ, Bool, true, false, not, ◌&&◌, ◌||◌, List, [], ◌∷◌, ◌++◌, map, length, slice_get, is_some, nat_eq, nat_lt}
use Rattle.std.specs.List.{flat_map, list_all}
use Rattle.std.specs.declared.option.Option.{Option}
use Rattle.std.specs.declared.option.Option.TheVariants.{Some, None}
use Rattle.qbs_base.specs.declared.scalar.Kind.TheVariants as kinds
use Rattle.qbs_base.specs.declared.scalar.Row.{Row}
use Rattle.qbs_base.specs.declared.scalar.Scalar.{Scalar}
use Rattle.qbs_base.specs.declared.scalar.Scalar.TheVariants as scalars
use Rattle.qbs_base.specs.declared.scalar.Value.{Value}
use Rattle.qbs_base.specs.declared.scalar.Value.TheVariants as values
use Rattle.qbs_base.specs.Values.{fits_long}
use Rattle.tor_terms.specs.declared.env.Env.{Env}
use Rattle.tor_terms.specs.declared.term.Atom.{Atom}
use Rattle.tor_terms.specs.declared.term.Elem.{Elem}
use Rattle.tor_terms.specs.declared.term.Elem.TheVariants as elems
use Rattle.tor_terms.specs.declared.term.Index.{Index}
use Rattle.tor_terms.specs.declared.term.Index.TheVariants as indexes
use Rattle.tor_terms.specs.Plain.{Form, Is, Both, Either, Tree, Nil, Walk, Top, One, Single, Cat, Join, Sel, Proj, Uniq, Insert, Hold, Lit, Item, Count, Sum, Any, Best, Pick, Add, Or}
use Rattle.tor_terms.specs.Truth.{Tuple, Datum, Tup, Element, World, rows_at, has_loop, form_within}
use Rattle.tor_terms.specs.Valid.{elem_loop}
use Rattle.tor_terms.specs.Value.{number_in, value}
use Rattle.tor_terms.specs.Worlds.{world_of}

-- The sort of a term: the empty list, which is a list of any sort, a list of tuples of these loops, a
-- list of elements, or a scalar.
pub data Sort : Type 0 where
  Empty : Sort
  Tuples : List ℕ → Sort
  Elements : Sort
  Number : Sort
  Truth : Sort
  Words : Sort

abbrev pub apart : List ℕ → List ℕ → Bool
apart a b = list_all (λ j. not (has_loop a j)) b

abbrev pub same_loops : List ℕ → List ℕ → Bool
same_loops [] [] = true
same_loops (j ∷ a) (k ∷ b) = nat_eq j k && same_loops a b
same_loops _ _ = false

abbrev pub distinct : List ℕ → Bool
distinct [] = true
distinct (j ∷ a) = not (has_loop a j) && distinct a

-- whether the atoms of a formula are there
abbrev pub form_there : List Atom → Form → Bool
form_there atoms (Is k s) = nat_lt k (length atoms)
form_there atoms (Both f g) = form_there atoms f && form_there atoms g
form_there atoms (Either f g) = form_there atoms f && form_there atoms g

-- whether the column of an element is in the row from which it is taken
abbrev pub has_column : (ℕ → Row) → Elem → Bool
has_column rows (elems.Whole j) = true
has_column rows (elems.Field j c) = is_some (slice_get (rows j).cells c)

-- whether a loop has a current row, in which the element's column is
abbrev pub elem_fits : Env → Elem → Bool
elem_fits env e = nat_lt (elem_loop e) (length env.cur) && has_column (world_of env).current e

abbrev pub index_fits : Env → Index → Bool
index_fits env indexes.Zero = true
index_fits env (indexes.At j) = nat_lt j (length env.at)
index_fits env (indexes.Next j) = nat_lt j (length env.at)
index_fits env (indexes.Len j) = nat_lt j (length env.lists)

abbrev pub is_whole : Elem → Bool
is_whole (elems.Whole j) = true
is_whole (elems.Field j c) = false

-- whether a whole row stands anywhere in a term
abbrev pub has_whole : Tree → Bool
has_whole (Top index r) = has_whole r
has_whole (Single e) = is_whole e
has_whole (Cat r s) = has_whole r || has_whole s
has_whole (Join r s) = has_whole r || has_whole s
has_whole (Sel fs r) = has_whole r
has_whole (Proj e r) = is_whole e || has_whole r
has_whole (Uniq r) = has_whole r
has_whole (Insert r e) = has_whole r || is_whole e
has_whole (Item e) = is_whole e
has_whole (Count r) = has_whole r
has_whole (Sum r) = has_whole r
has_whole (Any r) = has_whole r
has_whole (Best way v r) = has_whole v || has_whole r
has_whole (Pick way v n) = has_whole v || has_whole n
has_whole (Add a b) = has_whole a || has_whole b
has_whole (Or a b) = has_whole a || has_whole b
has_whole _ = false

abbrev pub is_number : Datum → Bool
is_number x = is_some (number_in (x ∷ []))

-- whether a list of elements is one of numbers
abbrev pub numbers_only : Tree → List Datum → Bool
numbers_only r xs = not (has_whole r) && list_all is_number xs

abbrev pub where_true : Bool → Sort → Option Sort
where_true true s = Some s
where_true false s = None

abbrev pub scalar_sort : Scalar → Sort
scalar_sort (scalars.Long n) = Number
scalar_sort (scalars.Bool b) = Truth
scalar_sort (scalars.Text t) = Words

abbrev pub held_sort : Option Value → Option Sort
held_sort (Some (values.One x)) = Some (scalar_sort x)
held_sort (Some (values.Whole r)) = None
held_sort (Some (values.Many rows)) = Some Elements
held_sort None = None

-- a field of a current row
abbrev pub item_sort : Env → Elem → Option Sort
item_sort env (elems.Whole j) = None
item_sort env (elems.Field j c) = elim (slice_get env.cur j) [ Some row ↦ elim (slice_get row.cells c) [ Some x ↦ Some (scalar_sort x) | None ↦ None ] | None ↦ None ]

abbrev pub top_sort : Bool → Option Sort → Option Sort
top_sort fits (Some Empty) = where_true fits Empty
top_sort fits (Some (Tuples a)) = where_true fits (Tuples a)
top_sort fits _ = None

abbrev pub cat_sort : Option Sort → Option Sort → Option Sort
cat_sort (Some Empty) (Some Empty) = Some Empty
cat_sort (Some Empty) (Some (Tuples b)) = Some (Tuples b)
cat_sort (Some Empty) (Some Elements) = Some Elements
cat_sort (Some (Tuples a)) (Some Empty) = Some (Tuples a)
cat_sort (Some (Tuples a)) (Some (Tuples b)) = where_true (same_loops a b) (Tuples a)
cat_sort (Some Elements) (Some Empty) = Some Elements
cat_sort (Some Elements) (Some Elements) = Some Elements
cat_sort _ _ = None

abbrev pub join_sort : Option Sort → Option Sort → Option Sort
join_sort (Some Empty) (Some Empty) = Some Empty
join_sort (Some Empty) (Some (Tuples b)) = Some Empty
join_sort (Some (Tuples a)) (Some Empty) = Some Empty
join_sort (Some (Tuples a)) (Some (Tuples b)) = where_true (apart a b) (Tuples (a ++ b))
join_sort _ _ = None

-- atoms that are there, and loops that are the list's
abbrev pub sel_sort : List Atom → List Form → Option Sort → Option Sort
sel_sort atoms fs (Some Empty) = where_true (list_all (form_there atoms) fs) Empty
sel_sort atoms fs (Some (Tuples a)) = where_true (list_all (form_within atoms a) fs) (Tuples a)
sel_sort atoms fs _ = None

abbrev pub proj_sort : Elem → Bool → Option Sort → Option Sort
proj_sort e there (Some Empty) = Some Elements
proj_sort e there (Some (Tuples a)) = where_true (has_loop a (elem_loop e) && there) Elements
proj_sort e there _ = None

-- a list of elements, where the other test holds
abbrev pub of_elements : Bool → Sort → Option Sort → Option Sort
of_elements fits s (Some Empty) = where_true fits s
of_elements fits s (Some Elements) = where_true fits s
of_elements fits s _ = None

abbrev pub count_sort : Option Sort → Option Sort
count_sort (Some Empty) = Some Number
count_sort (Some (Tuples (j ∷ []))) = Some Number
count_sort _ = None

abbrev pub any_sort : Option Sort → Option Sort
any_sort (Some Empty) = Some Truth
any_sort (Some (Tuples a)) = Some Truth
any_sort _ = None

abbrev pub after_number : Option Sort → Option Sort → Option Sort
after_number (Some Number) s = s
after_number _ s = None

abbrev pub both_numbers : Option Sort → Option Sort → Option Sort
both_numbers (Some Number) (Some Number) = Some Number
both_numbers _ _ = None

abbrev pub both_truths : Option Sort → Option Sort → Option Sort
both_truths (Some Truth) (Some Truth) = Some Truth
both_truths _ _ = None

-- the sort of a term that fits, and none where one doesn't
abbrev pub sort : Env → List Atom → Tree → Option Sort
sort env atoms Nil = Some Empty
sort env atoms (Walk j) = where_true (nat_lt j (length env.lists)) (Tuples (j ∷ []))
sort env atoms (Top index r) = top_sort (index_fits env index) (sort env atoms r)
sort env atoms (One loops) = where_true (distinct loops && list_all (λ j. nat_lt j (length env.cur)) loops) (Tuples loops)
sort env atoms (Single e) = where_true (elem_fits env e) Elements
sort env atoms (Cat r s) = cat_sort (sort env atoms r) (sort env atoms s)
sort env atoms (Join r s) = join_sort (sort env atoms r) (sort env atoms s)
sort env atoms (Sel fs r) = sel_sort atoms fs (sort env atoms r)
sort env atoms (Proj e r) = proj_sort e (list_all (λ x. has_column (rows_at (world_of env).current x) e) (value (world_of env) atoms r)) (sort env atoms r)
sort env atoms (Uniq r) = of_elements true Elements (sort env atoms r)
sort env atoms (Insert r e) = of_elements (elem_fits env e) Elements (sort env atoms r)
sort env atoms (Hold n) = held_sort (slice_get env.holds n)
sort env atoms (Lit x) = Some (scalar_sort x)
sort env atoms (Item e) = item_sort env e
sort env atoms (Count r) = count_sort (sort env atoms r)
sort env atoms (Sum r) = of_elements (numbers_only r (value (world_of env) atoms r)) Number (sort env atoms r)
sort env atoms (Any r) = any_sort (sort env atoms r)
sort env atoms (Best way v r) = after_number (sort env atoms v) (of_elements (numbers_only r (value (world_of env) atoms r)) Number (sort env atoms r))
sort env atoms (Pick way v n) = both_numbers (sort env atoms v) (sort env atoms n)
sort env atoms (Add a b) = both_numbers (sort env atoms a) (sort env atoms b)
sort env atoms (Or a b) = both_truths (sort env atoms a) (sort env atoms b)

abbrev pub number_fits : Option ℤ → Bool
number_fits None = true
number_fits (Some n) = fits_long n

abbrev pub in_long : World → List Atom → Tree → Bool
in_long w atoms t = number_fits (number_in (value w atoms t))

-- Whether each part that counts or adds is a number of 64 bits. All other numbers are taken from
-- those, from literals, or from the environment.
abbrev pub sums_fit : World → List Atom → Tree → Bool
sums_fit w atoms (Top index r) = sums_fit w atoms r
sums_fit w atoms (Cat r s) = sums_fit w atoms r && sums_fit w atoms s
sums_fit w atoms (Join r s) = sums_fit w atoms r && sums_fit w atoms s
sums_fit w atoms (Sel fs r) = sums_fit w atoms r
sums_fit w atoms (Proj e r) = sums_fit w atoms r
sums_fit w atoms (Uniq r) = sums_fit w atoms r
sums_fit w atoms (Insert r e) = sums_fit w atoms r
sums_fit w atoms (Count r) = sums_fit w atoms r && in_long w atoms (Count r)
sums_fit w atoms (Sum r) = sums_fit w atoms r && in_long w atoms (Sum r)
sums_fit w atoms (Any r) = sums_fit w atoms r
sums_fit w atoms (Best way v r) = sums_fit w atoms v && sums_fit w atoms r
sums_fit w atoms (Pick way v n) = sums_fit w atoms v && sums_fit w atoms n
sums_fit w atoms (Add a b) = sums_fit w atoms a && sums_fit w atoms b && in_long w atoms (Add a b)
sums_fit w atoms (Or a b) = sums_fit w atoms a && sums_fit w atoms b
sums_fit w atoms _ = true

-- the row of a datum: of a tuple of one loop that loop's, of another tuple the cells of all its rows
abbrev pub tuple_row : Tuple → Row
tuple_row (own ∷ []) = own.1
tuple_row t = record { kind = kinds.Plain; cells = flat_map (λ own. own.1.cells) t }

abbrev pub row_of : Datum → Row
row_of (Tup t) = tuple_row t
row_of (Element r) = r

-- the value of the source language that a list is: the only cell of a scalar
abbrev pub first_cell : List Datum → Option Value
first_cell (Element r ∷ []) = elim r.cells as (λ _. Option Value) [ [] ↦ None | x ∷ xs ↦ Some (values.One x) ]
first_cell _ = None

abbrev pub seen_as : Option Sort → List Datum → Option Value
seen_as (Some Empty) xs = Some (values.Many [])
seen_as (Some (Tuples a)) xs = Some (values.Many (map row_of xs))
seen_as (Some Elements) xs = Some (values.Many (map row_of xs))
seen_as (Some Number) xs = first_cell xs
seen_as (Some Truth) xs = first_cell xs
seen_as (Some Words) xs = first_cell xs
seen_as None xs = None

-- What a term is evaluated to: its value where it fits and all its numbers have 64 bits, and else none.
abbrev pub eval_of : Env → List Atom → Tree → Option Value
eval_of env atoms t = if sums_fit (world_of env) atoms t then seen_as (sort env atoms t) (value (world_of env) atoms t) else None
