-- Fragments on databases of a schema end with numbers of 64 bits.
use Rattle.std.proofs.Common.{◌≡◌, ℕ, zero, suc, ℤ, ◌+ℤ◌, pos, int_lt, Bool, true, false, if◌then◌else◌, List, [], ◌∷◌, ◌++◌, map, slice_get, refl, subst}
use Rattle.std.specs.List.{AllByRecursion, list_any}
use Rattle.std.specs.Option.{option_map}
use Rattle.std.specs.declared.option.Option.{Option}
use Rattle.std.specs.declared.option.Option.TheVariants.{Some, None}
use Rattle.qbs_base.specs.declared.columns.Column.{Column}
use Rattle.qbs_base.specs.declared.scalar.Kind.{Kind}
use Rattle.qbs_base.specs.declared.scalar.Kind.TheVariants as kinds
use Rattle.qbs_base.specs.declared.scalar.Row.{Row}
use Rattle.qbs_base.specs.declared.scalar.Scalar.{Scalar}
use Rattle.qbs_base.specs.declared.scalar.Scalar.TheVariants.{Long, Bool as Truth, Text}
use Rattle.qbs_base.specs.declared.scalar.Ty.{Ty}
use Rattle.qbs_base.specs.declared.scalar.Ty.TheVariants as tys
use Rattle.qbs_base.specs.declared.scalar.Value.{Value}
use Rattle.qbs_base.specs.Values.{Schema, Database, HasTy, AreCells, IsRowOf, AreTables, IsDatabaseOf, fits_long}
use Rattle.tor_terms.specs.declared.term.Elem.{Elem}
use Rattle.tor_terms.specs.declared.term.Elem.TheVariants as elems
use Rattle.tor_terms.specs.declared.term.Way.{Way}
use Rattle.tor_terms.specs.declared.term.Way.TheVariants as ways
use Rattle.tor_terms.specs.Fits.{number_fits, row_of}
use Rattle.tor_terms.specs.Truth.{Datum, Element, World}
use Rattle.tor_terms.specs.Value.{plain_row, only_number, number_of_cells, number_in, elem_at, same_datum, inserted, added_numbers, better, picked_number}
use Rattle.kernel_lang.specs.declared.parts.Entry.{Entry}
use Rattle.kernel_lang.specs.declared.parts.Update.{Update}
use Rattle.kernel_lang.specs.declared.parts.Update.TheVariants.{Push, PushNew, Tick, Plus, Best, Mark}
use Rattle.kernel_lang.specs.Ends.{ScalarFits, RowFits, ValueFits, StartFits, StartsFit}
use Rattle.qbs_base.specs.Tables.{rows_of}
use Rattle.kernel_lang.specs.Given.{world_given}
use Rattle.kernel_lang.specs.Plain.{Accumulator, Fragment}
use Rattle.kernel_lang.specs.Running.{started, checked, within_long, layers_of, with_flags, accumulated, scalar_in, scalar_of, source_scalar, source_value, ends_as, and_then, ends, all_end, fragment_end}
use Rattle.kernel_lang.proofs.Runs.{some_same, all_listed, run_keeps}

-- ---- rows of a database

typed_fits : (ty : Ty) (x : Scalar) → HasTy ty x → ScalarFits x
typed_fits tys.Long (Long n) h = h
typed_fits tys.Bool (Long n) h = absurd h
typed_fits tys.Text (Long n) h = absurd h
typed_fits ty (Truth b) h = tt
typed_fits ty (Text t) h = tt

cells_fit : (columns : List Column) (cells : List Scalar) → AreCells columns cells → AllByRecursion ScalarFits cells
cells_fit [] [] h = tt
cells_fit [] (x ∷ xs) h = absurd h
cells_fit (column ∷ columns) [] h = absurd h
cells_fit (column ∷ columns) (x ∷ xs) h = (typed_fits column.ty x h.0, cells_fit columns xs h.1)

rows_fit : (number : ℕ) (columns : List Column) (rows : List Row) → AllByRecursion (IsRowOf number columns) rows → AllByRecursion RowFits rows
rows_fit number columns [] h = tt
rows_fit number columns (r ∷ rows) h = (cells_fit columns r.cells h.0.1, rows_fit number columns rows h.1)

tables_fit : (first : ℕ) (schema : Schema) (db : Database) → AreTables first schema db → (number : ℕ) → AllByRecursion RowFits (rows_of db number)
tables_fit first [] [] h number = tt
tables_fit first [] (held ∷ db) h number = absurd h
tables_fit first (table ∷ schema) [] h number = absurd h
tables_fit first (table ∷ schema) (held ∷ db) h zero = rows_fit first table.columns held.1 h.2
tables_fit first (table ∷ schema) (held ∷ db) h (suc number) = tables_fit (suc first) schema db h.3 number

-- ---- elements and numbers

abbrev DatumFits : Datum → Type 0
DatumFits x = RowFits (row_of x)

abbrev AllFit : List Datum → Type 0
AllFit v = AllByRecursion DatumFits v

plain_fits : (o : Option Scalar) → StartFits o → RowFits (plain_row o)
plain_fits None h = tt
plain_fits (Some x) h = (h, tt)

cell_fits : (xs : List Scalar) (c : ℕ) → AllByRecursion ScalarFits xs → StartFits (slice_get xs c)
cell_fits [] c h = tt
cell_fits (x ∷ xs) zero h = h.0
cell_fits (x ∷ xs) (suc c) h = cell_fits xs c h.1

element_fits : (rows : ℕ → Row) (e : Elem) → ((j : ℕ) → RowFits (rows j)) → RowFits (elem_at rows e)
element_fits rows (elems.Whole j) h = h j
element_fits rows (elems.Field j c) h = plain_fits (slice_get (rows j).cells c) (cell_fits (rows j).cells c (h j))

number_of_fits : (k : Kind) (xs : List Scalar) (n : ℤ) → AllByRecursion ScalarFits xs → number_of_cells k xs ≡ Some n → fits_long n ≡ true
number_of_fits kinds.Plain (Long m ∷ []) n h e = subst (λ i. fits_long i ≡ true) (some_same m n e) h.0
number_of_fits _ _ n h e = absurd cc

number_in_fits : (v : List Datum) (n : ℤ) → AllFit v → number_in v ≡ Some n → fits_long n ≡ true
number_in_fits (Element r ∷ []) n h e = number_of_fits r.kind r.cells n h.0 e
number_in_fits _ n h e = absurd cc

number_fits_alone : (n : ℤ) → fits_long n ≡ true → AllFit (only_number n)
number_fits_alone n h = ((h, tt), tt)

-- ---- updates

all_more : (v : List Datum) (x : Datum) → AllFit v → DatumFits x → AllFit (v ++ x ∷ [])
all_more [] x h p = (p, tt)
all_more (y ∷ v) x h p = (h.0, all_more v x h.1 p)

inserted_fits : (v : List Datum) (x : Datum) → AllFit v → DatumFits x → AllFit (inserted v x)
inserted_fits v x h p = go (list_any (same_datum x) v)
  where
    go : (b : Bool) → AllFit (if b then v else v ++ x ∷ [])
    go true = h
    go false = all_more v x h p

where_fits : (b : Bool) (v x : List Datum) → (b ≡ true → AllFit v) → (if b then Some v else None) ≡ Some x → AllFit x
where_fits true v x h e = subst AllFit (some_same v x e) (h refl)
where_fits false v x h e = absurd cc

sum_fits : (v d x : List Datum) (o p : Option ℤ) → AllFit v → AllFit d → within_long (added_numbers v d o p) ≡ Some x → AllFit x
sum_fits v d x (Some m) (Some n) h g e = where_fits (fits_long (m +ℤ n)) (only_number (m +ℤ n)) x (number_fits_alone (m +ℤ n)) e
sum_fits v d x (Some m) None h g e = where_fits (number_fits (number_in d)) d x (λ t. g) e
sum_fits v d x None p h g e = where_fits (number_fits (number_in v)) v x (λ t. h) e

better_fits : (way : Way) (m n : ℤ) → fits_long m ≡ true → fits_long n ≡ true → fits_long (better way m n) ≡ true
better_fits ways.Max m n h g = go (int_lt m n)
  where
    go : (b : Bool) → fits_long (if b then n else m) ≡ true
    go true = g
    go false = h
better_fits ways.Min m n h g = go (int_lt n m)
  where
    go : (b : Bool) → fits_long (if b then n else m) ≡ true
    go true = g
    go false = h

picked_fits : (way : Way) (v : List Datum) (o p : Option ℤ) → AllFit v → ((m : ℤ) → o ≡ Some m → fits_long m ≡ true) → ((n : ℤ) → p ≡ Some n → fits_long n ≡ true) → AllFit (picked_number way v o p)
picked_fits way v (Some m) (Some n) h f g = number_fits_alone (better way m n) (better_fits way m n (f m refl) (g n refl))
picked_fits way v (Some m) None h f g = h
picked_fits way v None (Some n) h f g = h
picked_fits way v None None h f g = h

step_fits : (u : Update) (rows : ℕ → Row) → ((j : ℕ) → RowFits (rows j)) → (v x : List Datum) → AllFit v → checked u rows v ≡ Some x → AllFit x
step_fits (Push e) rows h v x p is = subst AllFit (some_same _ x is) (all_more v (Element (elem_at rows e)) p (element_fits rows e h))
step_fits (PushNew e) rows h v x p is = subst AllFit (some_same _ x is) (inserted_fits v (Element (elem_at rows e)) p (element_fits rows e h))
step_fits Tick rows h v x p is = sum_fits v (only_number (pos 1)) x (number_in v) (Some (pos 1)) p (number_fits_alone (pos 1) refl) is
step_fits (Plus e) rows h v x p is = sum_fits v (Element (elem_at rows e) ∷ []) x (number_in v) (number_in (Element (elem_at rows e) ∷ [])) p (element_fits rows e h, tt) is
step_fits (Best way e) rows h v x p is =
    subst AllFit (some_same _ x is)
    (picked_fits way v (number_in v) (number_in (Element (elem_at rows e) ∷ [])) p (λ m. number_in_fits v m p) (λ n. number_in_fits (Element (elem_at rows e) ∷ []) n (element_fits rows e h, tt)))
step_fits Mark rows h v x p is = subst AllFit (some_same _ x is) ((tt, tt), tt)

-- ---- ends

start_fits : (o : Option Scalar) → StartFits o → AllFit (started o)
start_fits None h = tt
start_fits (Some x) h = ((h, tt), tt)

first_fits : (xs : List Scalar) → AllByRecursion ScalarFits xs → ScalarFits (scalar_in xs)
first_fits [] h = tt
first_fits (x ∷ xs) h = h.0

scalar_fits : (v : List Datum) → AllFit v → ScalarFits (scalar_of v)
scalar_fits [] h = tt
scalar_fits (x ∷ v) h = first_fits (row_of x).cells h.0

source_scalar_fits : (opposite : Bool) (x : Scalar) → ScalarFits x → ScalarFits (source_scalar opposite x)
source_scalar_fits true (Truth b) h = tt
source_scalar_fits true (Long n) h = h
source_scalar_fits true (Text t) h = h
source_scalar_fits false x h = h

members_fit : (v : List Datum) → AllFit v → AllByRecursion RowFits (map row_of v)
members_fit [] h = tt
members_fit (x ∷ v) h = (h.0, members_fit v h.1)

source_fits : (u : Update) (opposite : Bool) (v : List Datum) → AllFit v → ValueFits (source_value u opposite v)
source_fits (Push e) opposite v h = members_fit v h
source_fits (PushNew e) opposite v h = members_fit v h
source_fits Tick opposite v h = source_scalar_fits opposite (scalar_of v) (scalar_fits v h)
source_fits (Plus e) opposite v h = source_scalar_fits opposite (scalar_of v) (scalar_fits v h)
source_fits (Best way e) opposite v h = source_scalar_fits opposite (scalar_of v) (scalar_fits v h)
source_fits Mark opposite v h = source_scalar_fits opposite (scalar_of v) (scalar_fits v h)

module _ (schema : Schema) (f : Fragment) (db : Database) (entry : Entry) (of : IsDatabaseOf schema db) where
  abbrev given : World
  given = world_given f db entry

  lists_fit : (j : ℕ) → AllByRecursion RowFits (given.lists j)
  lists_fit j = all_listed RowFits db (tables_fit 0 schema db of) (slice_get f.lists j)

  accumulated_fits : (a : Accumulator) → StartFits a.start → (v : List Datum) → accumulated f given a ≡ Some v → AllFit v
  accumulated_fits a h v e = run_keeps AllFit RowFits (with_flags f given) f.atoms a.update lists_fit (step_fits a.update) (layers_of a) given.current (λ j. tt) (started a.start) v (start_fits a.start h) e

  end_fits : (a : Accumulator) → StartFits a.start → (value : Value) → ends_as f given a ≡ Some value → ValueFits value
  end_fits a h value e = go (accumulated f given a) (accumulated_fits a h) e
    where
      go : (o : Option (List Datum)) → ((v : List Datum) → o ≡ Some v → AllFit v) → option_map (source_value a.update a.opposite) o ≡ Some value → ValueFits value
      go None fits is = absurd cc
      go (Some v) fits is = subst ValueFits (some_same (source_value a.update a.opposite v) value is) (source_fits a.update a.opposite v (fits v refl))

  abbrev AllEndsFit : Option (List Value) → Type 0
  AllEndsFit o = (values : List Value) → o ≡ Some values → AllByRecursion ValueFits values

  joined_fit : (o : Option Value) (rest : Option (List Value)) → ((value : Value) → o ≡ Some value → ValueFits value) → AllEndsFit rest → AllEndsFit (and_then o rest)
  joined_fit (Some v) (Some vs) h g = λ values e. subst (AllByRecursion ValueFits) (some_same (v ∷ vs) values e) (h v refl, g vs refl)
  joined_fit (Some v) None h g = λ values e. absurd cc
  joined_fit None (Some vs) h g = λ values e. absurd cc
  joined_fit None None h g = λ values e. absurd cc

  based_fit : (base : ℕ) (a : Accumulator) (rest : Option (List Value)) → StartFits a.start → AllEndsFit rest → AllEndsFit (ends f given base a rest)
  based_fit zero a rest h g = joined_fit (ends_as f given a) rest (end_fits a h) g
  based_fit (suc base) a rest h g = g

  all_fit : (accs : List Accumulator) → AllByRecursion (λ a. StartFits a.start) accs → AllEndsFit (all_end f given accs)
  all_fit [] h = λ values e. subst (AllByRecursion ValueFits) (some_same [] values e) tt
  all_fit (a ∷ rest) h = based_fit a.base a (all_end f given rest) h.0 (all_fit rest h.1)

pub ends-fit : (schema : Schema) (f : Fragment) (db : Database) (entry : Entry) (values : List Value) → IsDatabaseOf schema db → StartsFit f → fragment_end f db entry ≡ Some values → AllByRecursion ValueFits values
ends-fit schema f db entry values of starts e = all_fit schema f db entry of f.accs starts values e

pub end-fits : (schema : Schema) (f : Fragment) (db : Database) (entry : Entry) (a : Accumulator) (value : Value) → IsDatabaseOf schema db → StartFits a.start → ends_as f (world_given f db entry) a ≡ Some value → ValueFits value
end-fits schema f db entry a value of start e = end_fits schema f db entry of a start value e
