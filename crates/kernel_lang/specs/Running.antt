-- What a fragment does: each accumulator is run by itself. No term stands here.
use Rattle.std.specs.Prelude.{if◌then◌else◌, ℕ, zero, suc, pos, Bool, true, false, not, List, [], ◌∷◌, ◌++◌, map, take, drop, slice_get, nat_eq}
use Rattle.std.specs.Option.{option_map}
use Rattle.std.specs.declared.option.Option.{Option}
use Rattle.std.specs.declared.option.Option.TheVariants.{Some, None}
use Rattle.qbs_base.specs.declared.scalar.Row.{Row}
use Rattle.qbs_base.specs.declared.scalar.Scalar.{Scalar}
use Rattle.qbs_base.specs.declared.scalar.Scalar.TheVariants as scalars
use Rattle.qbs_base.specs.declared.scalar.Value.{Value}
use Rattle.qbs_base.specs.declared.scalar.Value.TheVariants as values
use Rattle.qbs_base.specs.Values.{Database}
use Rattle.tor_terms.specs.declared.term.Atom.{Atom}
use Rattle.tor_terms.specs.Fits.{number_fits, row_of}
use Rattle.tor_terms.specs.Plain.{Form}
use Rattle.tor_terms.specs.Truth.{Datum, Element, World, holds}
use Rattle.tor_terms.specs.Value.{plain_row, only, only_number, only_truth, number_in, truth_in, elem_at, inserted, added, picked}
use Rattle.kernel_lang.specs.declared.parts.Entry.{Entry}
use Rattle.kernel_lang.specs.declared.parts.Update.{Update}
use Rattle.kernel_lang.specs.declared.parts.Update.TheVariants as updates
use Rattle.kernel_lang.specs.Plain.{Accumulator, Fragment}
use Rattle.kernel_lang.specs.Given.{world_given}

-- a loop, and the guard of what stands in it
pub record Layer : Type 0 where
  pub over : ℕ
  pub guard : Option Form

abbrev pub layer : ℕ → Option Form → Layer
layer j g = record { over = j; guard = g }

abbrev pub layers : List ℕ → List (Option Form) → List Layer
layers [] gs = []
layers (j ∷ js) [] = layer j None ∷ layers js []
layers (j ∷ js) (g ∷ gs) = layer j g ∷ layers js gs

abbrev pub layers_of : Accumulator → List Layer
layers_of a = layers a.chain a.guards

-- the layers round the declaration, and those inside it
abbrev pub outside : Accumulator → List Layer
outside a = take a.base (layers_of a)

abbrev pub inside : Accumulator → List Layer
inside a = drop a.base (layers_of a)

-- the rows, but r for the loop j
abbrev pub with_row : (ℕ → Row) → ℕ → Row → ℕ → Row
with_row rows j r k = if nat_eq j k then r else rows k

-- the rows of these loops, in order
abbrev pub placed : List ℕ → List Row → ℕ → Row
placed [] rows k = plain_row None
placed (j ∷ js) [] k = plain_row None
placed (j ∷ js) (r ∷ rs) k = if nat_eq j k then r else placed js rs k

abbrev pub passes : World → List Atom → (ℕ → Row) → Option Form → Bool
passes w atoms rows None = true
passes w atoms rows (Some f) = holds w atoms rows f

abbrev pub started : Option Scalar → List Datum
started None = []
started (Some x) = only x

abbrev pub updated : Update → (ℕ → Row) → List Datum → List Datum
updated (updates.Push e) rows v = v ++ Element (elem_at rows e) ∷ []
updated (updates.PushNew e) rows v = inserted v (Element (elem_at rows e))
updated updates.Tick rows v = added v (only_number (pos 1))
updated (updates.Plus e) rows v = added v (Element (elem_at rows e) ∷ [])
updated (updates.Best way e) rows v = picked way v (Element (elem_at rows e) ∷ [])
updated updates.Mark rows v = only_truth true

abbrev pub within_long : List Datum → Option (List Datum)
within_long v = if number_fits (number_in v) then Some v else None

-- none where a count or a sum leaves 64 bits
abbrev pub checked : Update → (ℕ → Row) → List Datum → Option (List Datum)
checked updates.Tick rows v = within_long (updated updates.Tick rows v)
checked (updates.Plus e) rows v = within_long (updated (updates.Plus e) rows v)
checked u rows v = Some (updated u rows v)

abbrev pub followed_by : Option (List Datum) → (List Datum → Option (List Datum)) → Option (List Datum)
followed_by None f = None
followed_by (Some v) f = f v

abbrev pub each_row : List Row → (Row → List Datum → Option (List Datum)) → List Datum → Option (List Datum)
each_row [] f v = Some v
each_row (r ∷ rs) f v = followed_by (f r v) (each_row rs f)

-- the layers that are left, at the rows of the loops round them
abbrev pub run : World → List Atom → Update → List Layer → (ℕ → Row) → List Datum → Option (List Datum)
run w atoms u [] rows v = checked u rows v
run w atoms u (y ∷ ys) rows v =
    each_row (w.lists y.over) (λ r x. if passes w atoms (with_row rows y.over r) y.guard then run w atoms u ys (with_row rows y.over r) x else Some x) v

abbrev pub is_set : Option (List Datum) → Bool
is_set None = false
is_set (Some v) = elim (truth_in v) [ Some b ↦ b | None ↦ false ]

-- the truth of a flag by its own run, at rows of the loops round its declaration
abbrev pub flag_by_run : World → List Atom → Option Accumulator → List Row → Bool
flag_by_run w atoms None rows = false
flag_by_run w atoms (Some a) rows = is_set (run w atoms a.update (inside a) (placed (take a.base a.chain) rows) (started a.start))

-- the world in which guards are read
abbrev pub with_flags : Fragment → World → World
with_flags f w = record w { flags = λ k rows. flag_by_run w f.atoms (slice_get f.accs k) rows }

-- what the loops make of an accumulator that stands outside all of them
abbrev pub accumulated : Fragment → World → Accumulator → Option (List Datum)
accumulated f w a = run (with_flags f w) f.atoms a.update (layers_of a) w.current (started a.start)

abbrev pub scalar_in : List Scalar → Scalar
scalar_in (x ∷ xs) = x
scalar_in [] = scalars.Bool false

abbrev pub scalar_of : List Datum → Scalar
scalar_of (x ∷ xs) = scalar_in (row_of x).cells
scalar_of [] = scalars.Bool false

-- the variable of the source keeps the opposite
abbrev pub source_scalar : Bool → Scalar → Scalar
source_scalar true (scalars.Bool b) = scalars.Bool (not b)
source_scalar true x = x
source_scalar false x = x

-- what the variable of the source is
abbrev pub source_value : Update → Bool → List Datum → Value
source_value (updates.Push e) opposite v = values.Many (map row_of v)
source_value (updates.PushNew e) opposite v = values.Many (map row_of v)
source_value u opposite v = values.One (source_scalar opposite (scalar_of v))

abbrev pub ends_as : Fragment → World → Accumulator → Option Value
ends_as f w a = option_map (source_value a.update a.opposite) (accumulated f w a)

abbrev pub and_then : Option Value → Option (List Value) → Option (List Value)
and_then (Some v) (Some vs) = Some (v ∷ vs)
and_then _ _ = None

-- one value for each accumulator with base 0, in their order
abbrev pub ends : Fragment → World → ℕ → Accumulator → Option (List Value) → Option (List Value)
ends f w zero a rest = and_then (ends_as f w a) rest
ends f w (suc base) a rest = rest

abbrev pub all_end : Fragment → World → List Accumulator → Option (List Value)
all_end f w [] = Some []
all_end f w (a ∷ rest) = ends f w a.base a (all_end f w rest)

-- what a fragment ends with, and none where a running count or sum leaves 64 bits
abbrev pub fragment_end : Fragment → Database → Entry → Option (List Value)
fragment_end f db entry = all_end f (world_given f db entry) f.accs
