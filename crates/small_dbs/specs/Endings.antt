-- What a fragment ends with on databases where candidates may be refuted.
use Rattle.std.specs.Prelude.{ℕ, Bool, true, false, ◌&&◌, List, [], ◌∷◌, length, map, take, nat_eq, slice_get}
use Rattle.std.specs.declared.option.Option.{Option}
use Rattle.std.specs.declared.option.Option.TheVariants.{Some, None}
use Rattle.qbs_base.specs.declared.scalar.Scalar.{Scalar}
use Rattle.qbs_base.specs.declared.scalar.Scalar.TheVariants as scalars
use Rattle.qbs_base.specs.declared.scalar.Ty.{Ty}
use Rattle.qbs_base.specs.declared.scalar.Ty.TheVariants as tys
use Rattle.qbs_base.specs.declared.scalar.Value.{Value}
use Rattle.qbs_base.specs.Values.{fits_long}
use Rattle.kernel_interp.specs.Fits.{rest_fits}
use Rattle.kernel_lang.specs.Plain.{Fragment}
use Rattle.kernel_lang.specs.Refuted.{Refutes}
use Rattle.kernel_lang.specs.Running.{fragment_end}
use Rattle.small_dbs.specs.declared.small.SmallDb.{SmallDb}

abbrev pub has_type : Ty → Scalar → Bool
has_type tys.Long (scalars.Long n) = fits_long n
has_type tys.Bool (scalars.Bool b) = true
has_type tys.Text (scalars.Text t) = true
has_type _ _ = false

abbrev pub have_types : List Ty → List Scalar → Bool
have_types [] [] = true
have_types (ty ∷ tys) (x ∷ xs) = has_type ty x && have_types tys xs
have_types _ _ = false

-- the parts of a fragment fit a database, as a test
abbrev pub fits_there : Fragment → SmallDb → Bool
fits_there f s = nat_eq (length s.entry.known) f.known && (have_types f.entries s.entry.values && rest_fits f s.db s.entry)

abbrev pub if_fits : Bool → Option (List Value) → Option (List Value)
if_fits true ends = ends
if_fits false ends = None

-- What a fragment ends with on a database, and none where no candidate may be refuted.
unfoldable pub ending : Fragment → SmallDb → Option (List Value)
ending f s = if_fits (fits_there f s) (fragment_end f s.db s.entry)

-- on the first databases, so many
abbrev pub first_endings : Fragment → List SmallDb → ℕ → List (Option (List Value))
first_endings f items n = map (ending f) (take n items)

abbrev pub IfRefutes : Fragment → List ℕ → Option SmallDb → Type 0
IfRefutes f c None = ⊥
IfRefutes f c (Some s) = Refutes f c s.db s.entry

-- the database with that number refutes the candidate
abbrev pub RefutesAt : Fragment → List ℕ → List SmallDb → ℕ → Type 0
RefutesAt f c items i = IfRefutes f c (slice_get items i)
