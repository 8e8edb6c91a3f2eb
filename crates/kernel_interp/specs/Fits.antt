-- Whether the parts of a fragment fit, as a test that looks at one row of each list.
use Rattle.std.specs.Prelude.{ℕ, Bool, true, false, ◌&&◌, ◌||◌, List, [], ◌∷◌, nat_eq, get_or, slice_get, is_some}
use Rattle.std.specs.List.{list_all}
use Rattle.std.specs.declared.option.Option.{Option}
use Rattle.std.specs.declared.option.Option.TheVariants.{Some, None}
use Rattle.qbs_base.specs.declared.scalar.Row.{Row}
use Rattle.qbs_base.specs.declared.scalar.Scalar.{Scalar}
use Rattle.qbs_base.specs.declared.scalar.Ty.{Ty}
use Rattle.qbs_base.specs.declared.scalar.Ty.TheVariants as tys
use Rattle.qbs_base.specs.Tables.{rows_of}
use Rattle.qbs_base.specs.Values.{Database}
use Rattle.tor_terms.specs.declared.term.Atom.{Atom}
use Rattle.tor_terms.specs.declared.term.Atom.TheVariants as atoms
use Rattle.tor_terms.specs.declared.term.Elem.TheVariants as elems
use Rattle.tor_terms.specs.declared.term.Operand.{Operand}
use Rattle.tor_terms.specs.declared.term.Operand.TheVariants as operands
use Rattle.kernel_lang.specs.declared.parts.Entry.{Entry}
use Rattle.kernel_lang.specs.declared.parts.ListDef.{ListDef}
use Rattle.kernel_lang.specs.declared.parts.Update.{Update}
use Rattle.kernel_lang.specs.declared.parts.Update.TheVariants as updates
use Rattle.kernel_lang.specs.Fitting.{Place, named_places, table_at}
use Rattle.kernel_lang.specs.Plain.{Fragment}
use Rattle.kernel_lang.specs.Typed.{scalar_type, same_type}

abbrev pub type_found : Option Scalar → Option Ty
type_found None = None
type_found (Some x) = Some (scalar_type x)

-- the type of a column in the first row
abbrev pub first_type : ℕ → List Row → Option Ty
first_type c [] = None
first_type c (r ∷ rows) = type_found (slice_get r.cells c)

-- each row has a cell of this type in the column
abbrev pub are_all_of : Option Ty → ℕ → List Row → Bool
are_all_of ty c rows = list_all (λ r. same_type ty (type_found (slice_get r.cells c))) rows

-- each row has the column, of the type of the first one
abbrev pub is_column : ℕ → List Row → Bool
is_column c rows = are_all_of (first_type c rows) c rows

abbrev pub place_fits : Fragment → Database → Place → Bool
place_fits f db place = is_column place.1 (table_at db (slice_get f.lists place.0))

abbrev pub place_type : Fragment → Database → Place → Option Ty
place_type f db place = first_type place.1 (table_at db (slice_get f.lists place.0))

-- a list has no row: its table has none, or it is cut to none
abbrev pub is_none_left : Option ℕ → List Row → Bool
is_none_left limit [] = true
is_none_left None (r ∷ rows) = false
is_none_left (Some n) (r ∷ rows) = nat_eq n 0

abbrev pub has_no_row : Database → Option ListDef → Bool
has_no_row db None = true
has_no_row db (Some d) = is_none_left d.limit (rows_of db d.table)

-- the loop of an operand's column has no row
abbrev pub is_never_read : Fragment → Database → Operand → Bool
is_never_read f db (operands.Field j c) = has_no_row db (slice_get f.lists j)
is_never_read f db _ = false

abbrev pub operand_type : Fragment → Database → Entry → Operand → Option Ty
operand_type f db entry (operands.Field j c) = place_type f db (j, c)
operand_type f db entry (operands.Entry k) = type_found (slice_get entry.values k)
operand_type f db entry (operands.Lit x) = Some (scalar_type x)

-- both are numbers, or both texts
abbrev pub are_ordered : Option Ty → Option Ty → Bool
are_ordered (Some tys.Long) (Some tys.Long) = true
are_ordered (Some tys.Text) (Some tys.Text) = true
are_ordered _ _ = false

-- a type, and that of all of these
abbrev pub is_of_all : Option Ty → List Scalar → Bool
is_of_all ty xs = is_some ty && list_all (λ x. same_type ty (Some (scalar_type x))) xs

abbrev pub test_fits : Fragment → Database → Entry → Atom → Bool
test_fits f db entry (atoms.Less a b) = is_never_read f db a || (is_never_read f db b || are_ordered (operand_type f db entry a) (operand_type f db entry b))
test_fits f db entry (atoms.Same a b) = is_never_read f db a || (is_never_read f db b || same_type (operand_type f db entry a) (operand_type f db entry b))
test_fits f db entry (atoms.Truth a) = is_never_read f db a || same_type (Some tys.Bool) (operand_type f db entry a)
test_fits f db entry (atoms.Member a q) = is_never_read f db a || is_of_all (operand_type f db entry a) (get_or entry.known q [])
test_fits f db entry (atoms.Flag k loops) = true

abbrev pub number_fits : Fragment → Database → Place → Bool
number_fits f db place = has_no_row db (slice_get f.lists place.0) || same_type (Some tys.Long) (place_type f db place)

abbrev pub update_fits : Fragment → Database → Update → Bool
update_fits f db (updates.Plus (elems.Field j c)) = number_fits f db (j, c)
update_fits f db (updates.Best way (elems.Field j c)) = number_fits f db (j, c)
update_fits f db _ = true

abbrev pub table_is_there : Database → ListDef → Bool
table_is_there db d = is_some (slice_get db d.table)

-- all but the known lists and the entry values
abbrev pub rest_fits : Fragment → Database → Entry → Bool
rest_fits f db entry =
    list_all (table_is_there db) f.lists
    && (list_all (test_fits f db entry) f.atoms && (list_all (λ a. update_fits f db a.update) f.accs && list_all (place_fits f db) (named_places f)))
