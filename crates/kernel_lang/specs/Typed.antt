-- Fragments that fit every database of a schema, by the types of its columns.
use Rattle.std.specs.Prelude.{ℕ, Bool, true, false, ◌&&◌, ◌||◌, not, length, slice_get, nat_eq, nat_lt}
use Rattle.std.specs.List.{list_all}
use Rattle.std.specs.declared.option.Option.{Option}
use Rattle.std.specs.declared.option.Option.TheVariants.{Some, None}
use Rattle.qbs_base.specs.declared.columns.Column.{Column}
use Rattle.qbs_base.specs.declared.columns.Table.{Table}
use Rattle.qbs_base.specs.declared.scalar.Scalar.{Scalar}
use Rattle.qbs_base.specs.declared.scalar.Scalar.TheVariants as scalars
use Rattle.qbs_base.specs.declared.scalar.Ty.{Ty}
use Rattle.qbs_base.specs.declared.scalar.Ty.TheVariants as tys
use Rattle.qbs_base.specs.Values.{Schema}
use Rattle.tor_terms.specs.declared.term.Atom.{Atom}
use Rattle.tor_terms.specs.declared.term.Atom.TheVariants as atoms
use Rattle.tor_terms.specs.declared.term.Elem.TheVariants as elems
use Rattle.tor_terms.specs.declared.term.Operand.{Operand}
use Rattle.tor_terms.specs.declared.term.Operand.TheVariants as operands
use Rattle.kernel_lang.specs.declared.parts.ListDef.{ListDef}
use Rattle.kernel_lang.specs.declared.parts.Update.{Update}
use Rattle.kernel_lang.specs.declared.parts.Update.TheVariants as updates
use Rattle.kernel_lang.specs.Plain.{Fragment}
use Rattle.kernel_lang.specs.Fitting.{Place, named_places}
use Rattle.kernel_lang.specs.Validity.{is_field}

abbrev pub column_type : Option Column → Option Ty
column_type None = None
column_type (Some column) = Some column.ty

abbrev pub table_column : Option Table → ℕ → Option Ty
table_column None c = None
table_column (Some table) c = column_type (slice_get table.columns c)

abbrev pub list_column : Schema → Option ListDef → ℕ → Option Ty
list_column schema None c = None
list_column schema (Some d) c = table_column (slice_get schema d.table) c

-- the type of a column that is named for a loop's list, where it is in the schema
abbrev pub place_type : Schema → Fragment → Place → Option Ty
place_type schema f place = list_column schema (slice_get f.lists place.0) place.1

abbrev pub scalar_type : Scalar → Ty
scalar_type (scalars.Long n) = tys.Long
scalar_type (scalars.Bool b) = tys.Bool
scalar_type (scalars.Text t) = tys.Text

abbrev pub operand_type : Schema → Fragment → Operand → Option Ty
operand_type schema f (operands.Field j c) = place_type schema f (j, c)
operand_type schema f (operands.Entry k) = slice_get f.entries k
operand_type schema f (operands.Lit x) = Some (scalar_type x)

abbrev pub same_type : Option Ty → Option Ty → Bool
same_type (Some tys.Long) (Some tys.Long) = true
same_type (Some tys.Bool) (Some tys.Bool) = true
same_type (Some tys.Text) (Some tys.Text) = true
same_type _ _ = false

abbrev pub is_type : Ty → Option Ty → Bool
is_type ty other = same_type (Some ty) other

abbrev pub atom_is_typed : Schema → Fragment → Atom → Bool
atom_is_typed schema f (atoms.Less a b) = same_type (operand_type schema f a) (operand_type schema f b) && not (is_type tys.Bool (operand_type schema f a))
atom_is_typed schema f (atoms.Same a b) = same_type (operand_type schema f a) (operand_type schema f b)
atom_is_typed schema f (atoms.Truth a) = is_type tys.Bool (operand_type schema f a)
atom_is_typed schema f (atoms.Member a q) = is_field a && same_type (operand_type schema f a) (operand_type schema f a)
atom_is_typed schema f (atoms.Flag k loops) = true

-- two tests of one known list are of one type
abbrev pub members_agree : Schema → Fragment → Atom → Atom → Bool
members_agree schema f (atoms.Member a q) (atoms.Member b r) = not (nat_eq q r) || same_type (operand_type schema f a) (operand_type schema f b)
members_agree schema f _ _ = true

abbrev pub update_is_typed : Schema → Fragment → Update → Bool
update_is_typed schema f (updates.Plus (elems.Field j c)) = is_type tys.Long (place_type schema f (j, c))
update_is_typed schema f (updates.Best way (elems.Field j c)) = is_type tys.Long (place_type schema f (j, c))
update_is_typed schema f _ = true

-- a place whose column is in the schema
abbrev pub place_is_there : Schema → Fragment → Place → Bool
place_is_there schema f place = same_type (place_type schema f place) (place_type schema f place)

-- its tables and columns are in the schema, and its tests and sums are of one type
abbrev pub is_typed : Schema → Fragment → Bool
is_typed schema f =
    list_all (λ d. nat_lt d.table (length schema)) f.lists
    && list_all (place_is_there schema f) (named_places f)
    && list_all (atom_is_typed schema f) f.atoms
    && list_all (λ a. list_all (members_agree schema f a) f.atoms) f.atoms
    && list_all (λ a. update_is_typed schema f a.update) f.accs
