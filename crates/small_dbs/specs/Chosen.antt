-- Rows, entry values and known lists by places in lists of values.
use Rattle.std.specs.Prelude.{if◌then◌else◌, ℕ, zero, suc, ◌+◌, ◌*◌, ◌%◌, Bool, false, List, [], ◌∷◌, length, get_or, nat_eq}
use Rattle.std.specs.declared.option.Option.{Option}
use Rattle.std.specs.declared.option.Option.TheVariants.{Some, None}
use Rattle.qbs_base.specs.declared.columns.Column.{Column}
use Rattle.qbs_base.specs.declared.columns.Table.{Table}
use Rattle.qbs_base.specs.declared.scalar.Kind.TheVariants as kinds
use Rattle.qbs_base.specs.declared.scalar.Row.{Row}
use Rattle.qbs_base.specs.declared.scalar.Scalar.{Scalar}
use Rattle.qbs_base.specs.declared.scalar.Scalar.TheVariants as scalars
use Rattle.qbs_base.specs.declared.scalar.Ty.{Ty}
use Rattle.qbs_base.specs.declared.scalar.Ty.TheVariants as tys
use Rattle.qbs_base.specs.Tables.{NamedRows}
use Rattle.qbs_base.specs.Values.{Schema}
use Rattle.tor_terms.specs.declared.term.Atom.{Atom}
use Rattle.tor_terms.specs.declared.term.Atom.TheVariants as atoms
use Rattle.kernel_lang.specs.Plain.{Fragment}
use Rattle.kernel_lang.specs.Typed.{operand_type}

-- a list of values for each type
abbrev pub Choice : Type 0
Choice = Ty → List Scalar

-- the value at a place, counted round the list
abbrev pub value_at : List Scalar → ℕ → Scalar
value_at [] k = scalars.Bool false
value_at (x ∷ xs) k = get_or (x ∷ xs) (k % length (x ∷ xs)) x

-- the first cell has the value at place k, the next ones those behind it
abbrev pub cells : Choice → ℕ → List Column → List Scalar
cells v k [] = []
cells v k (column ∷ columns) = value_at (v column.ty) k ∷ cells v (k + 1) columns

abbrev pub row : Choice → ℕ → ℕ → List Column → Row
row v k table columns = record { kind = kinds.Table table; cells = cells v k columns }

-- as many rows, each five places further
abbrev pub rows : Choice → ℕ → ℕ → List Column → ℕ → List Row
rows v k table columns zero = []
rows v k table columns (suc n) = row v k table columns ∷ rows v (k + 5) table columns n

-- the tables from this number on: column c of row r of table t has the value at place d + 3t + 5r + c
abbrev pub tables : Choice → ℕ → ℕ → Schema → List NamedRows
tables v d t [] = []
tables v d t (table ∷ rest) = (table.name, rows v (d + 3 * t) t table.columns (d % 4)) ∷ tables v d (t + 1) rest

-- entry values, each two places further
abbrev pub entries : Choice → ℕ → List Ty → List Scalar
entries v k [] = []
entries v k (ty ∷ rest) = value_at (v ty) k ∷ entries v (k + 2) rest

abbrev pub type_or_long : Option Ty → Ty
type_or_long None = tys.Long
type_or_long (Some ty) = ty

-- the type of what is looked up in a known list, and Long where nothing is
abbrev pub member_type : Schema → Fragment → ℕ → List Atom → Ty
member_type schema f q [] = tys.Long
member_type schema f q (atoms.Member a k ∷ rest) = if nat_eq k q then type_or_long (operand_type schema f a) else member_type schema f q rest
member_type schema f q (_ ∷ rest) = member_type schema f q rest

abbrev pub members : List Scalar → ℕ → ℕ → List Scalar
members xs k zero = []
members xs k (suc n) = value_at xs k ∷ members xs (k + 1) n

-- as many known lists from number q on: member r of list q has the value at place d + q + r
abbrev pub known : Schema → Fragment → Choice → ℕ → ℕ → ℕ → List (List Scalar)
known schema f v d q zero = []
known schema f v d q (suc n) = members (v (member_type schema f q f.atoms)) (d + q) (d % 3) ∷ known schema f v d (q + 1) n
