-- Environments as worlds, whose parts are functions, and the truth of atoms and formulas in them.
use Rattle.std.specs.Prelude.{if◌then◌else◌, ℕ, Bool, true, false, not, ◌&&◌, ◌||◌, List, [], ◌∷◌, map, slice_get, nat_eq}
use Rattle.std.specs.List.{list_any, list_all}
use Rattle.std.specs.declared.option.Option.{Option}
use Rattle.std.specs.declared.option.Option.TheVariants.{Some, None}
use Rattle.qbs_base.specs.declared.scalar.Row.{Row}
use Rattle.qbs_base.specs.declared.scalar.Scalar.{Scalar}
use Rattle.qbs_base.specs.declared.scalar.Scalar.TheVariants as scalars
use Rattle.qbs_base.specs.Scalar.{compared, scalar_less, scalar_same}
use Rattle.tor_terms.specs.declared.term.Atom.{Atom}
use Rattle.tor_terms.specs.declared.term.Atom.TheVariants as atoms
use Rattle.tor_terms.specs.declared.term.Operand.{Operand}
use Rattle.tor_terms.specs.declared.term.Operand.TheVariants as operands
use Rattle.tor_terms.specs.Plain.{Form, Is, Both, Either}

-- rows for each loop of a tuple
abbrev pub Tuple : Type 0
Tuple = List (ℕ × Row)

-- What a list holds: tuples, or elements. An element is a row; a scalar stands as a row of kind Plain
-- with one cell, and a number or a truth value is a list of one scalar.
pub data Datum : Type 0 where
  Tup : Tuple → Datum
  Element : Row → Datum

-- What the numbers of terms name: each loop's list, turns done and current row, entry values, known
-- lists, held values, and each flag's truth at rows of the loops round its declaration.
pub record World : Type 0 where
  pub lists : ℕ → List Row
  pub turns : ℕ → ℕ
  pub current : ℕ → Row
  pub entries : ℕ → Option Scalar
  pub known : ℕ → List Scalar
  pub held : ℕ → List Datum
  pub flags : ℕ → List Row → Bool

-- the row of a loop: the tuple's own, and else the current one
abbrev pub row_at : (ℕ → Row) → Tuple → ℕ → Row
row_at rows [] j = rows j
row_at rows (own ∷ t) j = if nat_eq own.0 j then own.1 else row_at rows t j

-- the rows at which something is taken of a datum
abbrev pub rows_at : (ℕ → Row) → Datum → ℕ → Row
rows_at rows (Tup t) = row_at rows t
rows_at rows (Element r) = rows

abbrev pub operand_at : World → (ℕ → Row) → Operand → Option Scalar
operand_at w rows (operands.Field j c) = slice_get (rows j).cells c
operand_at w rows (operands.Entry k) = w.entries k
operand_at w rows (operands.Lit x) = Some x

abbrev pub same_operand : Operand → Operand → Bool
same_operand (operands.Field j c) (operands.Field k d) = nat_eq j k && nat_eq c d
same_operand (operands.Entry j) (operands.Entry k) = nat_eq j k
same_operand (operands.Lit x) (operands.Lit y) = scalar_same x y
same_operand _ _ = false

-- numbers and texts are compared, truth values are not
abbrev pub less : Scalar → Scalar → Bool
less (scalars.Long x) y = scalar_less (scalars.Long x) y
less (scalars.Bool x) y = false
less (scalars.Text x) y = scalar_less (scalars.Text x) y

abbrev pub same_variant : Scalar → Scalar → Bool
same_variant (scalars.Long x) (scalars.Long y) = true
same_variant (scalars.Bool x) (scalars.Bool y) = true
same_variant (scalars.Text x) (scalars.Text y) = true
same_variant _ _ = false

abbrev pub is_true : Option Scalar → Bool
is_true (Some (scalars.Bool b)) = b
is_true _ = false

-- a scalar that is in a list, all of its own variant
abbrev pub is_member : Option Scalar → List Scalar → Bool
is_member (Some x) xs = list_any (scalar_same x) xs && list_all (same_variant x) xs
is_member None xs = false

-- The truth of an atom: where its operands don't fit, or one is missing, it is false, but an operand
-- is always the same as itself.
abbrev pub atom_holds : World → (ℕ → Row) → Atom → Bool
atom_holds w rows (atoms.Less a b) = compared less (operand_at w rows a) (operand_at w rows b)
atom_holds w rows (atoms.Same a b) = same_operand a b || compared scalar_same (operand_at w rows a) (operand_at w rows b)
atom_holds w rows (atoms.Truth a) = is_true (operand_at w rows a)
atom_holds w rows (atoms.Member a k) = is_member (operand_at w rows a) (w.known k)
atom_holds w rows (atoms.Flag k loops) = w.flags k (map rows loops)

-- an atom that isn't there is false
abbrev pub known_atom_holds : World → (ℕ → Row) → Option Atom → Bool
known_atom_holds w rows None = false
known_atom_holds w rows (Some a) = atom_holds w rows a

-- the truth of an atom by its number
abbrev pub truth : World → List Atom → (ℕ → Row) → ℕ → Bool
truth w all rows k = known_atom_holds w rows (slice_get all k)

abbrev pub same_bool : Bool → Bool → Bool
same_bool true b = b
same_bool false b = not b

abbrev pub holds : World → List Atom → (ℕ → Row) → Form → Bool
holds w all rows (Is k s) = same_bool (truth w all rows k) s
holds w all rows (Both f g) = holds w all rows f && holds w all rows g
holds w all rows (Either f g) = holds w all rows f || holds w all rows g

abbrev pub all_hold : World → List Atom → (ℕ → Row) → List Form → Bool
all_hold w all rows [] = true
all_hold w all rows (f ∷ fs) = holds w all rows f && all_hold w all rows fs

-- whether a loop is among these, and whether all loops are
abbrev pub has_loop : List ℕ → ℕ → Bool
has_loop loops j = list_any (λ k. nat_eq k j) loops

abbrev pub has_loops : List ℕ → List ℕ → Bool
has_loops loops own = list_all (has_loop loops) own

abbrev pub operand_within : List ℕ → Operand → Bool
operand_within loops (operands.Field j c) = has_loop loops j
operand_within loops (operands.Entry k) = true
operand_within loops (operands.Lit x) = true

-- whether all loops of an atom are among these
abbrev pub atom_within : List ℕ → Atom → Bool
atom_within loops (atoms.Less a b) = operand_within loops a && operand_within loops b
atom_within loops (atoms.Same a b) = operand_within loops a && operand_within loops b
atom_within loops (atoms.Truth a) = operand_within loops a
atom_within loops (atoms.Member a k) = operand_within loops a
atom_within loops (atoms.Flag k own) = has_loops loops own

-- whether the atoms of a formula are there, and all their loops among these
abbrev pub known_within : List ℕ → Option Atom → Bool
known_within loops None = false
known_within loops (Some a) = atom_within loops a

abbrev pub form_within : List Atom → List ℕ → Form → Bool
form_within all loops (Is k s) = known_within loops (slice_get all k)
form_within all loops (Both f g) = form_within all loops f && form_within all loops g
form_within all loops (Either f g) = form_within all loops f && form_within all loops g
