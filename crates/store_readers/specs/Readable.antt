-- What rows, entry values and known lists of a store are.
use Rattle.std.specs.Prelude.{◌≡◌, ◌<◌, ℕ, List, [], ◌∷◌, length, Option, Some, None}
use Rattle.qbs_base.specs.declared.columns.Column.{Column}
use Rattle.qbs_base.specs.declared.scalar.Kind.TheVariants as kinds
use Rattle.qbs_base.specs.declared.scalar.Row.{Row}
use Rattle.qbs_base.specs.declared.scalar.Scalar.{Scalar}
use Rattle.qbs_base.specs.declared.scalar.Ty.{Ty}
use Rattle.text_readers.specs.Offsets.{Each}
use Rattle.scalar_readers.specs.Scalars.{ty_of, IsRead}

-- up to 64
abbrev pub AreFew : {A : Type 0} → List A → Type 0
AreFew xs = length xs < 65

-- of this type, or of its own
abbrev pub IsOfKind : Option Ty → Scalar → Type 0
IsOfKind None x = IsRead (ty_of x) x
IsOfKind (Some ty) x = IsRead ty x

-- one of each column
abbrev pub AreReadCells : List Column → List Scalar → Type 0
AreReadCells [] [] = Unit {0}
AreReadCells (c ∷ cs) (x ∷ xs) = IsRead c.ty x × AreReadCells cs xs
AreReadCells _ _ = ⊥

abbrev pub IsReadRow : ℕ → List Column → Row → Type 0
IsReadRow number columns r = (r.kind ≡ kinds.Table number) × AreReadCells columns r.cells

abbrev pub AreReadRows : ℕ → List Column → List Row → Type 0
AreReadRows number columns rows = AreFew rows × Each (IsReadRow number columns) rows

abbrev pub AreReadValues : List Scalar → Type 0
AreReadValues xs = AreFew xs × Each (IsOfKind None) xs

-- of the first one's type
abbrev pub AreAlike : List Scalar → Type 0
AreAlike [] = Unit {0}
AreAlike (x ∷ xs) = IsRead (ty_of x) x × Each (IsRead (ty_of x)) xs

abbrev pub IsReadList : List Scalar → Type 0
IsReadList xs = AreFew xs × AreAlike xs

abbrev pub AreReadLists : List (List Scalar) → Type 0
AreReadLists known = AreFew known × Each IsReadList known
