-- Rows that were met, by their cells.
use Rattle.std.specs.Prelude.{◌≡◌, Bool, false, not, List, [], ◌∷◌, ◌++◌, map, Vec}
use Rattle.std.specs.BTreeSet.{BTreeSet}
use Rattle.std.specs.List.{list_any}
use Rattle.std.specs.declared.alloc.Global.{Global}
use Rattle.qbs_base.specs.declared.scalar.Row.{Row}
use Rattle.qbs_base.specs.declared.scalar.Scalar.{Scalar}
use Rattle.qbs_base.specs.declared.scalar.Scalar.TheVariants as scalars
use Rattle.qbs_base.specs.Scalar.{same_cells}
use Rattle.sql_ast.specs.Grouped.{firsts}
use Rattle.java_mean.specs.Expression.{same_member, is_among}
use Rattle.java_steps.specs.declared.met.Atom.{Atom}
use Rattle.java_steps.specs.declared.met.Atom.TheVariants as atoms

abbrev pub Key : Type 0
Key = Vec Atom Global

abbrev pub atom_in : Atom → Scalar
atom_in (atoms.Long n) = scalars.Long n
atom_in (atoms.Truth b) = scalars.Bool b
atom_in (atoms.Text t) = scalars.Text t

abbrev pub cells_in : Key → List Scalar
cells_in k = map atom_in k.items

-- whether one of the keys has the cells of this one
abbrev pub has : BTreeSet Key → Key → Bool
has met k = list_any (λ j. same_cells (cells_in k) (cells_in j)) met.keys

-- the set has what the cells of these rows are
abbrev pub AreMet : BTreeSet Key → List Row → Type 0
AreMet met rows = (k : Key) → has met k ≡ list_any (λ b. same_cells (cells_in k) b.cells) rows

-- whether a row with these cells is among those that were met
abbrev pub IsMet : BTreeSet Key → List Scalar → Bool → Type 0
IsMet met cells found = (rows : List Row) → AreMet met rows → found ≡ list_any (λ row. same_cells cells row.cells) rows

-- One row more is met: whether it is the first with its cells. Where it is not, the set stays.
abbrev pub Meets : BTreeSet Key → Row → Bool → BTreeSet Key → Type 0
Meets met row added later =
    (rows : List Row) → AreMet met rows → (added ≡ not (is_among rows row)) × AreMet later (rows ++ row ∷ []) × (added ≡ false → later.keys ≡ met.keys)

-- the list has each row once, and the set what their cells are
pub record AreFirsts (met : BTreeSet Key) (list : List Row) (rows : List Row) : Type 0 where
  pub listed : list ≡ firsts same_member rows
  pub held : AreMet met rows

-- one row more is met, and listed where it is the first with its cells
abbrev pub Takes : BTreeSet Key → List Row → Row → BTreeSet Key → List Row → Type 0
Takes met list row later more = (rows : List Row) → AreFirsts met list rows → AreFirsts later more (rows ++ row ∷ [])
