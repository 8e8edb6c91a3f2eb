-- Where the parts of a fragment fit a database, entry values and known lists.
use Rattle.std.specs.Prelude.{◌≡◌, ℕ, suc, ◌<◌, Bool, true, false, IsTrue, List, [], ◌∷◌, ◌++◌, map, length, slice_get}
use Rattle.std.specs.List.{AllByRecursion, Contains, flat_map, list_all}
use Rattle.std.specs.declared.option.Option.{Option}
use Rattle.std.specs.declared.option.Option.TheVariants.{Some, None}
use Rattle.qbs_base.specs.declared.scalar.Row.{Row}
use Rattle.qbs_base.specs.declared.scalar.Scalar.{Scalar}
use Rattle.qbs_base.specs.declared.scalar.Scalar.TheVariants as scalars
use Rattle.qbs_base.specs.declared.scalar.Ty.{Ty}
use Rattle.qbs_base.specs.declared.scalar.Ty.TheVariants as tys
use Rattle.qbs_base.specs.Values.{Database, AreOf}
use Rattle.tor_terms.specs.declared.term.Atom.{Atom}
use Rattle.tor_terms.specs.declared.term.Atom.TheVariants as atoms
use Rattle.tor_terms.specs.declared.term.Elem.{Elem}
use Rattle.tor_terms.specs.declared.term.Elem.TheVariants as elems
use Rattle.tor_terms.specs.declared.term.Operand.{Operand}
use Rattle.tor_terms.specs.declared.term.Operand.TheVariants as operands
use Rattle.tor_terms.specs.Truth.{World, operand_at, same_variant}
use Rattle.kernel_lang.specs.declared.parts.Entry.{Entry}
use Rattle.kernel_lang.specs.declared.parts.ListDef.{ListDef}
use Rattle.kernel_lang.specs.declared.parts.Update.{Update}
use Rattle.kernel_lang.specs.declared.parts.Update.TheVariants as updates
use Rattle.kernel_lang.specs.Plain.{Fragment}
use Rattle.qbs_base.specs.Tables.{rows_of}
use Rattle.kernel_lang.specs.Given.{world_given}
use Rattle.kernel_lang.specs.Validity.{element_of}

-- a column that is named for a loop's list
abbrev pub Place : Type 0
Place = ℕ × ℕ

abbrev pub operand_places : Operand → List Place
operand_places (operands.Field j c) = (j, c) ∷ []
operand_places _ = []

abbrev pub atom_places : Atom → List Place
atom_places (atoms.Less a b) = operand_places a ++ operand_places b
atom_places (atoms.Same a b) = operand_places a ++ operand_places b
atom_places (atoms.Truth a) = operand_places a
atom_places (atoms.Member a q) = operand_places a
atom_places (atoms.Flag k loops) = []

abbrev pub element_places : Option Elem → List Place
element_places (Some (elems.Field j c)) = (j, c) ∷ []
element_places _ = []

abbrev pub key_places : ℕ → List ListDef → List Place
key_places j [] = []
key_places j (d ∷ ds) = map (λ key. (j, key.column)) d.keys ++ key_places (suc j) ds

-- all columns that a fragment names
abbrev pub named_places : Fragment → List Place
named_places f = key_places 0 f.lists ++ (flat_map atom_places f.atoms ++ flat_map (λ a. element_places (element_of a.update)) f.accs)

abbrev pub is_of : Ty → Option Scalar → Bool
is_of tys.Long (Some (scalars.Long n)) = true
is_of tys.Bool (Some (scalars.Bool b)) = true
is_of tys.Text (Some (scalars.Text t)) = true
is_of _ _ = false

abbrev pub table_at : Database → Option ListDef → List Row
table_at db None = []
table_at db (Some d) = rows_of db d.table

-- each row of the loop's table has the column, and all its scalars are of one variant
abbrev pub ColumnFits : Fragment → Database → Place → Type 0
ColumnFits f db place = (ty : Ty) × AllByRecursion (λ r. IsTrue (is_of ty (slice_get r.cells place.1))) (table_at db (slice_get f.lists place.0))

abbrev pub comparable : Option Scalar → Option Scalar → Bool
comparable (Some (scalars.Long x)) (Some (scalars.Long y)) = true
comparable (Some (scalars.Text x)) (Some (scalars.Text y)) = true
comparable _ _ = false

abbrev pub of_one_variant : Option Scalar → Option Scalar → Bool
of_one_variant (Some x) (Some y) = same_variant x y
of_one_variant _ _ = false

abbrev pub of_variant_of_all : Option Scalar → List Scalar → Bool
of_variant_of_all (Some x) xs = list_all (same_variant x) xs
of_variant_of_all None xs = false

-- the operands of an atom fit at these rows
abbrev pub atom_fits : World → (ℕ → Row) → Atom → Bool
atom_fits w rows (atoms.Less a b) = comparable (operand_at w rows a) (operand_at w rows b)
atom_fits w rows (atoms.Same a b) = of_one_variant (operand_at w rows a) (operand_at w rows b)
atom_fits w rows (atoms.Truth a) = is_of tys.Bool (operand_at w rows a)
atom_fits w rows (atoms.Member a q) = of_variant_of_all (operand_at w rows a) (w.known q)
atom_fits w rows (atoms.Flag k loops) = true

-- rows of the lists of these places' loops
abbrev pub AreRows : World → (ℕ → Row) → List Place → Type 0
AreRows w rows places = AllByRecursion (λ place. Contains (w.lists place.0) (rows place.0)) places

-- at every choice of rows of its own lists
abbrev pub AtomFits : World → Atom → Type 0
AtomFits w a = (rows : ℕ → Row) → AreRows w rows (atom_places a) → IsTrue (atom_fits w rows a)

-- a number is added and compared
abbrev pub UpdateFits : World → Update → Type 0
UpdateFits w (updates.Plus (elems.Field j c)) = AllByRecursion (λ r. IsTrue (is_of tys.Long (slice_get r.cells c))) (w.lists j)
UpdateFits w (updates.Best way (elems.Field j c)) = AllByRecursion (λ r. IsTrue (is_of tys.Long (slice_get r.cells c))) (w.lists j)
UpdateFits w _ = Unit {0}

pub record PartsFit (f : Fragment) (db : Database) (entry : Entry) : Type 0 where
  pub tables : AllByRecursion (λ d. d.table < length db) f.lists
  pub columns : AllByRecursion (ColumnFits f db) (named_places f)
  pub tests : AllByRecursion (AtomFits (world_given f db entry)) f.atoms
  pub numbers : AllByRecursion (λ a. UpdateFits (world_given f db entry) a.update) f.accs
  pub known : length entry.known ≡ f.known
  pub values : AreOf f.entries entry.values
