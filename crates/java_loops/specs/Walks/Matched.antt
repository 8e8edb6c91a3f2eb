-- Where a store of the program, and the world and rows of a fragment, hold the same.
use Rattle.std.specs.Prelude.{◌≡◌, ℕ, Bool, List, map, Option, Some, None, Result, Ok, slice_get}
use Rattle.std.specs.List.{AllByRecursion}
use Rattle.qbs_base.specs.declared.scalar.Row.{Row}
use Rattle.qbs_base.specs.declared.scalar.Scalar.{Scalar}
use Rattle.qbs_base.specs.declared.scalar.Scalar.TheVariants as scalars
use Rattle.qbs_base.specs.declared.scalar.Ty.{Ty}
use Rattle.qbs_base.specs.declared.scalar.Value.{Value}
use Rattle.qbs_base.specs.declared.scalar.Value.TheVariants.{One, Many}
use Rattle.qbs_base.specs.Named.{at_name}
use Rattle.qbs_base.specs.Values.{HasTy, IsRowOf}
use Rattle.qbs_base.specs.Columns.{columns_at}
use Rattle.java_mean.specs.declared.ending.Ending.{Ending}
use Rattle.java_mean.specs.Endings.{◌>>=◌, found}
use Rattle.java_mean.specs.Expression.{as_row, cell, alone, element}
use Rattle.java_mean.specs.Store.{Store, Variable, plainly}
use Rattle.java_mean.specs.World as java
use Rattle.tor_terms.specs.Truth.{World}
use Rattle.kernel_lang.specs.Running.{source_scalar}
use Rattle.java_loops.specs.Walks.Numbering.{FromTable, FromVariable, Numbering, Flag, Starts, Reads, Flags}

-- the value of a variable, or of a field of it
abbrev pub entry_value : java.World → Store → List ℕ → Option (List ℕ) → Result Value Ending
entry_value w env x None = do
  held ← found (at_name env x)
  Ok held.value
entry_value w env x (Some f) = do
  v ← do
    held ← found (at_name env x)
    Ok held.value
  row ← as_row v
  y ← found (cell w.schema row f)
  Ok (One y)

-- a loop variable holds the row, which is one of the loop's table
pub record HoldsRow (n : Numbering) (j : ℕ) (row : Row) (held : Option Variable) : Type 0 where
  pub is : held ≡ Some (plainly (element row))
  pub typed : IsRowOf (n.tables j) (columns_at n.schema (n.tables j)) row

-- both are the same scalar of the type
pub record HoldsScalar (ty : Ty) (entry : Option Scalar) (value : Result Value Ending) : Type 0 where
  pub scalar : Scalar
  pub is : value ≡ Ok (One scalar)
  pub at : entry ≡ Some scalar
  pub typed : HasTy ty scalar

pub record HoldsRows (rows : List Row) (held : Option Variable) : Type 0 where
  pub is_set : Bool
  pub is : held ≡ Some (record { value = Many rows; is_set = is_set })

pub record HoldsScalars (ty : Ty) (xs : List Scalar) (held : Option Variable) : Type 0 where
  pub rows : HoldsRows (map alone xs) held
  pub typed : AllByRecursion (HasTy ty) xs

-- a truth value, or the opposite of it
abbrev pub turned_truth : Bool → Bool → Value
turned_truth opposite b = One (source_scalar opposite (scalars.Bool b))

abbrev pub HoldsFlag : World → (ℕ → Row) → Flag → Option Variable → Type 0
HoldsFlag k rows (Starts b) held = held ≡ Some (plainly (One (scalars.Bool b)))
HoldsFlag k rows (Reads number opposite loops) held = held ≡ Some (plainly (turned_truth opposite (k.flags number (map rows loops))))

-- The store has what the numbers stand for, at these rows of the loops in sight.
pub record Matches (n : Numbering) (flags : Flags) (w : java.World) (k : World) (env : Store) (rows : ℕ → Row) : Type 0 where
  pub schema : w.schema ≡ n.schema
  pub lists : (j : ℕ) → AllByRecursion (IsRowOf (n.tables j) (columns_at n.schema (n.tables j))) (k.lists j)
  pub fetched : (j : ℕ) (t : List ℕ) → n.sources j ≡ Some (FromTable t) → at_name w.db t ≡ Some (k.lists j)
  pub variables : (j : ℕ) (x : List ℕ) → n.sources j ≡ Some (FromVariable x) → HoldsRows (k.lists j) (at_name env x)
  pub loops : (x : List ℕ) (j : ℕ) → n.loops x ≡ Some j → HoldsRow n j (rows j) (at_name env x)
  pub entries : (x : List ℕ) (f : Option (List ℕ)) (e : ℕ) (ty : Ty) → n.entries x f ≡ Some e → slice_get n.entry_types e ≡ Some ty → HoldsScalar ty (k.entries e) (entry_value w env x f)
  pub known : (x : List ℕ) (q : ℕ) (ty : Ty) → n.known x ≡ Some q → slice_get n.known_types q ≡ Some ty → HoldsScalars ty (k.known q) (at_name env x)
  pub in_sight : (b : List ℕ) (flag : Flag) → flags b ≡ Some flag → HoldsFlag k rows flag (at_name env b)
