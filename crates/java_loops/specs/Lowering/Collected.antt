-- The accumulators of a lowered fragment by the variables that they are for, and the types of what their updates collect.
use Rattle.std.specs.Prelude.{◌≡◌, ℕ, ◌<◌, ◌≤◌, List, length, slice_get}
use Rattle.std.specs.declared.option.Option.{Option}
use Rattle.std.specs.declared.option.Option.TheVariants.{Some, None}
use Rattle.qbs_base.specs.declared.scalar.Ty.{Ty}
use Rattle.qbs_base.specs.declared.scalar.Ty.TheVariants as tys
use Rattle.qbs_base.specs.Values.{Schema}
use Rattle.java_mean.specs.declared.types.JavaType.{JavaType}
use Rattle.java_mean.specs.declared.types.JavaType.TheVariants.{Of, Listed, Distinct}
use Rattle.java_mean.specs.declared.types.Single.{Single}
use Rattle.java_mean.specs.declared.types.Single.TheVariants.{ScalarOf, RowOf}
use Rattle.java_mean.specs.Types.{made_of}
use Rattle.kernel_lang.specs.declared.parts.ListDef.{ListDef}
use Rattle.kernel_lang.specs.declared.parts.Update.{Update}
use Rattle.kernel_lang.specs.declared.parts.Update.TheVariants as updates
use Rattle.kernel_lang.specs.Plain.{Accumulator}
use Rattle.kernel_lang.specs.Plain as kernel
use Rattle.kernel_lang.specs.Typed.{place_type}
use Rattle.tor_terms.specs.declared.term.Elem.{Elem}
use Rattle.tor_terms.specs.declared.term.Elem.TheVariants as elems
use Rattle.java_loops.specs.Kernel.Kernel.{lowering}
use Rattle.java_loops.specs.Kernel.Setting.{Setting}
use Rattle.java_loops.specs.Lowering.Lowered.{needed_in_order}

-- ---- Types

abbrev pub row_of_list : Option ListDef → Option Single
row_of_list (Some d) = Some (RowOf d.table)
row_of_list None = None

abbrev pub scalar_in_column : Option Ty → Option Single
scalar_in_column (Some ty) = Some (ScalarOf ty)
scalar_in_column None = None

-- the type of an element: a row of its list's table, or what is in a column of it
abbrev pub element_type : Schema → kernel.Fragment → Elem → Option Single
element_type schema f (elems.Whole j) = row_of_list (slice_get f.lists j)
element_type schema f (elems.Field j c) = scalar_in_column (place_type schema f (j, c))

-- the type of what an update collects
abbrev pub collected_type : Schema → kernel.Fragment → Update → Option JavaType
collected_type schema f (updates.Push e) = made_of Listed (element_type schema f e)
collected_type schema f (updates.PushNew e) = made_of Distinct (element_type schema f e)
collected_type schema f updates.Mark = Some (Of (ScalarOf tys.Bool))
collected_type schema f _ = Some (Of (ScalarOf tys.Long))

-- ---- Accumulators

-- The accumulator with a number is for this variable: it stands outside of all loops, and collects what the variable may hold.
pub record IsForNeeded (w : Setting) (k : ℕ) (x : List ℕ) : Type 0 where
  pub accumulator : Accumulator
  pub there : slice_get (lowering w).fragment.accs k ≡ Some accumulator
  pub outer : accumulator.base ≡ 0
  pub type : JavaType
  pub visible : w.types x ≡ Some type
  pub collects : collected_type w.schema (lowering w).fragment accumulator.update ≡ Some type

-- The accumulators are those of the needed variables, in the order of the statements that start them, and behind them flags,
-- which stand in loops. Each has a name.
pub record AreForNeeded (w : Setting) : Type 0 where
  pub needed : (k : ℕ) (x : List ℕ) → slice_get (needed_in_order w) k ≡ Some x → IsForNeeded w k x
  pub further : (k : ℕ) (a : Accumulator) → length (needed_in_order w) ≤ k → slice_get (lowering w).fragment.accs k ≡ Some a → 0 < a.base
  pub many : length (lowering w).names ≡ length (lowering w).fragment.accs
