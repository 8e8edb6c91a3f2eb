-- What the chains of a lowered fragment take as known of its numbers: that the conditions of its `if`s have their
-- formulas, and which names have a number.
use Rattle.std.specs.Prelude.{◌≡◌, ℕ, Bool, true, false, List, [], ◌∷◌, map, slice_get, Option, Some, None}
use Rattle.std.specs.List.{AllByRecursion}
use Rattle.qbs_base.specs.declared.span.Span.{Span}
use Rattle.qbs_base.specs.declared.scalar.Ty.{Ty}
use Rattle.java_ast.specs.Tree as tree
use Rattle.java_ast.specs.Tree.{Spelled, Expression, Statement, Statements}
use Rattle.java_mean.specs.declared.types.JavaType.{JavaType}
use Rattle.java_mean.specs.declared.types.JavaType.TheVariants.{Of}
use Rattle.java_mean.specs.declared.types.Single.{Single}
use Rattle.java_mean.specs.declared.types.Single.TheVariants.{ScalarOf, RowOf}
use Rattle.java_mean.specs.Types.{Types}
use Rattle.java_mean.specs.Typing.{Frame, Has, HasType, bool}
use Rattle.tor_terms.specs.declared.term.Elem.TheVariants as elems
use Rattle.tor_terms.specs.declared.term.Operand.TheVariants as operands
use Rattle.tor_terms.specs.declared.term.Way.{Way}
use Rattle.tor_terms.specs.Plain.{Form}
use Rattle.java_loops.specs.Walks.Chains.{IsList}
use Rattle.java_loops.specs.Walks.Effects.{all_set}
use Rattle.java_loops.specs.Walks.Forms.{IsOperand, IsElement, IsForm, IsBest}
use Rattle.java_loops.specs.Walks.Numbering.{Numbering, Reads, Flags, with_loops, IsApart}
use Rattle.loop_text.specs.Kernel.KernelConditions.{condition_of, leaves, is_excepted, may_read}
use Rattle.loop_text.specs.Kernel.KernelForms.{Found, takes, form_of, mentioning, best_claims, way_found}
use Rattle.java_loops.specs.Lowering.Lowered.{found_form}
use Rattle.java_loops.specs.Lowering.Numbering.{Numbers, loop_number, table_of_loop, column_of, form_of_condition, flag_number, starts_true}
use Rattle.java_loops.specs.Kernel.Setting.{Setting}
use Rattle.loop_text.specs.declared.sites.bindings.Binding.TheVariants.{Row, Local, Outer}
use Rattle.loop_text.specs.Sites.Sites.{Test, Site, binding_at, target_of, RowColumn, kernel_body, row_at, row_column_at}
use Rattle.java_loops.proofs.Numbers.Numberings.{Sighted}

-- ---- Names in sight

-- The loops in sight at the site with this number, where these types are visible: each visible row of a loop has the number
-- of the loop and is a row of its table, and what is visible at the whole loop is visible here, with its type.
pub record InSight (w : Setting) (n : ℕ) (g : Types) (loops : List ℕ → Option ℕ) : Type 0 where
  pub rows : (x : List ℕ) (k : JavaType) (j : ℕ) → g x ≡ Some k → binding_at w.sites n x ≡ Row j → loops x ≡ Some (loop_number w.sites j)
  pub hidden : (x : List ℕ) → g x ≡ None → loops x ≡ None
  pub outer : (x : List ℕ) (k : JavaType) → w.types x ≡ Some k → g x ≡ Some k
  pub tables : (x : List ℕ) (k : JavaType) (j : ℕ) (s : Site) → g x ≡ Some k → binding_at w.sites n x ≡ Row j → slice_get w.sites j ≡ Some s → k ≡ Of (RowOf (table_of_loop w.schema s.statement))
  pub types : (x : List ℕ) (k : JavaType) → g x ≡ Some k → binding_at w.sites n x ≡ Outer → w.types x ≡ Some k
  pub sighted : Sighted w n g loops

-- each visible flag that the `if` with this number may read is read as its accumulator
pub record FlagsRead (w : Setting) (n : ℕ) (g : Types) (flags : Flags) : Type 0 where
  pub by : (x : List ℕ) (k : JavaType) (d : ℕ) (s : Site) → g x ≡ Some k → binding_at w.sites n x ≡ Local d → slice_get w.sites d ≡ Some s → may_read w.sites n d ≡ true → flags x ≡ Some (Reads (flag_number w d) (starts_true s.statement) (map (loop_number w.sites) s.round.loops))

-- ---- Formulas

-- a condition without a leaf that is the conjunct of a best value
abbrev pub IsPlain : List Site → ℕ → Expression → Type 0
IsPlain sites n e = AllByRecursion (λ (l : Expression). is_excepted sites n l ≡ false) (leaves e)

-- a condition with this truth value has a formula, which is one of the fragment
pub record HasForm (w : Setting) (t : Numbers) (N : Numbering) (flags : Flags) (n : ℕ) (holds : Bool) (e : Expression) : Type 0 where
  pub form : Form
  pub is : form_of_condition w t n holds e ≡ Some form
  pub means : IsForm t.atoms N flags holds e form

abbrev pub tested : ℕ → ℕ → Expression → Bool → Test
tested n level e holds = record { number = n; level = level; condition = e; holds = holds }

-- The conditions of `if`s have their formulas, and so has what is left of the condition of a best value: the update with the
-- number j takes the column, and the one conjunct that mentions its variable is of this `if`, and compares it in this way.
pub record HasForms (w : Setting) (c : Frame) (N : Numbering) (t : Numbers) : Type 0 where
  pub plain :
      (n : ℕ) (s : Site) (e : Expression) (holds : Bool) (g : Types) (loops : List ℕ → Option ℕ) (flags : Flags)
      → slice_get w.sites n ≡ Some s → condition_of s.statement ≡ Some e → HasType c g e bool → InSight w n g loops → FlagsRead w n g flags
      → IsPlain w.sites n e
      → HasForm w t (with_loops loops N) flags n holds e
  pub best :
      (n level : ℕ) (s : Site) (e : Expression) (holds : Bool) (g : Types) (loops : List ℕ → Option ℕ) (flags : Flags) (m : List ℕ) (column : RowColumn) (f : Found) (way : Way) (j : ℕ) (update : Site)
      → slice_get w.sites n ≡ Some s → condition_of s.statement ≡ Some e → HasType c g e bool → InSight w n g loops → FlagsRead w n g flags
      → slice_get w.sites j ≡ Some update → target_of update.statement ≡ Some m → form_of w.sites j update.statement ≡ takes column → best_claims m update.round ≡ f ∷ [] → f.number ≡ n
      → mentioning m (tested n level e holds) ≡ f ∷ [] → way_found w.sites m column f ≡ Some way
      → IsBest t.atoms (with_loops loops N) flags m way (loop_number w.sites column.loop) (column_of w column) holds e (found_form (form_of_condition w t n holds e))

-- ---- Numbers

-- a column of the row of a loop, and that row, are what they are among the numbers
pub record HasElements (w : Setting) (c : Frame) (N : Numbering) : Type 0 where
  pub column :
      (n : ℕ) (s : Site) (e : Expression) (ty : Ty) (g : Types) (loops : List ℕ → Option ℕ) (k : RowColumn)
      → slice_get w.sites n ≡ Some s → HasType c g e (Of (ScalarOf ty)) → InSight w n g loops → row_column_at w.sites n e ≡ Some k
      → IsOperand (with_loops loops N) e (operands.Field (loop_number w.sites k.loop) (column_of w k)) ty
  pub row :
      (n : ℕ) (s : Site) (e : Expression) (k : JavaType) (g : Types) (loops : List ℕ → Option ℕ) (j : ℕ)
      → slice_get w.sites n ≡ Some s → HasType c g e k → InSight w n g loops → row_at w.sites n e ≡ Some j
      → IsElement (with_loops loops N) e (elems.Whole (loop_number w.sites j))

-- The numbers outside of the loop: no loop is in sight, what isn't visible at the loop and what the loop sets has no number,
-- and the list of each loop is that of its number.
pub record HasNumbers (w : Setting) (N : Numbering) : Type 0 where
  pub loops : (x : List ℕ) → N.loops x ≡ None
  pub new : (x : List ℕ) → w.types x ≡ None → IsApart N x
  pub updated : (x : List ℕ) → all_set (kernel_body w.fragment.loop) x ≡ true → IsApart N x
  pub lists : (n : ℕ) (s : Site) (at : Span) (ty : Spelled) (x : List ℕ) (e : Expression) (b : Statements) (loops : List ℕ → Option ℕ) → slice_get w.sites n ≡ Some s → s.statement ≡ tree.ForEach at ty x e b → IsList (with_loops loops N) e (loop_number w.sites n)

-- the list of a for-each has rows of the table that the loop is spelled with
pub record HasRows (w : Setting) (c : Frame) : Type 0 where
  pub by : (n : ℕ) (s : Site) (at : Span) (ty : Spelled) (x : List ℕ) (e : Expression) (b : Statements) (g : Types) (k : JavaType) (a : Single) → slice_get w.sites n ≡ Some s → s.statement ≡ tree.ForEach at ty x e b → ((y : List ℕ) (z : JavaType) → w.types y ≡ Some z → g y ≡ Some z) → HasType c g e k → Has k a → a ≡ RowOf (table_of_loop w.schema s.statement)
