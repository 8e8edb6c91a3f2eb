-- What entry values are: variables from outside of the loop and fields of such, which the loop doesn't update.
use Rattle.std.proofs.Common.{◌≡◌, ℕ, suc, ◌+◌, true, false, not, List, [], ◌∷◌, Option, Some, None, refl, subst, slice_get, arith}
use Rattle.std.specs.List.{AllByRecursion}
use Rattle.std.proofs.lemmas.Bool.{and_parts}
use Rattle.qbs_base.specs.declared.scalar.Ty.{Ty}
use Rattle.qbs_base.specs.declared.span.Span.{Span}
use Rattle.sql_ast.proofs.Tools.{all_joined}
use Rattle.java_ast.specs.Tree as tree
use Rattle.java_ast.specs.Tree.{Expression}
use Rattle.java_mean.specs.declared.types.JavaType.{JavaType}
use Rattle.java_mean.specs.declared.types.JavaType.TheVariants.{Of, Listed, Distinct}
use Rattle.java_mean.specs.declared.types.Single.TheVariants.{ScalarOf, RowOf}
use Rattle.java_loops.specs.Kernel.KernelConditions.{is_entry, is_entry_row, is_row_type, is_scalar_type, is_steady}
use Rattle.loop_text.specs.Kernel.KernelConditions.{is_outer, condition_of}
use Rattle.java_ast.specs.Names.{is_among, updated_in}
use Rattle.java_loops.specs.Lowering.Numbering.{Leaf, leaves_of, leaves_from, all_leaves}
use Rattle.java_loops.specs.Kernel.Setting.{Setting}
use Rattle.loop_text.specs.Sites.Sites.{Site, binding_at}
use Rattle.java_loops.proofs.Nested.NestRules.{false_from_not}

-- ---- Entry values

-- a scalar variable, or a field of a row variable, from outside of the loop, which doesn't update it
pub data IsEntryFrom (w : Setting) : Expression → Type 0 where
  from_variable : (at : Span) (x : List ℕ) (ty : Ty) → w.types x ≡ Some (Of (ScalarOf ty)) → is_among (updated_in w.fragment.loop) x ≡ false → IsEntryFrom w (tree.Var at x)
  from_field : (at at' : Span) (x f : List ℕ) (table : ℕ) → w.types x ≡ Some (Of (RowOf table)) → is_among (updated_in w.fragment.loop) x ≡ false → IsEntryFrom w (tree.Field at (tree.Var at' x) f)

record IsScalar (o : Option JavaType) : Type 0 where
  ty : Ty
  is : o ≡ Some (Of (ScalarOf ty))

scalar_found : (o : Option JavaType) → is_scalar_type o ≡ true → IsScalar o
scalar_found (Some (Of (ScalarOf ty))) h = record { ty = ty; is = refl }
scalar_found (Some (Of (RowOf n))) h = absurd cc
scalar_found (Some (Listed a)) h = absurd cc
scalar_found (Some (Distinct a)) h = absurd cc
scalar_found None h = absurd cc

record IsRowType (o : Option JavaType) : Type 0 where
  table : ℕ
  is : o ≡ Some (Of (RowOf table))

row_found : (o : Option JavaType) → is_row_type o ≡ true → IsRowType o
row_found (Some (Of (RowOf n))) h = record { table = n; is = refl }
row_found (Some (Of (ScalarOf ty))) h = absurd cc
row_found (Some (Listed a)) h = absurd cc
row_found (Some (Distinct a)) h = absurd cc
row_found None h = absurd cc

not_updated : (w : Setting) (n : ℕ) (x : List ℕ) → is_steady w n x ≡ true → is_among (updated_in w.fragment.loop) x ≡ false
not_updated w n x h = false_from_not (is_among (updated_in w.fragment.loop) x) (and_parts (is_outer (binding_at w.sites n x)) (not (is_among (updated_in w.fragment.loop) x)) h).1

field_from : (w : Setting) (n : ℕ) (at : Span) (e : Expression) (f : List ℕ) → is_entry_row w n e ≡ true → IsEntryFrom w (tree.Field at e f)
field_from w n at (tree.Var at' x) f h =
    let two = and_parts (is_row_type (w.types x)) (is_steady w n x) h in
    let r : IsRowType (w.types x) = row_found (w.types x) two.0 in
    from_field at at' x f r.table r.is (not_updated w n x two.1)
field_from w n at (tree.Lit at' v) f h = absurd cc
field_from w n at (tree.Field at' a name) f h = absurd cc
field_from w n at (tree.Binary at' op p q) f h = absurd cc
field_from w n at (tree.Not at' a) f h = absurd cc
field_from w n at (tree.Equals at' p q) f h = absurd cc
field_from w n at (tree.Size at' y) f h = absurd cc
field_from w n at (tree.Get at' y a) f h = absurd cc
field_from w n at (tree.Contains at' y a) f h = absurd cc
field_from w n at (tree.Fetch at' t) f h = absurd cc
field_from w n at (tree.Query at' ty text es) f h = absurd cc
field_from w n at (tree.QueryLong at' text es) f h = absurd cc
field_from w n at (tree.QueryBoolean at' text es) f h = absurd cc
field_from w n at (tree.NewList at') f h = absurd cc
field_from w n at (tree.NewSet at') f h = absurd cc
field_from w n at (tree.NewSetOf at' a) f h = absurd cc

pub entry_from : (w : Setting) (n : ℕ) (e : Expression) → is_entry w n e ≡ true → IsEntryFrom w e
entry_from w n (tree.Var at x) h =
    let two = and_parts (is_scalar_type (w.types x)) (is_steady w n x) h in
    let r : IsScalar (w.types x) = scalar_found (w.types x) two.0 in
    from_variable at x r.ty r.is (not_updated w n x two.1)
entry_from w n (tree.Field at e f) h = field_from w n at e f h
entry_from w n (tree.Lit at v) h = absurd cc
entry_from w n (tree.Binary at op p q) h = absurd cc
entry_from w n (tree.Not at a) h = absurd cc
entry_from w n (tree.Equals at p q) h = absurd cc
entry_from w n (tree.Size at y) h = absurd cc
entry_from w n (tree.Get at y a) h = absurd cc
entry_from w n (tree.Contains at y a) h = absurd cc
entry_from w n (tree.Fetch at t) h = absurd cc
entry_from w n (tree.Query at ty text es) h = absurd cc
entry_from w n (tree.QueryLong at text es) h = absurd cc
entry_from w n (tree.QueryBoolean at text es) h = absurd cc
entry_from w n (tree.NewList at) h = absurd cc
entry_from w n (tree.NewSet at) h = absurd cc
entry_from w n (tree.NewSetOf at a) h = absurd cc

-- ---- Leaves

-- what holds of the leaves of each site holds of all
pub leaves_from_all : (P : Leaf → Type 0) (sites : List Site) (k : ℕ) (ss : List Site) → ((o j : ℕ) (s : Site) → k + o ≡ j → slice_get ss o ≡ Some s → AllByRecursion P (leaves_of sites j (condition_of s.statement))) → AllByRecursion P (leaves_from sites k ss)
leaves_from_all P sites k [] h = tt
leaves_from_all P sites k (s ∷ ss) h = all_joined P (leaves_of sites k (condition_of s.statement)) (leaves_from sites (suc k) ss) (h 0 k s (omega arith) refl) (leaves_from_all P sites (suc k) ss (λ o j t e q. h (suc o) j t (omega arith) q))

pub all_leaves_by : (P : Leaf → Type 0) (sites : List Site) → ((j : ℕ) (s : Site) → slice_get sites j ≡ Some s → AllByRecursion P (leaves_of sites j (condition_of s.statement))) → AllByRecursion P (all_leaves sites)
all_leaves_by P sites h = leaves_from_all P sites 0 sites (λ o j s e q. h j s (subst (λ k. slice_get sites k ≡ Some s) (from_zero o j e) q))
  where
    from_zero : (o j : ℕ) → 0 + o ≡ j → o ≡ j
    from_zero o j e = omega arith
