-- What a leaf of a condition is: a comparison, a field, a flag or a membership, of what is visible there.
use Rattle.std.proofs.Common.{◌≡◌, ℕ, Bool, true, false, not, ◌&&◌, ◌||◌, List, Option, Some, None, refl, sym, ap, ◌∙◌, subst, cond, slice_get}
use Rattle.std.proofs.lemmas.Bool.{and_parts}
use Rattle.qbs_base.specs.declared.span.Span.{Span}
use Rattle.qbs_base.specs.declared.columns.Column.{Column}
use Rattle.qbs_base.specs.declared.scalar.Ty.{Ty}
use Rattle.qbs_base.specs.declared.scalar.Ty.TheVariants as tys
use Rattle.qbs_base.specs.Columns.{column_number, columns_at}
use Rattle.java_ast.specs.declared.tree.Op.{Op}
use Rattle.java_ast.specs.Tree as tree
use Rattle.java_ast.specs.Tree.{Expression}
use Rattle.java_mean.specs.Rules.{at_of}
use Rattle.java_mean.specs.declared.types.JavaType.{JavaType}
use Rattle.java_mean.specs.declared.types.JavaType.TheVariants.{Of}
use Rattle.java_mean.specs.declared.types.Single.TheVariants.{ScalarOf, RowOf}
use Rattle.java_mean.specs.Types.{Types}
use Rattle.java_mean.specs.Typing as typing
use Rattle.java_mean.specs.Typing.{Frame, Has, HasType, Takes, bool}
use Rattle.java_loops.specs.Kernel.KernelConditions.{is_operand, broken_leaf, broken_comparison, broken_operand, is_known}
use Rattle.loop_text.specs.Kernel.KernelConditions.{is_row_column, is_compared, reads_flag, may_read}
use Rattle.java_loops.specs.Kernel.Setting.{Setting}
use Rattle.loop_text.specs.Statements.Setting.{is_found}
use Rattle.loop_text.specs.declared.sites.bindings.Binding.{Binding}
use Rattle.loop_text.specs.declared.sites.bindings.Binding.TheVariants.{Row, Local, Outer}
use Rattle.loop_text.specs.Sites.Sites.{Site, Round, RowColumn, binding_at, row_bound, row_at, column_of_row, row_column_at, place_where}
use Rattle.java_loops.proofs.Nested.NestRules.{true_from_not}
use Rattle.java_loops.proofs.Standing.StandingRules.{first_none, none_where}
use Rattle.java_loops.proofs.Valid.ValidScope.{Walked, Declared, IsBound}
use Rattle.java_loops.proofs.Valid.ValidVisits.{Visited}

-- ---- Columns of rows

-- a column of the row of a loop round a place, and the type that it has
pub record RowSeen (P : ℕ → JavaType → Type 0) (c : Frame) (sites : List Site) (r : Round) (q : RowColumn) (k : JavaType) : Type 0 where
  pub walked : Walked sites r q.loop
  pub table : ℕ
  pub rows : P q.loop (Of (RowOf table))
  pub number : ℕ
  pub column : Column
  pub found : column_number (columns_at c.schema table) q.column ≡ Some number
  pub there : slice_get (columns_at c.schema table) number ≡ Some column
  pub type : k ≡ Of (ScalarOf column.ty)

row_here : (P : ℕ → JavaType → Type 0) (g : Types) (sites : List Site) (r : Round) (x : List ℕ) (k : JavaType) (b : Binding) (j : ℕ) → IsBound P g sites r x k b → row_bound b ≡ Some j → Walked sites r j × P j k
row_here P g sites r x k (Row i) j h e = let same : i ≡ j = cc in subst (λ z. Walked sites r z × P z k) same h
row_here P g sites r x k (Local d) j h e = absurd cc
row_here P g sites r x k Outer j h e = absurd cc

-- the row of a loop
pub row_seen : (P : ℕ → JavaType → Type 0) (c : Frame) (g : Types) (sites : List Site) (n : ℕ) (v : Visited P c g sites n) (e : Expression) (k : JavaType) (j : ℕ) → HasType c v.now e k → row_at sites n e ≡ Some j → Walked sites v.site.round j × P j k
row_seen P c g sites n v _ _ j (typing.var at x k h) e = row_here P g sites v.site.round x k (binding_at sites n x) j (v.scope.bound x k h) e
row_seen P c g sites n v _ _ j (typing.lit at x ty h) e = absurd cc
row_seen P c g sites n v _ _ j (typing.field at q f m i column t h u) e = absurd cc
row_seen P c g sites n v _ _ j (typing.binary at op a b from to takes t u) e = absurd cc
row_seen P c g sites n v _ _ j (typing.negated at q t) e = absurd cc
row_seen P c g sites n v _ _ j (typing.equals at a b t u) e = absurd cc
row_seen P c g sites n v _ _ j (typing.size at x k a h has) e = absurd cc
row_seen P c g sites n v _ _ j (typing.get at x q a h t) e = absurd cc
row_seen P c g sites n v _ _ j (typing.contains at x q k ty h has t) e = absurd cc
row_seen P c g sites n v _ _ j (typing.fetch at t m h) e = absurd cc
row_seen P c g sites n v _ _ j (typing.query at ty text es q h t) e = absurd cc
row_seen P c g sites n v _ _ j (typing.query_long at text es q h t) e = absurd cc
row_seen P c g sites n v _ _ j (typing.query_boolean at text es q h t) e = absurd cc
row_seen P c g sites n v _ _ j (typing.new_list at a) e = absurd cc
row_seen P c g sites n v _ _ j (typing.new_set at a) e = absurd cc
row_seen P c g sites n v _ _ j (typing.new_set_of at q a t) e = absurd cc

some_column : (a b : RowColumn) → Some a ≡ Some b → a ≡ b
some_column a b e = cc

column_here : (f : List ℕ) (o : Option ℕ) (q : RowColumn) → column_of_row f o ≡ Some q → (o ≡ Some q.loop) × (f ≡ q.column)
column_here f None q e = absurd cc
column_here f (Some j) q e = let same = some_column (record { loop = j; column = f }) q e in (ap (λ (z : RowColumn). Some z.loop) same, ap (λ (z : RowColumn). z.column) same)

-- a column of a loop's row
pub column_seen : (P : ℕ → JavaType → Type 0) (c : Frame) (g : Types) (sites : List Site) (n : ℕ) (v : Visited P c g sites n) (e : Expression) (k : JavaType) (q : RowColumn) → HasType c v.now e k → row_column_at sites n e ≡ Some q → RowSeen P c sites v.site.round q k
column_seen P c g sites n v _ _ q (typing.field at e f m i column t h u) is =
    let p = column_here f (row_at sites n e) q is in
    let s = row_seen P c g sites n v e (Of (RowOf m)) q.loop t p.0 in
    record { walked = s.0; table = m; rows = s.1; number = i; column = column; found = ap (column_number (columns_at c.schema m)) (sym p.1) ∙ h; there = u; type = refl }
column_seen P c g sites n v _ _ j (typing.var at x k h) e = absurd cc
column_seen P c g sites n v _ _ j (typing.lit at x ty h) e = absurd cc
column_seen P c g sites n v _ _ j (typing.binary at op a b from to takes t u) e = absurd cc
column_seen P c g sites n v _ _ j (typing.negated at q t) e = absurd cc
column_seen P c g sites n v _ _ j (typing.equals at a b t u) e = absurd cc
column_seen P c g sites n v _ _ j (typing.size at x k a h has) e = absurd cc
column_seen P c g sites n v _ _ j (typing.get at x q a h t) e = absurd cc
column_seen P c g sites n v _ _ j (typing.contains at x q k ty h has t) e = absurd cc
column_seen P c g sites n v _ _ j (typing.fetch at t m h) e = absurd cc
column_seen P c g sites n v _ _ j (typing.query at ty text es q h t) e = absurd cc
column_seen P c g sites n v _ _ j (typing.query_long at text es q h t) e = absurd cc
column_seen P c g sites n v _ _ j (typing.query_boolean at text es q h t) e = absurd cc
column_seen P c g sites n v _ _ j (typing.new_list at a) e = absurd cc
column_seen P c g sites n v _ _ j (typing.new_set at a) e = absurd cc
column_seen P c g sites n v _ _ j (typing.new_set_of at q a t) e = absurd cc

-- ---- Leaves

-- both operands may be compared
pub record Compared (w : Setting) (c : Frame) (g : Types) (n : ℕ) (a b : Expression) (ty : Ty) : Type 0 where
  pub first : HasType c g a (Of (ScalarOf ty))
  pub second : HasType c g b (Of (ScalarOf ty))
  pub first_is : is_operand w n a ≡ true
  pub second_is : is_operand w n b ≡ true
  pub field : (is_row_column w.sites n a || is_row_column w.sites n b) ≡ true

-- what a leaf of the `if` with this number is
pub data Shape (w : Setting) (c : Frame) (g : Types) (n : ℕ) : Expression → Type 0 where
  compares : (at : Span) (op : Op) (a b : Expression) (ty to : Ty) → Takes op ty to → is_compared op ≡ true → Compared w c g n a b ty → Shape w c g n (tree.Binary at op a b)
  equals : (at : Span) (a b : Expression) → Compared w c g n a b tys.Text → Shape w c g n (tree.Equals at a b)
  tests : (at : Span) (e : Expression) (f : List ℕ) → HasType c g (tree.Field at e f) bool → is_row_column w.sites n (tree.Field at e f) ≡ true → Shape w c g n (tree.Field at e f)
  reads : (at : Span) (x : List ℕ) (k : JavaType) → g x ≡ Some k → reads_flag w.sites n (binding_at w.sites n x) ≡ true → Shape w c g n (tree.Var at x)
  finds : (at : Span) (x : List ℕ) (e : Expression) (k : JavaType) (ty : Ty) → g x ≡ Some k → Has k (ScalarOf ty) → HasType c g e (Of (ScalarOf ty)) → is_row_column w.sites n e ≡ true → is_known w n x ≡ true → Shape w c g n (tree.Contains at x e)

compared_rightly : (w : Setting) (c : Frame) (g : Types) (n : ℕ) (at : Span) (a b : Expression) (ty : Ty) → HasType c g a (Of (ScalarOf ty)) → HasType c g b (Of (ScalarOf ty)) → broken_comparison w n at a b ≡ None → Compared w c g n a b ty
compared_rightly w c g n at a b ty t u h =
    let p = first_none (broken_operand w n a) _ h in
    let q = first_none (broken_operand w n b) (place_where (not (is_row_column w.sites n a || is_row_column w.sites n b)) at) p.1 in
    record {
      first = t;
      second = u;
      first_is = true_from_not (is_operand w n a) (none_where (not (is_operand w n a)) (at_of a) p.0);
      second_is = true_from_not (is_operand w n b) (none_where (not (is_operand w n b)) (at_of b) q.0);
      field = true_from_not (is_row_column w.sites n a || is_row_column w.sites n b) (none_where (not (is_row_column w.sites n a || is_row_column w.sites n b)) at q.1);
    }

shape_compared : (w : Setting) (c : Frame) (g : Types) (n : ℕ) (at : Span) (op : Op) (a b : Expression) (from to : Ty) (q : Bool) → Takes op from to → HasType c g a (Of (ScalarOf from)) → HasType c g b (Of (ScalarOf from)) → is_compared op ≡ q → cond q (broken_comparison w n at a b) (Some at) ≡ None → Shape w c g n (tree.Binary at op a b)
shape_compared w c g n at op a b from to true takes t u is h = compares at op a b from to takes is (compared_rightly w c g n at a b from t u h)
shape_compared w c g n at op a b from to false takes t u is h = absurd cc

pub shape : (w : Setting) (c : Frame) (g : Types) (n : ℕ) (e : Expression) (k : JavaType) → HasType c g e k → k ≡ bool → broken_leaf w n e ≡ None → Shape w c g n e
shape w c g n _ _ (typing.binary at op a b from to takes t u) same h = shape_compared w c g n at op a b from to (is_compared op) takes t u refl h
shape w c g n _ _ (typing.equals at a b t u) same h = equals at a b (compared_rightly w c g n at a b tys.Text t u h)
shape w c g n _ _ (typing.field at e f m i column t p u) same h =
    tests at e f (subst (λ j. HasType c g (tree.Field at e f) j) same (typing.field at e f m i column t p u)) (true_from_not (is_row_column w.sites n (tree.Field at e f)) (none_where (not (is_row_column w.sites n (tree.Field at e f))) at h))
shape w c g n _ _ (typing.var at x k p) same h = reads at x k p (true_from_not (reads_flag w.sites n (binding_at w.sites n x)) (none_where (not (reads_flag w.sites n (binding_at w.sites n x))) at h))
shape w c g n _ _ (typing.contains at x e k ty p has t) same h =
    let q = and_parts (is_row_column w.sites n e) (is_known w n x) (true_from_not (is_row_column w.sites n e && is_known w n x) (none_where (not (is_row_column w.sites n e && is_known w n x)) at h)) in
    finds at x e k ty p has t q.0 q.1
shape w c g n _ _ (typing.lit at x ty p) same h = absurd cc
shape w c g n _ _ (typing.negated at q t) same h = absurd cc
shape w c g n _ _ (typing.size at x k a p has) same h = absurd cc
shape w c g n _ _ (typing.get at x q a p t) same h = absurd cc
shape w c g n _ _ (typing.fetch at t m p) same h = absurd cc
shape w c g n _ _ (typing.query at ty text es q p t) same h = absurd cc
shape w c g n _ _ (typing.query_long at text es q p t) same h = absurd cc
shape w c g n _ _ (typing.query_boolean at text es q p t) same h = absurd cc
shape w c g n _ _ (typing.new_list at a) same h = absurd cc
shape w c g n _ _ (typing.new_set at a) same h = absurd cc
shape w c g n _ _ (typing.new_set_of at q a t) same h = absurd cc

-- ---- What is found

pub record ColumnAt (sites : List Site) (n : ℕ) (e : Expression) : Type 0 where
  pub column : RowColumn
  pub is : row_column_at sites n e ≡ Some column

column_found : (sites : List Site) (n : ℕ) (e : Expression) (o : Option RowColumn) → row_column_at sites n e ≡ o → is_found o ≡ true → ColumnAt sites n e
column_found sites n e None is h = absurd cc
column_found sites n e (Some q) is h = record { column = q; is = is }

pub column_at : (sites : List Site) (n : ℕ) (e : Expression) → is_row_column sites n e ≡ true → ColumnAt sites n e
column_at sites n e h = column_found sites n e (row_column_at sites n e) refl h

-- the flag that a name is bound to
pub record FlagAt (sites : List Site) (r : Round) (n : ℕ) (x : List ℕ) : Type 0 where
  pub number : ℕ
  pub bound : binding_at sites n x ≡ Local number
  pub declared : Declared sites r number x
  pub read : may_read sites n number ≡ true

flag_bound : (P : ℕ → JavaType → Type 0) (g : Types) (sites : List Site) (r : Round) (n : ℕ) (x : List ℕ) (k : JavaType) (b : Binding) → binding_at sites n x ≡ b → IsBound P g sites r x k b → reads_flag sites n b ≡ true → FlagAt sites r n x
flag_bound P g sites r n x k (Row j) is h e = absurd cc
flag_bound P g sites r n x k (Local d) is h e = record { number = d; bound = is; declared = h; read = e }
flag_bound P g sites r n x k Outer is h e = absurd cc

pub flag_at : (P : ℕ → JavaType → Type 0) (c : Frame) (g : Types) (sites : List Site) (n : ℕ) (v : Visited P c g sites n) (x : List ℕ) (k : JavaType) → v.now x ≡ Some k → reads_flag sites n (binding_at sites n x) ≡ true → FlagAt sites v.site.round n x
flag_at P c g sites n v x k h e = flag_bound P g sites v.site.round n x k (binding_at sites n x) refl (v.scope.bound x k h) e
