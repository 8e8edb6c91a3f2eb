-- What conditions of a nest read: the leaves of the rule read rows, flags behind their loops and what the loop leaves.
use Rattle.std.proofs.Common.{◌≡◌, ℕ, suc, Bool, true, false, not, ◌&&◌, ◌||◌, List, [], ◌∷◌, length, Option, Some, None, refl, sym, ap, ◌∙◌, cond, slice_get, arith, ⊎_elim, nat_lt}
use Rattle.std.proofs.lemmas.Bool.{or_cases, and_parts}
use Rattle.qbs_base.specs.declared.span.Span.{Span}
use Rattle.java_ast.specs.declared.tree.Op.{Op}
use Rattle.java_ast.specs.Tree as tree
use Rattle.java_ast.specs.Tree.{Spelled, Expression, Expressions, Statement, Statements}
use Rattle.java_mean.specs.declared.types.JavaType.{JavaType}
use Rattle.java_mean.specs.declared.types.JavaType.TheVariants.{Of}
use Rattle.java_mean.specs.declared.types.Single.{Single}
use Rattle.java_mean.specs.declared.types.Single.TheVariants.{ScalarOf, RowOf}
use Rattle.java_mean.specs.Rules.{at_of}
use Rattle.java_mean.specs.Types.{Types}
use Rattle.java_mean.specs.Typing.{Frame, Has, HasType, var, field, binary, negated, equals, contains}
use Rattle.java_loops.specs.Walks.Reads.{Set, Reads}
use Rattle.tor_terms.specs.Same.{same_numbers}
use Rattle.java_loops.specs.Kernel.KernelConditions.{is_scalar_type, is_row_type, is_steady, is_entry_row, is_entry, is_operand, broken_operand, broken_comparison, is_known, broken_leaf}
use Rattle.loop_text.specs.Kernel.KernelConditions.{is_outer, is_literal, is_row_column, reads_flag, updates_flag_under, is_in_its_loops, is_compared}
use Rattle.loop_text.specs.Kernel.KernelStatements.{updates_local}
use Rattle.java_ast.specs.Names.{is_among, updated_in}
use Rattle.java_loops.specs.Kernel.Setting.{Setting}
use Rattle.loop_text.specs.Statements.Setting.{is_found}
use Rattle.loop_text.specs.declared.sites.bindings.Binding.{Binding}
use Rattle.loop_text.specs.declared.sites.bindings.Binding.TheVariants.{Row, Local, Outer}
use Rattle.loop_text.specs.Sites.Sites.{Site, binding_at, row_bound, row_at, row_column_at, column_of_row, place_where, first_place, any_site, depth}
use Rattle.java_loops.proofs.Nested.NestCounter.{known_outside, steady_outside}
use Rattle.java_loops.proofs.Nested.NestRules.{Unbroken, true_from_not, false_from_not}
use Rattle.java_loops.proofs.Nested.NestSight.{Sight}
use Rattle.java_loops.proofs.Standing.StandingRules.{none_where, first_none}

-- ---- The parts of typed expressions

pub typed_var : (c : Frame) (g : Types) (at : Span) (x : List ℕ) (k : JavaType) → HasType c g (tree.Var at x) k → g x ≡ Some k
typed_var c g _ _ _ (var at x k i) = i

pub record TypedField (c : Frame) (g : Types) (e : Expression) : Type 0 where
  pub table : ℕ
  pub row : HasType c g e (Of (RowOf table))

pub typed_field : (c : Frame) (g : Types) (at : Span) (e : Expression) (f : List ℕ) (k : JavaType) → HasType c g (tree.Field at e f) k → TypedField c g e
typed_field c g _ _ _ _ (field at e f n i column t p q) = record { table = n; row = t }

pub record TypedTwo (c : Frame) (g : Types) (a b : Expression) : Type 0 where
  pub type : JavaType
  pub left : HasType c g a type
  pub right : HasType c g b type

pub typed_binary : (c : Frame) (g : Types) (at : Span) (op : Op) (a b : Expression) (k : JavaType) → HasType c g (tree.Binary at op a b) k → TypedTwo c g a b
typed_binary c g _ _ _ _ _ (binary at op a b from to o p q) = record { type = Of (ScalarOf from); left = p; right = q }

pub typed_equals : (c : Frame) (g : Types) (at : Span) (a b : Expression) (k : JavaType) → HasType c g (tree.Equals at a b) k → TypedTwo c g a b
typed_equals c g _ _ _ _ (equals at a b p q) = record { type = Of (ScalarOf _); left = p; right = q }

pub record TypedOne (c : Frame) (g : Types) (e : Expression) : Type 0 where
  pub type : JavaType
  pub typed : HasType c g e type

pub typed_not : (c : Frame) (g : Types) (at : Span) (e : Expression) (k : JavaType) → HasType c g (tree.Not at e) k → TypedOne c g e
typed_not c g _ _ _ (negated at e t) = record { type = Of (ScalarOf _); typed = t }

pub record TypedContains (c : Frame) (g : Types) (x : List ℕ) (e : Expression) : Type 0 where
  pub type : JavaType
  pub member : Single
  pub list : g x ≡ Some type
  pub has : Has type member
  pub item : TypedOne c g e

pub typed_contains : (c : Frame) (g : Types) (at : Span) (x : List ℕ) (e : Expression) (k : JavaType) → HasType c g (tree.Contains at x e) k → TypedContains c g x e
typed_contains c g _ _ _ _ (contains at x e k ty i h t) = record { type = k; member = ScalarOf ty; list = i; has = h; item = record { type = Of (ScalarOf ty); typed = t } }

-- ---- Rows and their columns

record RowBound (b : Binding) : Type 0 where
  loop : ℕ
  is : b ≡ Row loop

row_found : (b : Binding) → is_found (row_bound b) ≡ true → RowBound b
row_found (Row n) h = record { loop = n; is = refl }
row_found (Local d) h = absurd cc
row_found Outer h = absurd cc

column_found : (f : List ℕ) (o : Option ℕ) → is_found (column_of_row f o) ≡ true → is_found o ≡ true
column_found f (Some j) h = refl
column_found f None h = absurd cc

module _ (w : Setting) (u : Unbroken w) (c : Frame) (n level : ℕ) (g : Types) (a f : Set) (s : Sight w n level g a f) where
  row_reads : (x : List ℕ) (k : JavaType) → g x ≡ Some k → RowBound (binding_at w.sites n x) → f x ≡ true
  row_reads x k i b = s.rows x k b.loop i b.is

  -- the row of a loop is left as it is
  pub row_at_reads : (e : Expression) (k : JavaType) → HasType c g e k → is_found (row_at w.sites n e) ≡ true → Reads f e
  row_at_reads (tree.Lit at x) k t h = absurd cc
  row_at_reads (tree.Var at x) k t h = row_reads x k (typed_var c g at x k t) (row_found (binding_at w.sites n x) h)
  row_at_reads (tree.Field at e f) k t h = absurd cc
  row_at_reads (tree.Binary at op a b) k t h = absurd cc
  row_at_reads (tree.Not at e) k t h = absurd cc
  row_at_reads (tree.Equals at a b) k t h = absurd cc
  row_at_reads (tree.Size at x) k t h = absurd cc
  row_at_reads (tree.Get at x e) k t h = absurd cc
  row_at_reads (tree.Contains at x e) k t h = absurd cc
  row_at_reads (tree.Fetch at table) k t h = absurd cc
  row_at_reads (tree.Query at ty text es) k t h = absurd cc
  row_at_reads (tree.QueryLong at text es) k t h = absurd cc
  row_at_reads (tree.QueryBoolean at text es) k t h = absurd cc
  row_at_reads (tree.NewList at) k t h = absurd cc
  row_at_reads (tree.NewSet at) k t h = absurd cc
  row_at_reads (tree.NewSetOf at e) k t h = absurd cc

  -- a column of a loop's row
  pub column_reads : (e : Expression) (k : JavaType) → HasType c g e k → is_found (row_column_at w.sites n e) ≡ true → Reads f e
  column_reads (tree.Lit at x) k t h = absurd cc
  column_reads (tree.Var at x) k t h = absurd cc
  column_reads (tree.Field at e name) k t h = let u = typed_field c g at e name k t in row_at_reads e (Of (RowOf u.table)) u.row (column_found name (row_at w.sites n e) h)
  column_reads (tree.Binary at op a b) k t h = absurd cc
  column_reads (tree.Not at e) k t h = absurd cc
  column_reads (tree.Equals at a b) k t h = absurd cc
  column_reads (tree.Size at x) k t h = absurd cc
  column_reads (tree.Get at x e) k t h = absurd cc
  column_reads (tree.Contains at x e) k t h = absurd cc
  column_reads (tree.Fetch at table) k t h = absurd cc
  column_reads (tree.Query at ty text es) k t h = absurd cc
  column_reads (tree.QueryLong at text es) k t h = absurd cc
  column_reads (tree.QueryBoolean at text es) k t h = absurd cc
  column_reads (tree.NewList at) k t h = absurd cc
  column_reads (tree.NewSet at) k t h = absurd cc
  column_reads (tree.NewSetOf at e) k t h = absurd cc

  -- ---- Entry values

  outer_found : (b : Binding) → is_outer b ≡ true → b ≡ Outer
  outer_found (Row j) h = absurd cc
  outer_found (Local d) h = absurd cc
  outer_found Outer h = refl

  steady_reads : (x : List ℕ) (k : JavaType) → g x ≡ Some k → is_steady w n x ≡ true → f x ≡ true
  steady_reads x k i h =
      let two = and_parts (is_outer (binding_at w.sites n x)) (not (is_among (updated_in w.fragment.loop) x)) h in
      s.outer x k i (outer_found (binding_at w.sites n x) two.0) (steady_outside w u x (false_from_not (is_among (updated_in w.fragment.loop) x) two.1))

  entry_row_reads : (e : Expression) (k : JavaType) → HasType c g e k → is_entry_row w n e ≡ true → Reads f e
  entry_row_reads (tree.Lit at x) k t h = absurd cc
  entry_row_reads (tree.Var at x) k t h = steady_reads x k (typed_var c g at x k t) (and_parts (is_row_type (w.types x)) (is_steady w n x) h).1
  entry_row_reads (tree.Field at e f) k t h = absurd cc
  entry_row_reads (tree.Binary at op a b) k t h = absurd cc
  entry_row_reads (tree.Not at e) k t h = absurd cc
  entry_row_reads (tree.Equals at a b) k t h = absurd cc
  entry_row_reads (tree.Size at x) k t h = absurd cc
  entry_row_reads (tree.Get at x e) k t h = absurd cc
  entry_row_reads (tree.Contains at x e) k t h = absurd cc
  entry_row_reads (tree.Fetch at table) k t h = absurd cc
  entry_row_reads (tree.Query at ty text es) k t h = absurd cc
  entry_row_reads (tree.QueryLong at text es) k t h = absurd cc
  entry_row_reads (tree.QueryBoolean at text es) k t h = absurd cc
  entry_row_reads (tree.NewList at) k t h = absurd cc
  entry_row_reads (tree.NewSet at) k t h = absurd cc
  entry_row_reads (tree.NewSetOf at e) k t h = absurd cc

  entry_reads : (e : Expression) (k : JavaType) → HasType c g e k → is_entry w n e ≡ true → Reads f e
  entry_reads (tree.Lit at x) k t h = absurd cc
  entry_reads (tree.Var at x) k t h = steady_reads x k (typed_var c g at x k t) (and_parts (is_scalar_type (w.types x)) (is_steady w n x) h).1
  entry_reads (tree.Field at e name) k t h = let u = typed_field c g at e name k t in entry_row_reads e (Of (RowOf u.table)) u.row h
  entry_reads (tree.Binary at op a b) k t h = absurd cc
  entry_reads (tree.Not at e) k t h = absurd cc
  entry_reads (tree.Equals at a b) k t h = absurd cc
  entry_reads (tree.Size at x) k t h = absurd cc
  entry_reads (tree.Get at x e) k t h = absurd cc
  entry_reads (tree.Contains at x e) k t h = absurd cc
  entry_reads (tree.Fetch at table) k t h = absurd cc
  entry_reads (tree.Query at ty text es) k t h = absurd cc
  entry_reads (tree.QueryLong at text es) k t h = absurd cc
  entry_reads (tree.QueryBoolean at text es) k t h = absurd cc
  entry_reads (tree.NewList at) k t h = absurd cc
  entry_reads (tree.NewSet at) k t h = absurd cc
  entry_reads (tree.NewSetOf at e) k t h = absurd cc

  literal_reads : (e : Expression) → is_literal e ≡ true → Reads f e
  literal_reads (tree.Lit at x) h = tt
  literal_reads (tree.Var at x) h = absurd cc
  literal_reads (tree.Field at e f) h = absurd cc
  literal_reads (tree.Binary at op a b) h = absurd cc
  literal_reads (tree.Not at e) h = absurd cc
  literal_reads (tree.Equals at a b) h = absurd cc
  literal_reads (tree.Size at x) h = absurd cc
  literal_reads (tree.Get at x e) h = absurd cc
  literal_reads (tree.Contains at x e) h = absurd cc
  literal_reads (tree.Fetch at t) h = absurd cc
  literal_reads (tree.Query at ty text es) h = absurd cc
  literal_reads (tree.QueryLong at text es) h = absurd cc
  literal_reads (tree.QueryBoolean at text es) h = absurd cc
  literal_reads (tree.NewList at) h = absurd cc
  literal_reads (tree.NewSet at) h = absurd cc
  literal_reads (tree.NewSetOf at e) h = absurd cc

  operand_reads : (e : Expression) (k : JavaType) → HasType c g e k → is_operand w n e ≡ true → Reads f e
  operand_reads e k t h =
      ⊎_elim (λ row. column_reads e k t row) (λ more. ⊎_elim (λ l. literal_reads e l) (λ i. entry_reads e k t i) (or_cases (is_literal e) (is_entry w n e) more)) (or_cases (is_row_column w.sites n e) (is_literal e || is_entry w n e) h)

  operand_unbroken : (e : Expression) → broken_operand w n e ≡ None → is_operand w n e ≡ true
  operand_unbroken e h = true_from_not (is_operand w n e) (none_where (not (is_operand w n e)) (at_of e) h)

  comparison_reads : (at : Span) (p q : Expression) → TypedTwo c g p q → broken_comparison w n at p q ≡ None → Reads f p × Reads f q
  comparison_reads at p q t h =
      let last : Option Span = place_where (not (is_row_column w.sites n p || is_row_column w.sites n q)) at in
      let two = first_none (broken_operand w n p) (first_place (broken_operand w n q) last) h in
      let more = first_none (broken_operand w n q) last two.1 in
      (operand_reads p t.type t.left (operand_unbroken p two.0), operand_reads q t.type t.right (operand_unbroken q more.0))

  -- ---- Flags

  same_length : (xs ys : List ℕ) → same_numbers xs ys ≡ true → length xs ≡ length ys
  same_length [] [] h = refl
  same_length [] (y ∷ ys) h = absurd cc
  same_length (x ∷ xs) [] h = absurd cc
  same_length (x ∷ xs) (y ∷ ys) h = ap suc (same_length xs ys (and_parts _ (same_numbers xs ys) h).1)

  flag_found : (here : Site) → depth here ≡ level → (x : List ℕ) (k : JavaType) (d : ℕ) (o : Option Site) → g x ≡ Some k → binding_at w.sites n x ≡ Local d → slice_get w.sites d ≡ o → is_in_its_loops w.sites n (Some here) o ≡ true → f x ≡ true
  flag_found here same x k d None i b there h = absurd cc
  flag_found here same x k d (Some t) i b there h =
      let l : depth here ≡ depth t = same_length here.round.loops t.round.loops h in
      ⊎_elim (λ e. e) (λ less. absurd (omega (arith, l, same, less))) (s.flags x k d t i b there)

  flag_reads : (here : Site) → slice_get w.sites n ≡ Some here → depth here ≡ level → (x : List ℕ) (k : JavaType) (b : Binding) → g x ≡ Some k → binding_at w.sites n x ≡ b → reads_flag w.sites n b ≡ true → f x ≡ true
  flag_reads here there same x k (Row j) i b h = absurd cc
  flag_reads here there same x k (Local d) i b h =
      let more : Bool = not (any_site (updates_flag_under w.sites n) 0 w.sites) in
      let inside : Bool = is_in_its_loops w.sites n (slice_get w.sites n) (slice_get w.sites d) in
      let two = and_parts (any_site (λ j t. nat_lt j n && updates_local w.sites d j t) 0 w.sites) (inside && more) h in
      let three = and_parts inside more two.1 in
      flag_found here same x k d (slice_get w.sites d) i b refl (ap (λ o. is_in_its_loops w.sites n o (slice_get w.sites d)) (sym there) ∙ three.0)
  flag_reads here there same x k Outer i b h = absurd cc

  -- ---- Known lists

  known_reads : (x : List ℕ) (e : Expression) → TypedContains c g x e → is_row_column w.sites n e ≡ true → is_known w n x ≡ true → (f x ≡ true) × Reads f e
  known_reads x e t h k = (s.outer x t.type t.list (s.lists x t.type t.member t.list t.has) (known_outside w u n x k), column_reads e t.item.type t.item.typed h)

  -- ---- Leaves

  compared_reads : (q : Bool) (at : Span) (op : Op) (p r : Expression) (k : JavaType) → HasType c g (tree.Binary at op p r) k → cond q (broken_comparison w n at p r) (Some at) ≡ None → Reads f p × Reads f r
  compared_reads true at op p r k t h = comparison_reads at p r (typed_binary c g at op p r k t) h
  compared_reads false at op p r k t h = absurd cc

  -- a leaf that breaks no rule reads what is left as it is
  pub leaf_reads : (here : Site) → slice_get w.sites n ≡ Some here → depth here ≡ level → (e : Expression) (k : JavaType) → HasType c g e k → broken_leaf w n e ≡ None → Reads f e
  leaf_reads here there same (tree.Lit at x) k t h = absurd cc
  leaf_reads here there same (tree.Var at x) k t h = flag_reads here there same x k (binding_at w.sites n x) (typed_var c g at x k t) refl (true_from_not (reads_flag w.sites n (binding_at w.sites n x)) (none_where (not (reads_flag w.sites n (binding_at w.sites n x))) at h))
  leaf_reads here there same (tree.Field at e name) k t h = column_reads (tree.Field at e name) k t (true_from_not (is_row_column w.sites n (tree.Field at e name)) (none_where (not (is_row_column w.sites n (tree.Field at e name))) at h))
  leaf_reads here there same (tree.Binary at op p q) k t h = compared_reads (is_compared op) at op p q k t h
  leaf_reads here there same (tree.Not at e) k t h = absurd cc
  leaf_reads here there same (tree.Equals at p q) k t h = comparison_reads at p q (typed_equals c g at p q k t) h
  leaf_reads here there same (tree.Size at x) k t h = absurd cc
  leaf_reads here there same (tree.Get at x e) k t h = absurd cc
  leaf_reads here there same (tree.Contains at x e) k t h = let two = and_parts (is_row_column w.sites n e) (is_known w n x) (true_from_not (is_row_column w.sites n e && is_known w n x) (none_where (not (is_row_column w.sites n e && is_known w n x)) at h)) in known_reads x e (typed_contains c g at x e k t) two.0 two.1
  leaf_reads here there same (tree.Fetch at table) k t h = absurd cc
  leaf_reads here there same (tree.Query at ty text es) k t h = absurd cc
  leaf_reads here there same (tree.QueryLong at text es) k t h = absurd cc
  leaf_reads here there same (tree.QueryBoolean at text es) k t h = absurd cc
  leaf_reads here there same (tree.NewList at) k t h = absurd cc
  leaf_reads here there same (tree.NewSet at) k t h = absurd cc
  leaf_reads here there same (tree.NewSetOf at e) k t h = absurd cc
