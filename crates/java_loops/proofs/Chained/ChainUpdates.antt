-- The update of a variable is that of its accumulator: what a statement of each form makes of its variable.
use Rattle.std.proofs.Common.{◌≡◌, ℕ, pos, Bool, true, false, List, Option, Some, None, refl, sym, ap, ◌∙◌, subst, cond, slice_get}
use Rattle.qbs_base.specs.declared.span.Span.{Span}
use Rattle.qbs_base.specs.declared.scalar.Scalar.{Scalar}
use Rattle.qbs_base.specs.declared.scalar.Scalar.TheVariants as scalars
use Rattle.qbs_base.specs.declared.scalar.Ty.{Ty}
use Rattle.qbs_base.specs.declared.scalar.Ty.TheVariants as tys
use Rattle.java_ast.specs.declared.tree.Op.{Op}
use Rattle.java_ast.specs.declared.tree.Op.TheVariants as ops
use Rattle.java_ast.specs.Tree as tree
use Rattle.java_ast.specs.Tree.{Expression, Statement}
use Rattle.java_mean.specs.declared.types.JavaType.{JavaType}
use Rattle.java_mean.specs.declared.types.JavaType.TheVariants.{Of}
use Rattle.java_mean.specs.declared.types.Single.TheVariants.{ScalarOf}
use Rattle.java_mean.specs.Types.{Types}
use Rattle.java_mean.specs.Typing as typing
use Rattle.java_mean.specs.Typing.{Frame, HasType, TypedStatement}
use Rattle.java_mean.proofs.Puts.{names_equal}
use Rattle.tor_terms.specs.declared.term.Elem.TheVariants as elems
use Rattle.tor_terms.specs.declared.term.Operand.TheVariants as operands
use Rattle.tor_terms.proofs.Scalars.{scalar_same-true}
use Rattle.kernel_lang.specs.declared.parts.Update.TheVariants as updates
use Rattle.java_loops.specs.Walks.Chains as chains
use Rattle.java_loops.specs.Walks.Chains.{By, Takes, IsUpdate}
use Rattle.java_loops.specs.Walks.Forms as forms
use Rattle.java_loops.specs.Walks.Forms.{IsOperand}
use Rattle.java_loops.specs.Walks.Numbering.{Numbering, with_loops}
use Rattle.loop_text.specs.Kernel.KernelForms.{whole, column, Form, adds, counts, sums, takes, marks, other, adds_taken, sums_column, takes_column, literal_form, assigned_form, form_of}
use Rattle.java_loops.specs.Kernel.KernelForms.{is_distinct}
use Rattle.java_loops.specs.Lowering.Lowered.{element_of_column, added, update_with, is_opposite}
use Rattle.java_loops.specs.Lowering.Numbering.{loop_number, column_of}
use Rattle.java_loops.specs.Kernel.Setting.{Setting}
use Rattle.loop_text.specs.Statements.Setting.{is_variable, is_literal_number}
use Rattle.loop_text.specs.Sites.Sites.{Round, Site, RowColumn, row_at, row_column_at, target_of}
use Rattle.java_loops.proofs.Typing.BoundTyping.{typed_assign, typed_add}
use Rattle.java_loops.proofs.Chained.ChainPremises.{InSight, HasElements}

-- ---- Expressions

record IsVariable (x : List ℕ) (e : Expression) : Type 0 where
  at : Span
  is : e ≡ tree.Var at x

variable_is : (x : List ℕ) (e : Expression) → is_variable x e ≡ true → IsVariable x e
variable_is x (tree.Var at y) h = record { at = at; is = ap (tree.Var at) (names_equal y x h) }
variable_is x (tree.Lit at value) h = absurd cc
variable_is x (tree.Field at e f) h = absurd cc
variable_is x (tree.Binary at op a b) h = absurd cc
variable_is x (tree.Not at e) h = absurd cc
variable_is x (tree.Equals at a b) h = absurd cc
variable_is x (tree.Size at y) h = absurd cc
variable_is x (tree.Get at y e) h = absurd cc
variable_is x (tree.Contains at y e) h = absurd cc
variable_is x (tree.Fetch at y) h = absurd cc
variable_is x (tree.Query at ty text es) h = absurd cc
variable_is x (tree.QueryLong at text es) h = absurd cc
variable_is x (tree.QueryBoolean at text es) h = absurd cc
variable_is x (tree.NewList at) h = absurd cc
variable_is x (tree.NewSet at) h = absurd cc
variable_is x (tree.NewSetOf at e) h = absurd cc

record IsLiteral (n : ℕ) (e : Expression) : Type 0 where
  at : Span
  is : e ≡ tree.Lit at (scalars.Long (pos n))

literal_is : (n : ℕ) (e : Expression) → is_literal_number n e ≡ true → IsLiteral n e
literal_is n (tree.Lit at value) h = record { at = at; is = ap (tree.Lit at) (scalar_same-true value (scalars.Long (pos n)) h) }
literal_is n (tree.Var at y) h = absurd cc
literal_is n (tree.Field at e f) h = absurd cc
literal_is n (tree.Binary at op a b) h = absurd cc
literal_is n (tree.Not at e) h = absurd cc
literal_is n (tree.Equals at a b) h = absurd cc
literal_is n (tree.Size at y) h = absurd cc
literal_is n (tree.Get at y e) h = absurd cc
literal_is n (tree.Contains at y e) h = absurd cc
literal_is n (tree.Fetch at y) h = absurd cc
literal_is n (tree.Query at ty text es) h = absurd cc
literal_is n (tree.QueryLong at text es) h = absurd cc
literal_is n (tree.QueryBoolean at text es) h = absurd cc
literal_is n (tree.NewList at) h = absurd cc
literal_is n (tree.NewSet at) h = absurd cc
literal_is n (tree.NewSetOf at e) h = absurd cc

-- a column is a scalar
record IsScalar (k : JavaType) : Type 0 where
  ty : Ty
  is : k ≡ Of (ScalarOf ty)

column_scalar : (c : Frame) (g : Types) (sites : List Site) (n : ℕ) (e : Expression) (k : JavaType) (col : RowColumn) → HasType c g e k → row_column_at sites n e ≡ Some col → IsScalar k
column_scalar c g sites n _ _ col (typing.lit at x ty h) e = absurd cc
column_scalar c g sites n _ _ col (typing.var at x k h) e = absurd cc
column_scalar c g sites n _ _ col (typing.field at y f m i z t q r) e = record { ty = z.ty; is = refl }
column_scalar c g sites n _ _ col (typing.binary at op a b from to t u v) e = absurd cc
column_scalar c g sites n _ _ col (typing.negated at y t) e = absurd cc
column_scalar c g sites n _ _ col (typing.equals at a b t u) e = absurd cc
column_scalar c g sites n _ _ col (typing.size at x k a h has) e = absurd cc
column_scalar c g sites n _ _ col (typing.get at x y a h t) e = absurd cc
column_scalar c g sites n _ _ col (typing.contains at x y k ty h has t) e = absurd cc
column_scalar c g sites n _ _ col (typing.fetch at t m h) e = absurd cc
column_scalar c g sites n _ _ col (typing.query at ty text es q h t) e = absurd cc
column_scalar c g sites n _ _ col (typing.query_long at text es q h t) e = absurd cc
column_scalar c g sites n _ _ col (typing.query_boolean at text es q h t) e = absurd cc
column_scalar c g sites n _ _ col (typing.new_list at a) e = absurd cc
column_scalar c g sites n _ _ col (typing.new_set at a) e = absurd cc
column_scalar c g sites n _ _ col (typing.new_set_of at y a t) e = absurd cc

-- the operands of a sum are numbers
record Added (c : Frame) (g : Types) (a b : Expression) : Type 0 where
  left : HasType c g a (Of (ScalarOf tys.Long))
  right : HasType c g b (Of (ScalarOf tys.Long))

added_longs : (c : Frame) (g : Types) (at : Span) (a b : Expression) (k : JavaType) → HasType c g (tree.Binary at ops.Add a b) k → Added c g a b
added_longs c g _ _ _ _ (typing.binary at _ a b _ _ typing.add_takes t u) = record { left = t; right = u }

-- ---- Forms

-- each turn does the same to a variable of this form; no set has rows
abbrev pub IsSteady : Setting → List ℕ → Form → Type 0
IsSteady w x (adds (whole j)) = is_distinct (w.types x) ≡ false
IsSteady w x (adds (column c)) = Unit {0}
IsSteady w x counts = Unit {0}
IsSteady w x (sums c) = Unit {0}
IsSteady w x (takes c) = ⊥
IsSteady w x (marks b) = Unit {0}
IsSteady w x other = ⊥

abbrev Updates : Setting → Numbering → Round → List ℕ → Statement → Form → Type 0
Updates w N r x s form = IsUpdate N s x (By (update_with w x r form) (is_opposite form))

push_column : (w : Setting) (N : Numbering) (at : Span) (x : List ℕ) (e : Expression) (c : RowColumn) (ty : Ty) (distinct : Bool) → IsOperand N e (operands.Field (loop_number w.sites c.loop) (column_of w c)) ty → IsUpdate N (tree.Add at x e) x (By (added distinct (element_of_column w c)) false)
push_column w N at x e c ty true h = chains.push_new at x e (loop_number w.sites c.loop) (column_of w c) (forms.of_column e (loop_number w.sites c.loop) (column_of w c) ty h)
push_column w N at x e c ty false h = chains.push at x e (element_of_column w c) (forms.of_column e (loop_number w.sites c.loop) (column_of w c) ty h)

module _ (w : Setting) (c : Frame) (N : Numbering) (elements : HasElements w c N) (n : ℕ) (site : Site) (there : slice_get w.sites n ≡ Some site) (g : Types) (loops : List ℕ → Option ℕ) (seen : InSight w n g loops) where
  operand : (e : Expression) (k : JavaType) (col : RowColumn) → HasType c g e k → row_column_at w.sites n e ≡ Some col → (s : IsScalar k) → IsOperand (with_loops loops N) e (operands.Field (loop_number w.sites col.loop) (column_of w col)) s.ty
  operand e k col t h s = elements.column n site e s.ty g loops col there (subst (λ z. HasType c g e z) s.is t) seen h

  number : (e : Expression) (col : RowColumn) → HasType c g e (Of (ScalarOf tys.Long)) → row_column_at w.sites n e ≡ Some col → IsOperand (with_loops loops N) e (operands.Field (loop_number w.sites col.loop) (column_of w col)) tys.Long
  number e col t h = elements.column n site e tys.Long g loops col there t seen h

  add_update : (r : Round) (x : List ℕ) (at : Span) (e : Expression) (k : JavaType) (row : Option ℕ) (col : Option RowColumn) → HasType c g e k → row_at w.sites n e ≡ row → row_column_at w.sites n e ≡ col → IsSteady w x (adds_taken row col) → Updates w (with_loops loops N) r x (tree.Add at x e) (adds_taken row col)
  add_update r x at e k row (Some col) t p q steady =
      let s : IsScalar k = column_scalar c g w.sites n e k col t q in
      push_column w (with_loops loops N) at x e col s.ty (is_distinct (w.types x)) (operand e k col t q s)
  add_update r x at e k (Some j) None t p q steady =
      subst (λ d. IsUpdate (with_loops loops N) (tree.Add at x e) x (By (added d (elems.Whole (loop_number w.sites j))) false)) (sym steady) (chains.push at x e (elems.Whole (loop_number w.sites j)) (elements.row n site e k g loops j there t seen p))
  add_update r x at e k None None t p q steady = absurd steady

  literal_update : (r : Round) (x : List ℕ) (at at' : Span) (value : Scalar) → IsSteady w x (literal_form value) → Updates w (with_loops loops N) r x (tree.Assign at x (tree.Lit at' value)) (literal_form value)
  literal_update r x at at' (scalars.Bool true) steady = chains.mark at at' x false
  literal_update r x at at' (scalars.Bool false) steady = chains.mark at at' x true
  literal_update r x at at' (scalars.Long k) steady = absurd steady
  literal_update r x at at' (scalars.Text t) steady = absurd steady

  tick_left : (x : List ℕ) (at at' : Span) (a b : Expression) → IsVariable x a → IsLiteral 1 b → IsUpdate (with_loops loops N) (tree.Assign at x (tree.Binary at' ops.Add a b)) x (By updates.Tick false)
  tick_left x at at' a b v l =
      subst (λ y. IsUpdate (with_loops loops N) (tree.Assign at x (tree.Binary at' ops.Add y b)) x (By updates.Tick false)) (sym v.is)
      (subst (λ z. IsUpdate (with_loops loops N) (tree.Assign at x (tree.Binary at' ops.Add (tree.Var v.at x) z)) x (By updates.Tick false)) (sym l.is) (chains.tick at at' v.at l.at x))

  tick_right : (x : List ℕ) (at at' : Span) (a b : Expression) → IsVariable x b → IsLiteral 1 a → IsUpdate (with_loops loops N) (tree.Assign at x (tree.Binary at' ops.Add a b)) x (By updates.Tick false)
  tick_right x at at' a b v l =
      subst (λ y. IsUpdate (with_loops loops N) (tree.Assign at x (tree.Binary at' ops.Add a y)) x (By updates.Tick false)) (sym v.is)
      (subst (λ z. IsUpdate (with_loops loops N) (tree.Assign at x (tree.Binary at' ops.Add z (tree.Var v.at x))) x (By updates.Tick false)) (sym l.is) (chains.tick_turned at at' v.at l.at x))

  plus_left : (x : List ℕ) (at at' : Span) (a b : Expression) (col : RowColumn) → Added c g a b → IsVariable x a → row_column_at w.sites n b ≡ Some col → IsUpdate (with_loops loops N) (tree.Assign at x (tree.Binary at' ops.Add a b)) x (By (updates.Plus (element_of_column w col)) false)
  plus_left x at at' a b col t v q =
      subst (λ y. IsUpdate (with_loops loops N) (tree.Assign at x (tree.Binary at' ops.Add y b)) x (By (updates.Plus (element_of_column w col)) false)) (sym v.is)
      (chains.plus at at' v.at x b (loop_number w.sites col.loop) (column_of w col) (number b col t.right q))

  plus_right : (x : List ℕ) (at at' : Span) (a b : Expression) (col : RowColumn) → Added c g a b → IsVariable x b → row_column_at w.sites n a ≡ Some col → IsUpdate (with_loops loops N) (tree.Assign at x (tree.Binary at' ops.Add a b)) x (By (updates.Plus (element_of_column w col)) false)
  plus_right x at at' a b col t v q =
      subst (λ y. IsUpdate (with_loops loops N) (tree.Assign at x (tree.Binary at' ops.Add a y)) x (By (updates.Plus (element_of_column w col)) false)) (sym v.is)
      (chains.plus_turned at at' v.at x a (loop_number w.sites col.loop) (column_of w col) (number a col t.left q))

  sum_update : (r : Round) (x : List ℕ) (at at' : Span) (a b : Expression) (left one right one' : Bool) (o o' : Option RowColumn) → Added c g a b → is_variable x a ≡ left → is_literal_number 1 b ≡ one → is_variable x b ≡ right → is_literal_number 1 a ≡ one' → row_column_at w.sites n b ≡ o → row_column_at w.sites n a ≡ o' → IsSteady w x (cond left (cond one counts (sums_column o)) (cond right (cond one' counts (sums_column o')) other)) → Updates w (with_loops loops N) r x (tree.Assign at x (tree.Binary at' ops.Add a b)) (cond left (cond one counts (sums_column o)) (cond right (cond one' counts (sums_column o')) other))
  sum_update r x at at' a b true true right one' o o' t e f h i p q steady = tick_left x at at' a b (variable_is x a e) (literal_is 1 b f)
  sum_update r x at at' a b true false right one' (Some col) o' t e f h i p q steady = plus_left x at at' a b col t (variable_is x a e) p
  sum_update r x at at' a b true false right one' None o' t e f h i p q steady = absurd steady
  sum_update r x at at' a b false one true true o o' t e f h i p q steady = tick_right x at at' a b (variable_is x b h) (literal_is 1 a i)
  sum_update r x at at' a b false one true false o (Some col) t e f h i p q steady = plus_right x at at' a b col t (variable_is x b h) q
  sum_update r x at at' a b false one true false o None t e f h i p q steady = absurd steady
  sum_update r x at at' a b false one false one' o o' t e f h i p q steady = absurd steady

  binary_update : (r : Round) (x : List ℕ) (at at' : Span) (op : Op) (a b : Expression) (k : JavaType) → HasType c g (tree.Binary at' op a b) k → IsSteady w x (assigned_form w.sites n x (tree.Binary at' op a b)) → Updates w (with_loops loops N) r x (tree.Assign at x (tree.Binary at' op a b)) (assigned_form w.sites n x (tree.Binary at' op a b))
  binary_update r x at at' ops.Add a b k t steady = sum_update r x at at' a b (is_variable x a) (is_literal_number 1 b) (is_variable x b) (is_literal_number 1 a) (row_column_at w.sites n b) (row_column_at w.sites n a) (added_longs c g at' a b k t) refl refl refl refl refl refl steady
  binary_update r x at at' ops.Or a b k t steady = absurd steady
  binary_update r x at at' ops.And a b k t steady = absurd steady
  binary_update r x at at' ops.Eq a b k t steady = absurd steady
  binary_update r x at at' ops.Ne a b k t steady = absurd steady
  binary_update r x at at' ops.Lt a b k t steady = absurd steady
  binary_update r x at at' ops.Le a b k t steady = absurd steady
  binary_update r x at at' ops.Gt a b k t steady = absurd steady
  binary_update r x at at' ops.Ge a b k t steady = absurd steady
  binary_update r x at at' ops.Sub a b k t steady = absurd steady
  binary_update r x at at' ops.Mul a b k t steady = absurd steady

  no_takes : (x : List ℕ) (o : Option RowColumn) → IsSteady w x (takes_column o) → ⊥
  no_takes x (Some col) steady = steady
  no_takes x None steady = steady

  assign_update : (r : Round) (x : List ℕ) (at : Span) (e : Expression) (k : JavaType) → HasType c g e k → IsSteady w x (assigned_form w.sites n x e) → Updates w (with_loops loops N) r x (tree.Assign at x e) (assigned_form w.sites n x e)
  assign_update r x at (tree.Lit at' value) k t steady = literal_update r x at at' value steady
  assign_update r x at (tree.Binary at' op a b) k t steady = binary_update r x at at' op a b k t steady
  assign_update r x at (tree.Field at' e f) k t steady = absurd (no_takes x (row_column_at w.sites n (tree.Field at' e f)) steady)
  assign_update r x at (tree.Var at' y) k t steady = absurd steady
  assign_update r x at (tree.Not at' e) k t steady = absurd steady
  assign_update r x at (tree.Equals at' a b) k t steady = absurd steady
  assign_update r x at (tree.Size at' y) k t steady = absurd steady
  assign_update r x at (tree.Get at' y e) k t steady = absurd steady
  assign_update r x at (tree.Contains at' y e) k t steady = absurd steady
  assign_update r x at (tree.Fetch at' y) k t steady = absurd steady
  assign_update r x at (tree.Query at' ty text es) k t steady = absurd steady
  assign_update r x at (tree.QueryLong at' text es) k t steady = absurd steady
  assign_update r x at (tree.QueryBoolean at' text es) k t steady = absurd steady
  assign_update r x at (tree.NewList at') k t steady = absurd steady
  assign_update r x at (tree.NewSet at') k t steady = absurd steady
  assign_update r x at (tree.NewSetOf at' e) k t steady = absurd steady

  -- A statement of a form that does the same in each turn is the update of its accumulator.
  pub steady_update : (r : Round) (x : List ℕ) (l : Option Types) (h : Types) (s : Statement) → TypedStatement c l g s h → target_of s ≡ Some x → IsSteady w x (form_of w.sites n s) → Updates w (with_loops loops N) r x s (form_of w.sites n s)
  steady_update r x l h (tree.Assign at y e) t target steady =
      let same : y ≡ x = cc in
      let v = typed_assign c l g h at y e t in
      subst (λ z. IsSteady w z (assigned_form w.sites n y e) → Updates w (with_loops loops N) r z (tree.Assign at y e) (assigned_form w.sites n y e)) same (λ q. assign_update r y at e v.type v.value q) steady
  steady_update r x l h (tree.Add at y e) t target steady =
      let same : y ≡ x = cc in
      let v = typed_add c l g h at y e t in
      subst (λ z. IsSteady w z (form_of w.sites n (tree.Add at y e)) → Updates w (with_loops loops N) r z (tree.Add at y e) (form_of w.sites n (tree.Add at y e))) same (λ q. add_update r y at e (Of v.member) (row_at w.sites n e) (row_column_at w.sites n e) v.value refl refl q) steady
  steady_update r x l h (tree.Declare at ty y e) t target steady = absurd cc
  steady_update r x l h (tree.Sort at y keys downs) t target steady = absurd cc
  steady_update r x l h (tree.If at e p) t target steady = absurd cc
  steady_update r x l h (tree.IfElse at e p q) t target steady = absurd cc
  steady_update r x l h (tree.ForEach at ty y e p) t target steady = absurd cc
  steady_update r x l h (tree.While at e p) t target steady = absurd cc
  steady_update r x l h (tree.Print at e) t target steady = absurd cc
  steady_update r x l h (tree.Return at e) t target steady = absurd cc
  steady_update r x l h (tree.Break at) t target steady = absurd cc

  takes_of : (x : List ℕ) (at : Span) (e : Expression) (k : JavaType) (col : RowColumn) → HasType c g e k → k ≡ Of (ScalarOf tys.Long) → row_column_at w.sites n e ≡ Some col → IsUpdate (with_loops loops N) (tree.Assign at x e) x (Takes (element_of_column w col))
  takes_of x at e k col t long q = chains.takes at x e (loop_number w.sites col.loop) (column_of w col) (number e col (subst (λ z. HasType c g e z) long t) q)

  taken_column : (o : Option RowColumn) (col : RowColumn) → takes_column o ≡ takes col → o ≡ Some col
  taken_column (Some z) col e = let same : z ≡ col = cc in ap Some same
  taken_column None col e = absurd cc

  no_sum : (o : Option RowColumn) (col : RowColumn) → sums_column o ≡ takes col → ⊥
  no_sum (Some z) col e = absurd cc
  no_sum None col e = absurd cc

  sum_other : (left one right one' : Bool) (o o' : Option RowColumn) (col : RowColumn) → cond left (cond one counts (sums_column o)) (cond right (cond one' counts (sums_column o')) other) ≡ takes col → ⊥
  sum_other true true right one' o o' col e = absurd cc
  sum_other true false right one' o o' col e = no_sum o col e
  sum_other false one true true o o' col e = absurd cc
  sum_other false one true false o o' col e = no_sum o' col e
  sum_other false one false one' o o' col e = absurd cc

  binary_other : (x : List ℕ) (at : Span) (op : Op) (a b : Expression) (col : RowColumn) → assigned_form w.sites n x (tree.Binary at op a b) ≡ takes col → ⊥
  binary_other x at ops.Add a b col e = sum_other (is_variable x a) (is_literal_number 1 b) (is_variable x b) (is_literal_number 1 a) (row_column_at w.sites n b) (row_column_at w.sites n a) col e
  binary_other x at ops.Or a b col e = absurd cc
  binary_other x at ops.And a b col e = absurd cc
  binary_other x at ops.Eq a b col e = absurd cc
  binary_other x at ops.Ne a b col e = absurd cc
  binary_other x at ops.Lt a b col e = absurd cc
  binary_other x at ops.Le a b col e = absurd cc
  binary_other x at ops.Gt a b col e = absurd cc
  binary_other x at ops.Ge a b col e = absurd cc
  binary_other x at ops.Sub a b col e = absurd cc
  binary_other x at ops.Mul a b col e = absurd cc

  literal_other : (value : Scalar) (col : RowColumn) → literal_form value ≡ takes col → ⊥
  literal_other (scalars.Bool b) col e = absurd cc
  literal_other (scalars.Long k) col e = absurd cc
  literal_other (scalars.Text t) col e = absurd cc

  taken_by : (x : List ℕ) (e : Expression) (col : RowColumn) → assigned_form w.sites n x e ≡ takes col → row_column_at w.sites n e ≡ Some col
  taken_by x (tree.Field at' e f) col h = taken_column (row_column_at w.sites n (tree.Field at' e f)) col h
  taken_by x (tree.Lit at' value) col h = absurd (literal_other value col h)
  taken_by x (tree.Binary at' op a b) col h = absurd (binary_other x at' op a b col h)
  taken_by x (tree.Var at' y) col h = absurd cc
  taken_by x (tree.Not at' e) col h = absurd cc
  taken_by x (tree.Equals at' a b) col h = absurd cc
  taken_by x (tree.Size at' y) col h = absurd cc
  taken_by x (tree.Get at' y e) col h = absurd cc
  taken_by x (tree.Contains at' y e) col h = absurd cc
  taken_by x (tree.Fetch at' y) col h = absurd cc
  taken_by x (tree.Query at' ty text es) col h = absurd cc
  taken_by x (tree.QueryLong at' text es) col h = absurd cc
  taken_by x (tree.QueryBoolean at' text es) col h = absurd cc
  taken_by x (tree.NewList at') col h = absurd cc
  taken_by x (tree.NewSet at') col h = absurd cc
  taken_by x (tree.NewSetOf at' e) col h = absurd cc

  no_adds : (row : Option ℕ) (o : Option RowColumn) (col : RowColumn) → adds_taken row o ≡ takes col → ⊥
  no_adds row (Some z) col e = absurd cc
  no_adds (Some j) None col e = absurd cc
  no_adds None None col e = absurd cc

  -- The column of a best value is taken, where the variable is a number.
  pub takes_update : (x : List ℕ) (l : Option Types) (h : Types) (s : Statement) (col : RowColumn) → TypedStatement c l g s h → target_of s ≡ Some x → g x ≡ Some (Of (ScalarOf tys.Long)) → form_of w.sites n s ≡ takes col → IsUpdate (with_loops loops N) s x (Takes (element_of_column w col))
  takes_update x l h (tree.Assign at y e) col t target long is =
      let same : y ≡ x = cc in
      let v = typed_assign c l g h at y e t in
      let type : v.type ≡ Of (ScalarOf tys.Long) = some_type v.type (Of (ScalarOf tys.Long)) (sym v.seen ∙ ap g same ∙ long) in
      subst (λ z. IsUpdate (with_loops loops N) (tree.Assign at y e) z (Takes (element_of_column w col))) same (takes_of y at e v.type col v.value type (taken_by y e col is))
    where
      some_type : (a b : JavaType) → Some a ≡ Some b → a ≡ b
      some_type a b e = cc
  takes_update x l h (tree.Add at y e) col t target long is = absurd (no_adds (row_at w.sites n e) (row_column_at w.sites n e) col is)
  takes_update x l h (tree.Declare at ty y e) col t target long is = absurd cc
  takes_update x l h (tree.Sort at y keys downs) col t target long is = absurd cc
  takes_update x l h (tree.If at e p) col t target long is = absurd cc
  takes_update x l h (tree.IfElse at e p q) col t target long is = absurd cc
  takes_update x l h (tree.ForEach at ty y e p) col t target long is = absurd cc
  takes_update x l h (tree.While at e p) col t target long is = absurd cc
  takes_update x l h (tree.Print at e) col t target long is = absurd cc
  takes_update x l h (tree.Return at e) col t target long is = absurd cc
  takes_update x l h (tree.Break at) col t target long is = absurd cc
