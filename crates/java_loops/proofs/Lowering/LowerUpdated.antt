-- What the chain of a needed accumulator asks of it: it is visible at the loop, a best value is a number, and no set has rows.
use Rattle.std.proofs.Common.{◌≡◌, ℕ, Bool, true, false, List, Option, Some, None, refl, sym, ap, ◌∙◌, subst, cond}
use Rattle.qbs_base.specs.declared.scalar.Scalar.{Scalar}
use Rattle.qbs_base.specs.declared.scalar.Scalar.TheVariants as scalars
use Rattle.java_ast.specs.Tree as tree
use Rattle.java_ast.specs.Tree.{Expression, Statement}
use Rattle.java_mean.specs.declared.types.JavaType.{JavaType}
use Rattle.java_mean.specs.declared.types.JavaType.TheVariants.{Of, Distinct}
use Rattle.java_mean.specs.declared.types.Single.{Single}
use Rattle.java_mean.specs.declared.types.Single.TheVariants.{RowOf}
use Rattle.java_mean.specs.Types.{Types}
use Rattle.java_mean.specs.Typing.{Frame, Has, listed, distinct, TypedStatement, TypedStatements}
use Rattle.loop_text.specs.Statements.Fragment.{needed_of}
use Rattle.loop_text.specs.Kernel.KernelForms.{Taken, whole, Form, adds, other, adds_taken, sums_column, takes_column, literal_form, assigned_form, form_of, counts}
use Rattle.java_loops.specs.Kernel.KernelForms.{is_distinct}
use Rattle.loop_text.specs.Kernel.KernelStarts.{Numbered, update_of, form_found, may_start}
use Rattle.java_ast.specs.Names.{is_among}
use Rattle.java_loops.specs.Kernel.Setting.{Setting}
use Rattle.loop_text.specs.Statements.Setting.{is_add, is_variable, is_literal_number}
use Rattle.loop_text.specs.declared.sites.bindings.Binding.TheVariants.{Outer}
use Rattle.loop_text.specs.Sites.Sites.{RowColumn, binding_at, target_of, row_at, row_column_at}
use Rattle.java_loops.proofs.Typing.BoundTyping.{TypedAdd, typed_add}
use Rattle.java_loops.proofs.Chained.ChainTurned.{Updated}
use Rattle.java_loops.proofs.Formed.FormOperands.{SeenRow, row_seen}
use Rattle.java_loops.proofs.Formed.FormSites.{TypedSite}
use Rattle.java_loops.proofs.Lowering.LowerSets.{is_row_set, ScalarSets}
use Rattle.java_loops.proofs.Lowering.LowerStarts.{long, started_long}
use Rattle.java_loops.proofs.Numbers.Numberings.{Sighted}
use Rattle.java_loops.proofs.Valid.ValidAccumulators.{UpdateStands, update_stands}
use Rattle.java_loops.proofs.Valid.ValidCounts.{needed_started}
use Rattle.java_loops.proofs.Valid.ValidLoop.{Checked}
use Rattle.java_loops.proofs.Valid.ValidStarts.{Started}
use Rattle.java_loops.proofs.Valid.ValidUpdates.{update_is}

-- ---- Assignments add nothing

literal_adds : (v : Scalar) (t : Taken) → literal_form v ≡ adds t → ⊥
literal_adds (scalars.Bool b) t h = absurd cc
literal_adds (scalars.Long n) t h = absurd cc
literal_adds (scalars.Text s) t h = absurd cc

takes_adds : (o : Option RowColumn) (t : Taken) → takes_column o ≡ adds t → ⊥
takes_adds (Some c) t h = absurd cc
takes_adds None t h = absurd cc

sums_adds : (one : Bool) (o : Option RowColumn) (t : Taken) → cond one counts (sums_column o) ≡ adds t → ⊥
sums_adds true o t h = absurd cc
sums_adds false (Some c) t h = absurd cc
sums_adds false None t h = absurd cc

sum_adds : (left one right one' : Bool) (o o' : Option RowColumn) (t : Taken) → cond left (cond one counts (sums_column o)) (cond right (cond one' counts (sums_column o')) other) ≡ adds t → ⊥
sum_adds true one right one' o o' t h = sums_adds one o t h
sum_adds false one true one' o o' t h = sums_adds one' o' t h
sum_adds false one false one' o o' t h = absurd cc

joined_adds : (sum : Bool) (form : Form) (t : Taken) → (form ≡ adds t → ⊥) → cond sum form other ≡ adds t → ⊥
joined_adds true form t f h = f h
joined_adds false form t f h = absurd cc

assigned_adds : (w : Setting) (n : ℕ) (x : List ℕ) (e : Expression) (t : Taken) → assigned_form w.sites n x e ≡ adds t → ⊥
assigned_adds w n x (tree.Lit at v) t h = literal_adds v t h
assigned_adds w n x (tree.Field at e f) t h = takes_adds (row_column_at w.sites n (tree.Field at e f)) t h
assigned_adds w n x (tree.Binary at op a b) t h = joined_adds (is_add op) _ t (sum_adds (is_variable x a) (is_literal_number 1 b) (is_variable x b) (is_literal_number 1 a) (row_column_at w.sites n b) (row_column_at w.sites n a) t) h
assigned_adds w n x (tree.Var at y) t h = absurd cc
assigned_adds w n x (tree.Not at e) t h = absurd cc
assigned_adds w n x (tree.Equals at a b) t h = absurd cc
assigned_adds w n x (tree.Size at y) t h = absurd cc
assigned_adds w n x (tree.Get at y e) t h = absurd cc
assigned_adds w n x (tree.Contains at y e) t h = absurd cc
assigned_adds w n x (tree.Fetch at y) t h = absurd cc
assigned_adds w n x (tree.Query at ty text es) t h = absurd cc
assigned_adds w n x (tree.QueryLong at text es) t h = absurd cc
assigned_adds w n x (tree.QueryBoolean at text es) t h = absurd cc
assigned_adds w n x (tree.NewList at) t h = absurd cc
assigned_adds w n x (tree.NewSet at) t h = absurd cc
assigned_adds w n x (tree.NewSetOf at e) t h = absurd cc

-- ---- A row is added to a list

row_taken : (o : Option ℕ) (col : Option RowColumn) (j : ℕ) → adds_taken o col ≡ adds (whole j) → o ≡ Some j
row_taken o (Some c) j h = absurd cc
row_taken (Some i) None j h = let same : i ≡ j = cc in ap (λ z. Some z) same
row_taken None None j h = absurd cc

has_rows : (k : JavaType) (a : Single) → Has k a → (t : ℕ) → a ≡ RowOf t → is_row_set k ≡ false → is_distinct (Some k) ≡ false
has_rows _ _ (listed a) t e h = refl
has_rows _ _ (distinct a) t e h = let rows : is_row_set (Distinct a) ≡ true = ap (λ z. is_row_set (Distinct z)) e in absurd cc

module _ (w : Setting) (c : Frame) (same : c.schema ≡ w.schema) (sets : ScalarSets w.types) (n : ℕ) (x : List ℕ) (bound : binding_at w.sites n x ≡ Outer) (g : Types) (loops : List ℕ → Option ℕ) (sighted : Sighted w n g loops) where
  member_row : (a : Single) (t : ℕ) → Of a ≡ Of (RowOf t) → a ≡ RowOf t
  member_row a t e = cc

  added_list : (h : Types) (e : Expression) (j : ℕ) → TypedAdd c g h x e → row_at w.sites n e ≡ Some j → is_distinct (w.types x) ≡ false
  added_list h e j d row =
      let r : SeenRow w loops (Of d.member) j = row_seen w c same n g loops sighted e (Of d.member) j row d.value in
      let outer : w.types x ≡ Some d.type = sighted.outer x d.type d.seen bound in
      ap is_distinct outer ∙ has_rows d.type d.member d.has _ (member_row d.member _ r.seen.type) (sets.by x d.type outer)

  -- what a row is added to at this site is no set
  pub rows_listed : (l : Option Types) (h : Types) (s : Statement) (j : ℕ) → target_of s ≡ Some x → form_of w.sites n s ≡ adds (whole j) → TypedStatement c l g s h → is_distinct (w.types x) ≡ false
  rows_listed l h (tree.Add at y e) j target form t =
      let name : y ≡ x = cc in
      added_list h e j (subst (λ z. TypedAdd c g h z e) name (typed_add c l g h at y e t)) (row_taken (row_at w.sites n e) (row_column_at w.sites n e) j form)
  rows_listed l h (tree.Assign at y e) j target form t = absurd (assigned_adds w n y e (whole j) form)
  rows_listed l h (tree.Declare at ty y e) j target form t = absurd cc
  rows_listed l h (tree.Sort at y keys downs) j target form t = absurd cc
  rows_listed l h (tree.If at e p) j target form t = absurd cc
  rows_listed l h (tree.IfElse at e p q) j target form t = absurd cc
  rows_listed l h (tree.ForEach at ty y e p) j target form t = absurd cc
  rows_listed l h (tree.While at e p) j target form t = absurd cc
  rows_listed l h (tree.Print at e) j target form t = absurd cc
  rows_listed l h (tree.Return at e) j target form t = absurd cc
  rows_listed l h (tree.Break at) j target form t = absurd cc

-- ---- Needed accumulators

-- A needed accumulator that is visible at the loop is as its chain asks for.
pub updated_here : (w : Setting) (c : Frame) → Checked w c → ScalarSets w.types → (l : Option Types) (before : Types) → TypedStatements c l before w.fragment.run w.types → (x : List ℕ) (u : Numbered) → TypedSite w c u.number u.site → is_among (needed_of w.fragment) x ≡ true → update_of w.sites x ≡ Some u → (k : JavaType) → w.types x ≡ Some k → Updated w x u
updated_here w c is sets l before run x u t needed found k visible =
    let p = update_is w.sites x u found in
    let stands : UpdateStands w c u x = update_stands w c is u x p.0 p.1 in
    let started : Started w.sites x w.fragment.run = needed_started w c is x needed in
    record {
      is = found;
      type = k;
      visible = visible;
      long = λ col form. same_type k (sym visible ∙ started_long c l before w.types w.fragment.run run started.statement x started.value started.first started.given (ap (λ z. may_start z started.value) (sym form) ∙ ap (λ o. may_start (form_found w.sites o) started.value) (sym found) ∙ started.may));
      no_rows = λ j form. rows_listed w c is.schema sets u.number x (stands.visited.scope.outer x k visible) t.types t.loops t.sighted t.body t.after u.site.statement j p.1 form t.typed;
    }
  where
    same_type : (k : JavaType) → Some k ≡ Some long → k ≡ long
    same_type k e = cc
