-- Operands of conditions are those of the lowered fragment.
use Rattle.std.proofs.Common.{◌≡◌, ℕ, true, false, ◌&&◌, ◌||◌, List, [], ◌∷◌, Option, Some, refl, sym, ap, ap₂, ◌∙◌, subst, cond, slice_get}
use Rattle.std.specs.List.{list_any, AllByRecursion}
use Rattle.std.specs.Option.{option_map}
use Rattle.std.proofs.lemmas.Bool.{and_parts}
use Rattle.std.proofs.lemmas.Option.{slice_get-map}
use Rattle.qbs_base.specs.declared.columns.Column.{Column}
use Rattle.qbs_base.specs.declared.scalar.Ty.{Ty}
use Rattle.qbs_base.specs.declared.span.Span.{Span}
use Rattle.qbs_base.specs.declared.scalar.Scalar.{Scalar}
use Rattle.qbs_base.specs.Values.{Schema}
use Rattle.qbs_base.specs.Columns.{column_number, columns_at}
use Rattle.java_ast.specs.Tree as tree
use Rattle.java_ast.specs.Tree.{Expression}
use Rattle.java_mean.specs.declared.types.JavaType.{JavaType}
use Rattle.java_mean.specs.declared.types.JavaType.TheVariants.{Of}
use Rattle.java_mean.specs.declared.types.Single.TheVariants.{ScalarOf, RowOf}
use Rattle.java_mean.specs.Rules.{ty_of}
use Rattle.java_mean.specs.Types.{Types}
use Rattle.java_mean.specs.Typing.{Frame, HasType}
use Rattle.tor_terms.specs.declared.term.Elem.TheVariants as elems
use Rattle.java_loops.specs.Walks.Forms.{IsElement, whole, IsOperand, field as is_field, entry as is_entry_of, entry_field, literal as is_literal_of}
use Rattle.java_loops.specs.Walks.Numbering.{with_loops}
use Rattle.tor_terms.specs.declared.term.Operand.TheVariants as operands
use Rattle.java_loops.specs.Kernel.KernelConditions.{is_operand, is_row_type, is_scalar_type, is_steady}
use Rattle.loop_text.specs.Kernel.KernelConditions.{is_outer}
use Rattle.loop_text.specs.Statements.Loops.{is_loop}
use Rattle.java_loops.specs.Lowering.Lowered.{type_of_entry, type_of_scalar, type_of_column, column_type}
use Rattle.java_loops.specs.Lowering.Numbering.{found_number, table_of_loop, table_of_site, loop_number, column_of, same_entry, entry_operand, entries_of, entry_number, operand_of, operand_of_column, number_where}
use Rattle.java_loops.specs.Kernel.Setting.{Setting}
use Rattle.loop_text.specs.Statements.Setting.{is_found}
use Rattle.loop_text.specs.declared.sites.bindings.Binding.{Binding}
use Rattle.loop_text.specs.declared.sites.bindings.Binding.TheVariants.{Row, Local, Outer}
use Rattle.loop_text.specs.Sites.Sites.{Site, binding_at, RowColumn, row_bound, column_of_row, row_at, row_column_at}
use Rattle.java_loops.proofs.Formed.FormTyping.{same_scalar, literal_typed, variable_typed, FieldTyped, field_typed}
use Rattle.java_loops.proofs.Numbers.NumberLists.{found_is, Numbered, numbered, IsThere, filtered_at}
use Rattle.java_loops.proofs.Numbers.NumberSame.{NamesVariable, named, entry_variable, NamesField, named_field, entry_field_named, variable_self, field_self}
use Rattle.java_loops.proofs.Numbers.Numberings.{loop_sites, numbering, RowSeen, Sighted}

-- ---- Which expressions are operands

-- a literal, a steady variable, a field of a loop's row, or a field of a steady variable
pub data OperandShape (w : Setting) (n : ℕ) : Expression → Type 0 where
  literal_shape : (at : Span) (x : Scalar) → OperandShape w n (tree.Lit at x)
  variable_shape : (at : Span) (x : List ℕ) → is_steady w n x ≡ true → OperandShape w n (tree.Var at x)
  column_shape : (at at' : Span) (x f : List ℕ) (j : ℕ) → binding_at w.sites n x ≡ Row j → OperandShape w n (tree.Field at (tree.Var at' x) f)
  entry_shape : (at at' : Span) (x f : List ℕ) → is_steady w n x ≡ true → OperandShape w n (tree.Field at (tree.Var at' x) f)

bound_shape : (w : Setting) (n : ℕ) (at at' : Span) (x f : List ℕ) (b : Binding) → binding_at w.sites n x ≡ b → (is_found (column_of_row f (row_bound b)) || (is_row_type (w.types x) && is_steady w n x)) ≡ true → OperandShape w n (tree.Field at (tree.Var at' x) f)
bound_shape w n at at' x f (Row j) e h = column_shape at at' x f j e
bound_shape w n at at' x f (Local d) e h = entry_shape at at' x f (and_parts (is_row_type (w.types x)) (is_steady w n x) h).1
bound_shape w n at at' x f Outer e h = entry_shape at at' x f (and_parts (is_row_type (w.types x)) (is_steady w n x) h).1

field_shape : (w : Setting) (n : ℕ) (at : Span) (e : Expression) (f : List ℕ) → is_operand w n (tree.Field at e f) ≡ true → OperandShape w n (tree.Field at e f)
field_shape w n at (tree.Var at' x) f h = bound_shape w n at at' x f (binding_at w.sites n x) refl h
field_shape w n at (tree.Lit at' v) f k = absurd cc
field_shape w n at (tree.Field at' a name) f k = absurd cc
field_shape w n at (tree.Binary at' op p q) f k = absurd cc
field_shape w n at (tree.Not at' a) f k = absurd cc
field_shape w n at (tree.Equals at' p q) f k = absurd cc
field_shape w n at (tree.Size at' y) f k = absurd cc
field_shape w n at (tree.Get at' y a) f k = absurd cc
field_shape w n at (tree.Contains at' y a) f k = absurd cc
field_shape w n at (tree.Fetch at' t) f k = absurd cc
field_shape w n at (tree.Query at' ty text es) f k = absurd cc
field_shape w n at (tree.QueryLong at' text es) f k = absurd cc
field_shape w n at (tree.QueryBoolean at' text es) f k = absurd cc
field_shape w n at (tree.NewList at') f k = absurd cc
field_shape w n at (tree.NewSet at') f k = absurd cc
field_shape w n at (tree.NewSetOf at' a) f k = absurd cc

pub operand_shape : (w : Setting) (n : ℕ) (e : Expression) → is_operand w n e ≡ true → OperandShape w n e
operand_shape w n (tree.Lit at x) h = literal_shape at x
operand_shape w n (tree.Var at x) h = variable_shape at x (and_parts (is_scalar_type (w.types x)) (is_steady w n x) h).1
operand_shape w n (tree.Field at e f) h = field_shape w n at e f h
operand_shape w n (tree.Binary at op p q) h = absurd cc
operand_shape w n (tree.Not at a) h = absurd cc
operand_shape w n (tree.Equals at p q) h = absurd cc
operand_shape w n (tree.Size at y) h = absurd cc
operand_shape w n (tree.Get at y a) h = absurd cc
operand_shape w n (tree.Contains at y a) h = absurd cc
operand_shape w n (tree.Fetch at t) h = absurd cc
operand_shape w n (tree.Query at ty text es) h = absurd cc
operand_shape w n (tree.QueryLong at text es) h = absurd cc
operand_shape w n (tree.QueryBoolean at text es) h = absurd cc
operand_shape w n (tree.NewList at) h = absurd cc
operand_shape w n (tree.NewSet at) h = absurd cc
operand_shape w n (tree.NewSetOf at a) h = absurd cc

-- a field of a loop's row
pub data ColumnShape (w : Setting) (n : ℕ) : Expression → RowColumn → Type 0 where
  of_row : (at at' : Span) (x f : List ℕ) (j : ℕ) → binding_at w.sites n x ≡ Row j → ColumnShape w n (tree.Field at (tree.Var at' x) f) (record { loop = j; column = f })

bound_column : (w : Setting) (n : ℕ) (at at' : Span) (x f : List ℕ) (b : Binding) (c : RowColumn) → binding_at w.sites n x ≡ b → column_of_row f (row_bound b) ≡ Some c → ColumnShape w n (tree.Field at (tree.Var at' x) f) c
bound_column w n at at' x f (Row j) c e h = let l : Some (record { loop = j; column = f }) ≡ Some c = h in let same : record { loop = j; column = f } ≡ c = cc in subst (ColumnShape w n (tree.Field at (tree.Var at' x) f)) same (of_row at at' x f j e)
bound_column w n at at' x f (Local d) c e h = absurd cc
bound_column w n at at' x f Outer c e h = absurd cc

field_column : (w : Setting) (n : ℕ) (at : Span) (e : Expression) (f : List ℕ) (c : RowColumn) → row_column_at w.sites n (tree.Field at e f) ≡ Some c → ColumnShape w n (tree.Field at e f) c
field_column w n at (tree.Var at' x) f c h = bound_column w n at at' x f (binding_at w.sites n x) c refl h
field_column w n at (tree.Lit at' v) f c k = absurd cc
field_column w n at (tree.Field at' a name) f c k = absurd cc
field_column w n at (tree.Binary at' op p q) f c k = absurd cc
field_column w n at (tree.Not at' a) f c k = absurd cc
field_column w n at (tree.Equals at' p q) f c k = absurd cc
field_column w n at (tree.Size at' y) f c k = absurd cc
field_column w n at (tree.Get at' y a) f c k = absurd cc
field_column w n at (tree.Contains at' y a) f c k = absurd cc
field_column w n at (tree.Fetch at' t) f c k = absurd cc
field_column w n at (tree.Query at' ty text es) f c k = absurd cc
field_column w n at (tree.QueryLong at' text es) f c k = absurd cc
field_column w n at (tree.QueryBoolean at' text es) f c k = absurd cc
field_column w n at (tree.NewList at') f c k = absurd cc
field_column w n at (tree.NewSet at') f c k = absurd cc
field_column w n at (tree.NewSetOf at' a) f c k = absurd cc

pub column_shaped : (w : Setting) (n : ℕ) (e : Expression) (c : RowColumn) → row_column_at w.sites n e ≡ Some c → ColumnShape w n e c
column_shaped w n (tree.Field at e f) c h = field_column w n at e f c h
column_shaped w n (tree.Lit at v) c h = absurd cc
column_shaped w n (tree.Var at y) c h = absurd cc
column_shaped w n (tree.Binary at op p q) c h = absurd cc
column_shaped w n (tree.Not at a) c h = absurd cc
column_shaped w n (tree.Equals at p q) c h = absurd cc
column_shaped w n (tree.Size at y) c h = absurd cc
column_shaped w n (tree.Get at y a) c h = absurd cc
column_shaped w n (tree.Contains at y a) c h = absurd cc
column_shaped w n (tree.Fetch at t) c h = absurd cc
column_shaped w n (tree.Query at ty text es) c h = absurd cc
column_shaped w n (tree.QueryLong at text es) c h = absurd cc
column_shaped w n (tree.QueryBoolean at text es) c h = absurd cc
column_shaped w n (tree.NewList at) c h = absurd cc
column_shaped w n (tree.NewSet at) c h = absurd cc
column_shaped w n (tree.NewSetOf at a) c h = absurd cc

-- the row of a loop by its name
data RowNamed (w : Setting) (n : ℕ) : Expression → ℕ → Type 0 where
  of_name : {j : ℕ} (at : Span) (x : List ℕ) → binding_at w.sites n x ≡ Row j → RowNamed w n (tree.Var at x) j

pub steady_outer : (w : Setting) (n : ℕ) (x : List ℕ) → is_steady w n x ≡ true → binding_at w.sites n x ≡ Outer
steady_outer w n x h = outer_found (binding_at w.sites n x) (and_parts (is_outer (binding_at w.sites n x)) _ h).0
  where
    outer_found : (b : Binding) → is_outer b ≡ true → b ≡ Outer
    outer_found (Row j) h = absurd cc
    outer_found (Local d) h = absurd cc
    outer_found Outer h = refl

-- ---- Types of entries

variable_type : (schema : Schema) (types : Types) (x : List ℕ) (e : Expression) → NamesVariable x e → type_of_entry schema types e ≡ type_of_scalar (types x)
variable_type schema types x _ (named at) = refl

field_type : (schema : Schema) (types : Types) (x f : List ℕ) (e : Expression) → NamesField x f e → type_of_entry schema types e ≡ column_type schema (types x) f
field_type schema types x f _ (named_field at at') = refl

-- ---- Operands

-- a visible name of this type is the row of the loop with this number among the sites
pub record SeenRow (w : Setting) (loops : List ℕ → Option ℕ) (k : JavaType) (j : ℕ) : Type 0 where
  pub name : List ℕ
  pub seen : RowSeen w loops name k j

module _ (w : Setting) (c : Frame) (same : c.schema ≡ w.schema) (n : ℕ) (g : Types) (loops : List ℕ → Option ℕ) (s : Sighted w n g loops) where
  row_operand : (at at' : Span) (x f : List ℕ) (j : ℕ) (ty : Ty) → binding_at w.sites n x ≡ Row j → HasType c g (tree.Field at (tree.Var at' x) f) (Of (ScalarOf ty)) → IsOperand (with_loops loops (numbering w)) (tree.Field at (tree.Var at' x) f) (operands.Field (loop_number w.sites j) (column_of w (record { loop = j; column = f }))) ty
  row_operand at at' x f j ty b t =
      let u : FieldTyped c g (tree.Var at' x) f (Of (ScalarOf ty)) = field_typed c g at (tree.Var at' x) f (Of (ScalarOf ty)) t in
      let r : RowSeen w loops x (Of (RowOf u.table)) j = s.rows x (Of (RowOf u.table)) j (variable_typed c g at' x (Of (RowOf u.table)) u.row) b in
      let i : ℕ = loop_number w.sites j in
      let k : ℕ = column_of w (record { loop = j; column = f }) in
      let table : u.table ≡ table_of_loop w.schema r.site.statement = row_table u.table (table_of_loop w.schema r.site.statement) r.type in
      let here : table_of_site w.schema (slice_get (loop_sites w.sites) i) ≡ u.table = ap (table_of_site w.schema) (filtered_at (λ (z : Site). is_loop z.statement) w.sites j r.site r.there r.is_loop) ∙ sym table in
      let columns : columns_at w.schema (table_of_site w.schema (slice_get (loop_sites w.sites) i)) ≡ columns_at c.schema u.table = ap₂ columns_at (sym same) here in
      let number : k ≡ u.number = ap (λ o. found_number (column_number (columns_at w.schema (table_of_site w.schema o)) f)) r.there ∙ ap (λ z. found_number (column_number z f)) (ap₂ columns_at (sym same) (sym table)) ∙ ap found_number u.numbered in
      let p : column_number (columns_at w.schema (table_of_site w.schema (slice_get (loop_sites w.sites) i))) f ≡ Some k = ap (λ z. column_number z f) columns ∙ u.numbered ∙ ap Some (sym number) in
      let q : slice_get (columns_at w.schema (table_of_site w.schema (slice_get (loop_sites w.sites) i))) k ≡ Some u.column = ap₂ slice_get columns number ∙ u.there in
      subst (IsOperand (with_loops loops (numbering w)) (tree.Field at (tree.Var at' x) f) (operands.Field i k)) (sym (same_scalar ty u.column.ty u.is)) (is_field at at' x f i k u.column r.number p q)
    where
      row_table : (a b : ℕ) → Of (RowOf a) ≡ Of (RowOf b) → a ≡ b
      row_table a b e = cc

  column_by : (e : Expression) (d : RowColumn) (ty : Ty) → ColumnShape w n e d → HasType c g e (Of (ScalarOf ty)) → IsOperand (with_loops loops (numbering w)) e (operands.Field (loop_number w.sites d.loop) (column_of w d)) ty
  column_by _ _ ty (of_row at at' x f j b) t = row_operand at at' x f j ty b t

  -- a column of a loop's row is the field of that loop's list
  pub column_operand : (e : Expression) (d : RowColumn) (ty : Ty) → row_column_at w.sites n e ≡ Some d → HasType c g e (Of (ScalarOf ty)) → IsOperand (with_loops loops (numbering w)) e (operands.Field (loop_number w.sites d.loop) (column_of w d)) ty
  column_operand e d ty h t = column_by e d ty (column_shaped w n e d h) t

  variable_operand : (at : Span) (x : List ℕ) (ty : Ty) → w.types x ≡ Some (Of (ScalarOf ty)) → list_any (same_entry (tree.Var at x)) (entries_of w) ≡ true → IsOperand (with_loops loops (numbering w)) (tree.Var at x) (operands.Entry (entry_number (entries_of w) (tree.Var at x))) ty
  variable_operand at x ty typed h =
      let k : ℕ = number_where (same_entry (tree.Var at x)) (entries_of w) in
      let m : Numbered (same_entry (tree.Var at x)) (entries_of w) = numbered (same_entry (tree.Var at x)) (entries_of w) h in
      let type : type_of_entry w.schema w.types m.item ≡ ty = variable_type w.schema w.types x m.item (entry_variable at x m.item m.passes) ∙ ap type_of_scalar typed in
      is_entry_of at x k ty (found_is (same_entry (tree.Var at x)) (entries_of w) h) (slice_get-map (type_of_entry w.schema w.types) (entries_of w) k ∙ ap (option_map (type_of_entry w.schema w.types)) m.there ∙ ap Some type)

  field_operand : (at at' : Span) (x f : List ℕ) (table number : ℕ) (column : Column) → w.types x ≡ Some (Of (RowOf table)) → column_number (columns_at c.schema table) f ≡ Some number → slice_get (columns_at c.schema table) number ≡ Some column → list_any (same_entry (tree.Field at (tree.Var at' x) f)) (entries_of w) ≡ true → IsOperand (with_loops loops (numbering w)) (tree.Field at (tree.Var at' x) f) (operands.Entry (entry_number (entries_of w) (tree.Field at (tree.Var at' x) f))) column.ty
  field_operand at at' x f table number column typed at_number there h =
      let k : ℕ = number_where (same_entry (tree.Field at (tree.Var at' x) f)) (entries_of w) in
      let m : Numbered (same_entry (tree.Field at (tree.Var at' x) f)) (entries_of w) = numbered (same_entry (tree.Field at (tree.Var at' x) f)) (entries_of w) h in
      let here : slice_get (columns_at w.schema table) (found_number (column_number (columns_at w.schema table) f)) ≡ Some column = ap (λ z. slice_get (columns_at z table) (found_number (column_number (columns_at z table) f))) (sym same) ∙ ap (λ o. slice_get (columns_at c.schema table) (found_number o)) at_number ∙ there in
      let type : type_of_entry w.schema w.types m.item ≡ column.ty = field_type w.schema w.types x f m.item (entry_field_named at at' x f m.item m.passes) ∙ ap (λ o. column_type w.schema o f) typed ∙ ap type_of_column here in
      entry_field at at' x f k column.ty (found_is (same_entry (tree.Field at (tree.Var at' x) f)) (entries_of w) h) (slice_get-map (type_of_entry w.schema w.types) (entries_of w) k ∙ ap (option_map (type_of_entry w.schema w.types)) m.there ∙ ap Some type)

  outer_operand : (at at' : Span) (x f : List ℕ) (ty : Ty) → binding_at w.sites n x ≡ Outer → HasType c g (tree.Field at (tree.Var at' x) f) (Of (ScalarOf ty)) → list_any (same_entry (tree.Field at (tree.Var at' x) f)) (entries_of w) ≡ true → IsOperand (with_loops loops (numbering w)) (tree.Field at (tree.Var at' x) f) (operands.Entry (entry_number (entries_of w) (tree.Field at (tree.Var at' x) f))) ty
  outer_operand at at' x f ty b t h =
      let u : FieldTyped c g (tree.Var at' x) f (Of (ScalarOf ty)) = field_typed c g at (tree.Var at' x) f (Of (ScalarOf ty)) t in
      subst (IsOperand (with_loops loops (numbering w)) (tree.Field at (tree.Var at' x) f) (operands.Entry (entry_number (entries_of w) (tree.Field at (tree.Var at' x) f)))) (sym (same_scalar ty u.column.ty u.is)) (field_operand at at' x f u.table u.number u.column (s.outer x (Of (RowOf u.table)) (variable_typed c g at' x (Of (RowOf u.table)) u.row) b) u.numbered u.there h)

  operand_by : (e : Expression) (ty : Ty) → OperandShape w n e → HasType c g e (Of (ScalarOf ty)) → AllByRecursion (IsThere same_entry (entries_of w)) (entry_operand w.sites n e) → IsOperand (with_loops loops (numbering w)) e (operand_of w (entries_of w) n e) ty
  operand_by _ ty (literal_shape at x) t h = subst (IsOperand (with_loops loops (numbering w)) (tree.Lit at x) (operands.Lit x)) (same_scalar (ty_of x) ty (sym (literal_typed c g at x (Of (ScalarOf ty)) t))) (is_literal_of at x)
  operand_by _ ty (variable_shape at x steady) t h = variable_operand at x ty (s.outer x (Of (ScalarOf ty)) (variable_typed c g at x (Of (ScalarOf ty)) t) (steady_outer w n x steady)) (h.0 (variable_self at x))
  operand_by _ ty (column_shape at at' x f j b) t h =
      subst (λ o. IsOperand (with_loops loops (numbering w)) (tree.Field at (tree.Var at' x) f) o ty) (sym (ap (λ z. operand_of_column w (entries_of w) (tree.Field at (tree.Var at' x) f) (column_of_row f (row_bound z))) b)) (row_operand at at' x f j ty b t)
  operand_by _ ty (entry_shape at at' x f steady) t h =
      let b : binding_at w.sites n x ≡ Outer = steady_outer w n x steady in
      let only : AllByRecursion (IsThere same_entry (entries_of w)) (tree.Field at (tree.Var at' x) f ∷ []) = subst (λ z. AllByRecursion (IsThere same_entry (entries_of w)) (cond (is_found (column_of_row f (row_bound z)) || false) [] (tree.Field at (tree.Var at' x) f ∷ []))) b h in
      subst (λ o. IsOperand (with_loops loops (numbering w)) (tree.Field at (tree.Var at' x) f) o ty) (sym (ap (λ z. operand_of_column w (entries_of w) (tree.Field at (tree.Var at' x) f) (column_of_row f (row_bound z))) b)) (outer_operand at at' x f ty b t (only.0 (field_self at at' x f)))

  -- an operand of a condition is the operand of the fragment, where its entry value has a number
  pub operand_is : (e : Expression) (ty : Ty) → HasType c g e (Of (ScalarOf ty)) → is_operand w n e ≡ true → AllByRecursion (IsThere same_entry (entries_of w)) (entry_operand w.sites n e) → IsOperand (with_loops loops (numbering w)) e (operand_of w (entries_of w) n e) ty
  operand_is e ty t h known = operand_by e ty (operand_shape w n e h) t known

  row_found : (e : Expression) (j : ℕ) → row_at w.sites n e ≡ Some j → RowNamed w n e j
  row_found (tree.Var at x) j h = bound_row at x j (binding_at w.sites n x) refl h
    where
      bound_row : (at : Span) (x : List ℕ) (j : ℕ) (b : Binding) → binding_at w.sites n x ≡ b → row_bound b ≡ Some j → RowNamed w n (tree.Var at x) j
      bound_row at x j (Row i) e h = let same : i ≡ j = cc in of_name at x (e ∙ ap Row same)
      bound_row at x j (Local d) e h = absurd cc
      bound_row at x j Outer e h = absurd cc
  row_found (tree.Lit at v) j h = absurd cc
  row_found (tree.Field at a name) j h = absurd cc
  row_found (tree.Binary at op p q) j h = absurd cc
  row_found (tree.Not at a) j h = absurd cc
  row_found (tree.Equals at p q) j h = absurd cc
  row_found (tree.Size at y) j h = absurd cc
  row_found (tree.Get at y a) j h = absurd cc
  row_found (tree.Contains at y a) j h = absurd cc
  row_found (tree.Fetch at t) j h = absurd cc
  row_found (tree.Query at ty text es) j h = absurd cc
  row_found (tree.QueryLong at text es) j h = absurd cc
  row_found (tree.QueryBoolean at text es) j h = absurd cc
  row_found (tree.NewList at) j h = absurd cc
  row_found (tree.NewSet at) j h = absurd cc
  row_found (tree.NewSetOf at a) j h = absurd cc

  row_by : (e : Expression) (k : JavaType) (j : ℕ) → RowNamed w n e j → HasType c g e k → IsElement (with_loops loops (numbering w)) e (elems.Whole (loop_number w.sites j))
  row_by _ k j (of_name at x b) t = let r : RowSeen w loops x k j = s.rows x k j (variable_typed c g at x k t) b in whole at x (loop_number w.sites j) r.number

  named_seen : (e : Expression) (k : JavaType) (j : ℕ) → RowNamed w n e j → HasType c g e k → SeenRow w loops k j
  named_seen _ k j (of_name at x b) t = record { name = x; seen = s.rows x k j (variable_typed c g at x k t) b }

  -- the row of a loop is of the loop's table
  pub row_seen : (e : Expression) (k : JavaType) (j : ℕ) → row_at w.sites n e ≡ Some j → HasType c g e k → SeenRow w loops k j
  row_seen e k j h t = named_seen e k j (row_found e j h) t

  -- the row of a loop is the element of that loop's list
  pub row_element : (e : Expression) (k : JavaType) (j : ℕ) → row_at w.sites n e ≡ Some j → HasType c g e k → IsElement (with_loops loops (numbering w)) e (elems.Whole (loop_number w.sites j))
  row_element e k j h t = row_by e k j (row_found e j h) t
