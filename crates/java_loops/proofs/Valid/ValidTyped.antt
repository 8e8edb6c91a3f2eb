-- Tests of a lowered fragment are of one type, where loops walk rows of their tables.
use Rattle.std.proofs.Common.{◌≡◌, ℕ, zero, suc, Bool, true, false, not, ◌||◌, List, [], ◌∷◌, map, Option, Some, None, refl, sym, ap, ◌∙◌, subst, cond, slice_get, bytes_eq}
use Rattle.std.specs.List.{AllByRecursion, list_any, list_all}
use Rattle.std.proofs.lemmas.Bool.{and_parts}
use Rattle.qbs_base.specs.declared.span.Span.{Span}
use Rattle.qbs_base.specs.declared.scalar.Scalar.{Scalar}
use Rattle.qbs_base.specs.declared.scalar.Scalar.TheVariants as scalars
use Rattle.qbs_base.specs.declared.scalar.Ty.{Ty}
use Rattle.qbs_base.specs.declared.scalar.Ty.TheVariants as tys
use Rattle.qbs_base.specs.Values.{Schema, HasTy}
use Rattle.qbs_base.specs.Columns.{table_number, column_number, columns_at}
use Rattle.java_ast.specs.declared.tree.Op.{Op}
use Rattle.java_ast.specs.declared.tree.Op.TheVariants as ops
use Rattle.java_ast.specs.Tree as tree
use Rattle.java_ast.specs.Tree.{Spelled, Expression, Statement, Statements, Then}
use Rattle.java_mean.specs.declared.types.JavaType.{JavaType}
use Rattle.java_mean.specs.declared.types.JavaType.TheVariants.{Of}
use Rattle.java_mean.specs.declared.types.Single.TheVariants.{ScalarOf, RowOf}
use Rattle.java_mean.specs.Types.{Types, type_spelled, row_type, made_of}
use Rattle.java_mean.specs.Typing as typing
use Rattle.java_mean.specs.Typing.{Frame, HasType, Takes}
use Rattle.java_mean.proofs.Puts.{names_equal, name_same}
use Rattle.kernel_lang.specs.Typed.{operand_type, scalar_type, same_type, is_type, atom_is_typed}
use Rattle.tor_terms.specs.declared.term.Atom.{Atom}
use Rattle.tor_terms.specs.declared.term.Operand.{Operand}
use Rattle.java_loops.specs.Kernel.Kernel.{lowering}
use Rattle.java_loops.specs.Kernel.KernelConditions.{is_operand, is_entry, is_entry_row, is_steady, is_scalar_type, is_row_type}
use Rattle.loop_text.specs.Kernel.KernelConditions.{is_literal, is_outer, is_comparing}
use Rattle.loop_text.specs.Kernel.KernelLoop.{is_table}
use Rattle.java_loops.specs.Lowering.Lowered.{type_of_entry, type_of_scalar, type_of_column, column_type}
use Rattle.java_ast.specs.Names.{is_among, updated_in}
use Rattle.java_loops.specs.Lowering.Numbering.{Leaf, all_leaves, same_entry, entry_operand, entries_in, entries_of, known_of, numbers_of, entry_number, found_number, table_spelled, table_of_site, operand_of, operand_of_column, operand_of_literal, bound_reading, flag_reading, reading_of}
use Rattle.java_loops.specs.Kernel.Setting.{Setting}
use Rattle.loop_text.specs.Statements.Setting.{is_found}
use Rattle.loop_text.specs.declared.sites.bindings.Binding.{Binding}
use Rattle.loop_text.specs.declared.sites.bindings.Binding.TheVariants.{Row, Local, Outer}
use Rattle.loop_text.specs.Sites.Sites.{Site, RowColumn, binding_at, row_column_at, outside}
use Rattle.java_loops.proofs.Standing.Standing.{site_of}
use Rattle.java_loops.proofs.Standing.StandingSites.{loop_first}
use Rattle.java_loops.proofs.Valid.ValidColumns.{OfTable, column_typed}
use Rattle.java_loops.proofs.Valid.ValidForms.{all_front, all_back}
use Rattle.java_loops.proofs.Valid.ValidLeaves.{LeafStands, all_leaves_stand}
use Rattle.java_loops.proofs.Valid.ValidLoop.{Checked, rules, FirstRow, shallow_at}
use Rattle.java_loops.proofs.Valid.ValidNumbers.{number_passes, Passing, all_atoms, atom_of_leaf}
use Rattle.java_loops.proofs.Valid.ValidOperands.{all_to_test, leaf_shape, IsComparison, comparison_is, same_is, field_of_row}
use Rattle.java_loops.proofs.Valid.ValidOperands as comparing
use Rattle.java_loops.proofs.Valid.ValidScope.{IsBound}
use Rattle.java_loops.proofs.Valid.ValidShapes.{Shape, compares, equals, tests, reads, finds, flag_at}
use Rattle.java_loops.proofs.Valid.ValidThere.{IsEntered, LeafEntered, all_entered, zip_all}
use Rattle.java_loops.proofs.Valid.ValidVisits.{all_weaker, TakesRow, Nested, Visited}

-- A for-each, where all is visible that is visible before the loop, walks rows of the table that its variable is spelled by.
pub record RowsWalked (w : Setting) (c : Frame) : Type 0 where
  pub rows : (n : ℕ) (s : Site) (now : Types) (at : Span) (ty : Spelled) (x : List ℕ) (e : Expression) (p : Statements) (k : JavaType) → slice_get w.sites n ≡ Some s → s.statement ≡ tree.ForEach at ty x e p → ((y : List ℕ) (j : JavaType) → w.types y ≡ Some j → now y ≡ Some j) → TakesRow c now e k → OfTable w n k

pub table_nested : (w : Setting) (c : Frame) → Checked w c → RowsWalked w c → Nested (OfTable w) c w.types w.sites
table_nested w c is walked = record { shallow = λ n s get loops. shallow_at w (rules w is.none).depth n s get loops; rows = walked.rows }

spelled_table : (schema : Schema) (o : Option ℕ) (k : JavaType) → made_of Of (row_type o) ≡ Some k → k ≡ Of (RowOf (found_number o))
spelled_table schema None k h = absurd cc
spelled_table schema (Some n) k h = let e : Some (Of (RowOf n)) ≡ Some k = h in cc

spelled_row : (schema : Schema) (ty : Spelled) (k : JavaType) → is_table ty ≡ true → type_spelled schema ty ≡ Some k → k ≡ Of (RowOf (table_spelled schema ty))
spelled_row schema (tree.Table name) k h t = spelled_table schema (table_number schema name) k t
spelled_row schema (tree.ListOf e) k h t = absurd cc
spelled_row schema (tree.SetOf e) k h t = absurd cc
spelled_row schema tree.Int k h t = absurd cc
spelled_row schema tree.Long k h t = absurd cc
spelled_row schema tree.Boolean k h t = absurd cc
spelled_row schema tree.String k h t = absurd cc
spelled_row schema tree.BoxedInteger k h t = absurd cc
spelled_row schema tree.BoxedLong k h t = absurd cc
spelled_row schema tree.BoxedBoolean k h t = absurd cc

pub table_first : (w : Setting) (c : Frame) → Checked w c → FirstRow (OfTable w) c w.fragment.loop
table_first w c is = λ at q at' ty x e ss k loop table spelled.
    (let one : slice_get w.sites 0 ≡ Some (site_of outside None w.fragment.loop) = ap (λ z. slice_get z 0) is.sites ∙ loop_first w.fragment.loop in
    let two : table_of_site w.schema (slice_get w.sites 0) ≡ table_spelled w.schema ty = ap (table_of_site w.schema) one ∙ ap (λ s. table_of_site w.schema (Some (site_of outside None s))) loop in
    spelled_row w.schema ty k table (ap (λ z. type_spelled z ty) (sym is.schema) ∙ spelled) ∙ ap (λ n. Of (RowOf n)) (sym two))

-- ---- Entry values

outer_is : (b : Binding) → is_outer b ≡ true → b ≡ Outer
outer_is (Row n) h = absurd cc
outer_is (Local d) h = absurd cc
outer_is Outer h = refl

steady_type : (P : ℕ → JavaType → Type 0) (w : Setting) (c : Frame) (n : ℕ) (v : Visited P c w.types w.sites n) (x : List ℕ) (k : JavaType) → v.now x ≡ Some k → is_steady w n x ≡ true → w.types x ≡ Some k
steady_type P w c n v x k h s =
    let o = outer_is (binding_at w.sites n x) (and_parts (is_outer (binding_at w.sites n x)) (not (is_among (updated_in w.fragment.loop) x)) s).0 in
    subst (λ b. IsBound P w.types w.sites v.site.round x k b) o (v.scope.bound x k h)

row_entry_type : (P : ℕ → JavaType → Type 0) (w : Setting) (c : Frame) (n : ℕ) (v : Visited P c w.types w.sites n) (at : Span) (e : Expression) (f : List ℕ) (m : ℕ) (k : JavaType) → HasType c v.now e k → k ≡ Of (RowOf m) → is_entry_row w n e ≡ true → type_of_entry w.schema w.types (tree.Field at e f) ≡ column_type w.schema (Some (Of (RowOf m))) f
row_entry_type P w c n v at _ f m k (typing.var at' x _ h) same i =
    ap (λ o. column_type w.schema o f) (steady_type P w c n v x k h (and_parts (is_row_type (w.types x)) (is_steady w n x) i).1 ∙ ap Some same)
row_entry_type P w c n v at _ f m _ (typing.lit at' x ty h) same is = absurd cc
row_entry_type P w c n v at _ f m _ (typing.field at' e g o i col t h u) same is = absurd cc
row_entry_type P w c n v at _ f m _ (typing.binary at' op a b from to z t u) same is = absurd cc
row_entry_type P w c n v at _ f m _ (typing.negated at' e t) same is = absurd cc
row_entry_type P w c n v at _ f m _ (typing.equals at' a b t u) same is = absurd cc
row_entry_type P w c n v at _ f m _ (typing.size at' x j a h has) same is = absurd cc
row_entry_type P w c n v at _ f m _ (typing.get at' x e a h t) same is = absurd cc
row_entry_type P w c n v at _ f m _ (typing.contains at' x e j ty h has t) same is = absurd cc
row_entry_type P w c n v at _ f m _ (typing.fetch at' t o h) same is = absurd cc
row_entry_type P w c n v at _ f m _ (typing.query at' ty text es q h t) same is = absurd cc
row_entry_type P w c n v at _ f m _ (typing.query_long at' text es q h t) same is = absurd cc
row_entry_type P w c n v at _ f m _ (typing.query_boolean at' text es q h t) same is = absurd cc
row_entry_type P w c n v at _ f m _ (typing.new_list at' a) same is = absurd cc
row_entry_type P w c n v at _ f m _ (typing.new_set at' a) same is = absurd cc
row_entry_type P w c n v at _ f m _ (typing.new_set_of at' e a t) same is = absurd cc

entry_type : (P : ℕ → JavaType → Type 0) (w : Setting) (c : Frame) → Checked w c → (n : ℕ) (v : Visited P c w.types w.sites n) (e : Expression) (k : JavaType) (ty : Ty) → HasType c v.now e k → k ≡ Of (ScalarOf ty) → is_entry w n e ≡ true → type_of_entry w.schema w.types e ≡ ty
entry_type P w c is n v _ k ty (typing.var at x _ h) same i = ap type_of_scalar (steady_type P w c n v x k h (and_parts (is_scalar_type (w.types x)) (is_steady w n x) i).1 ∙ ap Some same)
entry_type P w c is n v _ _ ty (typing.field at e f m i col t h u) same entry =
    row_entry_type P w c n v at e f m (Of (RowOf m)) t refl entry
    ∙ ap (λ z. type_of_column (slice_get (columns_at z m) (found_number (column_number (columns_at z m) f)))) (sym is.schema)
    ∙ ap (λ o. type_of_column (slice_get (columns_at c.schema m) (found_number o))) h
    ∙ ap type_of_column u
    ∙ (let e : Of (ScalarOf col.ty) ≡ Of (ScalarOf ty) = same in cc)
entry_type P w c is n v _ _ ty (typing.lit at x ty' h) same i = absurd cc
entry_type P w c is n v _ _ ty (typing.binary at op a b from to z t u) same i = absurd cc
entry_type P w c is n v _ _ ty (typing.negated at e t) same i = absurd cc
entry_type P w c is n v _ _ ty (typing.equals at a b t u) same i = absurd cc
entry_type P w c is n v _ _ ty (typing.size at x j a h has) same i = absurd cc
entry_type P w c is n v _ _ ty (typing.get at x e a h t) same i = absurd cc
entry_type P w c is n v _ _ ty (typing.contains at x e j ty' h has t) same i = absurd cc
entry_type P w c is n v _ _ ty (typing.fetch at t o h) same i = absurd cc
entry_type P w c is n v _ _ ty (typing.query at ty' text es q h t) same i = absurd cc
entry_type P w c is n v _ _ ty (typing.query_long at text es q h t) same i = absurd cc
entry_type P w c is n v _ _ ty (typing.query_boolean at text es q h t) same i = absurd cc
entry_type P w c is n v _ _ ty (typing.new_list at a) same i = absurd cc
entry_type P w c is n v _ _ ty (typing.new_set at a) same i = absurd cc
entry_type P w c is n v _ _ ty (typing.new_set_of at e a t) same i = absurd cc

var_type : (schema : Schema) (types : Types) (at : Span) (x : List ℕ) (e : Expression) → same_entry (tree.Var at x) e ≡ true → type_of_entry schema types e ≡ type_of_entry schema types (tree.Var at x)
var_type schema types at x (tree.Lit at' x') h = absurd cc
var_type schema types at x (tree.Var at' y) h = ap (λ z. type_of_scalar (types z)) (sym (names_equal x y h))
var_type schema types at x (tree.Field at' e' f') h = absurd cc
var_type schema types at x (tree.Binary at' op' a' b') h = absurd cc
var_type schema types at x (tree.Not at' e') h = absurd cc
var_type schema types at x (tree.Equals at' a' b') h = absurd cc
var_type schema types at x (tree.Size at' x') h = absurd cc
var_type schema types at x (tree.Get at' x' e') h = absurd cc
var_type schema types at x (tree.Contains at' x' e') h = absurd cc
var_type schema types at x (tree.Fetch at' t') h = absurd cc
var_type schema types at x (tree.Query at' ty' text' es') h = absurd cc
var_type schema types at x (tree.QueryLong at' text' es') h = absurd cc
var_type schema types at x (tree.QueryBoolean at' text' es') h = absurd cc
var_type schema types at x (tree.NewList at') h = absurd cc
var_type schema types at x (tree.NewSet at') h = absurd cc
var_type schema types at x (tree.NewSetOf at' e') h = absurd cc

row_field_type : (schema : Schema) (types : Types) (at at' : Span) (x f g : List ℕ) (b : Expression) (at'' : Span) → bytes_eq f g ≡ true → same_entry (tree.Var at' x) b ≡ true → type_of_entry schema types (tree.Field at'' b g) ≡ type_of_entry schema types (tree.Field at (tree.Var at' x) f)
row_field_type schema types at at' x f g (tree.Lit at1 x1) at'' h i = absurd cc
row_field_type schema types at at' x f g (tree.Var at1 y) at'' h i = ap (λ z. column_type schema (types z) g) (sym (names_equal x y i)) ∙ ap (column_type schema (types x)) (sym (names_equal f g h))
row_field_type schema types at at' x f g (tree.Field at1 e1 f1) at'' h i = absurd cc
row_field_type schema types at at' x f g (tree.Binary at1 op1 a1 b1) at'' h i = absurd cc
row_field_type schema types at at' x f g (tree.Not at1 e1) at'' h i = absurd cc
row_field_type schema types at at' x f g (tree.Equals at1 a1 b1) at'' h i = absurd cc
row_field_type schema types at at' x f g (tree.Size at1 x1) at'' h i = absurd cc
row_field_type schema types at at' x f g (tree.Get at1 x1 e1) at'' h i = absurd cc
row_field_type schema types at at' x f g (tree.Contains at1 x1 e1) at'' h i = absurd cc
row_field_type schema types at at' x f g (tree.Fetch at1 t1) at'' h i = absurd cc
row_field_type schema types at at' x f g (tree.Query at1 ty1 text1 es1) at'' h i = absurd cc
row_field_type schema types at at' x f g (tree.QueryLong at1 text1 es1) at'' h i = absurd cc
row_field_type schema types at at' x f g (tree.QueryBoolean at1 text1 es1) at'' h i = absurd cc
row_field_type schema types at at' x f g (tree.NewList at1) at'' h i = absurd cc
row_field_type schema types at at' x f g (tree.NewSet at1) at'' h i = absurd cc
row_field_type schema types at at' x f g (tree.NewSetOf at1 e1) at'' h i = absurd cc

field_type : (schema : Schema) (types : Types) (at at' : Span) (x f : List ℕ) (e : Expression) → same_entry (tree.Field at (tree.Var at' x) f) e ≡ true → type_of_entry schema types e ≡ type_of_entry schema types (tree.Field at (tree.Var at' x) f)
field_type schema types at at' x f (tree.Lit at1 x1) h = absurd cc
field_type schema types at at' x f (tree.Var at1 x1) h = absurd cc
field_type schema types at at' x f (tree.Field at1 b g) h = let p = and_parts (bytes_eq f g) (same_entry (tree.Var at' x) b) h in row_field_type schema types at at' x f g b at1 p.0 p.1
field_type schema types at at' x f (tree.Binary at1 op1 a1 b1) h = absurd cc
field_type schema types at at' x f (tree.Not at1 e1) h = absurd cc
field_type schema types at at' x f (tree.Equals at1 a1 b1) h = absurd cc
field_type schema types at at' x f (tree.Size at1 x1) h = absurd cc
field_type schema types at at' x f (tree.Get at1 x1 e1) h = absurd cc
field_type schema types at at' x f (tree.Contains at1 x1 e1) h = absurd cc
field_type schema types at at' x f (tree.Fetch at1 t1) h = absurd cc
field_type schema types at at' x f (tree.Query at1 ty1 text1 es1) h = absurd cc
field_type schema types at at' x f (tree.QueryLong at1 text1 es1) h = absurd cc
field_type schema types at at' x f (tree.QueryBoolean at1 text1 es1) h = absurd cc
field_type schema types at at' x f (tree.NewList at1) h = absurd cc
field_type schema types at at' x f (tree.NewSet at1) h = absurd cc
field_type schema types at at' x f (tree.NewSetOf at1 e1) h = absurd cc

mapped_at : {A B : Type 0} (f : A → B) (xs : List A) (k : ℕ) (x : A) → slice_get xs k ≡ Some x → slice_get (map f xs) k ≡ Some (f x)
mapped_at f [] k x h = absurd cc
mapped_at f (y ∷ xs) zero x h = let e : y ≡ x = cc in ap (λ z. Some (f z)) e
mapped_at f (y ∷ xs) (suc k) x h = mapped_at f xs k x h

-- the type of an entry value is that of the one that has its number
entry_at : (w : Setting) (e : Expression) → list_any (same_entry e) (entries_of w) ≡ true → ((z : Expression) → same_entry e z ≡ true → type_of_entry w.schema w.types z ≡ type_of_entry w.schema w.types e) → slice_get (lowering w).fragment.entries (entry_number (entries_of w) e) ≡ Some (type_of_entry w.schema w.types e)
entry_at w e h f =
    let p : Passing (same_entry e) (entries_of w) (entry_number (entries_of w) e) = number_passes (same_entry e) (entries_of w) h in
    mapped_at (type_of_entry w.schema w.types) (entries_of w) (entry_number (entries_of w) e) p.member p.there ∙ ap Some (f p.member p.passes)

-- ---- Operands

literal_type : (x : Scalar) (ty : Ty) → HasTy ty x → scalar_type x ≡ ty
literal_type (scalars.Long n) tys.Long h = refl
literal_type (scalars.Bool b) tys.Bool h = refl
literal_type (scalars.Text t) tys.Text h = refl
literal_type (scalars.Long n) tys.Bool h = absurd h
literal_type (scalars.Long n) tys.Text h = absurd h
literal_type (scalars.Bool b) tys.Long h = absurd h
literal_type (scalars.Bool b) tys.Text h = absurd h
literal_type (scalars.Text t) tys.Long h = absurd h
literal_type (scalars.Text t) tys.Bool h = absurd h

field_entry : (w : Setting) (n : ℕ) (at : Span) (e : Expression) (f : List ℕ) → is_entry_row w n e ≡ true → IsEntered (entries_of w) (tree.Field at e f) → slice_get (lowering w).fragment.entries (entry_number (entries_of w) (tree.Field at e f)) ≡ Some (type_of_entry w.schema w.types (tree.Field at e f))
field_entry w n at (tree.Var at' x) f i h = entry_at w (tree.Field at (tree.Var at' x) f) (h (rw (name_same f, name_same x) refl)) (λ z k. field_type w.schema w.types at at' x f z k)
field_entry w n at (tree.Lit at1 x1) f i h = absurd cc
field_entry w n at (tree.Field at1 e1 g1) f i h = absurd cc
field_entry w n at (tree.Binary at1 op1 a1 b1) f i h = absurd cc
field_entry w n at (tree.Not at1 e1) f i h = absurd cc
field_entry w n at (tree.Equals at1 a1 b1) f i h = absurd cc
field_entry w n at (tree.Size at1 x1) f i h = absurd cc
field_entry w n at (tree.Get at1 x1 e1) f i h = absurd cc
field_entry w n at (tree.Contains at1 x1 e1) f i h = absurd cc
field_entry w n at (tree.Fetch at1 t1) f i h = absurd cc
field_entry w n at (tree.Query at1 ty1 text1 es1) f i h = absurd cc
field_entry w n at (tree.QueryLong at1 text1 es1) f i h = absurd cc
field_entry w n at (tree.QueryBoolean at1 text1 es1) f i h = absurd cc
field_entry w n at (tree.NewList at1) f i h = absurd cc
field_entry w n at (tree.NewSet at1) f i h = absurd cc
field_entry w n at (tree.NewSetOf at1 e1) f i h = absurd cc

plain_typed : (w : Setting) (c : Frame) → Checked w c → (n : ℕ) (v : Visited (OfTable w) c w.types w.sites n) (e : Expression) (k : JavaType) (ty : Ty) → HasType c v.now e k → k ≡ Of (ScalarOf ty) → (is_literal e || is_entry w n e) ≡ true → AllByRecursion (IsEntered (entries_of w)) (cond (is_literal e) [] (e ∷ [])) → operand_type w.schema (lowering w).fragment (operand_of_literal (entries_of w) e) ≡ Some ty
plain_typed w c is n v _ _ ty (typing.lit at x ty' h) alike i a = ap Some (literal_type x ty' h ∙ (let e : Of (ScalarOf ty') ≡ Of (ScalarOf ty) = alike in cc))
plain_typed w c is n v _ _ ty (typing.var at x k h) alike i a = entry_at w (tree.Var at x) (a.0 (name_same x)) (λ z j. var_type w.schema w.types at x z j) ∙ ap Some (entry_type (OfTable w) w c is n v (tree.Var at x) k ty (typing.var at x k h) alike i)
plain_typed w c is n v _ _ ty (typing.field at e f m j col t h u) alike i a = field_entry w n at e f i a.0 ∙ ap Some (entry_type (OfTable w) w c is n v (tree.Field at e f) _ ty (typing.field at e f m j col t h u) alike i)
plain_typed w c is n v _ _ ty (typing.binary at op a b from to z t u) alike i l = absurd cc
plain_typed w c is n v _ _ ty (typing.negated at e t) alike i l = absurd cc
plain_typed w c is n v _ _ ty (typing.equals at a b t u) alike i l = absurd cc
plain_typed w c is n v _ _ ty (typing.size at x j a h has) alike i l = absurd cc
plain_typed w c is n v _ _ ty (typing.get at x e a h t) alike i l = absurd cc
plain_typed w c is n v _ _ ty (typing.contains at x e j ty' h has t) alike i l = absurd cc
plain_typed w c is n v _ _ ty (typing.fetch at t o h) alike i l = absurd cc
plain_typed w c is n v _ _ ty (typing.query at ty' text es q h t) alike i l = absurd cc
plain_typed w c is n v _ _ ty (typing.query_long at text es q h t) alike i l = absurd cc
plain_typed w c is n v _ _ ty (typing.query_boolean at text es q h t) alike i l = absurd cc
plain_typed w c is n v _ _ ty (typing.new_list at a) alike i l = absurd cc
plain_typed w c is n v _ _ ty (typing.new_set at a) alike i l = absurd cc
plain_typed w c is n v _ _ ty (typing.new_set_of at e a t) alike i l = absurd cc

operand_step : (w : Setting) (c : Frame) → Checked w c → (n : ℕ) (v : Visited (OfTable w) c w.types w.sites n) (e : Expression) (ty : Ty) (o : Option RowColumn) → row_column_at w.sites n e ≡ o → HasType c v.now e (Of (ScalarOf ty)) → (is_found o || (is_literal e || is_entry w n e)) ≡ true → AllByRecursion (IsEntered (entries_of w)) (cond (is_found o || is_literal e) [] (e ∷ [])) → operand_type w.schema (lowering w).fragment (operand_of_column w (entries_of w) e o) ≡ Some ty
operand_step w c is n v e ty None found t h a = plain_typed w c is n v e (Of (ScalarOf ty)) ty t refl h a
operand_step w c is n v e ty (Some q) found t h a = ap (λ o. operand_type w.schema (lowering w).fragment (operand_of_column w (entries_of w) e o)) (sym found) ∙ column_typed w c is n v (entries_of w) e ty t (ap is_found found)

operand_typed : (w : Setting) (c : Frame) → Checked w c → (n : ℕ) (v : Visited (OfTable w) c w.types w.sites n) (e : Expression) (ty : Ty) → HasType c v.now e (Of (ScalarOf ty)) → is_operand w n e ≡ true → AllByRecursion (IsEntered (entries_of w)) (entry_operand w.sites n e) → operand_type w.schema (lowering w).fragment (operand_of w (entries_of w) n e) ≡ Some ty
operand_typed w c is n v e ty t h a = operand_step w c is n v e ty (row_column_at w.sites n e) refl t h a

-- ---- Atoms

pub type_self : (ty : Ty) → same_type (Some ty) (Some ty) ≡ true
type_self tys.Long = refl
type_self tys.Bool = refl
type_self tys.Text = refl

comparing_long : (op : Op) (ty to : Ty) → Takes op ty to → is_comparing op ≡ true → is_type tys.Bool (Some ty) ≡ false
comparing_long _ _ _ typing.lt_takes h = refl
comparing_long _ _ _ typing.le_takes h = refl
comparing_long _ _ _ typing.gt_takes h = refl
comparing_long _ _ _ typing.ge_takes h = refl
comparing_long _ _ _ typing.or_takes h = absurd cc
comparing_long _ _ _ typing.and_takes h = absurd cc
comparing_long _ _ _ typing.eq_longs h = absurd cc
comparing_long _ _ _ typing.eq_bools h = absurd cc
comparing_long _ _ _ typing.ne_longs h = absurd cc
comparing_long _ _ _ typing.ne_bools h = absurd cc
comparing_long _ _ _ typing.add_takes h = absurd cc
comparing_long _ _ _ typing.sub_takes h = absurd cc
comparing_long _ _ _ typing.mul_takes h = absurd cc

comparison_typed : (w : Setting) (op : Op) (a b : Operand) (x : Atom) (ty : Ty) → IsComparison op a b x → operand_type w.schema (lowering w).fragment a ≡ Some ty → operand_type w.schema (lowering w).fragment b ≡ Some ty → (is_comparing op ≡ true → is_type tys.Bool (Some ty) ≡ false) → atom_is_typed w.schema (lowering w).fragment x ≡ true
comparison_typed w op a b _ ty (comparing.less e) h i k = rw (h, i, type_self ty, k e) refl
comparison_typed w op a b _ ty (comparing.more e) h i k = rw (h, i, type_self ty, k e) refl
comparison_typed w op a b _ ty comparing.same h i k = rw (h, i, type_self ty) refl
comparison_typed w op a b _ ty comparing.back h i k = rw (h, i, type_self ty) refl

shape_typed : (w : Setting) (c : Frame) → Checked w c → (n : ℕ) (v : Visited (OfTable w) c w.types w.sites n) (e : Expression) → Shape w c v.now n e → AllByRecursion (IsEntered (entries_of w)) (entries_in w.sites n e) → atom_is_typed w.schema (lowering w).fragment (reading_of w (entries_of w) (known_of w) n e).atom ≡ true
shape_typed w c is n v _ (compares at op a b ty to takes i h) en = comparison_typed w op (operand_of w (entries_of w) n a) (operand_of w (entries_of w) n b) _ ty (comparison_is op (operand_of w (entries_of w) n a) (operand_of w (entries_of w) n b)) (operand_typed w c is n v a ty h.first h.first_is (all_front (IsEntered (entries_of w)) (entry_operand w.sites n a) (entry_operand w.sites n b) en)) (operand_typed w c is n v b ty h.second h.second_is (all_back (IsEntered (entries_of w)) (entry_operand w.sites n a) (entry_operand w.sites n b) en)) (comparing_long op ty to takes)
shape_typed w c is n v _ (equals at a b h) en = comparison_typed w ops.Eq (operand_of w (entries_of w) n a) (operand_of w (entries_of w) n b) _ tys.Text (same_is ops.Eq (operand_of w (entries_of w) n a) (operand_of w (entries_of w) n b)) (operand_typed w c is n v a tys.Text h.first h.first_is (all_front (IsEntered (entries_of w)) (entry_operand w.sites n a) (entry_operand w.sites n b) en)) (operand_typed w c is n v b tys.Text h.second h.second_is (all_back (IsEntered (entries_of w)) (entry_operand w.sites n a) (entry_operand w.sites n b) en)) (λ k. absurd cc)
shape_typed w c is n v _ (tests at e f t h) en = ap (is_type tys.Bool) (column_typed w c is n v (entries_of w) (tree.Field at e f) tys.Bool t h)
shape_typed w c is n v _ (reads at x k i h) en =
    let f = flag_at (OfTable w) c w.types w.sites n v x k i h in
    ap (λ b. atom_is_typed w.schema (lowering w).fragment (bound_reading w b).atom) f.bound ∙ ap (λ o. atom_is_typed w.schema (lowering w).fragment (flag_reading w f.number o).atom) f.declared.there
shape_typed w c is n v _ (finds at x e k ty i has t h known) en =
    rw (field_of_row w (entries_of w) n e h, column_typed w c is n v (entries_of w) e ty t h, type_self ty) refl

-- The tests of a lowered fragment are typed.
pub atoms_typed : (w : Setting) (c : Frame) → Checked w c → RowsWalked w c → list_all (atom_is_typed w.schema (lowering w).fragment) (lowering w).fragment.atoms ≡ true
atoms_typed w c is walked =
    let test : Atom → Bool = atom_is_typed w.schema (lowering w).fragment in
    all_to_test test (numbers_of w).atoms (all_atoms (λ a. test a ≡ true) w (entries_of w) (known_of w) [] (all_leaves w.sites) tt
    (all_weaker (λ (l : Leaf). LeafStands (OfTable w) w c l.number l.expression × LeafEntered w (entries_of w) l) (λ l. test (atom_of_leaf w (entries_of w) (known_of w) l) ≡ true) (all_leaves w.sites) (λ l p. shape_typed w c is l.number p.0.visited l.expression (leaf_shape (OfTable w) w c l.number l.expression p.0) p.1)
    (zip_all (λ (l : Leaf). LeafStands (OfTable w) w c l.number l.expression) (LeafEntered w (entries_of w)) (all_leaves w.sites) (all_leaves_stand (OfTable w) w c is (table_first w c is) (table_nested w c is walked)) (all_entered w))))
