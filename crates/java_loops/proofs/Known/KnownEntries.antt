-- The values of entries at the loop: scalar variables and fields of row variables have scalars of their types.
use Rattle.std.proofs.Common.{◌≡◌, ℕ, zero, suc, true, List, [], ◌∷◌, Option, Some, None, Ok, refl, sym, ap, ◌∙◌, subst}
use Rattle.std.specs.Prelude.{map, slice_get}
use Rattle.std.specs.List.{AllByRecursion}
use Rattle.std.proofs.lemmas.Bool.{and_parts}
use Rattle.qbs_base.specs.declared.columns.Column.{Column}
use Rattle.qbs_base.specs.declared.scalar.Kind.{Kind}
use Rattle.qbs_base.specs.declared.scalar.Row.{Row}
use Rattle.qbs_base.specs.declared.scalar.Scalar.{Scalar}
use Rattle.qbs_base.specs.declared.scalar.Ty.{Ty}
use Rattle.qbs_base.specs.declared.scalar.Value.{Value}
use Rattle.qbs_base.specs.declared.scalar.Value.TheVariants.{One, Whole, Many}
use Rattle.qbs_base.specs.declared.span.Span.{Span}
use Rattle.qbs_base.specs.Named.{at_name}
use Rattle.qbs_base.specs.Values.{Schema, HasTy, AreCells, AreOf, IsRowOf}
use Rattle.qbs_base.specs.Columns.{column_number, columns_at}
use Rattle.java_ast.specs.Tree as tree
use Rattle.java_ast.specs.Tree.{Expression}
use Rattle.java_mean.specs.declared.types.JavaType.{JavaType}
use Rattle.java_mean.specs.declared.types.JavaType.TheVariants.{Of, Listed, Distinct}
use Rattle.java_mean.specs.declared.types.Single.TheVariants.{ScalarOf, RowOf}
use Rattle.java_mean.specs.Endings.{◌>>=◌, found}
use Rattle.java_mean.specs.Expression.{value_of, as_row, columns_of, cell_at, cell}
use Rattle.java_mean.specs.Store.{Store, Variable}
use Rattle.java_mean.specs.Types.{Types, IsSingle, IsVariableOf, IsTyped}
use Rattle.java_mean.specs.World.{World}
use Rattle.java_loops.specs.Kernel.KernelConditions.{is_scalar_type, is_row_type, is_steady, is_entry}
use Rattle.java_loops.specs.Lowering.Lowered.{type_of_column, column_type, type_of_scalar, type_of_entry}
use Rattle.java_loops.specs.Lowering.Numbering.{found_number}
use Rattle.java_loops.specs.Kernel.Setting.{Setting}

-- ---- One entry

-- The expression has a scalar of the entry's type.
pub record HasEntry (schema : Schema) (types : Types) (world : World) (store : Store) (e : Expression) : Type 0 where
  pub value : Scalar
  pub is : value_of e world store ≡ Ok (One value)
  pub typed : HasTy (type_of_entry schema types e) value

-- the field of an entry row is a column of its table
pub record IsColumn (schema : Schema) (n : ℕ) (f : List ℕ) : Type 0 where
  pub number : ℕ
  pub column : Column
  pub numbered : column_number (columns_at schema n) f ≡ Some number
  pub there : slice_get (columns_at schema n) number ≡ Some column

abbrev pub FieldKnown : Schema → Types → Expression → Type 0
FieldKnown schema types (tree.Field at (tree.Var at' x) f) = (n : ℕ) → types x ≡ Some (Of (RowOf n)) → IsColumn schema n f
FieldKnown schema types _ = Unit {0}

scalar_type_is : (o : Option JavaType) → is_scalar_type o ≡ true → (ty : Ty) × (o ≡ Some (Of (ScalarOf ty)))
scalar_type_is (Some (Of (ScalarOf ty))) h = (ty, refl)
scalar_type_is (Some (Of (RowOf n))) h = absurd cc
scalar_type_is (Some (Listed a)) h = absurd cc
scalar_type_is (Some (Distinct a)) h = absurd cc
scalar_type_is None h = absurd cc

row_type_is : (o : Option JavaType) → is_row_type o ≡ true → (n : ℕ) × (o ≡ Some (Of (RowOf n)))
row_type_is (Some (Of (RowOf n))) h = (n, refl)
row_type_is (Some (Of (ScalarOf ty))) h = absurd cc
row_type_is (Some (Listed a)) h = absurd cc
row_type_is (Some (Distinct a)) h = absurd cc
row_type_is None h = absurd cc

one_scalar : (schema : Schema) (ty : Ty) (v : Value) → IsSingle schema (ScalarOf ty) v → (y : Scalar) × (v ≡ One y) × HasTy ty y
one_scalar schema ty (One y) h = (y, refl, h)
one_scalar schema ty (Whole row) h = absurd h
one_scalar schema ty (Many rows) h = absurd h

one_row : (schema : Schema) (n : ℕ) (v : Value) → IsSingle schema (RowOf n) v → (row : Row) × (v ≡ Whole row) × IsRowOf n (columns_at schema n) row
one_row schema n (One y) h = absurd h
one_row schema n (Whole row) h = (row, refl, h)
one_row schema n (Many rows) h = absurd h

cell_there : (columns : List Column) (cells : List Scalar) (i : ℕ) (column : Column) → AreCells columns cells → slice_get columns i ≡ Some column → (y : Scalar) × (slice_get cells i ≡ Some y) × HasTy column.ty y
cell_there [] cells i column h e = absurd cc
cell_there (c ∷ cs) [] i column h e = absurd h
cell_there (c ∷ cs) (x ∷ xs) zero column h e = let same : c ≡ column = (let l : Some c ≡ Some column = e in cc) in (x, refl, subst (λ (z : Column). HasTy z.ty x) same h.0)
cell_there (c ∷ cs) (x ∷ xs) (suc i) column h e = cell_there cs xs i column h.1 e

value_at : (world : World) (store : Store) (at : Span) (x : List ℕ) (held : Variable) → at_name store x ≡ Some held → value_of (tree.Var at x) world store ≡ Ok held.value
value_at world store at x held e = ap (λ o. found o >>= λ (u : Variable). Ok u.value) e

scalar_entry : (schema : Schema) (types : Types) (world : World) (store : Store) (at : Span) (x : List ℕ) (ty : Ty) → types x ≡ Some (Of (ScalarOf ty)) → IsTyped schema types store → HasEntry schema types world store (tree.Var at x)
scalar_entry schema types world store at x ty e typed =
    let v : (held : Variable) × (at_name store x ≡ Some held) × IsVariableOf schema (Of (ScalarOf ty)) held = typed.held x (Of (ScalarOf ty)) e in
    let y = one_scalar schema ty v.0.value v.2.value in
    record { value = y.0; is = value_at world store at x v.0 v.1 ∙ ap (λ u. Ok u) y.1; typed = subst (λ z. HasTy z y.0) (sym (ap type_of_scalar e)) y.2 }

field_entry : (schema : Schema) (types : Types) (world : World) (store : Store) (at at' : Span) (x f : List ℕ) (n : ℕ) → types x ≡ Some (Of (RowOf n)) → IsColumn schema n f → world.schema ≡ schema → IsTyped schema types store → HasEntry schema types world store (tree.Field at (tree.Var at' x) f)
field_entry schema types world store at at' x f n e k same typed =
    let v : (held : Variable) × (at_name store x ≡ Some held) × IsVariableOf schema (Of (RowOf n)) held = typed.held x (Of (RowOf n)) e in
    let row = one_row schema n v.0.value v.2.value in
    let c = cell_there (columns_at schema n) row.0.cells k.number k.column row.2.1 k.there in
    let there : cell world.schema row.0 f ≡ Some c.0 = ap (λ z. cell z row.0 f) same ∙ ap (λ (z : Kind). cell_at row.0.cells (column_number (columns_of schema z) f)) row.2.0 ∙ ap (cell_at row.0.cells) k.numbered ∙ c.1 in
    let value : value_of (tree.Var at' x) world store ≡ Ok (Whole row.0) = value_at world store at' x v.0 v.1 ∙ ap (λ u. Ok u) row.1 in
    let type : type_of_entry schema types (tree.Field at (tree.Var at' x) f) ≡ k.column.ty = ap (λ o. column_type schema o f) e ∙ ap (λ o. type_of_column (slice_get (columns_at schema n) (found_number o))) k.numbered ∙ ap type_of_column k.there in
    record {
      value = c.0;
      is = ap (λ o. o >>= λ u. as_row u >>= λ r. found (cell world.schema r f) >>= λ y. Ok (One y)) value ∙ ap (λ o. found o >>= λ y. Ok (One y)) there;
      typed = subst (λ z. HasTy z c.0) (sym type) c.2;
    }

-- An entry has a scalar of its type in a typed store.
pub entry_has_value : (w : Setting) (n : ℕ) (e : Expression) (world : World) (store : Store) → is_entry w n e ≡ true → FieldKnown w.schema w.types e → world.schema ≡ w.schema → IsTyped w.schema w.types store → HasEntry w.schema w.types world store e
entry_has_value w n (tree.Var at x) world store h known same typed =
    let t = scalar_type_is (w.types x) (and_parts (is_scalar_type (w.types x)) (is_steady w n x) h).0 in
    scalar_entry w.schema w.types world store at x t.0 t.1 typed
entry_has_value w n (tree.Field at (tree.Var at' x) f) world store h known same typed =
    let t = row_type_is (w.types x) (and_parts (is_row_type (w.types x)) (is_steady w n x) h).0 in
    field_entry w.schema w.types world store at at' x f t.0 t.1 (known t.0 t.1) same typed
entry_has_value w n (tree.Field at (tree.Lit at' x) f) world store h known same typed = absurd cc
entry_has_value w n (tree.Field at (tree.Field at' e m) f) world store h known same typed = absurd cc
entry_has_value w n (tree.Field at (tree.Binary at' op a b) f) world store h known same typed = absurd cc
entry_has_value w n (tree.Field at (tree.Not at' e) f) world store h known same typed = absurd cc
entry_has_value w n (tree.Field at (tree.Equals at' a b) f) world store h known same typed = absurd cc
entry_has_value w n (tree.Field at (tree.Size at' x) f) world store h known same typed = absurd cc
entry_has_value w n (tree.Field at (tree.Get at' x e) f) world store h known same typed = absurd cc
entry_has_value w n (tree.Field at (tree.Contains at' x e) f) world store h known same typed = absurd cc
entry_has_value w n (tree.Field at (tree.Fetch at' m) f) world store h known same typed = absurd cc
entry_has_value w n (tree.Field at (tree.Query at' ty text es) f) world store h known same typed = absurd cc
entry_has_value w n (tree.Field at (tree.QueryLong at' text es) f) world store h known same typed = absurd cc
entry_has_value w n (tree.Field at (tree.QueryBoolean at' text es) f) world store h known same typed = absurd cc
entry_has_value w n (tree.Field at (tree.NewList at') f) world store h known same typed = absurd cc
entry_has_value w n (tree.Field at (tree.NewSet at') f) world store h known same typed = absurd cc
entry_has_value w n (tree.Field at (tree.NewSetOf at' e) f) world store h known same typed = absurd cc
entry_has_value w n (tree.Lit at x) world store h known same typed = absurd cc
entry_has_value w n (tree.Binary at op a b) world store h known same typed = absurd cc
entry_has_value w n (tree.Not at e) world store h known same typed = absurd cc
entry_has_value w n (tree.Equals at a b) world store h known same typed = absurd cc
entry_has_value w n (tree.Size at x) world store h known same typed = absurd cc
entry_has_value w n (tree.Get at x e) world store h known same typed = absurd cc
entry_has_value w n (tree.Contains at x e) world store h known same typed = absurd cc
entry_has_value w n (tree.Fetch at m) world store h known same typed = absurd cc
entry_has_value w n (tree.Query at ty text es) world store h known same typed = absurd cc
entry_has_value w n (tree.QueryLong at text es) world store h known same typed = absurd cc
entry_has_value w n (tree.QueryBoolean at text es) world store h known same typed = absurd cc
entry_has_value w n (tree.NewList at) world store h known same typed = absurd cc
entry_has_value w n (tree.NewSet at) world store h known same typed = absurd cc
entry_has_value w n (tree.NewSetOf at e) world store h known same typed = absurd cc

-- ---- All entries

-- The entries have these values, which are of the fragment's types.
pub record HaveEntries (schema : Schema) (types : Types) (world : World) (store : Store) (entries : List Expression) : Type 0 where
  pub values : List Scalar
  pub typed : AreOf (map (type_of_entry schema types) entries) values
  pub each : (k : ℕ) (e : Expression) → slice_get entries k ≡ Some e → (y : Scalar) × (slice_get values k ≡ Some y) × (value_of e world store ≡ Ok (One y)) × HasTy (type_of_entry schema types e) y

first_entry : (schema : Schema) (types : Types) (world : World) (store : Store) (a e : Expression) (values : List Scalar) (h : HasEntry schema types world store a) → Some a ≡ Some e → (y : Scalar) × (slice_get (h.value ∷ values) zero ≡ Some y) × (value_of e world store ≡ Ok (One y)) × HasTy (type_of_entry schema types e) y
first_entry schema types world store a e values h q =
    let same : a ≡ e = cc in
    (h.value, refl, subst (λ z. value_of z world store ≡ Ok (One h.value)) same h.is, subst (λ z. HasTy (type_of_entry schema types z) h.value) same h.typed)

each_entry : (schema : Schema) (types : Types) (world : World) (store : Store) (a : Expression) (entries : List Expression) (h : HasEntry schema types world store a) (rest : HaveEntries schema types world store entries) (k : ℕ) (e : Expression) → slice_get (a ∷ entries) k ≡ Some e → (y : Scalar) × (slice_get (h.value ∷ rest.values) k ≡ Some y) × (value_of e world store ≡ Ok (One y)) × HasTy (type_of_entry schema types e) y
each_entry schema types world store a entries h rest zero e q = first_entry schema types world store a e rest.values h q
each_entry schema types world store a entries h rest (suc k) e q = rest.each k e q

pub entries_have_values : (schema : Schema) (types : Types) (world : World) (store : Store) (entries : List Expression) → AllByRecursion (HasEntry schema types world store) entries → HaveEntries schema types world store entries
entries_have_values schema types world store [] h = record { values = []; typed = tt; each = λ k e q. absurd cc }
entries_have_values schema types world store (a ∷ entries) h =
    let rest : HaveEntries schema types world store entries = entries_have_values schema types world store entries h.1 in
    record {
      values = h.0.value ∷ rest.values;
      typed = (h.0.typed, rest.typed);
      each = λ k e q. each_entry schema types world store a entries h.0 rest k e q;
    }
