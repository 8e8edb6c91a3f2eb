-- What the plain parts of a typed condition are, each beside its condition in the query.
use Rattle.std.proofs.Common.{◌≡◌, ℕ, Bool, true, false, ◌||◌, ◌&&◌, cond, List, Option, Some, None, refl, sym, ap, ◌∙◌, subst}
use Rattle.std.specs.Prelude.{bytes_eq, slice_get}
use Rattle.std.specs.Option.{option_map}
use Rattle.qbs_base.specs.declared.columns.Column.{Column}
use Rattle.qbs_base.specs.declared.scalar.Scalar.{Scalar}
use Rattle.qbs_base.specs.declared.scalar.Scalar.TheVariants as scalars
use Rattle.qbs_base.specs.declared.scalar.Ty.{Ty}
use Rattle.qbs_base.specs.declared.scalar.Ty.TheVariants as tys
use Rattle.qbs_base.specs.declared.span.Span.{Span}
use Rattle.qbs_base.specs.Columns.{columns_at, column_number, same_ty}
use Rattle.qbs_base.specs.Values.{HasTy}
use Rattle.sql_ast.specs.declared.tree.Cmp.{Cmp}
use Rattle.sql_ast.specs.declared.tree.Cmp.TheVariants as tests
use Rattle.sql_ast.specs.declared.tree.SqlCol.{SqlCol}
use Rattle.sql_ast.specs.declared.tree.SqlColumn.TheVariants as columns
use Rattle.sql_ast.specs.declared.tree.SqlOpnd.{SqlOpnd}
use Rattle.sql_ast.specs.declared.tree.SqlOpnd.TheVariants as opnds
use Rattle.sql_ast.specs.Tree as sql
use Rattle.sql_ast.specs.Tree.{Condition}
use Rattle.sql_ast.specs.Typing.{is_compared_by}
use Rattle.java_ast.specs.declared.tree.Op.TheVariants as ops
use Rattle.java_ast.specs.Names.{Names}
use Rattle.java_ast.specs.Tree as tree
use Rattle.java_ast.specs.Tree.{Expression, Expressions}
use Rattle.java_mean.specs.declared.types.JavaType.{JavaType}
use Rattle.java_mean.specs.declared.types.JavaType.TheVariants.{Of, Listed, Distinct}
use Rattle.java_mean.specs.declared.types.Single.TheVariants.{ScalarOf, RowOf}
use Rattle.java_mean.specs.Types.{Types, with_type}
use Rattle.java_mean.specs.Typing.{Frame, or_takes, and_takes, eq_longs, eq_bools, ne_longs, ne_bools, lt_takes, le_takes, gt_takes, ge_takes, add_takes, sub_takes, mul_takes, HasType, lit, var, field, binary, negated, equals, size, get, contains, fetch, query, query_long, query_boolean, new_list, new_set, new_set_of, bool}
use Rattle.spreads.specs.Conditions.{op_of}
use Rattle.spreads.specs.Narrowed.{is_column, are_compared, is_plain, Arguments, column_at, number_of, operand_of, both_there, compared, is_true_column, condition_of}
use Rattle.spreads.specs.Staying.{stays}

-- ---- Small facts

pub either_so : (a b : Bool) → (a || b) ≡ true → (P : Type 0) → (a ≡ true → P) → (b ≡ true → P) → P
either_so true b e P f g = f refl
either_so false b e P f g = g e

pub both_so : (a b : Bool) → (a && b) ≡ true → (a ≡ true) × (b ≡ true)
both_so true true e = (refl, refl)
both_so true false e = absurd cc
both_so false b e = absurd cc

pub or_first : (a b : Bool) → a ≡ true → (a || b) ≡ true
or_first true b e = refl
or_first false b e = absurd cc

pub or_second : (a b : Bool) → b ≡ true → (a || b) ≡ true
or_second true b e = refl
or_second false b e = e

pub some_is : {A : Type 0} (x y : A) → (let o : Option A = Some x in o) ≡ Some y → x ≡ y
some_is {A} x y e = ap (λ (o : Option A). elim o as (λ _. A) [ Some z ↦ z | None ↦ x ]) e

pub mapped : {A B : Type 0} (f : A → B) (o : Option A) (y : B) → option_map f o ≡ Some y → (x : A) × (o ≡ Some x) × (f x ≡ y)
mapped f (Some x) y e = (x, refl, some_is (f x) y e)
mapped f None y e = absurd cc

pub both_are : {A B C : Type 0} (f : A → B → C) (o : Option A) (p : Option B) (z : C) → both_there f o p ≡ Some z → (x : A) × (y : B) × (o ≡ Some x) × (p ≡ Some y) × (f x y ≡ z)
both_are f (Some x) (Some y) z e = (x, y, refl, refl, some_is (f x y) z e)
both_are f (Some x) None z e = absurd cc
both_are f None (Some y) z e = absurd cc
both_are f None None z e = absurd cc

-- ---- Parts

abbrev pub is_col : SqlOpnd → Bool
is_col (opnds.Column col) = true
is_col (opnds.Lit x) = false
is_col (opnds.Param n) = false

abbrev pub named_col : List ℕ → ℕ → SqlCol
named_col f i = record { item = 1; column = columns.Named f i }

-- a comparison of two operands of a type, which comes to a truth value
pub data ComparedBy (a b : Expression) : Cmp → Ty → Expression → Type 0 where
  by_op : (at : Span) (cmp : Cmp) (ty : Ty) → is_compared_by cmp ty ≡ true → same_ty ty tys.Text ≡ false → ComparedBy a b cmp ty (tree.Binary at (op_of cmp) a b)
  by_equals : (at : Span) → ComparedBy a b tests.Eq tys.Text (tree.Equals at a b)

module _ (c : Frame) (g : Types) (x : List ℕ) (n : ℕ) (args : Arguments) where
  abbrev pub row_types : Types
  row_types = with_type x (Some (Of (RowOf n))) g

  -- an operand of a type beside that of the query
  pub data OperandIs : Ty → Expression → SqlOpnd → Type 0 where
    of_literal : (at : Span) (y : Scalar) (ty : Ty) → HasTy ty y → OperandIs ty (tree.Lit at y) (opnds.Lit y)
    of_column : (at at' : Span) (y : List ℕ) (f : List ℕ) (i : ℕ) (column : Column) → bytes_eq x y ≡ true → column_number (columns_at c.schema n) f ≡ Some i → slice_get (columns_at c.schema n) i ≡ Some column → OperandIs column.ty (tree.Field at (tree.Var at' y) f) (opnds.Column (named_col f i))
    of_argument : (ty : Ty) (e : Expression) (k : ℕ) → HasType c g e (Of (ScalarOf ty)) → number_of e args ≡ Some k → OperandIs ty e (opnds.Param k)

  pub data PartIs : Expression → Condition → Type 0 where
    both_parts : (at : Span) (a b : Expression) (d f : Condition) → PartIs a d → PartIs b f → PartIs (tree.Binary at ops.And a b) (sql.Both d f)
    either_part : (at : Span) (a b : Expression) (d f : Condition) → PartIs a d → PartIs b f → PartIs (tree.Binary at ops.Or a b) (sql.Either d f)
    not_part : (at : Span) (a : Expression) (d : Condition) → PartIs a d → PartIs (tree.Not at a) (sql.Not d)
    compared_part : (e a b : Expression) (cmp : Cmp) (ty : Ty) (o p : SqlOpnd) → ComparedBy a b cmp ty e → OperandIs ty a o → OperandIs ty b p → (is_col o || is_col p) ≡ true → PartIs e (sql.Compare cmp o p)
    true_part : (e : Expression) (col : SqlCol) → OperandIs tys.Bool e (opnds.Column col) → PartIs e (sql.Compare tests.Eq (opnds.Column col) (opnds.Lit (scalars.Bool true)))

  -- ---- Operands of typed expressions

  module _ (new : g x ≡ None) where
    -- a variable that isn't the row has its type before the walk
    row_or : (y : List ℕ) (k : JavaType) (b : Bool) → bytes_eq x y ≡ b → row_types y ≡ Some k → (P : Type 0) → (bytes_eq x y ≡ true → Of (RowOf n) ≡ k → P) → (bytes_eq x y ≡ false → g y ≡ Some k → P) → P
    row_or y k true q e P f h = f q (some_is (Of (RowOf n)) k (ap (λ z. cond z (Some (Of (RowOf n))) (g y)) (sym q) ∙ e))
    row_or y k false q e P f h = h q (ap (λ z. cond z (Some (Of (RowOf n))) (g y)) (sym q) ∙ e)

    row_type : (at : Span) (y : List ℕ) (k : JavaType) → HasType c row_types (tree.Var at y) k → row_types y ≡ Some k
    row_type at y k (var _ _ _ e) = e

    row_number : (a b : ℕ) → Of (RowOf a) ≡ Of (RowOf b) → a ≡ b
    row_number a b e = ap (λ (k : JavaType). elim k as (λ _. ℕ) [ Of (RowOf z) ↦ z | Of (ScalarOf ty) ↦ a | Listed z ↦ a | Distinct z ↦ a ]) e

    -- a variable, or a field of a variable
    argument_is : (ty : Ty) (e : Expression) (o : SqlOpnd) → HasType c g e (Of (ScalarOf ty)) → option_map opnds.Param (number_of e args) ≡ Some o → OperandIs ty e o
    argument_is ty e o t h =
        let m = mapped opnds.Param (number_of e args) o h in
        subst (OperandIs ty e) m.2 (of_argument ty e m.0 t m.1)

    variable_is : (at : Span) (y : List ℕ) (ty : Ty) (o : SqlOpnd) → row_types y ≡ Some (Of (ScalarOf ty)) → option_map opnds.Param (number_of (tree.Var at y) args) ≡ Some o → OperandIs ty (tree.Var at y) o
    variable_is at y ty o e h = row_or y (Of (ScalarOf ty)) (bytes_eq x y) refl e (OperandIs ty (tree.Var at y) o) (λ q k. absurd cc) (λ q k. argument_is ty (tree.Var at y) o (var at y (Of (ScalarOf ty)) k) h)

    column_is : (at at' : Span) (y f : List ℕ) (j i : ℕ) (column : Column) (o : SqlOpnd) → j ≡ n → column_number (columns_at c.schema j) f ≡ Some i → slice_get (columns_at c.schema j) i ≡ Some column → bytes_eq x y ≡ true → option_map opnds.Column (column_at (columns_at c.schema n) f) ≡ Some o → OperandIs column.ty (tree.Field at (tree.Var at' y) f) o
    column_is at at' y f j i column o same q r here h =
        let there : column_number (columns_at c.schema n) f ≡ Some i = subst (λ (z : ℕ). column_number (columns_at c.schema z) f ≡ Some i) same q in
        let col : opnds.Column (named_col f i) ≡ o = some_is (opnds.Column (named_col f i)) o (ap (λ z. option_map opnds.Column (option_map (λ (m : ℕ). named_col f m) z)) (sym there) ∙ h) in
        subst (OperandIs column.ty (tree.Field at (tree.Var at' y) f)) col (of_column at at' y f i column here there (subst (λ (z : ℕ). slice_get (columns_at c.schema z) i ≡ Some column) same r))

    field_by : (at at' : Span) (y f : List ℕ) (j i : ℕ) (column : Column) (o : SqlOpnd) (b : Bool) → bytes_eq x y ≡ b → row_types y ≡ Some (Of (RowOf j)) → column_number (columns_at c.schema j) f ≡ Some i → slice_get (columns_at c.schema j) i ≡ Some column → cond b (option_map opnds.Column (column_at (columns_at c.schema n) f)) (option_map opnds.Param (number_of (tree.Field at (tree.Var at' y) f) args)) ≡ Some o → OperandIs column.ty (tree.Field at (tree.Var at' y) f) o
    field_by at at' y f j i column o true here e q r h =
        let same : Of (RowOf n) ≡ Of (RowOf j) = some_is (Of (RowOf n)) (Of (RowOf j)) (ap (λ z. cond z (Some (Of (RowOf n))) (g y)) (sym here) ∙ e) in
        column_is at at' y f j i column o (sym (row_number n j same)) q r here h
    field_by at at' y f j i column o false here e q r h =
        let there : g y ≡ Some (Of (RowOf j)) = ap (λ z. cond z (Some (Of (RowOf n))) (g y)) (sym here) ∙ e in
        argument_is column.ty (tree.Field at (tree.Var at' y) f) o (field at (tree.Var at' y) f j i column (var at' y (Of (RowOf j)) there) q r) h

    field_is : (at : Span) (e : Expression) (f : List ℕ) (j i : ℕ) (column : Column) (assigned : Names) → HasType c row_types e (Of (RowOf j)) → column_number (columns_at c.schema j) f ≡ Some i → slice_get (columns_at c.schema j) i ≡ Some column → (is_column x (tree.Field at e f) || stays assigned (tree.Field at e f)) ≡ true → (o : SqlOpnd) → operand_of (columns_at c.schema n) x args (tree.Field at e f) ≡ Some o → OperandIs column.ty (tree.Field at e f) o
    field_is at (tree.Var at' y) f j i column assigned t q r s o h = field_by at at' y f j i column o (bytes_eq x y) refl (row_type at' y (Of (RowOf j)) t) q r h
    field_is at e f j i column assigned t q r s o h = absurd cc

    pub operand_is : (assigned : Names) (e : Expression) (k : JavaType) → HasType c row_types e k → (ty : Ty) → k ≡ Of (ScalarOf ty) → (is_column x e || stays assigned e) ≡ true → (o : SqlOpnd) → operand_of (columns_at c.schema n) x args e ≡ Some o → OperandIs ty e o
    operand_is assigned _ _ (lit at y ty' h) ty k s o e =
        subst (λ z. OperandIs z (tree.Lit at y) o) (ty_of ty' ty k) (subst (OperandIs ty' (tree.Lit at y)) (some_is (opnds.Lit y) o e) (of_literal at y ty' h))
      where
        ty_of : (a b : Ty) → Of (ScalarOf a) ≡ Of (ScalarOf b) → a ≡ b
        ty_of a b e = ap (λ (k : JavaType). elim k as (λ _. Ty) [ Of (ScalarOf z) ↦ z | Of (RowOf z) ↦ a | Listed z ↦ a | Distinct z ↦ a ]) e
    operand_is assigned _ _ (var at y j h) ty k s o e = variable_is at y ty o (h ∙ ap (λ (z : JavaType). let p : Option JavaType = Some z in p) k) e
    operand_is assigned _ _ (field at a f j i column h q r) ty k s o e =
        subst (λ z. OperandIs z (tree.Field at a f) o) (ty_of column.ty ty k) (field_is at a f j i column assigned h q r s o e)
      where
        ty_of : (a b : Ty) → Of (ScalarOf a) ≡ Of (ScalarOf b) → a ≡ b
        ty_of a b e = ap (λ (k : JavaType). elim k as (λ _. Ty) [ Of (ScalarOf z) ↦ z | Of (RowOf z) ↦ a | Listed z ↦ a | Distinct z ↦ a ]) e
    operand_is assigned _ _ (binary at op a b from to t h i) ty k s o e = absurd cc
    operand_is assigned _ _ (negated at a h) ty k s o e = absurd cc
    operand_is assigned _ _ (equals at a b h i) ty k s o e = absurd cc
    operand_is assigned _ _ (size at y j a q has) ty k s o e = absurd cc
    operand_is assigned _ _ (get at y a b q h) ty k s o e = absurd cc
    operand_is assigned _ _ (contains at y a j ty' q has h) ty k s o e = absurd cc
    operand_is assigned _ _ (fetch at y j q) ty k s o e = absurd cc
    operand_is assigned _ _ (query at sp text es q t h) ty k s o e = absurd cc
    operand_is assigned _ _ (query_long at text es q t h) ty k s o e = absurd cc
    operand_is assigned _ _ (query_boolean at text es q t h) ty k s o e = absurd cc
    operand_is assigned _ _ (new_list at a) ty k s o e = absurd cc
    operand_is assigned _ _ (new_set at a) ty k s o e = absurd cc
    operand_is assigned _ _ (new_set_of at a b h) ty k s o e = absurd cc

    -- a column of the row is one of the query
    column_col : (at at' : Span) (y f : List ℕ) (o : SqlOpnd) (b : Bool) → b ≡ true → cond b (option_map opnds.Column (column_at (columns_at c.schema n) f)) (option_map opnds.Param (number_of (tree.Field at (tree.Var at' y) f) args)) ≡ Some o → is_col o ≡ true
    column_col at at' y f o true e h =
        let m = mapped opnds.Column (column_at (columns_at c.schema n) f) o h in
        ap is_col (sym m.2)
    column_col at at' y f o false e h = absurd cc

    pub is_column_col : (e : Expression) → is_column x e ≡ true → (o : SqlOpnd) → operand_of (columns_at c.schema n) x args e ≡ Some o → is_col o ≡ true
    is_column_col (tree.Field at (tree.Var at' y) f) i o h = column_col at at' y f o (bytes_eq x y) i h
    is_column_col e i o h = absurd cc

    -- ---- Parts of typed conditions

    -- what is compared: one side is a column, the other one too, or what stays
    record Sides (assigned : Names) (a b : Expression) : Type 0 where
      first : (is_column x a || stays assigned a) ≡ true
      second : (is_column x b || stays assigned b) ≡ true
      one : (is_column x a || is_column x b) ≡ true

    sides : (assigned : Names) (a b : Expression) → are_compared assigned x a b ≡ true → Sides assigned a b
    sides assigned a b e =
        either_so (is_column x a && (is_column x b || stays assigned b)) (is_column x b && stays assigned a) e (Sides assigned a b)
        (λ h. (let p = both_so (is_column x a) (is_column x b || stays assigned b) h in record { first = or_first (is_column x a) (stays assigned a) p.0; second = p.1; one = or_first (is_column x a) (is_column x b) p.0 }))
        (λ h. (let p = both_so (is_column x b) (stays assigned a) h in record { first = or_second (is_column x a) (stays assigned a) p.1; second = or_first (is_column x b) (stays assigned b) p.0; one = or_second (is_column x a) (is_column x b) p.0 }))

    compared_is : (assigned : Names) (e a b : Expression) (cmp : Cmp) (ty : Ty) → ComparedBy a b cmp ty e → HasType c row_types a (Of (ScalarOf ty)) → HasType c row_types b (Of (ScalarOf ty)) → are_compared assigned x a b ≡ true → (d : Condition) → compared (columns_at c.schema n) x args cmp a b ≡ Some d → PartIs e d
    compared_is assigned e a b cmp ty by h i s d q =
        let z = sides assigned a b s in
        let r = both_are (sql.Compare cmp) (operand_of (columns_at c.schema n) x args a) (operand_of (columns_at c.schema n) x args b) d q in
        let col : (is_col r.0 || is_col r.1) ≡ true = either_so (is_column x a) (is_column x b) z.one ((is_col r.0 || is_col r.1) ≡ true) (λ j. or_first (is_col r.0) (is_col r.1) (is_column_col a j r.0 r.2)) (λ j. or_second (is_col r.0) (is_col r.1) (is_column_col b j r.1 r.3)) in
        subst (PartIs e) r.4 (compared_part e a b cmp ty r.0 r.1 by (operand_is assigned a (Of (ScalarOf ty)) h ty refl z.first r.0 r.2) (operand_is assigned b (Of (ScalarOf ty)) i ty refl z.second r.1 r.3) col)

    true_is : (at : Span) (a : Expression) (f : List ℕ) (j i : ℕ) (column : Column) → HasType c row_types a (Of (RowOf j)) → column_number (columns_at c.schema j) f ≡ Some i → slice_get (columns_at c.schema j) i ≡ Some column → column.ty ≡ tys.Bool → is_column x (tree.Field at a f) ≡ true → (d : Condition) → is_true_column (columns_at c.schema n) (tree.Field at a f) ≡ Some d → PartIs (tree.Field at a f) d
    true_is at (tree.Var at' y) f j i column t q r ty is d h =
        let m = mapped (λ (col : SqlCol). sql.Compare tests.Eq (opnds.Column col) (opnds.Lit (scalars.Bool true))) (column_at (columns_at c.schema n) f) d h in
        let here : OperandIs column.ty (tree.Field at (tree.Var at' y) f) (opnds.Column m.0) = field_by at at' y f j i column (opnds.Column m.0) true is (row_type at' y (Of (RowOf j)) t) q r (ap (option_map opnds.Column) m.1) in
        subst (PartIs (tree.Field at (tree.Var at' y) f)) m.2 (true_part (tree.Field at (tree.Var at' y) f) m.0 (subst (λ z. OperandIs z (tree.Field at (tree.Var at' y) f) (opnds.Column m.0)) ty here))
    true_is at a f j i column t q r ty is d h = absurd cc

    pub part_is : (assigned : Names) (e : Expression) (k : JavaType) → HasType c row_types e k → k ≡ bool → is_plain assigned x e ≡ true → (d : Condition) → condition_of (columns_at c.schema n) x args e ≡ Some d → PartIs e d
    part_is assigned _ _ (field at a f j i column h q r) k s d e = true_is at a f j i column h q r (ty_of column.ty tys.Bool k) s d e
      where
        ty_of : (a b : Ty) → Of (ScalarOf a) ≡ Of (ScalarOf b) → a ≡ b
        ty_of a b e = ap (λ (k : JavaType). elim k as (λ _. Ty) [ Of (ScalarOf z) ↦ z | Of (RowOf z) ↦ a | Listed z ↦ a | Distinct z ↦ a ]) e
    part_is assigned _ _ (binary at _ a b _ _ or_takes h i) k s d q =
        let z = both_so (is_plain assigned x a) (is_plain assigned x b) s in
        let r = both_are sql.Either (condition_of (columns_at c.schema n) x args a) (condition_of (columns_at c.schema n) x args b) d q in
        subst (PartIs (tree.Binary at ops.Or a b)) r.4 (either_part at a b r.0 r.1 (part_is assigned a bool h refl z.0 r.0 r.2) (part_is assigned b bool i refl z.1 r.1 r.3))
    part_is assigned _ _ (binary at _ a b _ _ and_takes h i) k s d q =
        let z = both_so (is_plain assigned x a) (is_plain assigned x b) s in
        let r = both_are sql.Both (condition_of (columns_at c.schema n) x args a) (condition_of (columns_at c.schema n) x args b) d q in
        subst (PartIs (tree.Binary at ops.And a b)) r.4 (both_parts at a b r.0 r.1 (part_is assigned a bool h refl z.0 r.0 r.2) (part_is assigned b bool i refl z.1 r.1 r.3))
    part_is assigned _ _ (binary at _ a b _ _ eq_longs h i) k s d q = compared_is assigned (tree.Binary at ops.Eq a b) a b tests.Eq tys.Long (by_op at tests.Eq tys.Long refl refl) h i s d q
    part_is assigned _ _ (binary at _ a b _ _ eq_bools h i) k s d q = compared_is assigned (tree.Binary at ops.Eq a b) a b tests.Eq tys.Bool (by_op at tests.Eq tys.Bool refl refl) h i s d q
    part_is assigned _ _ (binary at _ a b _ _ ne_longs h i) k s d q = compared_is assigned (tree.Binary at ops.Ne a b) a b tests.Ne tys.Long (by_op at tests.Ne tys.Long refl refl) h i s d q
    part_is assigned _ _ (binary at _ a b _ _ ne_bools h i) k s d q = compared_is assigned (tree.Binary at ops.Ne a b) a b tests.Ne tys.Bool (by_op at tests.Ne tys.Bool refl refl) h i s d q
    part_is assigned _ _ (binary at _ a b _ _ lt_takes h i) k s d q = compared_is assigned (tree.Binary at ops.Lt a b) a b tests.Lt tys.Long (by_op at tests.Lt tys.Long refl refl) h i s d q
    part_is assigned _ _ (binary at _ a b _ _ le_takes h i) k s d q = compared_is assigned (tree.Binary at ops.Le a b) a b tests.Le tys.Long (by_op at tests.Le tys.Long refl refl) h i s d q
    part_is assigned _ _ (binary at _ a b _ _ gt_takes h i) k s d q = compared_is assigned (tree.Binary at ops.Gt a b) a b tests.Gt tys.Long (by_op at tests.Gt tys.Long refl refl) h i s d q
    part_is assigned _ _ (binary at _ a b _ _ ge_takes h i) k s d q = compared_is assigned (tree.Binary at ops.Ge a b) a b tests.Ge tys.Long (by_op at tests.Ge tys.Long refl refl) h i s d q
    part_is assigned _ _ (binary at _ a b _ _ add_takes h i) k s d q = absurd cc
    part_is assigned _ _ (binary at _ a b _ _ sub_takes h i) k s d q = absurd cc
    part_is assigned _ _ (binary at _ a b _ _ mul_takes h i) k s d q = absurd cc
    part_is assigned _ _ (negated at a h) k s d e =
        let m = mapped sql.Not (condition_of (columns_at c.schema n) x args a) d e in
        subst (PartIs (tree.Not at a)) m.2 (not_part at a m.0 (part_is assigned a bool h refl s m.0 m.1))
    part_is assigned _ _ (equals at a b h i) k s d e = compared_is assigned (tree.Equals at a b) a b tests.Eq tys.Text (by_equals at) h i s d e
    part_is assigned _ _ (lit at y ty h) k s d e = absurd cc
    part_is assigned _ _ (var at y j h) k s d e = absurd cc
    part_is assigned _ _ (size at y j a q has) k s d e = absurd cc
    part_is assigned _ _ (get at y a b q h) k s d e = absurd cc
    part_is assigned _ _ (contains at y a j ty q has h) k s d e = absurd cc
    part_is assigned _ _ (fetch at y j q) k s d e = absurd cc
    part_is assigned _ _ (query at sp text es q t h) k s d e = absurd cc
    part_is assigned _ _ (query_long at text es q t h) k s d e = absurd cc
    part_is assigned _ _ (query_boolean at text es q t h) k s d e = absurd cc
    part_is assigned _ _ (new_list at a) k s d e = absurd cc
    part_is assigned _ _ (new_set at a) k s d e = absurd cc
    part_is assigned _ _ (new_set_of at a b h) k s d e = absurd cc
