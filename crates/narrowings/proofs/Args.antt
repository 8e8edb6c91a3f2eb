-- The arguments that plain parts read: they are typed before the walk, stay through it, and have values.
use Rattle.std.proofs.Common.{◌≡◌, ℕ, zero, suc, Bool, true, false, ◌||◌, ◌&&◌, cond, List, [], ◌∷◌, ◌++◌, Option, Some, None, Result, Ok, refl, sym, ap, ◌∙◌, subst}
use Rattle.std.specs.Prelude.{bytes_eq, slice_get}
use Rattle.std.specs.List.{AllByRecursion, list_any}
use Rattle.qbs_base.specs.declared.columns.Column.{Column}
use Rattle.qbs_base.specs.declared.scalar.Kind.{Kind}
use Rattle.qbs_base.specs.declared.scalar.Row.{Row}
use Rattle.qbs_base.specs.declared.scalar.Scalar.{Scalar}
use Rattle.qbs_base.specs.declared.scalar.Ty.{Ty}
use Rattle.qbs_base.specs.declared.scalar.Ty.TheVariants as tys
use Rattle.qbs_base.specs.declared.scalar.Value.{Value}
use Rattle.qbs_base.specs.declared.scalar.Value.TheVariants.{One, Whole, Many}
use Rattle.qbs_base.specs.declared.span.Span.{Span}
use Rattle.qbs_base.specs.Columns.{columns_at, column_number}
use Rattle.qbs_base.specs.Values.{Schema, AreCells, IsRowOf}
use Rattle.java_ast.specs.Names.{Names}
use Rattle.java_ast.specs.Tree as tree
use Rattle.java_ast.specs.Tree.{Expression}
use Rattle.java_mean.specs.declared.ending.Ending.{Ending}
use Rattle.java_mean.specs.declared.types.JavaType.{JavaType}
use Rattle.java_mean.specs.declared.types.JavaType.TheVariants.{Of, Listed, Distinct}
use Rattle.java_mean.specs.declared.types.Single.TheVariants.{ScalarOf, RowOf}
use Rattle.java_mean.specs.Endings.{◌>>=◌, found}
use Rattle.java_mean.specs.Expression.{value_of, scalars_of, as_row, cell, cell_at, columns_of}
use Rattle.java_mean.specs.Store.{Store, Variable}
use Rattle.java_mean.specs.Types.{Types, IsOf, IsTyped}
use Rattle.java_mean.specs.Typing.{Frame, IsWorld, or_takes, and_takes, eq_longs, eq_bools, ne_longs, ne_bools, lt_takes, le_takes, gt_takes, ge_takes, add_takes, sub_takes, mul_takes, HasType, lit, var, field, binary, negated, equals, size, get, contains, fetch, query, query_long, query_boolean, new_list, new_set, new_set_of, HaveTypes, no_more, and, bool}
use Rattle.java_mean.specs.World.{World}
use Rattle.spreads.specs.Narrowed.{is_column, are_compared, is_plain, same_argument, Arguments, with_argument, with_operand, with_part, all_read, expressions}
use Rattle.spreads.specs.Staying.{stays, all_stay}
use Rattle.narrowings.proofs.Conjuncts.{all_joined}
use Rattle.narrowings.proofs.Parts.{both_so, either_so, or_first, or_second, some_is, row_types}

-- ---- Values

one_of : (schema : Schema) (ty : Ty) (v : Value) → IsOf schema (Of (ScalarOf ty)) v → (y : Scalar) × (v ≡ One y)
one_of schema ty (One y) h = (y, refl)
one_of schema ty (Whole row) h = absurd h
one_of schema ty (Many rows) h = absurd h

row_of : (schema : Schema) (n : ℕ) (v : Value) → IsOf schema (Of (RowOf n)) v → (row : Row) × (v ≡ Whole row) × IsRowOf n (columns_at schema n) row
row_of schema n (One y) h = absurd h
row_of schema n (Whole row) h = (row, refl, h)
row_of schema n (Many rows) h = absurd h

cell_there : (held : List Column) (cells : List Scalar) (n : ℕ) (column : Column) → AreCells held cells → slice_get held n ≡ Some column → (y : Scalar) × (slice_get cells n ≡ Some y)
cell_there [] cells n column h e = absurd cc
cell_there (k ∷ ks) [] n column h e = absurd h
cell_there (k ∷ ks) (y ∷ ys) zero column h e = (y, refl)
cell_there (k ∷ ks) (y ∷ ys) (suc n) column h e = cell_there ks ys n column h.1 e

module _ (c : Frame) (g : Types) (w : World) (world : IsWorld c w) (s : Store) (typed : IsTyped c.schema g s) where
  var_value : (at : Span) (y : List ℕ) (k : JavaType) → g y ≡ Some k → (v : Value) × (value_of (tree.Var at y) w s ≡ Ok v) × IsOf c.schema k v
  var_value at y k e =
      let h = typed.held y k e in
      (h.0.value, ap (λ o. found o >>= λ (held : Variable). (let r : Result Value Ending = Ok held.value in r)) h.1, h.2.value)

  var_type : (at : Span) (y : List ℕ) (k : JavaType) → HasType c g (tree.Var at y) k → g y ≡ Some k
  var_type at y k (var _ _ _ e) = e

  field_value : (assigned : Names) (at : Span) (e : Expression) (f : List ℕ) (j i : ℕ) (column : Column) → HasType c g e (Of (RowOf j)) → column_number (columns_at c.schema j) f ≡ Some i → slice_get (columns_at c.schema j) i ≡ Some column → stays assigned (tree.Field at e f) ≡ true → (y : Scalar) × (value_of (tree.Field at e f) w s ≡ Ok (One y))
  field_value assigned at (tree.Var at' y) f j i column t q r n =
      let v = var_value at' y (Of (RowOf j)) (var_type at' y (Of (RowOf j)) t) in
      let row = row_of c.schema j v.0 v.2 in
      let u = cell_there (columns_at c.schema j) row.0.cells i column row.2.1 r in
      let read : cell w.schema row.0 f ≡ Some u.0 = ap (λ z. cell z row.0 f) world.schema ∙ ap (λ (z : Kind). cell_at row.0.cells (column_number (columns_of c.schema z) f)) row.2.0 ∙ ap (cell_at row.0.cells) q ∙ u.1 in
      (u.0, ap (λ r. r >>= λ v. as_row v >>= λ row. found (cell w.schema row f) >>= λ y. (let r : Result Value Ending = Ok (One y) in r)) (v.1 ∙ ap (λ z. let r : Result Value Ending = Ok z in r) row.1) ∙ ap (λ o. found o >>= λ y. (let r : Result Value Ending = Ok (One y) in r)) read)
  field_value assigned at e f j i column t q r n = absurd cc

  value_there : (assigned : Names) (e : Expression) (k : JavaType) → HasType c g e k → (ty : Ty) → k ≡ Of (ScalarOf ty) → stays assigned e ≡ true → (y : Scalar) × (value_of e w s ≡ Ok (One y))
  value_there assigned _ _ (lit at y ty' h) ty k n = (y, refl)
  value_there assigned _ _ (var at y j h) ty k n =
      let v = var_value at y j h in
      let z = one_of c.schema ty v.0 (subst (λ (i : JavaType). IsOf c.schema i v.0) k v.2) in
      (z.0, v.1 ∙ ap (λ i. let r : Result Value Ending = Ok i in r) z.1)
  value_there assigned _ _ (field at a f j i column h q r) ty k n = field_value assigned at a f j i column h q r n
  value_there assigned _ _ (binary at op a b from to t h i) ty k n = absurd cc
  value_there assigned _ _ (negated at a h) ty k n = absurd cc
  value_there assigned _ _ (equals at a b h i) ty k n = absurd cc
  value_there assigned _ _ (size at y j a q has) ty k n = absurd cc
  value_there assigned _ _ (get at y a b q h) ty k n = absurd cc
  value_there assigned _ _ (contains at y a j ty' q has h) ty k n = absurd cc
  value_there assigned _ _ (fetch at y j q) ty k n = absurd cc
  value_there assigned _ _ (query at sp text es q t h) ty k n = absurd cc
  value_there assigned _ _ (query_long at text es q t h) ty k n = absurd cc
  value_there assigned _ _ (query_boolean at text es q t h) ty k n = absurd cc
  value_there assigned _ _ (new_list at a) ty k n = absurd cc
  value_there assigned _ _ (new_set at a) ty k n = absurd cc
  value_there assigned _ _ (new_set_of at a b h) ty k n = absurd cc

-- ---- Arguments

-- a scalar that stays
pub record IsArgument (c : Frame) (g : Types) (assigned : Names) (e : Expression) : Type 0 where
  pub ty : Ty
  pub typed : HasType c g e (Of (ScalarOf ty))
  pub stays_so : stays assigned e ≡ true

abbrev pub AreArguments : Frame → Types → Names → Arguments → Type 0
AreArguments c g assigned args = AllByRecursion (IsArgument c g assigned) args

pub have_types : (c : Frame) (g : Types) (assigned : Names) (args : Arguments) → AreArguments c g assigned args → (types : List Ty) × HaveTypes c g (expressions args) types
have_types c g assigned [] h = ([], no_more)
have_types c g assigned (e ∷ args) h = (let rest = have_types c g assigned args h.1 in (h.0.ty ∷ rest.0, and e (expressions args) h.0.ty rest.0 h.0.typed rest.1))

pub they_stay : (c : Frame) (g : Types) (assigned : Names) (args : Arguments) → AreArguments c g assigned args → all_stay assigned (expressions args) ≡ true
they_stay c g assigned [] h = refl
they_stay c g assigned (e ∷ args) h = ap (λ b. b && all_stay assigned (expressions args)) h.0.stays_so ∙ they_stay c g assigned args h.1

pub values_there : (c : Frame) (g : Types) (assigned : Names) (args : Arguments) → AreArguments c g assigned args → (w : World) → IsWorld c w → (s : Store) → IsTyped c.schema g s → (xs : List Scalar) × (scalars_of (expressions args) w s ≡ Ok xs)
values_there c g assigned [] h w world s typed = ([], refl)
values_there c g assigned (e ∷ args) h w world s typed =
    let v = value_there c g w world s typed assigned e (Of (ScalarOf h.0.ty)) h.0.typed h.0.ty refl h.0.stays_so in
    let rest = values_there c g assigned args h.1 w world s typed in
    (v.0 ∷ rest.0, simp (v.1, rest.1))

module _ (c : Frame) (g : Types) (x : List ℕ) (n : ℕ) (new : g x ≡ None) (assigned : Names) where
  abbrev inner : Types
  inner = row_types c g x n []

  -- what isn't the row has its type before the walk
  before : (y : List ℕ) (k : JavaType) → bytes_eq x y ≡ false → inner y ≡ Some k → g y ≡ Some k
  before y k q e = ap (λ z. cond z (Some (Of (RowOf n))) (g y)) (sym q) ∙ e

  scalar_before : (y : List ℕ) (ty : Ty) (b : Bool) → bytes_eq x y ≡ b → inner y ≡ Some (Of (ScalarOf ty)) → g y ≡ Some (Of (ScalarOf ty))
  scalar_before y ty false q e = before y (Of (ScalarOf ty)) q e
  scalar_before y ty true q e = (let no : Of (RowOf n) ≡ Of (ScalarOf ty) = some_is (Of (RowOf n)) (Of (ScalarOf ty)) (ap (λ z. cond z (Some (Of (RowOf n))) (g y)) (sym q) ∙ e) in absurd cc)

  var_in : (at : Span) (y : List ℕ) (k : JavaType) → HasType c inner (tree.Var at y) k → inner y ≡ Some k
  var_in at y k (var _ _ _ e) = e

  field_outside : (at : Span) (e : Expression) (f : List ℕ) (j i : ℕ) (column : Column) → HasType c inner e (Of (RowOf j)) → column_number (columns_at c.schema j) f ≡ Some i → slice_get (columns_at c.schema j) i ≡ Some column → is_column x (tree.Field at e f) ≡ false → stays assigned (tree.Field at e f) ≡ true → HasType c g (tree.Field at e f) (Of (ScalarOf column.ty))
  field_outside at (tree.Var at' y) f j i column t q r k h = field at (tree.Var at' y) f j i column (var at' y (Of (RowOf j)) (before y (Of (RowOf j)) k (var_in at' y (Of (RowOf j)) t))) q r
  field_outside at e f j i column t q r k h = absurd cc

  scalar_is : (a b : Ty) → Of (ScalarOf a) ≡ Of (ScalarOf b) → a ≡ b
  scalar_is a b e = ap (λ (k : JavaType). elim k as (λ _. Ty) [ Of (ScalarOf z) ↦ z | Of (RowOf z) ↦ a | Listed z ↦ a | Distinct z ↦ a ]) e

  outside : (e : Expression) (k : JavaType) → HasType c inner e k → (ty : Ty) → k ≡ Of (ScalarOf ty) → is_column x e ≡ false → stays assigned e ≡ true → HasType c g e (Of (ScalarOf ty))
  outside _ _ (lit at y ty' h) ty k col n' = subst (λ z. HasType c g (tree.Lit at y) (Of (ScalarOf z))) (scalar_is ty' ty k) (lit at y ty' h)
  outside _ _ (var at y j h) ty k col n' = var at y (Of (ScalarOf ty)) (scalar_before y ty (bytes_eq x y) refl (h ∙ ap (λ (z : JavaType). let p : Option JavaType = Some z in p) k))
  outside _ _ (field at a f j i column h q r) ty k col n' = subst (λ z. HasType c g (tree.Field at a f) (Of (ScalarOf z))) (scalar_is column.ty ty k) (field_outside at a f j i column h q r col n')
  outside _ _ (binary at op a b from to t h i) ty k col n' = absurd cc
  outside _ _ (negated at a h) ty k col n' = absurd cc
  outside _ _ (equals at a b h i) ty k col n' = absurd cc
  outside _ _ (size at y j a q has) ty k col n' = absurd cc
  outside _ _ (get at y a b q h) ty k col n' = absurd cc
  outside _ _ (contains at y a j ty' q has h) ty k col n' = absurd cc
  outside _ _ (fetch at y j q) ty k col n' = absurd cc
  outside _ _ (query at sp text es q t h) ty k col n' = absurd cc
  outside _ _ (query_long at text es q t h) ty k col n' = absurd cc
  outside _ _ (query_boolean at text es q t h) ty k col n' = absurd cc
  outside _ _ (new_list at a) ty k col n' = absurd cc
  outside _ _ (new_set at a) ty k col n' = absurd cc
  outside _ _ (new_set_of at a b h) ty k col n' = absurd cc

  abbrev All : Arguments → Type 0
  All args = AreArguments c g assigned args

  one_more : (args : Arguments) (e : Expression) → All args → IsArgument c g assigned e → (b : Bool) → All (cond b args (args ++ e ∷ []))
  one_more args e h k true = h
  one_more args e h k false = all_joined (IsArgument c g assigned) args (e ∷ []) h (k, tt)

  by_column : (args : Arguments) (e : Expression) (ty : Ty) → HasType c inner e (Of (ScalarOf ty)) → (is_column x e || stays assigned e) ≡ true → All args → (b : Bool) → is_column x e ≡ b → All (cond b args (with_argument args e))
  by_column args e ty t s h true q = h
  by_column args e ty t s h false q =
      let n' : stays assigned e ≡ true = ap (λ z. z || stays assigned e) (sym q) ∙ s in
      one_more args e h (record { ty = ty; typed = outside e (Of (ScalarOf ty)) t ty refl q n'; stays_so = n' }) (list_any (same_argument e) args)

  operand_args : (args : Arguments) (e : Expression) (ty : Ty) → HasType c inner e (Of (ScalarOf ty)) → (is_column x e || stays assigned e) ≡ true → All args → All (with_operand x args e)
  operand_args args (tree.Lit at v) ty t s h = h
  operand_args args e ty t s h = by_column args e ty t s h (is_column x e) refl

  compared_args : (args : Arguments) (a b : Expression) (ty : Ty) → HasType c inner a (Of (ScalarOf ty)) → HasType c inner b (Of (ScalarOf ty)) → are_compared assigned x a b ≡ true → All args → All (with_operand x (with_operand x args a) b)
  compared_args args a b ty t u s h =
      either_so (is_column x a && (is_column x b || stays assigned b)) (is_column x b && stays assigned a) s (All (with_operand x (with_operand x args a) b))
      (λ i. (let p = both_so (is_column x a) (is_column x b || stays assigned b) i in operand_args (with_operand x args a) b ty u p.1 (operand_args args a ty t (or_first (is_column x a) (stays assigned a) p.0) h)))
      (λ i. (let p = both_so (is_column x b) (stays assigned a) i in operand_args (with_operand x args a) b ty u (or_first (is_column x b) (stays assigned b) p.0) (operand_args args a ty t (or_second (is_column x a) (stays assigned a) p.1) h)))

  part_args : (e : Expression) (k : JavaType) → HasType c inner e k → k ≡ bool → is_plain assigned x e ≡ true → (args : Arguments) → All args → All (with_part x args e)
  part_args _ _ (field at a f j i column h q r) k s args z = z
  part_args _ _ (binary at _ a b _ _ or_takes h i) k s args z = (let p = both_so (is_plain assigned x a) (is_plain assigned x b) s in part_args b bool i refl p.1 (with_part x args a) (part_args a bool h refl p.0 args z))
  part_args _ _ (binary at _ a b _ _ and_takes h i) k s args z = (let p = both_so (is_plain assigned x a) (is_plain assigned x b) s in part_args b bool i refl p.1 (with_part x args a) (part_args a bool h refl p.0 args z))
  part_args _ _ (binary at _ a b _ _ eq_longs h i) k s args z = compared_args args a b tys.Long h i s z
  part_args _ _ (binary at _ a b _ _ eq_bools h i) k s args z = compared_args args a b tys.Bool h i s z
  part_args _ _ (binary at _ a b _ _ ne_longs h i) k s args z = compared_args args a b tys.Long h i s z
  part_args _ _ (binary at _ a b _ _ ne_bools h i) k s args z = compared_args args a b tys.Bool h i s z
  part_args _ _ (binary at _ a b _ _ lt_takes h i) k s args z = compared_args args a b tys.Long h i s z
  part_args _ _ (binary at _ a b _ _ le_takes h i) k s args z = compared_args args a b tys.Long h i s z
  part_args _ _ (binary at _ a b _ _ gt_takes h i) k s args z = compared_args args a b tys.Long h i s z
  part_args _ _ (binary at _ a b _ _ ge_takes h i) k s args z = compared_args args a b tys.Long h i s z
  part_args _ _ (binary at _ a b _ _ add_takes h i) k s args z = absurd cc
  part_args _ _ (binary at _ a b _ _ sub_takes h i) k s args z = absurd cc
  part_args _ _ (binary at _ a b _ _ mul_takes h i) k s args z = absurd cc
  part_args _ _ (negated at a h) k s args z = part_args a bool h refl s args z
  part_args _ _ (equals at a b h i) k s args z = compared_args args a b tys.Text h i s z
  part_args _ _ (lit at y ty h) k s args z = absurd cc
  part_args _ _ (var at y j h) k s args z = absurd cc
  part_args _ _ (size at y j a q has) k s args z = absurd cc
  part_args _ _ (get at y a b q h) k s args z = absurd cc
  part_args _ _ (contains at y a j ty q has h) k s args z = absurd cc
  part_args _ _ (fetch at y j q) k s args z = absurd cc
  part_args _ _ (query at sp text es q t h) k s args z = absurd cc
  part_args _ _ (query_long at text es q t h) k s args z = absurd cc
  part_args _ _ (query_boolean at text es q t h) k s args z = absurd cc
  part_args _ _ (new_list at a) k s args z = absurd cc
  part_args _ _ (new_set at a) k s args z = absurd cc
  part_args _ _ (new_set_of at a b h) k s args z = absurd cc

  -- typed parts that are plain
  pub read_args : (es : List Expression) → AllByRecursion (λ (e : Expression). HasType c inner e bool × (is_plain assigned x e ≡ true)) es → (args : Arguments) → All args → All (all_read x args es)
  read_args [] h args z = z
  read_args (e ∷ es) h args z = read_args es h.1 (with_part x args e) (part_args e bool h.0.0 refl h.0.1 args z)
