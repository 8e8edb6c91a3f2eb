-- The value of a well-typed expression has its type, and is the same where the visible variables are.
use Rattle.std.proofs.Common.{◌≡◌, ℕ, zero, suc, ◌+◌, ℤ, pos, negsuc, Bool, true, false, not, List, [], ◌∷◌, length, Option, Some, None, Result, Ok, Err, refl, sym, ap, ◌∙◌, subst, cond, arith}
use Rattle.std.specs.Prelude.{slice_get, ◌+ℤ◌, ◌-ℤ◌, ◌*ℤ◌}
use Rattle.std.specs.List.{AllByRecursion}
use Rattle.qbs_base.specs.declared.span.Span.{Span}
use Rattle.qbs_base.specs.declared.scalar.Scalar.{Scalar}
use Rattle.qbs_base.specs.declared.scalar.Scalar.TheVariants as scalars
use Rattle.qbs_base.specs.declared.scalar.Ty.{Ty}
use Rattle.qbs_base.specs.declared.scalar.Ty.TheVariants as tys
use Rattle.qbs_base.specs.declared.scalar.Kind.{Kind}
use Rattle.qbs_base.specs.declared.scalar.Kind.TheVariants as kinds
use Rattle.qbs_base.specs.declared.scalar.Row.{Row}
use Rattle.qbs_base.specs.declared.scalar.Value.{Value}
use Rattle.qbs_base.specs.declared.scalar.Value.TheVariants.{One, Whole, Many}
use Rattle.qbs_base.specs.declared.columns.Column.{Column}
use Rattle.qbs_base.specs.Named.{at_name}
use Rattle.qbs_base.specs.Values.{Schema, HasTy, AreOf, AreCells, IsRowOf, fits_long}
use Rattle.qbs_base.specs.Columns.{table_number, column_number, columns_at}
use Rattle.java_ast.specs.declared.tree.Op.{Op}
use Rattle.java_ast.specs.declared.tree.Op.TheVariants as ops
use Rattle.java_ast.specs.Tree.{Expression, Expressions}
use Rattle.java_mean.specs.declared.ending.Ending.{Ending}
use Rattle.java_mean.specs.declared.ending.Ending.TheVariants as endings
use Rattle.java_mean.specs.declared.ending.RunFault.TheVariants.{Overflow}
use Rattle.java_mean.specs.Endings.{◌>>=◌, found}
use Rattle.java_mean.specs.Expression.{value_of, scalars_of, as_scalar, as_row, as_rows, as_long, as_bool, as_member, truth, number, cell, cell_at, columns_of, element, element_in, alone, nth, in_range, settled, or_else, applied, same_text, answered, same_member, is_among}
use Rattle.java_mean.specs.Queries.{Answered}
use Rattle.java_mean.specs.Queries as answers
use Rattle.java_mean.specs.Store.{Store}
use Rattle.java_mean.specs.Types.{Single, ScalarOf, RowOf, JavaType, Of, Listed, Distinct, Types, IsSingle, IsMember, IsOf, IsVariableOf, IsTyped}
use Rattle.java_mean.specs.Typing.{Frame, IsAnswer, IsWorld, Takes, or_takes, and_takes, eq_longs, eq_bools, ne_longs, ne_bools, lt_takes, le_takes, gt_takes, ge_takes, add_takes, sub_takes, mul_takes, Has, listed, distinct, HasType, lit, var, field, binary, negated, equals, size, get, contains, fetch, query, query_long, query_boolean, new_list, new_set, new_set_of, HaveTypes, no_more, and, bool}
use Rattle.java_mean.specs.World.{World}
use Rattle.java_mean.proofs.Members.{all_firsts, distinct_firsts}
use Rattle.java_mean.proofs.Numbered.{rows_of_table}
use Rattle.java_mean.proofs.Simulates.{Holds}
use Rattle.sql_ast.specs.Grouped.{firsts}

-- what holds of what a run gives, if it isn't stuck
pub holds_bind : {A B : Type 0} (p : A → Type 0) (q : B → Type 0) (o : Result A Ending) (f : A → Result B Ending) → Holds ⊥ p o → ((x : A) → p x → Holds ⊥ q (f x)) → Holds ⊥ q (o >>= f)
holds_bind p q (Ok x) f h k = k x h
holds_bind p q (Err (endings.Faulted fault at)) f h k = tt
holds_bind p q (Err endings.OutOfTurns) f h k = tt
holds_bind p q (Err endings.Stuck) f h k = absurd h

-- ---- What is asked of a value

pub scalar_in : (schema : Schema) (ty : Ty) (v : Value) → IsOf schema (Of (ScalarOf ty)) v → Holds ⊥ (HasTy ty) (as_scalar v)
scalar_in schema ty (One x) h = h
scalar_in schema ty (Whole row) h = absurd h
scalar_in schema ty (Many rows) h = absurd h

row_in : (schema : Schema) (n : ℕ) (v : Value) → IsOf schema (Of (RowOf n)) v → Holds ⊥ (IsRowOf n (columns_at schema n)) (as_row v)
row_in schema n (One x) h = absurd h
row_in schema n (Whole row) h = h
row_in schema n (Many rows) h = absurd h

pub rows_in : (schema : Schema) (k : JavaType) (a : Single) (v : Value) → Has k a → IsOf schema k v → Holds ⊥ (AllByRecursion (IsMember schema a)) (as_rows v)
rows_in schema _ a (One x) (listed _) h = absurd h
rows_in schema _ a (Whole row) (listed _) h = absurd h
rows_in schema _ a (Many rows) (listed _) h = h
rows_in schema _ a (One x) (distinct _) h = absurd h
rows_in schema _ a (Whole row) (distinct _) h = absurd h
rows_in schema _ a (Many rows) (distinct _) h = h.0

pub bool_in : (x : Scalar) → HasTy tys.Bool x → Holds ⊥ (λ (b : Bool). Unit {0}) (as_bool x)
bool_in (scalars.Long n) h = absurd h
bool_in (scalars.Bool b) h = tt
bool_in (scalars.Text t) h = absurd h

long_in : (x : Scalar) → HasTy tys.Long x → Holds ⊥ (λ (n : ℤ). Unit {0}) (as_long x)
long_in (scalars.Long n) h = tt
long_in (scalars.Bool b) h = absurd h
long_in (scalars.Text t) h = absurd h

-- ---- Parts of expressions

pub held_in : (schema : Schema) (g : Types) (s : Store) (x : List ℕ) (k : JavaType) → IsTyped schema g s → g x ≡ Some k → Holds ⊥ (IsVariableOf schema k) (found (at_name s x))
held_in schema g s x k h e =
    let v = h.held x k e in
    subst (λ o. Holds ⊥ (IsVariableOf schema k) (found o)) (sym v.1) v.2

number_fits : (schema : Schema) (at : Span) (n : ℤ) (b : Bool) → fits_long n ≡ b → Holds ⊥ (IsOf schema (Of (ScalarOf tys.Long))) (cond b (Ok (One (scalars.Long n))) (Err (endings.Faulted Overflow at)))
number_fits schema at n true e = e
number_fits schema at n false e = tt

number_in : (schema : Schema) (at : Span) (n : ℤ) → Holds ⊥ (IsOf schema (Of (ScalarOf tys.Long))) (number at n)
number_in schema at n = number_fits schema at n (fits_long n) refl

cell_in : (columns : List Column) (cells : List Scalar) (i : ℕ) (column : Column) → AreCells columns cells → slice_get columns i ≡ Some column → Holds ⊥ (HasTy column.ty) (found (slice_get cells i))
cell_in [] cells i column h e = absurd cc
cell_in (c ∷ cs) [] i column h e = absurd h
cell_in (c ∷ cs) (x ∷ xs) zero column h e = let same : c ≡ column = cc in subst (λ (z : Column). HasTy z.ty x) same h.0
cell_in (c ∷ cs) (x ∷ xs) (suc i) column h e = cell_in cs xs i column h.1 e

field_in : (c : Frame) (w : World) (row : Row) (f : List ℕ) (n i : ℕ) (column : Column) → IsWorld c w → IsRowOf n (columns_at c.schema n) row → column_number (columns_at c.schema n) f ≡ Some i → slice_get (columns_at c.schema n) i ≡ Some column → Holds ⊥ (HasTy column.ty) (found (cell w.schema row f))
field_in c w row f n i column world h e k =
    let there : cell w.schema row f ≡ slice_get row.cells i = ap (λ z. cell z row f) world.schema ∙ ap (λ (z : Kind). cell_at row.cells (column_number (columns_of c.schema z) f)) h.0 ∙ ap (cell_at row.cells) e in
    subst (λ o. Holds ⊥ (HasTy column.ty) (found o)) (sym there) (cell_in (columns_at c.schema n) row.cells i column h.1 k)

alone_element : (schema : Schema) (ty : Ty) (kind : Kind) (cells : List Scalar) (row : Row) → kind ≡ kinds.Plain → AreOf (ty ∷ []) cells → IsSingle schema (ScalarOf ty) (element_in kind cells row)
alone_element schema ty kinds.Plain [] row e h = absurd h
alone_element schema ty kinds.Plain (x ∷ []) row e h = h.0
alone_element schema ty kinds.Plain (x ∷ y ∷ xs) row e h = absurd h.1
alone_element schema ty (kinds.Table n) cells row e h = absurd cc

pub element_of : (schema : Schema) (a : Single) (row : Row) → IsMember schema a row → IsSingle schema a (element row)
element_of schema (ScalarOf ty) row h = alone_element schema ty row.kind row.cells row h.0 h.1
element_of schema (RowOf n) row h =
    let whole : element_in row.kind row.cells row ≡ Whole row = ap (λ (z : Kind). element_in z row.cells row) h.0 in
    subst (IsSingle schema (RowOf n)) (sym whole) h

pub member_in : (schema : Schema) (a : Single) (v : Value) → IsOf schema (Of a) v → Holds ⊥ (IsMember schema a) (as_member v)
member_in schema (ScalarOf ty) (One x) h = (refl, (h, tt))
member_in schema (ScalarOf ty) (Whole row) h = absurd h
member_in schema (ScalarOf ty) (Many rows) h = absurd h
member_in schema (RowOf n) (One x) h = absurd h
member_in schema (RowOf n) (Whole row) h = h
member_in schema (RowOf n) (Many rows) h = absurd h

nth_in : (schema : Schema) (a : Single) (at : Span) (rows : List Row) (n : ℕ) → AllByRecursion (IsMember schema a) rows → Holds ⊥ (IsMember schema a) (in_range at (slice_get rows n))
nth_in schema a at [] n h = tt
nth_in schema a at (row ∷ rows) zero h = h.0
nth_in schema a at (row ∷ rows) (suc n) h = nth_in schema a at rows n h.1

get_in : (schema : Schema) (a : Single) (at : Span) (rows : List Row) (n : ℤ) → AllByRecursion (IsMember schema a) rows → Holds ⊥ (IsMember schema a) (in_range at (nth rows n))
get_in schema a at rows (pos n) h = nth_in schema a at rows n h
get_in schema a at rows (negsuc n) h = tt

answer_in : (schema : Schema) (k : JavaType) (at : Span) (o : Option Answered) → IsAnswer schema k o → Holds ⊥ (IsOf schema k) (answered at o)
answer_in schema k at (Some (answers.Rows rows)) h = h
answer_in schema k at (Some (answers.One x)) h = h
answer_in schema k at (Some answers.TooLarge) h = tt
answer_in schema k at None h = absurd h

-- ---- Operators

by_longs : (P : Scalar → Scalar → Type 0) → ((n m : ℤ) → P (scalars.Long n) (scalars.Long m)) → (x y : Scalar) → HasTy tys.Long x → HasTy tys.Long y → P x y
by_longs P f (scalars.Long n) (scalars.Long m) h k = f n m
by_longs P f (scalars.Long n) (scalars.Bool b) h k = absurd k
by_longs P f (scalars.Long n) (scalars.Text t) h k = absurd k
by_longs P f (scalars.Bool b) y h k = absurd h
by_longs P f (scalars.Text t) y h k = absurd h

by_bools : (P : Scalar → Scalar → Type 0) → ((b d : Bool) → P (scalars.Bool b) (scalars.Bool d)) → (x y : Scalar) → HasTy tys.Bool x → HasTy tys.Bool y → P x y
by_bools P f (scalars.Bool b) (scalars.Bool d) h k = f b d
by_bools P f (scalars.Bool b) (scalars.Long n) h k = absurd k
by_bools P f (scalars.Bool b) (scalars.Text t) h k = absurd k
by_bools P f (scalars.Long n) y h k = absurd h
by_bools P f (scalars.Text t) y h k = absurd h

by_texts : (P : Scalar → Scalar → Type 0) → ((t u : List ℕ) → P (scalars.Text t) (scalars.Text u)) → (x y : Scalar) → HasTy tys.Text x → HasTy tys.Text y → P x y
by_texts P f (scalars.Text t) (scalars.Text u) h k = f t u
by_texts P f (scalars.Text t) (scalars.Long n) h k = absurd k
by_texts P f (scalars.Text t) (scalars.Bool b) h k = absurd k
by_texts P f (scalars.Long n) y h k = absurd h
by_texts P f (scalars.Bool b) y h k = absurd h

abbrev Gives : Schema → Ty → Op → Span → Scalar → Scalar → Type 0
Gives schema to op at x y = Holds ⊥ (IsOf schema (Of (ScalarOf to))) (applied op at x y)

applied_in : (schema : Schema) (op : Op) (from to : Ty) (at : Span) (x y : Scalar) → Takes op from to → HasTy from x → HasTy from y → Gives schema to op at x y
applied_in schema op _ _ at x y or_takes h k = by_bools (Gives schema tys.Bool op at) (λ b d. tt) x y h k
applied_in schema op _ _ at x y and_takes h k = by_bools (Gives schema tys.Bool op at) (λ b d. tt) x y h k
applied_in schema op _ _ at x y eq_longs h k = by_longs (Gives schema tys.Bool op at) (λ n m. tt) x y h k
applied_in schema op _ _ at x y eq_bools h k = by_bools (Gives schema tys.Bool op at) (λ b d. tt) x y h k
applied_in schema op _ _ at x y ne_longs h k = by_longs (Gives schema tys.Bool op at) (λ n m. tt) x y h k
applied_in schema op _ _ at x y ne_bools h k = by_bools (Gives schema tys.Bool op at) (λ b d. tt) x y h k
applied_in schema op _ _ at x y lt_takes h k = by_longs (Gives schema tys.Bool op at) (λ n m. tt) x y h k
applied_in schema op _ _ at x y le_takes h k = by_longs (Gives schema tys.Bool op at) (λ n m. tt) x y h k
applied_in schema op _ _ at x y gt_takes h k = by_longs (Gives schema tys.Bool op at) (λ n m. tt) x y h k
applied_in schema op _ _ at x y ge_takes h k = by_longs (Gives schema tys.Bool op at) (λ n m. tt) x y h k
applied_in schema op _ _ at x y add_takes h k = by_longs (Gives schema tys.Long op at) (λ n m. number_in schema at (n +ℤ m)) x y h k
applied_in schema op _ _ at x y sub_takes h k = by_longs (Gives schema tys.Long op at) (λ n m. number_in schema at (n -ℤ m)) x y h k
applied_in schema op _ _ at x y mul_takes h k = by_longs (Gives schema tys.Long op at) (λ n m. number_in schema at (n *ℤ m)) x y h k

settled_or : (schema : Schema) (x : Scalar) (r : Result Value Ending) → HasTy tys.Bool x → Holds ⊥ (IsOf schema bool) r → Holds ⊥ (IsOf schema bool) (or_else (settled ops.Or x) r)
settled_or schema (scalars.Bool true) r h k = tt
settled_or schema (scalars.Bool false) r h k = k
settled_or schema (scalars.Long n) r h k = absurd h
settled_or schema (scalars.Text t) r h k = absurd h

settled_and : (schema : Schema) (x : Scalar) (r : Result Value Ending) → HasTy tys.Bool x → Holds ⊥ (IsOf schema bool) r → Holds ⊥ (IsOf schema bool) (or_else (settled ops.And x) r)
settled_and schema (scalars.Bool true) r h k = k
settled_and schema (scalars.Bool false) r h k = tt
settled_and schema (scalars.Long n) r h k = absurd h
settled_and schema (scalars.Text t) r h k = absurd h

settled_in : (schema : Schema) (op : Op) (from to : Ty) (x : Scalar) (r : Result Value Ending) → Takes op from to → HasTy from x → Holds ⊥ (IsOf schema (Of (ScalarOf to))) r → Holds ⊥ (IsOf schema (Of (ScalarOf to))) (or_else (settled op x) r)
settled_in schema _ _ _ x r or_takes h k = settled_or schema x r h k
settled_in schema _ _ _ x r and_takes h k = settled_and schema x r h k
settled_in schema _ _ _ x r eq_longs h k = k
settled_in schema _ _ _ x r eq_bools h k = k
settled_in schema _ _ _ x r ne_longs h k = k
settled_in schema _ _ _ x r ne_bools h k = k
settled_in schema _ _ _ x r lt_takes h k = k
settled_in schema _ _ _ x r le_takes h k = k
settled_in schema _ _ _ x r gt_takes h k = k
settled_in schema _ _ _ x r ge_takes h k = k
settled_in schema _ _ _ x r add_takes h k = k
settled_in schema _ _ _ x r sub_takes h k = k
settled_in schema _ _ _ x r mul_takes h k = k

-- ---- Expressions

table_in : (c : Frame) (w : World) (t : List ℕ) (n : ℕ) → IsWorld c w → table_number c.schema t ≡ Some n → Holds ⊥ (AllByRecursion (IsRowOf n (columns_at c.schema n))) (found (at_name w.db t))
table_in c w t n world e =
    let rows = rows_of_table 0 c.schema w.db t n world.tables e in
    let at : 0 + n ≡ n = omega arith in
    subst (λ o. Holds ⊥ (AllByRecursion (IsRowOf n (columns_at c.schema n))) (found o)) (sym rows.there) (subst (λ (k : ℕ). AllByRecursion (IsRowOf k (columns_at c.schema n)) rows.rows) at rows.all)

-- a scalar operand, and a variable that is a list or a set
scalar_then : (schema : Schema) (from : Ty) (k : JavaType) (o : Result Value Ending) (f : Scalar → Result Value Ending) → Holds ⊥ (IsOf schema (Of (ScalarOf from))) o → ((x : Scalar) → HasTy from x → Holds ⊥ (IsOf schema k) (f x)) → Holds ⊥ (IsOf schema k) (o >>= λ v. as_scalar v >>= f)
scalar_then schema from k o f h i =
    holds_bind (IsOf schema (Of (ScalarOf from))) (IsOf schema k) o (λ v. as_scalar v >>= f) h (λ v hv. holds_bind (HasTy from) (IsOf schema k) (as_scalar v) f (scalar_in schema from v hv) i)

list_then : (schema : Schema) (g : Types) (s : Store) (x : List ℕ) (t : JavaType) (a : Single) (k : JavaType) (f : List Row → Result Value Ending) → g x ≡ Some t → Has t a → IsTyped schema g s → ((rows : List Row) → AllByRecursion (IsMember schema a) rows → Holds ⊥ (IsOf schema k) (f rows)) → Holds ⊥ (IsOf schema k) (found (at_name s x) >>= λ held. as_rows held.value >>= f)
list_then schema g s x t a k f e has typed i =
    holds_bind (IsVariableOf schema t) (IsOf schema k) (found (at_name s x)) (λ held. as_rows held.value >>= f) (held_in schema g s x t typed e) (λ held h. holds_bind (AllByRecursion (IsMember schema a)) (IsOf schema k) (as_rows held.value) f (rows_in schema t a held.value has h.value) i)

mutual
  pub typed_value : (c : Frame) (g : Types) (e : Expression) (k : JavaType) → HasType c g e k → (w : World) (s : Store) → IsWorld c w → IsTyped c.schema g s → Holds ⊥ (IsOf c.schema k) (value_of e w s)
  typed_value c g _ _ (lit at x ty h) w s i t = h
  typed_value c g _ _ (var at x k e) w s i t = holds_bind (IsVariableOf c.schema k) (IsOf c.schema k) (found (at_name s x)) (λ held. Ok held.value) (held_in c.schema g s x k t e) (λ held h. h.value)
  typed_value c g _ _ (field at e f n j column h q r) w s i t =
      holds_bind (IsOf c.schema (Of (RowOf n))) (IsOf c.schema (Of (ScalarOf column.ty))) (value_of e w s) (λ v. as_row v >>= λ row. found (cell w.schema row f) >>= λ x. Ok (One x)) (typed_value c g e (Of (RowOf n)) h w s i t) (λ v hv. holds_bind (IsRowOf n (columns_at c.schema n)) (IsOf c.schema (Of (ScalarOf column.ty))) (as_row v) (λ row. found (cell w.schema row f) >>= λ x. Ok (One x)) (row_in c.schema n v hv) (λ row hr. holds_bind (HasTy column.ty) (IsOf c.schema (Of (ScalarOf column.ty))) (found (cell w.schema row f)) (λ x. Ok (One x)) (field_in c w row f n j column i hr q r) (λ x hx. hx)))
  typed_value c g _ _ (binary at op a b from to o h k) w s i t =
      scalar_then c.schema from (Of (ScalarOf to)) (value_of a w s) (λ x. or_else (settled op x) (value_of b w s >>= λ u. as_scalar u >>= λ y. applied op at x y)) (typed_value c g a (Of (ScalarOf from)) h w s i t) (λ x hx. settled_in c.schema op from to x (value_of b w s >>= λ u. as_scalar u >>= λ y. applied op at x y) o hx (scalar_then c.schema from (Of (ScalarOf to)) (value_of b w s) (λ y. applied op at x y) (typed_value c g b (Of (ScalarOf from)) k w s i t) (λ y hy. applied_in c.schema op from to at x y o hx hy)))
  typed_value c g _ _ (negated at e h) w s i t =
      scalar_then c.schema tys.Bool bool (value_of e w s) (λ x. as_bool x >>= λ b. Ok (truth (not b))) (typed_value c g e bool h w s i t) (λ x hx. holds_bind (λ b. Unit {0}) (IsOf c.schema bool) (as_bool x) (λ b. Ok (truth (not b))) (bool_in x hx) (λ b hb. tt))
  typed_value c g _ _ (equals at a b h k) w s i t =
      scalar_then c.schema tys.Text bool (value_of a w s) (λ x. value_of b w s >>= λ u. as_scalar u >>= λ y. same_text x y >>= λ z. Ok (truth z)) (typed_value c g a (Of (ScalarOf tys.Text)) h w s i t) (λ x hx. scalar_then c.schema tys.Text bool (value_of b w s) (λ y. same_text x y >>= λ z. Ok (truth z)) (typed_value c g b (Of (ScalarOf tys.Text)) k w s i t) (λ y hy. by_texts (λ x y. Holds ⊥ (IsOf c.schema bool) (same_text x y >>= λ z. Ok (truth z))) (λ t u. tt) x y hx hy))
  typed_value c g _ _ (size at x k a e has) w s i t =
      list_then c.schema g s x k a (Of (ScalarOf tys.Long)) (λ rows. number at (pos (length rows))) e has t (λ rows hr. number_in c.schema at (pos (length rows)))
  typed_value c g _ _ (get at x e a q h) w s i t =
      list_then c.schema g s x (Listed a) a (Of a) (λ rows. value_of e w s >>= λ v. as_scalar v >>= λ y. as_long y >>= λ n. in_range at (nth rows n) >>= λ row. Ok (element row)) q (listed a) t (λ rows hr. scalar_then c.schema tys.Long (Of a) (value_of e w s) (λ y. as_long y >>= λ n. in_range at (nth rows n) >>= λ row. Ok (element row)) (typed_value c g e (Of (ScalarOf tys.Long)) h w s i t) (λ y hy. holds_bind (λ n. Unit {0}) (IsOf c.schema (Of a)) (as_long y) (λ n. in_range at (nth rows n) >>= λ row. Ok (element row)) (long_in y hy) (λ n hn. holds_bind (IsMember c.schema a) (IsOf c.schema (Of a)) (in_range at (nth rows n)) (λ row. Ok (element row)) (get_in c.schema a at rows n hr) (λ row hm. element_of c.schema a row hm))))
  typed_value c g _ _ (contains at x e k ty q has h) w s i t =
      list_then c.schema g s x k (ScalarOf ty) bool (λ rows. value_of e w s >>= λ v. as_scalar v >>= λ y. Ok (truth (is_among rows (alone y)))) q has t (λ rows hr. scalar_then c.schema ty bool (value_of e w s) (λ y. Ok (truth (is_among rows (alone y)))) (typed_value c g e (Of (ScalarOf ty)) h w s i t) (λ y hy. tt))
  typed_value c g _ _ (fetch at n j e) w s i t = holds_bind (AllByRecursion (IsRowOf j (columns_at c.schema j))) (IsOf c.schema (Listed (RowOf j))) (found (at_name w.db n)) (λ rows. Ok (Many rows)) (table_in c w n j i e) (λ rows hr. hr)
  typed_value c g _ _ (query at ty text es q e h) w s i t = holds_bind (AreOf q.params) (IsOf c.schema q.answer) (scalars_of es w s) (λ xs. answered at (w.ask text xs)) (typed_values c g es q.params h w s i t) (λ xs hx. answer_in c.schema q.answer at (w.ask text xs) (i.answers text q xs e hx))
  typed_value c g _ _ (query_long at text es q e h) w s i t = holds_bind (AreOf q.params) (IsOf c.schema q.answer) (scalars_of es w s) (λ xs. answered at (w.ask text xs)) (typed_values c g es q.params h w s i t) (λ xs hx. answer_in c.schema q.answer at (w.ask text xs) (i.answers text q xs e hx))
  typed_value c g _ _ (query_boolean at text es q e h) w s i t = holds_bind (AreOf q.params) (IsOf c.schema q.answer) (scalars_of es w s) (λ xs. answered at (w.ask text xs)) (typed_values c g es q.params h w s i t) (λ xs hx. answer_in c.schema q.answer at (w.ask text xs) (i.answers text q xs e hx))
  typed_value c g _ _ (new_list at a) w s i t = tt
  typed_value c g _ _ (new_set at a) w s i t = (tt, tt)
  typed_value c g _ _ (new_set_of at e a h) w s i t =
      holds_bind (IsOf c.schema (Listed a)) (IsOf c.schema (Distinct a)) (value_of e w s) (λ v. as_rows v >>= λ rows. Ok (Many (firsts same_member rows))) (typed_value c g e (Listed a) h w s i t) (λ v hv. holds_bind (AllByRecursion (IsMember c.schema a)) (IsOf c.schema (Distinct a)) (as_rows v) (λ rows. Ok (Many (firsts same_member rows))) (rows_in c.schema (Listed a) a v (listed a) hv) (λ rows hr. (all_firsts (IsMember c.schema a) same_member rows hr, distinct_firsts rows)))

  pub typed_values : (c : Frame) (g : Types) (es : Expressions) (types : List Ty) → HaveTypes c g es types → (w : World) (s : Store) → IsWorld c w → IsTyped c.schema g s → Holds ⊥ (AreOf types) (scalars_of es w s)
  typed_values c g _ _ no_more w s i t = tt
  typed_values c g _ _ (and e es ty types h k) w s i t =
      holds_bind (IsOf c.schema (Of (ScalarOf ty))) (AreOf (ty ∷ types)) (value_of e w s) (λ v. as_scalar v >>= λ x. scalars_of es w s >>= λ xs. Ok (x ∷ xs)) (typed_value c g e (Of (ScalarOf ty)) h w s i t) (λ v hv. holds_bind (HasTy ty) (AreOf (ty ∷ types)) (as_scalar v) (λ x. scalars_of es w s >>= λ xs. Ok (x ∷ xs)) (scalar_in c.schema ty v hv) (λ x hx. holds_bind (AreOf types) (AreOf (ty ∷ types)) (scalars_of es w s) (λ xs. Ok (x ∷ xs)) (typed_values c g es types k w s i t) (λ xs hs. (hx, hs))))
