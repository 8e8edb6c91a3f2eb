-- An expression in which no rule is broken has the type that it seems to have.
use Rattle.std.proofs.Common.{◌≡◌, ℕ, Bool, true, false, not, List, [], ◌∷◌, ◌++◌, Option, Some, None, refl, sym, ap, ◌∙◌, subst}
use Rattle.std.specs.Prelude.{◌&&◌, slice_get}
use Rattle.std.specs.Option.{option_map}
use Rattle.qbs_base.specs.declared.span.Span.{Span}
use Rattle.qbs_base.specs.declared.scalar.Scalar.{Scalar}
use Rattle.qbs_base.specs.declared.scalar.Scalar.TheVariants as scalars
use Rattle.qbs_base.specs.declared.scalar.Ty.{Ty}
use Rattle.qbs_base.specs.declared.scalar.Ty.TheVariants as tys
use Rattle.qbs_base.specs.declared.columns.Column.{Column}
use Rattle.qbs_base.specs.Values.{Schema, HasTy}
use Rattle.qbs_base.specs.Columns.{table_number, column_number, columns_at, same_ty}
use Rattle.sql_ast.specs.Meaning.{query_answer}
use Rattle.sql_ast.specs.Tree.{PlainQuery, Listing, Number, Truth}
use Rattle.java_ast.specs.declared.tree.Op.{Op}
use Rattle.java_ast.specs.declared.tree.Op.TheVariants as ops
use Rattle.java_ast.specs.Tree as tree
use Rattle.java_ast.specs.Tree.{Spelled, Expression, Expressions}
use Rattle.java_mean.specs.Asks.{element_type, type_of_found, result_type}
use Rattle.java_mean.specs.Numbers.{literal_fits, expression_fits, expressions_fit}
use Rattle.java_mean.specs.Places.{value, in_expression, in_expressions}
use Rattle.java_mean.specs.Rules.{of_long, of_bool, of_text, ty_of, type_of_op, type_at_number, column_in, listed_in, set_of, lists_scalars, type_of, at_of, only_if, is_none, same_type, unless, unless_both, unless_single, unless_scalar, is_many, is_listed, scalars_of, unless_passes, unknown_variable, unknown_column, both_operands, scalar_ty, unless_alike, compared, operands, arguments, params_of, is_text, two_texts, text_identity, is_single, lists, is_number, is_truth, same_length, fits_query}
use Rattle.java_mean.specs.Types.{Single, ScalarOf, RowOf, JavaType, Of, Listed, Distinct, Types, single_spelled, made_of}
use Rattle.java_mean.specs.Typing.{Frame, Takes, or_takes, and_takes, eq_longs, eq_bools, ne_longs, ne_bools, lt_takes, le_takes, gt_takes, ge_takes, add_takes, sub_takes, mul_takes, Has, listed, distinct, IsNew, is_new_list, is_new_set, HasType, lit, var, field, binary, negated, equals, size, get, contains, fetch, query, query_long, query_boolean, new_list, new_set, new_set_of, HaveTypes, no_more, and}
use Rattle.java_mean.specs.Visible.{Visible, is_visible, type_at}
use Rattle.java_mean.specs.WellTyped.{faults_in}
use Rattle.java_mean.specs.declared.types.Kindred.{Kindred}
use Rattle.java_mean.specs.declared.types.Kindred.TheVariants.{Only, AnyList, AnySet}
use Rattle.java_mean.proofs.Faultless.{Both, none_both, none_in, none_at, only_none, not_none, both_true, got_some, same_ty_is, same_single_is, same_type_is, Sees}

-- what a method with this result is typed under
abbrev pub frame : Schema → (List ℕ → Option PlainQuery) → Option Spelled → Frame
frame schema read r = record { schema = schema; asks = λ text. type_of_found schema (read text); answers = λ db text args. option_map (query_answer db args) (read text); result = result_type schema r }

-- An expression has the type that it seems to have: a new list is one of any type.
abbrev pub HasKindred : Frame → Types → Expression → Option Kindred → Type 0
HasKindred c g e (Some (Only k)) = HasType c g e k
HasKindred c g e (Some AnyList) = IsNew e × ((a : Single) → HasType c g e (Listed a))
HasKindred c g e (Some AnySet) = IsNew e × ((a : Single) → HasType c g e (Distinct a))
HasKindred c g e None = ⊥

-- ---- Operands

pub operand : (c : Frame) (g : Types) (e : Expression) (k : Option Kindred) (j : JavaType) (at : Span) → HasKindred c g e k → unless k j at ≡ [] → HasType c g e j
operand c g e None j at h p = absurd h
operand c g e (Some (Only k)) j at h p = subst (HasType c g e) (same_type_is k j (not_none (same_type k j) at p)) h
operand c g e (Some AnyList) (Listed a) at h p = h.1 a
operand c g e (Some AnyList) (Of a) at h p = absurd cc
operand c g e (Some AnyList) (Distinct a) at h p = absurd cc
operand c g e (Some AnySet) (Distinct a) at h p = h.1 a
operand c g e (Some AnySet) (Of a) at h p = absurd cc
operand c g e (Some AnySet) (Listed a) at h p = absurd cc

-- a value for what has this type
pub operand_both : (c : Frame) (g : Types) (e : Expression) (k : Option Kindred) (o : Option JavaType) (j : JavaType) (at : Span) → HasKindred c g e k → o ≡ Some j → unless_both k o at ≡ [] → HasType c g e j
operand_both c g e k o j at h q p = operand c g e k j at h (ap (λ (z : Option JavaType). unless_both k z at) (sym q) ∙ p)

-- a scalar of some type
pub record ScalarOperand (c : Frame) (g : Types) (e : Expression) (k : Option Kindred) : Type 0 where
  pub ty : Ty
  pub is : scalar_ty k ≡ Some ty
  pub typed : HasType c g e (Of (ScalarOf ty))

pub scalar_operand : (c : Frame) (g : Types) (e : Expression) (k : Option Kindred) (at : Span) → HasKindred c g e k → unless_scalar k at ≡ [] → ScalarOperand c g e k
scalar_operand c g e None at h p = absurd h
scalar_operand c g e (Some (Only (Of (ScalarOf ty)))) at h p = record { ty = ty; is = refl; typed = h }
scalar_operand c g e (Some (Only (Of (RowOf n)))) at h p = absurd cc
scalar_operand c g e (Some (Only (Listed a))) at h p = absurd cc
scalar_operand c g e (Some (Only (Distinct a))) at h p = absurd cc
scalar_operand c g e (Some AnyList) at h p = absurd cc
scalar_operand c g e (Some AnySet) at h p = absurd cc

-- the members of a list or a set
pub record Members (k : JavaType) : Type 0 where
  pub of : Single
  pub has : Has k of

pub members : (k : JavaType) → is_many k ≡ true → Members k
members (Of a) p = absurd cc
members (Listed a) p = record { of = a; has = listed a }
members (Distinct a) p = record { of = a; has = distinct a }

-- ---- Literals

literal_typed : (x : Scalar) → literal_fits x ≡ true → HasTy (ty_of x) x
literal_typed (scalars.Long n) p = p
literal_typed (scalars.Bool b) p = tt
literal_typed (scalars.Text t) p = tt

-- ---- Fields

field_of : (c : Frame) (g : Types) (at : Span) (e : Expression) (f : List ℕ) (n i : ℕ) → HasType c g e (Of (RowOf n)) → column_number (columns_at c.schema n) f ≡ Some i → (o : Option Column) → slice_get (columns_at c.schema n) i ≡ o → is_none (option_map (λ (column : Column). column.ty) o) ≡ false → HasKindred c g (tree.Field at e f) (option_map (λ (ty : Ty). Only (Of (ScalarOf ty))) (option_map (λ (column : Column). column.ty) o))
field_of c g at e f n i h q None r p = absurd cc
field_of c g at e f n i h q (Some column) r p = field at e f n i column h q r

field_at : (c : Frame) (g : Types) (at : Span) (e : Expression) (f : List ℕ) (n : ℕ) → HasType c g e (Of (RowOf n)) → (o : Option ℕ) → column_number (columns_at c.schema n) f ≡ o → is_none (type_at_number (columns_at c.schema n) o) ≡ false → HasKindred c g (tree.Field at e f) (option_map (λ (ty : Ty). Only (Of (ScalarOf ty))) (type_at_number (columns_at c.schema n) o))
field_at c g at e f n h None q p = absurd cc
field_at c g at e f n h (Some i) q p = field_of c g at e f n i h q (slice_get (columns_at c.schema n) i) refl p

field_typed : (c : Frame) (g : Types) (at : Span) (e : Expression) (f : List ℕ) (k : Option Kindred) → HasKindred c g e k → unknown_column c.schema k f at ≡ [] → HasKindred c g (tree.Field at e f) (option_map (λ (ty : Ty). Only (Of (ScalarOf ty))) (column_in c.schema k f))
field_typed c g at e f None h p = absurd h
field_typed c g at e f (Some (Only (Of (RowOf n)))) h p = field_at c g at e f n h (column_number (columns_at c.schema n) f) refl (only_none (is_none (column_in c.schema (Some (Only (Of (RowOf n)))) f)) at p)
field_typed c g at e f (Some (Only (Of (ScalarOf ty)))) h p = absurd cc
field_typed c g at e f (Some (Only (Listed a))) h p = absurd cc
field_typed c g at e f (Some (Only (Distinct a))) h p = absurd cc
field_typed c g at e f (Some AnyList) h p = absurd cc
field_typed c g at e f (Some AnySet) h p = absurd cc

-- ---- Operators

-- two operands of one type
two_operands : (c : Frame) (g : Types) (vs : Visible) (k : JavaType) (a b : Expression) → HasKindred c g a (type_of c.schema vs a) → HasKindred c g b (type_of c.schema vs b) → both_operands c.schema vs k a b ≡ [] → Both (HasType c g a k) (HasType c g b k)
two_operands c g vs k a b h i p =
    let two = none_both (unless (type_of c.schema vs a) k (at_of a)) (unless (type_of c.schema vs b) k (at_of b)) p in
    record { left = operand c g a (type_of c.schema vs a) k (at_of a) h two.left; right = operand c g b (type_of c.schema vs b) k (at_of b) i two.right }

-- an operator on two operands of one scalar type
operator_typed : (c : Frame) (g : Types) (vs : Visible) (at : Span) (op : Op) (from to : Ty) (a b : Expression) → Takes op from to → HasKindred c g a (type_of c.schema vs a) → HasKindred c g b (type_of c.schema vs b) → both_operands c.schema vs (Of (ScalarOf from)) a b ≡ [] → HasType c g (tree.Binary at op a b) (Of (ScalarOf to))
operator_typed c g vs at op from to a b t h i p =
    let two = two_operands c g vs (Of (ScalarOf from)) a b h i p in
    binary at op a b from to t two.left two.right

-- two scalars of one type
record Comparison (c : Frame) (g : Types) (a b : Expression) (k j : Option Kindred) : Type 0 where
  pub ty : Ty
  pub is : scalar_ty k ≡ Some ty
  pub left : HasType c g a (Of (ScalarOf ty))
  pub right : HasType c g b (Of (ScalarOf ty))
  pub also : scalar_ty j ≡ Some ty

alike_is : (o u : Option Ty) (a b : Ty) (at : Span) → o ≡ Some a → u ≡ Some b → unless_alike o u at ≡ [] → a ≡ b
alike_is o u a b at p q h =
    let k : unless_alike (Some a) (Some b) at ≡ [] = ap (λ (z : Option Ty). unless_alike z (Some b) at) (sym p) ∙ ap (λ (z : Option Ty). unless_alike o z at) (sym q) ∙ h in
    same_ty_is a b (not_none (same_ty a b) at k)

comparison : (c : Frame) (g : Types) (a b : Expression) (k j : Option Kindred) (at at' at'' : Span) → HasKindred c g a k → HasKindred c g b j → unless_scalar k at ≡ [] → unless_scalar j at' ≡ [] → unless_alike (scalar_ty k) (scalar_ty j) at'' ≡ [] → Comparison c g a b k j
comparison c g a b k j at at' at'' h i p q r =
    let x : ScalarOperand c g a k = scalar_operand c g a k at h p in
    let y : ScalarOperand c g b j = scalar_operand c g b j at' i q in
    let same : y.ty ≡ x.ty = sym (alike_is (scalar_ty k) (scalar_ty j) x.ty y.ty at'' x.is y.is r) in
    record { ty = x.ty; is = x.is; left = x.typed; right = subst (λ ty. HasType c g b (Of (ScalarOf ty))) same y.typed; also = y.is ∙ ap Some same }

compared_typed : (c : Frame) (g : Types) (vs : Visible) (at : Span) (a b : Expression) → HasKindred c g a (type_of c.schema vs a) → HasKindred c g b (type_of c.schema vs b) → compared c.schema vs at a b ≡ [] → Comparison c g a b (type_of c.schema vs a) (type_of c.schema vs b)
compared_typed c g vs at a b h i p =
    let k = type_of c.schema vs a in
    let j = type_of c.schema vs b in
    let two = none_both (unless_scalar k (at_of a)) (unless_scalar j (at_of b) ++ unless_alike (scalar_ty k) (scalar_ty j) at) p in
    let more = none_both (unless_scalar j (at_of b)) (unless_alike (scalar_ty k) (scalar_ty j) at) two.right in
    comparison c g a b k j (at_of a) (at_of b) at h i two.left more.left more.right

-- texts are not compared by identity
no_texts : (o u : Option Ty) (ty : Ty) (at : Span) → o ≡ Some ty → u ≡ Some ty → only_if (is_text o && is_text u) at ≡ [] → (is_text (Some ty) && is_text (Some ty)) ≡ false
no_texts o u ty at p q h = ap (λ (z : Option Ty). is_text z && is_text (Some ty)) (sym p) ∙ ap (λ (z : Option Ty). is_text o && is_text z) (sym q) ∙ only_none (is_text o && is_text u) at h

takes_eq : (ty : Ty) → (is_text (Some ty) && is_text (Some ty)) ≡ false → Takes ops.Eq ty tys.Bool
takes_eq tys.Long p = eq_longs
takes_eq tys.Bool p = eq_bools
takes_eq tys.Text p = absurd cc

takes_ne : (ty : Ty) → (is_text (Some ty) && is_text (Some ty)) ≡ false → Takes ops.Ne ty tys.Bool
takes_ne tys.Long p = ne_longs
takes_ne tys.Bool p = ne_bools
takes_ne tys.Text p = absurd cc

comparison_typed : (c : Frame) (g : Types) (vs : Visible) (at : Span) (op : Op) (a b : Expression) → ((ty : Ty) → (is_text (Some ty) && is_text (Some ty)) ≡ false → Takes op ty tys.Bool) → HasKindred c g a (type_of c.schema vs a) → HasKindred c g b (type_of c.schema vs b) → compared c.schema vs at a b ≡ [] → only_if (two_texts c.schema vs a b) at ≡ [] → HasType c g (tree.Binary at op a b) of_bool
comparison_typed c g vs at op a b takes h i p q =
    let k : Comparison c g a b (type_of c.schema vs a) (type_of c.schema vs b) = compared_typed c g vs at a b h i p in
    binary at op a b k.ty tys.Bool (takes k.ty (no_texts (scalar_ty (type_of c.schema vs a)) (scalar_ty (type_of c.schema vs b)) k.ty at k.is k.also q)) k.left k.right

binary_typed : (c : Frame) (g : Types) (vs : Visible) (at : Span) (op : Op) (a b : Expression) → HasKindred c g a (type_of c.schema vs a) → HasKindred c g b (type_of c.schema vs b) → operands c.schema vs at op a b ≡ [] → text_identity c.schema (value vs (tree.Binary at op a b)) ≡ [] → HasType c g (tree.Binary at op a b) (type_of_op op)
binary_typed c g vs at ops.Or a b h i p q = operator_typed c g vs at ops.Or tys.Bool tys.Bool a b or_takes h i p
binary_typed c g vs at ops.And a b h i p q = operator_typed c g vs at ops.And tys.Bool tys.Bool a b and_takes h i p
binary_typed c g vs at ops.Eq a b h i p q = comparison_typed c g vs at ops.Eq a b takes_eq h i p q
binary_typed c g vs at ops.Ne a b h i p q = comparison_typed c g vs at ops.Ne a b takes_ne h i p q
binary_typed c g vs at ops.Lt a b h i p q = operator_typed c g vs at ops.Lt tys.Long tys.Bool a b lt_takes h i p
binary_typed c g vs at ops.Le a b h i p q = operator_typed c g vs at ops.Le tys.Long tys.Bool a b le_takes h i p
binary_typed c g vs at ops.Gt a b h i p q = operator_typed c g vs at ops.Gt tys.Long tys.Bool a b gt_takes h i p
binary_typed c g vs at ops.Ge a b h i p q = operator_typed c g vs at ops.Ge tys.Long tys.Bool a b ge_takes h i p
binary_typed c g vs at ops.Add a b h i p q = operator_typed c g vs at ops.Add tys.Long tys.Long a b add_takes h i p
binary_typed c g vs at ops.Sub a b h i p q = operator_typed c g vs at ops.Sub tys.Long tys.Long a b sub_takes h i p
binary_typed c g vs at ops.Mul a b h i p q = operator_typed c g vs at ops.Mul tys.Long tys.Long a b mul_takes h i p

-- ---- Variables

-- a variable with its type
pub record Known (vs : Visible) (g : Types) (x : List ℕ) : Type 0 where
  pub type : JavaType
  pub is : type_at vs x ≡ Some type
  pub also : g x ≡ Some type

pub known : (vs : Visible) (g : Types) (x : List ℕ) (at : Span) → Sees vs g → unknown_variable vs x at ≡ [] → Known vs g x
known vs g x at s p =
    let t = s.known x (not_none (is_visible vs x) at p) in
    record { type = t.value; is = t.is; also = sym (s.same x) ∙ t.is }

-- a test of what is known
pub passes : (test : JavaType → Bool) (o : Option JavaType) (k : JavaType) (at : Span) → o ≡ Some k → unless_passes test o at ≡ [] → test k ≡ true
passes test o k at p q = not_none (test k) at (ap (λ (z : Option JavaType). unless_passes test z at) (sym p) ∙ q)

get_typed : (c : Frame) (g : Types) (at : Span) (x : List ℕ) (e : Expression) (k : JavaType) → g x ≡ Some k → is_listed k ≡ true → HasType c g e of_long → HasKindred c g (tree.Get at x e) (option_map (λ (a : Single). Only (Of a)) (listed_in (Some k)))
get_typed c g at x e (Of a) p q h = absurd cc
get_typed c g at x e (Listed a) p q h = get at x e a p h
get_typed c g at x e (Distinct a) p q h = absurd cc

contains_typed : (c : Frame) (g : Types) (at : Span) (x : List ℕ) (e : Expression) (k : JavaType) (j : Option Kindred) (at' : Span) → g x ≡ Some k → not (is_none (scalars_of (Some k))) ≡ true → HasKindred c g e j → unless_single j (scalars_of (Some k)) at' ≡ [] → HasType c g (tree.Contains at x e) of_bool
contains_typed c g at x e (Listed (ScalarOf ty)) j at' p q h r = contains at x e (Listed (ScalarOf ty)) ty p (listed (ScalarOf ty)) (operand c g e j (Of (ScalarOf ty)) at' h r)
contains_typed c g at x e (Distinct (ScalarOf ty)) j at' p q h r = contains at x e (Distinct (ScalarOf ty)) ty p (distinct (ScalarOf ty)) (operand c g e j (Of (ScalarOf ty)) at' h r)
contains_typed c g at x e (Of a) j at' p q h r = absurd cc
contains_typed c g at x e (Listed (RowOf n)) j at' p q h r = absurd cc
contains_typed c g at x e (Distinct (RowOf n)) j at' p q h r = absurd cc

-- ---- Sets

set_typed : (c : Frame) (g : Types) (at : Span) (e : Expression) (k : Option Kindred) → HasKindred c g e k → unless_passes lists_scalars k at ≡ [] → HasKindred c g (tree.NewSetOf at e) (set_of k)
set_typed c g at e None h p = absurd h
set_typed c g at e (Some (Only (Listed (ScalarOf ty)))) h p = new_set_of at e (ScalarOf ty) h
set_typed c g at e (Some (Only (Listed (RowOf n)))) h p = absurd cc
set_typed c g at e (Some (Only (Of a))) h p = absurd cc
set_typed c g at e (Some (Only (Distinct a))) h p = absurd cc
set_typed c g at e (Some AnyList) h p = absurd cc
set_typed c g at e (Some AnySet) h p = absurd cc

-- ---- Queries

-- the arguments' types, as far as they fit
abbrev Fitting : Frame → Types → Visible → Expressions → Type 0
Fitting c g vs es = (types : List Ty) → same_length types es ≡ true → arguments c.schema vs types es ≡ [] → HaveTypes c g es types

listing_by : (schema : Schema) (read : List ℕ → Option PlainQuery) (r : Option Spelled) (g : Types) (at : Span) (ty : Spelled) (text : List ℕ) (es : Expressions) (types : List Ty) (a : Single) (b : Option Single) → type_of_found schema (read text) ≡ option_map (λ (k : JavaType). record { params = types; answer = k }) (made_of Listed b) → is_single a b ≡ true → HaveTypes (frame schema read r) g es types → HasType (frame schema read r) g (tree.Query at ty text es) (Listed a)
listing_by schema read r g at ty text es types a None e p h = absurd cc
listing_by schema read r g at ty text es types a (Some b) e p h =
    subst (λ d. HasType (frame schema read r) g (tree.Query at ty text es) (Listed d)) (sym (same_single_is a b p)) (query at ty text es (record { params = types; answer = Listed b }) e h)

listing_typed : (schema : Schema) (read : List ℕ → Option PlainQuery) (r : Option Spelled) (g : Types) (vs : Visible) (at : Span) (ty : Spelled) (text : List ℕ) (es : Expressions) (a : Option Single) (o : Option PlainQuery) → read text ≡ o → lists schema a o ≡ true → fits_query o es ≡ true → arguments schema vs (params_of o) es ≡ [] → Fitting (frame schema read r) g vs es → HasKindred (frame schema read r) g (tree.Query at ty text es) (option_map (λ (d : Single). Only (Listed d)) a)
listing_typed schema read r g vs at ty text es (Some a) (Some (Listing q)) e p n m f = listing_by schema read r g at ty text es q.params a (element_type schema q q.group) (ap (type_of_found schema) e) p (f q.params n m)
listing_typed schema read r g vs at ty text es (Some a) (Some (Number q)) e p n m f = absurd cc
listing_typed schema read r g vs at ty text es (Some a) (Some (Truth q)) e p n m f = absurd cc
listing_typed schema read r g vs at ty text es (Some a) None e p n m f = absurd cc
listing_typed schema read r g vs at ty text es None o e p n m f = absurd cc

number_typed : (schema : Schema) (read : List ℕ → Option PlainQuery) (r : Option Spelled) (g : Types) (vs : Visible) (at : Span) (text : List ℕ) (es : Expressions) (o : Option PlainQuery) → read text ≡ o → is_number o ≡ true → fits_query o es ≡ true → arguments schema vs (params_of o) es ≡ [] → Fitting (frame schema read r) g vs es → HasType (frame schema read r) g (tree.QueryLong at text es) of_long
number_typed schema read r g vs at text es (Some (Number q)) e p n m f = query_long at text es (record { params = q.params; answer = of_long }) (ap (type_of_found schema) e) (f q.params n m)
number_typed schema read r g vs at text es (Some (Listing q)) e p n m f = absurd cc
number_typed schema read r g vs at text es (Some (Truth q)) e p n m f = absurd cc
number_typed schema read r g vs at text es None e p n m f = absurd cc

truth_typed : (schema : Schema) (read : List ℕ → Option PlainQuery) (r : Option Spelled) (g : Types) (vs : Visible) (at : Span) (text : List ℕ) (es : Expressions) (o : Option PlainQuery) → read text ≡ o → is_truth o ≡ true → fits_query o es ≡ true → arguments schema vs (params_of o) es ≡ [] → Fitting (frame schema read r) g vs es → HasType (frame schema read r) g (tree.QueryBoolean at text es) of_bool
truth_typed schema read r g vs at text es (Some (Truth q)) e p n m f = query_boolean at text es (record { params = q.params; answer = of_bool }) (ap (type_of_found schema) e) (f q.params n m)
truth_typed schema read r g vs at text es (Some (Listing q)) e p n m f = absurd cc
truth_typed schema read r g vs at text es (Some (Number q)) e p n m f = absurd cc
truth_typed schema read r g vs at text es None e p n m f = absurd cc

-- ---- Expressions

module _ (schema : Schema) (read : List ℕ → Option PlainQuery) (r : Option Spelled) (vs : Visible) (g : Types) where
  mutual
    pub expression_typed : (e : Expression) → Sees vs g → expression_fits e ≡ true → faults_in schema read r (in_expression vs e) ≡ [] → HasKindred (frame schema read r) g e (type_of schema vs e)
    expression_typed (tree.Lit at x) s f h = lit at x (ty_of x) (literal_typed x f)
    expression_typed (tree.Var at x) s f h =
        let n = none_at schema read r (value vs (tree.Var at x)) [] h in
        let k = known vs g x at s n.left.known in
        subst (λ o. HasKindred (frame schema read r) g (tree.Var at x) (option_map Only o)) (sym k.is) (var at x k.type k.also)
    expression_typed (tree.Field at e x) s f h =
        let n = none_at schema read r (value vs (tree.Field at e x)) (in_expression vs e) h in
        field_typed (frame schema read r) g at e x (type_of schema vs e) (expression_typed e s f n.right) n.left.known
    expression_typed (tree.Binary at op a b) s f h =
        let n = none_at schema read r (value vs (tree.Binary at op a b)) (in_expression vs a ++ in_expression vs b) h in
        let two = none_in schema read r (in_expression vs a) (in_expression vs b) n.right in
        let fit = both_true (expression_fits a) (expression_fits b) f in
        binary_typed (frame schema read r) g vs at op a b (expression_typed a s fit.left two.left) (expression_typed b s fit.right two.right) n.left.matched n.left.no_identity
    expression_typed (tree.Not at e) s f h =
        let n = none_at schema read r (value vs (tree.Not at e)) (in_expression vs e) h in
        negated at e (operand (frame schema read r) g e (type_of schema vs e) of_bool (at_of e) (expression_typed e s f n.right) n.left.matched)
    expression_typed (tree.Equals at a b) s f h =
        let n = none_at schema read r (value vs (tree.Equals at a b)) (in_expression vs a ++ in_expression vs b) h in
        let two = none_in schema read r (in_expression vs a) (in_expression vs b) n.right in
        let fit = both_true (expression_fits a) (expression_fits b) f in
        let typed = two_operands (frame schema read r) g vs of_text a b (expression_typed a s fit.left two.left) (expression_typed b s fit.right two.right) n.left.matched in
        equals at a b typed.left typed.right
    expression_typed (tree.Size at x) s f h =
        let n = none_at schema read r (value vs (tree.Size at x)) [] h in
        let k = known vs g x at s n.left.known in
        let m = members k.type (passes is_many (type_at vs x) k.type at k.is n.left.matched) in
        size at x k.type m.of k.also m.has
    expression_typed (tree.Get at x e) s f h =
        let n = none_at schema read r (value vs (tree.Get at x e)) (in_expression vs e) h in
        let k = known vs g x at s n.left.known in
        let two = none_both (unless_passes is_listed (type_at vs x) at) (unless (type_of schema vs e) of_long (at_of e)) n.left.matched in
        subst (λ o. HasKindred (frame schema read r) g (tree.Get at x e) (option_map (λ (a : Single). Only (Of a)) (listed_in o))) (sym k.is) (get_typed (frame schema read r) g at x e k.type k.also (passes is_listed (type_at vs x) k.type at k.is two.left) (operand (frame schema read r) g e (type_of schema vs e) of_long (at_of e) (expression_typed e s f n.right) two.right))
    expression_typed (tree.Contains at x e) s f h =
        let n = none_at schema read r (value vs (tree.Contains at x e)) (in_expression vs e) h in
        let k = known vs g x at s n.left.known in
        let two = none_both (unless_passes (λ (j : JavaType). not (is_none (scalars_of (Some j)))) (type_at vs x) at) (unless_single (type_of schema vs e) (scalars_of (type_at vs x)) (at_of e)) n.left.matched in
        contains_typed (frame schema read r) g at x e k.type (type_of schema vs e) (at_of e) k.also (passes (λ (j : JavaType). not (is_none (scalars_of (Some j)))) (type_at vs x) k.type at k.is two.left) (expression_typed e s f n.right) (ap (λ (o : Option JavaType). unless_single (type_of schema vs e) (scalars_of o) (at_of e)) (sym k.is) ∙ two.right)
    expression_typed (tree.Fetch at t) s f h =
        let n = none_at schema read r (value vs (tree.Fetch at t)) [] h in
        let k = got_some (table_number schema t) at n.left.known in
        subst (λ o. HasKindred (frame schema read r) g (tree.Fetch at t) (option_map (λ (i : ℕ). Only (Listed (RowOf i))) o)) (sym k.is) (fetch at t k.value k.is)
    expression_typed (tree.Query at ty text es) s f h =
        let n = none_at schema read r (value vs (tree.Query at ty text es)) (in_expressions vs es) h in
        listing_typed schema read r g vs at ty text es (single_spelled schema ty) (read text) refl (not_none (lists schema (single_spelled schema ty) (read text)) at n.left.queried) (not_none (fits_query (read text) es) at n.left.counted) n.left.matched (λ types l p. expressions_typed es types s f n.right l p)
    expression_typed (tree.QueryLong at text es) s f h =
        let n = none_at schema read r (value vs (tree.QueryLong at text es)) (in_expressions vs es) h in
        number_typed schema read r g vs at text es (read text) refl (not_none (is_number (read text)) at n.left.queried) (not_none (fits_query (read text) es) at n.left.counted) n.left.matched (λ types l p. expressions_typed es types s f n.right l p)
    expression_typed (tree.QueryBoolean at text es) s f h =
        let n = none_at schema read r (value vs (tree.QueryBoolean at text es)) (in_expressions vs es) h in
        truth_typed schema read r g vs at text es (read text) refl (not_none (is_truth (read text)) at n.left.queried) (not_none (fits_query (read text) es) at n.left.counted) n.left.matched (λ types l p. expressions_typed es types s f n.right l p)
    expression_typed (tree.NewList at) s f h = (is_new_list at, λ a. new_list at a)
    expression_typed (tree.NewSet at) s f h = (is_new_set at, λ a. new_set at a)
    expression_typed (tree.NewSetOf at e) s f h =
        let n = none_at schema read r (value vs (tree.NewSetOf at e)) (in_expression vs e) h in
        set_typed (frame schema read r) g at e (type_of schema vs e) (expression_typed e s f n.right) n.left.matched

    pub expressions_typed : (es : Expressions) (types : List Ty) → Sees vs g → expressions_fit es ≡ true → faults_in schema read r (in_expressions vs es) ≡ [] → same_length types es ≡ true → arguments schema vs types es ≡ [] → HaveTypes (frame schema read r) g es types
    expressions_typed tree.NoMore [] s f h l p = no_more
    expressions_typed tree.NoMore (ty ∷ types) s f h l p = absurd cc
    expressions_typed (tree.And e es) [] s f h l p = absurd cc
    expressions_typed (tree.And e es) (ty ∷ types) s f h l p =
        let n = none_in schema read r (in_expression vs e) (in_expressions vs es) h in
        let fit = both_true (expression_fits e) (expressions_fit es) f in
        let two = none_both (unless (type_of schema vs e) (Of (ScalarOf ty)) (at_of e)) (arguments schema vs types es) p in
        and e es ty types (operand (frame schema read r) g e (type_of schema vs e) (Of (ScalarOf ty)) (at_of e) (expression_typed e s fit.left n.left) two.left) (expressions_typed es types s fit.right n.right l two.right)
