-- The condition of a select has no fault in the source language where its row is visible, and is a truth value.
use Rattle.std.proofs.Common.{◌≡◌, ℕ, zero, suc, true, false, ◌||◌, ◌&&◌, cond, List, [], ◌∷◌, ◌++◌, Option, Some, None, refl, sym, ap, ◌∙◌, subst}
use Rattle.std.specs.Prelude.{bytes_eq}
use Rattle.std.specs.Option.{option_map}
use Rattle.qbs_base.specs.declared.scalar.Scalar.{Scalar}
use Rattle.qbs_base.specs.declared.scalar.Scalar.TheVariants as scalars
use Rattle.qbs_base.specs.declared.scalar.Ty.{Ty}
use Rattle.qbs_base.specs.declared.scalar.Ty.TheVariants as tys
use Rattle.qbs_base.specs.declared.span.Span.{Span}
use Rattle.qbs_base.specs.Columns.{same_ty}
use Rattle.qbs_base.specs.Values.{Schema}
use Rattle.sql_ast.specs.declared.tree.Cmp.{Cmp}
use Rattle.sql_ast.specs.declared.tree.Cmp.TheVariants as tests
use Rattle.sql_ast.specs.declared.tree.SqlCol.{SqlCol}
use Rattle.sql_ast.specs.declared.tree.SqlOpnd.{SqlOpnd}
use Rattle.sql_ast.specs.declared.tree.SqlOpnd.TheVariants as opnds
use Rattle.sql_ast.specs.Meaning.{nth}
use Rattle.sql_ast.specs.Tree.{Condition, Both, Either, Not, Compare, Bare, Exists, Within, PlainListing, PlainQuery}
use Rattle.sql_ast.specs.Typing.{ty_of_scalar, orders, is_compared_by}
use Rattle.java_ast.specs.declared.tree.Op.{Op}
use Rattle.java_ast.specs.declared.tree.Op.TheVariants as ops
use Rattle.java_ast.specs.Names.{Names}
use Rattle.java_ast.specs.Placed.{placed}
use Rattle.java_ast.specs.Tree as tree
use Rattle.java_ast.specs.Tree.{Spelled, Expression, Expressions, NoMore, And}
use Rattle.java_mean.specs.declared.types.JavaType.{JavaType}
use Rattle.java_mean.specs.declared.types.JavaType.TheVariants.{Of}
use Rattle.java_mean.specs.declared.types.Kindred.{Kindred}
use Rattle.java_mean.specs.declared.types.Kindred.TheVariants.{Only}
use Rattle.java_mean.specs.declared.types.Single.TheVariants.{ScalarOf, RowOf}
use Rattle.java_mean.specs.Places.{Place, value, in_expression, in_expressions}
use Rattle.java_mean.specs.Rules.{of_bool, ty_of, type_of, at_of, unless, same_type, arguments, same_length}
use Rattle.java_mean.specs.Rules as broken
use Rattle.java_mean.specs.Types.{Types, with_type}
use Rattle.java_mean.specs.Visible.{Visible, is_visible, type_at, declared_in}
use Rattle.java_mean.specs.WellTyped.{faults_at, faults_in}
use Rattle.java_mean.proofs.Faultless.{none_both, none_in, none_at, not_none, got_some, same_type_is, Sees, sees_declared, new_type, new_visible}
use Rattle.java_mean.proofs.Puts.{name_same}
use Rattle.spreads.specs.Conditions.{argument, argument_at, column_in, operand_in, op_of, compared_in, condition_in}
use Rattle.spreads.specs.Staying.{stays, all_stay}
use Rattle.spreads.proofs.Chosen.{both_so}
use Rattle.spreads.proofs.Truth.{ColIs, OpndIs, ConditionIs}
use Rattle.spreads.proofs.FewerWalked.{both_none, joined}

-- what is visible has a type
abbrev pub Known : Visible → Type 0
Known vs = Sees vs (type_at vs)

pub again : (vs : Visible) (g : Types) → Sees vs g → Known vs
again vs g s = record { same = λ x. refl; known = s.known }

pub declared_known : (vs : Visible) (x : List ℕ) (o : Option JavaType) (k : JavaType) → Known vs → is_visible vs x ≡ false → o ≡ Some k → Known (declared_in vs x o)
declared_known vs x o k s new e = again (declared_in vs x o) (with_type x o (type_at vs)) (sees_declared vs (type_at vs) x o k s new e)

-- a row of this table is visible as the variable beside what was visible before
pub record WithRow (vs us : Visible) (x : List ℕ) (n : ℕ) : Type 0 where
  pub type : type_at us x ≡ Some (Of (RowOf n))
  pub there : is_visible us x ≡ true
  pub same : (y : List ℕ) → is_visible vs y ≡ true → type_at us y ≡ type_at vs y
  pub still : (y : List ℕ) → is_visible vs y ≡ true → is_visible us y ≡ true

pub with_row : (vs : Visible) (x : List ℕ) (n : ℕ) (o : Option JavaType) → is_visible vs x ≡ false → o ≡ Some (Of (RowOf n)) → WithRow vs (declared_in vs x o) x n
with_row vs x n o new e =
    record {
      type = new_type vs x x o new ∙ ap (λ b. cond b (type_at vs x) (cond (bytes_eq x x) o None)) new ∙ ap (λ b. cond b o None) (name_same x) ∙ e;
      there = new_visible vs x x o new ∙ ap (λ b. b || bytes_eq x x) new ∙ name_same x;
      same = λ y h. new_type vs x y o new ∙ ap (λ b. cond b (type_at vs y) (cond (bytes_eq x y) o None)) h;
      still = λ y h. new_visible vs x y o new ∙ ap (λ b. b || bytes_eq x y) h;
    }

ty_is : (y : Scalar) → ty_of y ≡ ty_of_scalar y
ty_is (scalars.Long i) = refl
ty_is (scalars.Bool b) = refl
ty_is (scalars.Text t) = refl

-- the type of a scalar, as far as the rules go
abbrev scalar : Ty → Option Kindred
scalar ty = Some (Only (Of (ScalarOf ty)))

of_scalar : (a b : Ty) → Of (ScalarOf a) ≡ Of (ScalarOf b) → a ≡ b
of_scalar a b e = ap (λ (k : JavaType). elim k as (λ _. Ty) [ Of (ScalarOf z) ↦ z | _ ↦ a ]) e

module _ (schema : Schema) (read : List ℕ → Option PlainQuery) (r : Option Spelled) where
  abbrev Fine : List Place → Type 0
  Fine ps = faults_in schema read r ps ≡ []

  -- arguments of these types
  pub record AreGiven (assigned : Names) (vs : Visible) (es : Expressions) (types : List Ty) : Type 0 where
    pub fine : Fine (in_expressions vs es)
    pub matched : arguments schema vs types es ≡ []
    pub many : same_length types es ≡ true
    pub stay : all_stay assigned es ≡ true

  -- an expression of this type without a fault
  pub record IsFineOf (vs : Visible) (e : Expression) (ty : Ty) : Type 0 where
    pub type : type_of schema vs e ≡ scalar ty
    pub fine : Fine (in_expression vs e)

  module _ (vs us : Visible) (x : List ℕ) (n : ℕ) (known : Known vs) (row : WithRow vs us x n) (at : Span) where
    -- ---- Operands

    column_fine : (ty : Ty) (col : SqlCol) → ColIs schema n ty col → IsFineOf us (column_in at x col) ty
    column_fine ty col k =
        let type = row.type in
        let there = row.there in
        let number = k.there in
        let held = k.held in
        record { type = rw (type, number, held) (ap scalar k.is); fine = rw (type, number, held, there) refl }

    given_type : (k : JavaType) (ty : Ty) (at' : Span) → unless (Some (Only k)) (Of (ScalarOf ty)) at' ≡ [] → k ≡ Of (ScalarOf ty)
    given_type k ty at' h = same_type_is k (Of (ScalarOf ty)) (not_none (same_type k (Of (ScalarOf ty))) at' h)

    lit_fine : (y : Scalar) (ty : Ty) → ty_of y ≡ ty → IsFineOf us (tree.Lit at y) ty
    lit_fine y ty e = record { type = ap scalar e; fine = refl }

    var_fine : (at' : Span) (y : List ℕ) (ty : Ty) → Fine (in_expression vs (tree.Var at' y)) → unless (type_of schema vs (tree.Var at' y)) (Of (ScalarOf ty)) at' ≡ [] → IsFineOf us (tree.Var at y) ty
    var_fine at' y ty h u =
        let one = none_at schema read r (value vs (tree.Var at' y)) [] h in
        let seen = not_none (is_visible vs y) at' one.left.known in
        let k = known.known y seen in
        let is : k.value ≡ Of (ScalarOf ty) = given_type k.value ty at' (sym (ap (λ (o : Option JavaType). unless (option_map Only o) (Of (ScalarOf ty)) at') k.is) ∙ u) in
        let there : is_visible us y ≡ true = row.still y seen in
        record { type = ap (λ (o : Option JavaType). option_map Only o) (row.same y seen ∙ k.is ∙ ap (λ (z : JavaType). let o : Option JavaType = Some z in o) is); fine = rw there refl }

    field_fine : (at' at2 : Span) (y f : List ℕ) (ty : Ty) → Fine (in_expression vs (tree.Field at' (tree.Var at2 y) f)) → unless (type_of schema vs (tree.Field at' (tree.Var at2 y) f)) (Of (ScalarOf ty)) at' ≡ [] → IsFineOf us (tree.Field at (tree.Var at y) f) ty
    field_fine at' at2 y f ty h u =
        let of_field = λ (o : Option Ty). option_map (λ (t : Ty). Only (Of (ScalarOf t))) o in
        let one = none_at schema read r (value vs (tree.Field at' (tree.Var at2 y) f)) (value vs (tree.Var at2 y) ∷ []) h in
        let two = none_at schema read r (value vs (tree.Var at2 y)) [] one.right in
        let seen = not_none (is_visible vs y) at2 two.left.known in
        let k = known.known y seen in
        let column = got_some (broken.column_in schema (Some (Only k.value)) f) at' (sym (ap (λ (o : Option JavaType). broken.unknown_column schema (option_map Only o) f at') k.is) ∙ one.left.known) in
        let typed : type_of schema vs (tree.Field at' (tree.Var at2 y) f) ≡ scalar column.value = ap (λ (o : Option JavaType). of_field (broken.column_in schema (option_map Only o) f)) k.is ∙ ap of_field column.is in
        let is : column.value ≡ ty = of_scalar column.value ty (given_type (Of (ScalarOf column.value)) ty at' (sym (ap (λ o. unless o (Of (ScalarOf ty)) at') typed) ∙ u)) in
        let type : type_at us y ≡ Some k.value = row.same y seen ∙ k.is in
        let there : is_visible us y ≡ true = row.still y seen in
        let here : broken.column_in schema (Some (Only k.value)) f ≡ Some ty = column.is ∙ ap (λ z. let o : Option Ty = Some z in o) is in
        record {
          type = ap (λ (o : Option JavaType). of_field (broken.column_in schema (option_map Only o) f)) type ∙ ap of_field here;
          fine = rw (type, here, there) refl;
        }

    placed_fine : (assigned : Names) (e : Expression) (ty : Ty) → stays assigned e ≡ true → Fine (in_expression vs e) → unless (type_of schema vs e) (Of (ScalarOf ty)) (at_of e) ≡ [] → IsFineOf us (placed at e) ty
    placed_fine assigned (tree.Lit at' y) ty n h u = lit_fine y ty (of_scalar (ty_of y) ty (given_type (Of (ScalarOf (ty_of y))) ty at' u))
    placed_fine assigned (tree.Var at' y) ty n h u = var_fine at' y ty h u
    placed_fine assigned (tree.Field at' (tree.Var at2 y) f) ty n h u = field_fine at' at2 y f ty h u
    placed_fine assigned e ty n h u = absurd cc

    some_ty : (a b : Ty) → (let o : Option Ty = Some a in o) ≡ Some b → a ≡ b
    some_ty a b e = ap (λ (o : Option Ty). elim o as (λ _. Ty) [ Some z ↦ z | None ↦ a ]) e

    argument_fine : (assigned : Names) (es : Expressions) (types : List Ty) (k : ℕ) (ty : Ty) → AreGiven assigned vs es types → nth types k ≡ Some ty → IsFineOf us (argument_at at (argument es k)) ty
    argument_fine assigned es types zero ty g e = absurd cc
    argument_fine assigned es [] (suc k) ty g e = absurd cc
    argument_fine assigned NoMore (t ∷ types) (suc k) ty g e = (let m = g.many in absurd cc)
    argument_fine assigned (And a es) (t ∷ types) (suc zero) ty g e =
        let both = both_so (stays assigned a) (all_stay assigned es) g.stay in
        let u = none_both (unless (type_of schema vs a) (Of (ScalarOf t)) (at_of a)) (arguments schema vs types es) g.matched in
        let f = none_in schema read r (in_expression vs a) (in_expressions vs es) g.fine in
        subst (IsFineOf us (placed at a)) (some_ty t ty e) (placed_fine assigned a t both.0 f.left u.left)
    argument_fine assigned (And a es) (t ∷ types) (suc (suc k)) ty g e =
        let both = both_so (stays assigned a) (all_stay assigned es) g.stay in
        let u = none_both (unless (type_of schema vs a) (Of (ScalarOf t)) (at_of a)) (arguments schema vs types es) g.matched in
        let f = none_in schema read r (in_expression vs a) (in_expressions vs es) g.fine in
        argument_fine assigned es types (suc k) ty (record { fine = f.right; matched = u.right; many = g.many; stay = both.1 }) e

    -- ---- Operators

    joined_parts : (e a b : Expression) → faults_at schema read r (value us e) ≡ [] → Fine (in_expression us a) → Fine (in_expression us b) → faults_at schema read r (value us e) ++ faults_in schema read r (in_expression us a ++ in_expression us b) ≡ []
    joined_parts e a b v h k = both_none (faults_at schema read r (value us e)) (faults_in schema read r (in_expression us a ++ in_expression us b)) v (joined schema read r (in_expression us a) (in_expression us b) h k)

    -- a binary operator whose own place has no fault
    binary_fine : (op : Op) (a b : Expression) (t u : Ty) → IsFineOf us a t → IsFineOf us b u → faults_at schema read r (value us (tree.Binary at op a b)) ≡ [] → broken.type_of_op op ≡ of_bool → IsFineOf us (tree.Binary at op a b) tys.Bool
    binary_fine op a b t u h k v e = record { type = ap (λ (z : JavaType). let o : Option Kindred = Some (Only z) in o) e; fine = joined_parts (tree.Binary at op a b) a b v h.fine k.fine }

    or_fine : (a b : Expression) → IsFineOf us a tys.Bool → IsFineOf us b tys.Bool → IsFineOf us (tree.Binary at ops.Or a b) tys.Bool
    or_fine a b h k = (let t = h.type in let u = k.type in binary_fine ops.Or a b tys.Bool tys.Bool h k (rw (t, u) refl) refl)

    and_fine : (a b : Expression) → IsFineOf us a tys.Bool → IsFineOf us b tys.Bool → IsFineOf us (tree.Binary at ops.And a b) tys.Bool
    and_fine a b h k = (let t = h.type in let u = k.type in binary_fine ops.And a b tys.Bool tys.Bool h k (rw (t, u) refl) refl)

    not_fine : (a : Expression) → IsFineOf us a tys.Bool → IsFineOf us (tree.Not at a) tys.Bool
    not_fine a h =
        let t = h.type in
        let v : faults_at schema read r (value us (tree.Not at a)) ≡ [] = rw t refl in
        record { type = refl; fine = both_none (faults_at schema read r (value us (tree.Not at a))) (faults_in schema read r (in_expression us a)) v h.fine }

    equals_fine : (a b : Expression) → IsFineOf us a tys.Text → IsFineOf us b tys.Text → IsFineOf us (tree.Equals at a b) tys.Bool
    equals_fine a b h k =
        let t = h.type in
        let u = k.type in
        let v : faults_at schema read r (value us (tree.Equals at a b)) ≡ [] = rw (t, u) refl in
        record { type = refl; fine = joined_parts (tree.Equals at a b) a b v h.fine k.fine }

    longs_fine : (cmp : Cmp) (a b : Expression) → IsFineOf us a tys.Long → IsFineOf us b tys.Long → IsFineOf us (tree.Binary at (op_of cmp) a b) tys.Bool
    longs_fine tests.Eq a b h k = (let t = h.type in let u = k.type in binary_fine ops.Eq a b tys.Long tys.Long h k (rw (t, u) refl) refl)
    longs_fine tests.Ne a b h k = (let t = h.type in let u = k.type in binary_fine ops.Ne a b tys.Long tys.Long h k (rw (t, u) refl) refl)
    longs_fine tests.Lt a b h k = (let t = h.type in let u = k.type in binary_fine ops.Lt a b tys.Long tys.Long h k (rw (t, u) refl) refl)
    longs_fine tests.Le a b h k = (let t = h.type in let u = k.type in binary_fine ops.Le a b tys.Long tys.Long h k (rw (t, u) refl) refl)
    longs_fine tests.Gt a b h k = (let t = h.type in let u = k.type in binary_fine ops.Gt a b tys.Long tys.Long h k (rw (t, u) refl) refl)
    longs_fine tests.Ge a b h k = (let t = h.type in let u = k.type in binary_fine ops.Ge a b tys.Long tys.Long h k (rw (t, u) refl) refl)

    bools_fine : (cmp : Cmp) (a b : Expression) → is_compared_by cmp tys.Bool ≡ true → IsFineOf us a tys.Bool → IsFineOf us b tys.Bool → IsFineOf us (tree.Binary at (op_of cmp) a b) tys.Bool
    bools_fine tests.Eq a b c h k = (let t = h.type in let u = k.type in binary_fine ops.Eq a b tys.Bool tys.Bool h k (rw (t, u) refl) refl)
    bools_fine tests.Ne a b c h k = (let t = h.type in let u = k.type in binary_fine ops.Ne a b tys.Bool tys.Bool h k (rw (t, u) refl) refl)
    bools_fine tests.Lt a b c h k = absurd cc
    bools_fine tests.Le a b c h k = absurd cc
    bools_fine tests.Gt a b c h k = absurd cc
    bools_fine tests.Ge a b c h k = absurd cc

    texts_fine : (cmp : Cmp) (a b : Expression) → (orders cmp && true) ≡ false → IsFineOf us a tys.Text → IsFineOf us b tys.Text → IsFineOf us (compared_in true at cmp a b) tys.Bool
    texts_fine tests.Eq a b c h k = equals_fine a b h k
    texts_fine tests.Ne a b c h k = not_fine (tree.Equals at a b) (equals_fine a b h k)
    texts_fine tests.Lt a b c h k = absurd cc
    texts_fine tests.Le a b c h k = absurd cc
    texts_fine tests.Gt a b c h k = absurd cc
    texts_fine tests.Ge a b c h k = absurd cc

    compared_fine : (ty : Ty) (cmp : Cmp) (a b : Expression) → is_compared_by cmp ty ≡ true → (orders cmp && same_ty ty tys.Text) ≡ false → IsFineOf us a ty → IsFineOf us b ty → IsFineOf us (compared_in (same_ty ty tys.Text) at cmp a b) tys.Bool
    compared_fine tys.Long cmp a b c p h k = longs_fine cmp a b h k
    compared_fine tys.Bool cmp a b c p h k = bools_fine cmp a b c h k
    compared_fine tys.Text cmp a b c p h k = texts_fine cmp a b p h k

    -- ---- Conditions

    module _ (assigned : Names) (q : PlainListing) (es : Expressions) (given : AreGiven assigned vs es q.params) where
      operand_fine : (ty : Ty) (o : SqlOpnd) → OpndIs schema n q.params ty o → IsFineOf us (operand_in at x es o) ty
      operand_fine ty (opnds.Column col) k = column_fine ty col k
      operand_fine ty (opnds.Lit y) k = lit_fine y ty (ty_is y ∙ k)
      operand_fine ty (opnds.Param i) k = argument_fine assigned es q.params i ty given k

      pub condition_fine : (c : Condition) → ConditionIs schema n q c → IsFineOf us (condition_in schema q at x es c) tys.Bool
      condition_fine (Both a b) k = and_fine (condition_in schema q at x es a) (condition_in schema q at x es b) (condition_fine a k.0) (condition_fine b k.1)
      condition_fine (Either a b) k = or_fine (condition_in schema q at x es a) (condition_in schema q at x es b) (condition_fine a k.0) (condition_fine b k.1)
      condition_fine (Not a) k = not_fine (condition_in schema q at x es a) (condition_fine a k)
      condition_fine (Compare cmp a b) k =
          let here : IsFineOf us (compared_in (same_ty k.ty tys.Text) at cmp (operand_in at x es a) (operand_in at x es b)) tys.Bool = compared_fine k.ty cmp (operand_in at x es a) (operand_in at x es b) k.may k.plain (operand_fine k.ty a k.first) (operand_fine k.ty b k.second) in
          subst (λ t. IsFineOf us (compared_in t at cmp (operand_in at x es a) (operand_in at x es b)) tys.Bool) (sym k.text) here
      condition_fine (Bare col) k = column_fine tys.Bool col k
      condition_fine (Exists from filter_) k = absurd k
      condition_fine (Within opnd negated col from filter_) k = absurd k
