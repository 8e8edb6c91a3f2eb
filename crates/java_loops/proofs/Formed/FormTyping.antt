-- The parts of typed expressions, with their types.
use Rattle.std.proofs.Common.{◌≡◌, ℕ, true, List, Some, refl, sym, ap}
use Rattle.std.specs.Prelude.{slice_get}
use Rattle.qbs_base.specs.declared.columns.Column.{Column}
use Rattle.qbs_base.specs.declared.scalar.Scalar.{Scalar}
use Rattle.qbs_base.specs.declared.scalar.Scalar.TheVariants as scalars
use Rattle.qbs_base.specs.declared.scalar.Ty.{Ty}
use Rattle.qbs_base.specs.declared.scalar.Ty.TheVariants as tys
use Rattle.qbs_base.specs.declared.span.Span.{Span}
use Rattle.qbs_base.specs.Values.{HasTy}
use Rattle.qbs_base.specs.Columns.{column_number, columns_at}
use Rattle.java_ast.specs.declared.tree.Op.{Op}
use Rattle.java_ast.specs.declared.tree.Op.TheVariants as ops
use Rattle.java_ast.specs.Tree as tree
use Rattle.java_ast.specs.Tree.{Expression}
use Rattle.java_mean.specs.declared.types.JavaType.{JavaType}
use Rattle.java_mean.specs.declared.types.JavaType.TheVariants.{Of}
use Rattle.java_mean.specs.declared.types.Single.TheVariants.{ScalarOf, RowOf}
use Rattle.java_mean.specs.Rules.{ty_of}
use Rattle.java_mean.specs.Types.{Types}
use Rattle.java_mean.specs.Typing.{Frame, Has, HasType, Takes, lt_takes, le_takes, gt_takes, ge_takes, eq_longs, eq_bools, ne_longs, ne_bools, or_takes, and_takes, lit, var, field, binary, negated, equals, contains, bool}
use Rattle.java_loops.specs.Walks.Forms.{by_identity}

-- one scalar type
pub same_scalar : (a b : Ty) → Of (ScalarOf a) ≡ Of (ScalarOf b) → a ≡ b
same_scalar a b e = cc

-- ---- Literals and variables

literal_type : (ty : Ty) (x : Scalar) → HasTy ty x → ty_of x ≡ ty
literal_type tys.Long (scalars.Long x) h = refl
literal_type tys.Long (scalars.Bool x) h = absurd h
literal_type tys.Long (scalars.Text x) h = absurd h
literal_type tys.Bool (scalars.Long x) h = absurd h
literal_type tys.Bool (scalars.Bool x) h = refl
literal_type tys.Bool (scalars.Text x) h = absurd h
literal_type tys.Text (scalars.Long x) h = absurd h
literal_type tys.Text (scalars.Bool x) h = absurd h
literal_type tys.Text (scalars.Text x) h = refl

pub literal_typed : (c : Frame) (g : Types) (at : Span) (x : Scalar) (k : JavaType) → HasType c g (tree.Lit at x) k → k ≡ Of (ScalarOf (ty_of x))
literal_typed c g _ _ _ (lit at x ty h) = ap (λ z. Of (ScalarOf z)) (sym (literal_type ty x h))

pub variable_typed : (c : Frame) (g : Types) (at : Span) (x : List ℕ) (k : JavaType) → HasType c g (tree.Var at x) k → g x ≡ Some k
variable_typed c g _ _ _ (var at x k i) = i

-- ---- Fields

pub record FieldTyped (c : Frame) (g : Types) (e : Expression) (f : List ℕ) (k : JavaType) : Type 0 where
  pub table : ℕ
  pub number : ℕ
  pub column : Column
  pub row : HasType c g e (Of (RowOf table))
  pub numbered : column_number (columns_at c.schema table) f ≡ Some number
  pub there : slice_get (columns_at c.schema table) number ≡ Some column
  pub is : k ≡ Of (ScalarOf column.ty)

pub field_typed : (c : Frame) (g : Types) (at : Span) (e : Expression) (f : List ℕ) (k : JavaType) → HasType c g (tree.Field at e f) k → FieldTyped c g e f k
field_typed c g _ _ _ _ (field at e f n i column t p q) = record { table = n; number = i; column = column; row = t; numbered = p; there = q; is = refl }

-- ---- Two operands

pub record BinaryTyped (c : Frame) (g : Types) (op : Op) (a b : Expression) : Type 0 where
  pub from : Ty
  pub to : Ty
  pub takes : Takes op from to
  pub left : HasType c g a (Of (ScalarOf from))
  pub right : HasType c g b (Of (ScalarOf from))

pub binary_typed : (c : Frame) (g : Types) (at : Span) (op : Op) (a b : Expression) (k : JavaType) → HasType c g (tree.Binary at op a b) k → BinaryTyped c g op a b
binary_typed c g _ _ _ _ _ (binary at op a b from to t p q) = record { from = from; to = to; takes = t; left = p; right = q }

pub lt_longs : (from to : Ty) → Takes ops.Lt from to → from ≡ tys.Long
lt_longs _ _ lt_takes = refl

pub le_longs : (from to : Ty) → Takes ops.Le from to → from ≡ tys.Long
le_longs _ _ le_takes = refl

pub gt_longs : (from to : Ty) → Takes ops.Gt from to → from ≡ tys.Long
gt_longs _ _ gt_takes = refl

pub ge_longs : (from to : Ty) → Takes ops.Ge from to → from ≡ tys.Long
ge_longs _ _ ge_takes = refl

pub eq_identity : (from to : Ty) → Takes ops.Eq from to → by_identity from ≡ true
eq_identity _ _ eq_longs = refl
eq_identity _ _ eq_bools = refl

pub ne_identity : (from to : Ty) → Takes ops.Ne from to → by_identity from ≡ true
ne_identity _ _ ne_longs = refl
ne_identity _ _ ne_bools = refl

pub and_truths : (from to : Ty) → Takes ops.And from to → from ≡ tys.Bool
and_truths _ _ and_takes = refl

pub or_truths : (from to : Ty) → Takes ops.Or from to → from ≡ tys.Bool
or_truths _ _ or_takes = refl

pub record TextsTyped (c : Frame) (g : Types) (a b : Expression) : Type 0 where
  pub left : HasType c g a (Of (ScalarOf tys.Text))
  pub right : HasType c g b (Of (ScalarOf tys.Text))

pub texts_typed : (c : Frame) (g : Types) (at : Span) (a b : Expression) (k : JavaType) → HasType c g (tree.Equals at a b) k → TextsTyped c g a b
texts_typed c g _ _ _ _ (equals at a b p q) = record { left = p; right = q }

-- ---- Negations and members

pub not_typed : (c : Frame) (g : Types) (at : Span) (e : Expression) (k : JavaType) → HasType c g (tree.Not at e) k → HasType c g e bool
not_typed c g _ _ _ (negated at e t) = t

pub record MemberTyped (c : Frame) (g : Types) (x : List ℕ) (e : Expression) : Type 0 where
  pub list : JavaType
  pub ty : Ty
  pub seen : g x ≡ Some list
  pub has : Has list (ScalarOf ty)
  pub item : HasType c g e (Of (ScalarOf ty))

pub member_typed : (c : Frame) (g : Types) (at : Span) (x : List ℕ) (e : Expression) (k : JavaType) → HasType c g (tree.Contains at x e) k → MemberTyped c g x e
member_typed c g _ _ _ _ (contains at x e k ty i h t) = record { list = k; ty = ty; seen = i; has = h; item = t }
