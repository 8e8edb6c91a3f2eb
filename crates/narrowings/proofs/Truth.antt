-- A plain part has, at a row, the truth that its condition has.
use Rattle.std.proofs.Common.{◌≡◌, ℕ, zero, suc, ℤ, Bool, true, false, not, ◌||◌, ◌&&◌, cond, List, [], ◌∷◌, Option, Some, Result, Ok, refl, sym, ap, ◌∙◌, subst}
use Rattle.std.specs.Prelude.{bytes_eq, slice_get}
use Rattle.std.specs.Option.{option_map}
use Rattle.qbs_base.specs.declared.columns.Column.{Column}
use Rattle.qbs_base.specs.declared.scalar.Kind.{Kind}
use Rattle.qbs_base.specs.declared.scalar.Row.{Row}
use Rattle.qbs_base.specs.declared.scalar.Scalar.{Scalar}
use Rattle.qbs_base.specs.declared.scalar.Scalar.TheVariants as scalars
use Rattle.qbs_base.specs.declared.scalar.Ty.{Ty}
use Rattle.qbs_base.specs.declared.scalar.Ty.TheVariants as tys
use Rattle.qbs_base.specs.declared.scalar.Value.{Value}
use Rattle.qbs_base.specs.declared.scalar.Value.TheVariants.{One, Whole}
use Rattle.qbs_base.specs.declared.span.Span.{Span}
use Rattle.qbs_base.specs.Columns.{columns_at, column_number, same_ty}
use Rattle.qbs_base.specs.Named.{at_name}
use Rattle.qbs_base.specs.Values.{HasTy, AreCells, IsRowOf}
use Rattle.sql_ast.specs.declared.tree.Cmp.{Cmp}
use Rattle.sql_ast.specs.declared.tree.Cmp.TheVariants as tests
use Rattle.sql_ast.specs.declared.tree.SqlOpnd.{SqlOpnd}
use Rattle.sql_ast.specs.declared.tree.SqlOpnd.TheVariants as opnds
use Rattle.sql_ast.specs.Meaning.{Combination, nth, operand_of, holds, truth_of}
use Rattle.sql_ast.specs.Tree.{Condition}
use Rattle.sql_ast.specs.Typing.{is_compared_by}
use Rattle.java_ast.specs.declared.tree.Op.TheVariants as ops
use Rattle.java_ast.specs.Tree as tree
use Rattle.java_ast.specs.Tree.{Expression}
use Rattle.java_mean.specs.declared.ending.Ending.{Ending}
use Rattle.java_mean.specs.declared.types.JavaType.TheVariants.{Of}
use Rattle.java_mean.specs.declared.types.Single.TheVariants.{ScalarOf}
use Rattle.java_mean.specs.Endings.{◌>>=◌, found}
use Rattle.java_mean.specs.Expression.{value_of, scalars_of, as_scalar, as_row, truth, cell, cell_at, columns_of, element, element_in, settled, or_else, applied, same_text}
use Rattle.java_mean.specs.Store.{Store, Variable, plainly}
use Rattle.java_mean.specs.Types.{Types, IsOf, IsTyped}
use Rattle.java_mean.specs.Typing.{Frame, IsWorld}
use Rattle.java_mean.specs.World.{World}
use Rattle.java_mean.proofs.Puts.{names_equal}
use Rattle.java_mean.proofs.Simulates.{Holds}
use Rattle.java_mean.proofs.TypedValues.{typed_value}
use Rattle.spreads.specs.Conditions.{op_of}
use Rattle.spreads.specs.Narrowed.{Arguments, same_argument, number_of, expressions}
use Rattle.spreads.proofs.Truth.{bind_ok}
use Rattle.narrowings.proofs.Conjuncts.{ok_is, one_is}
use Rattle.narrowings.proofs.Parts.{both_so, some_is, mapped, ComparedBy, by_op, by_equals, OperandIs, of_literal, of_column, of_argument, PartIs, both_parts, either_part, not_part, compared_part, true_part}

-- ---- Comparisons

abbrev Compares : Span → Cmp → Scalar → Scalar → Type 0
Compares at cmp y z = or_else (settled (op_of cmp) y) (applied (op_of cmp) at y z) ≡ Ok (truth (holds cmp (Some y) (Some z)))

longs_so : (at : Span) (cmp : Cmp) (i j : ℤ) → Compares at cmp (scalars.Long i) (scalars.Long j)
longs_so at tests.Eq i j = refl
longs_so at tests.Ne i j = refl
longs_so at tests.Lt i j = refl
longs_so at tests.Le i j = refl
longs_so at tests.Gt i j = refl
longs_so at tests.Ge i j = refl

bools_so : (at : Span) (cmp : Cmp) (p r : Bool) → is_compared_by cmp tys.Bool ≡ true → Compares at cmp (scalars.Bool p) (scalars.Bool r)
bools_so at tests.Eq p r e = refl
bools_so at tests.Ne p r e = refl
bools_so at tests.Lt p r e = absurd cc
bools_so at tests.Le p r e = absurd cc
bools_so at tests.Gt p r e = absurd cc
bools_so at tests.Ge p r e = absurd cc

scalars_so : (at : Span) (cmp : Cmp) (ty : Ty) (y z : Scalar) → HasTy ty y → HasTy ty z → is_compared_by cmp ty ≡ true → same_ty ty tys.Text ≡ false → Compares at cmp y z
scalars_so at cmp tys.Long (scalars.Long i) (scalars.Long j) h k e t = longs_so at cmp i j
scalars_so at cmp tys.Long (scalars.Long i) (scalars.Bool r) h k e t = absurd k
scalars_so at cmp tys.Long (scalars.Long i) (scalars.Text r) h k e t = absurd k
scalars_so at cmp tys.Long (scalars.Bool p) z h k e t = absurd h
scalars_so at cmp tys.Long (scalars.Text p) z h k e t = absurd h
scalars_so at cmp tys.Bool (scalars.Bool p) (scalars.Bool r) h k e t = bools_so at cmp p r e
scalars_so at cmp tys.Bool (scalars.Bool p) (scalars.Long r) h k e t = absurd k
scalars_so at cmp tys.Bool (scalars.Bool p) (scalars.Text r) h k e t = absurd k
scalars_so at cmp tys.Bool (scalars.Long p) z h k e t = absurd h
scalars_so at cmp tys.Bool (scalars.Text p) z h k e t = absurd h
scalars_so at cmp tys.Text y z h k e t = absurd cc

texts_so : (y z : Scalar) → HasTy tys.Text y → HasTy tys.Text z → (same_text y z >>= λ b. (let r : Result Value Ending = Ok (truth b) in r)) ≡ Ok (truth (holds tests.Eq (Some y) (Some z)))
texts_so (scalars.Text p) (scalars.Text r) h k = refl
texts_so (scalars.Text p) (scalars.Long r) h k = absurd k
texts_so (scalars.Text p) (scalars.Bool r) h k = absurd k
texts_so (scalars.Long p) z h k = absurd h
texts_so (scalars.Bool p) z h k = absurd h

is_true_so : (y : Scalar) → HasTy tys.Bool y → (let r : Result Value Ending = Ok (One y) in r) ≡ Ok (truth (holds tests.Eq (Some y) (Some (scalars.Bool true))))
is_true_so (scalars.Bool true) h = refl
is_true_so (scalars.Bool false) h = refl
is_true_so (scalars.Long p) h = absurd h
is_true_so (scalars.Text p) h = absurd h

cell_there : (held : List Column) (cells : List Scalar) (n : ℕ) (column : Column) → AreCells held cells → slice_get held n ≡ Some column → (y : Scalar) × (slice_get cells n ≡ Some y) × HasTy column.ty y
cell_there [] cells n column h e = absurd cc
cell_there (k ∷ ks) [] n column h e = absurd h
cell_there (k ∷ ks) (y ∷ ys) zero column h e = (y, refl, subst (λ (z : Column). HasTy z.ty y) (some_is k column e) h.0)
cell_there (k ∷ ks) (y ∷ ys) (suc n) column h e = cell_there ks ys n column h.1 e

-- ---- Arguments

module _ (w : World) (s : Store) where
  same_value : (e a : Expression) → same_argument e a ≡ true → value_of e w s ≡ value_of a w s
  same_value (tree.Var at y) (tree.Var at' z) h = ap (λ (k : List ℕ). found (at_name s k) >>= λ (held : Variable). (let r : Result Value Ending = Ok held.value in r)) (names_equal y z h)
  same_value (tree.Field at (tree.Var at' y) f) (tree.Field at2 (tree.Var at3 z) k) h =
      let both = both_so (bytes_eq y z) (bytes_eq f k) h in
      ap (λ (i : List ℕ). value_of (tree.Field at (tree.Var at' i) f) w s) (names_equal y z both.0) ∙ ap (λ (i : List ℕ). value_of (tree.Field at2 (tree.Var at3 z) i) w s) (names_equal f k both.1)
  same_value e a h = absurd cc

  -- the value of the first argument, and those of the arguments behind it
  record Given (a : Expression) (args : Arguments) (xs : List Scalar) : Type 0 where
    first : Scalar
    rest : List Scalar
    value : value_of a w s ≡ Ok (One first)
    others : scalars_of (expressions args) w s ≡ Ok rest
    is : first ∷ rest ≡ xs

  given : (a : Expression) (args : Arguments) (xs : List Scalar) → scalars_of (expressions (a ∷ args)) w s ≡ Ok xs → Given a args xs
  given a args xs p =
      let u = bind_ok (value_of a w s) (λ v. as_scalar v >>= λ y. scalars_of (expressions args) w s >>= λ ys. (let r : Result (List Scalar) Ending = Ok (y ∷ ys) in r)) xs p in
      let b = bind_ok (as_scalar u.0) (λ y. scalars_of (expressions args) w s >>= λ ys. (let r : Result (List Scalar) Ending = Ok (y ∷ ys) in r)) xs u.2 in
      let d = bind_ok (scalars_of (expressions args) w s) (λ ys. (let r : Result (List Scalar) Ending = Ok (b.0 ∷ ys) in r)) xs b.2 in
      record { first = b.0; rest = d.0; value = u.1 ∙ ap (λ v. let r : Result Value Ending = Ok v in r) (one_is u.0 b.0 b.1); others = d.1; is = ok_is (b.0 ∷ d.0) xs d.2 }

  later : (y : Scalar) (ys : List Scalar) (k : ℕ) (z : Scalar) → nth ys k ≡ Some z → nth (y ∷ ys) (suc k) ≡ Some z
  later y ys zero z e = absurd cc
  later y ys (suc k) z e = e

  abbrev Numbered : Expression → List Scalar → ℕ → Type 0
  Numbered e xs k = (y : Scalar) × (nth xs k ≡ Some y) × (value_of e w s ≡ Ok (One y))

  by_first : (e a : Expression) (args : Arguments) (xs : List Scalar) (k : ℕ) → Given a args xs → ((ys : List Scalar) (i : ℕ) → scalars_of (expressions args) w s ≡ Ok ys → number_of e args ≡ Some i → Numbered e ys i) → (b : Bool) → same_argument e a ≡ b → cond b (Some 1) (option_map (λ (i : ℕ). suc i) (number_of e args)) ≡ Some k → Numbered e xs k
  by_first e a args xs k u rest true same m =
      (u.first, ap (nth xs) (sym (some_is 1 k m)) ∙ ap (λ (z : List Scalar). nth z 1) (sym u.is), same_value e a same ∙ u.value)
  by_first e a args xs k u rest false same m =
      let r = mapped (λ (i : ℕ). suc i) (number_of e args) k m in
      let z = rest u.rest r.0 u.others r.1 in
      (z.0, ap (nth xs) (sym r.2) ∙ ap (λ (ys : List Scalar). nth ys (suc r.0)) (sym u.is) ∙ later u.first u.rest r.0 z.0 z.1, z.2)

  pub number_there : (e : Expression) (args : Arguments) (xs : List Scalar) (k : ℕ) → scalars_of (expressions args) w s ≡ Ok xs → number_of e args ≡ Some k → (y : Scalar) × (nth xs k ≡ Some y) × (value_of e w s ≡ Ok (One y))
  number_there e [] xs k h m = absurd cc
  number_there e (a ∷ args) xs k h m = by_first e a args xs k (given a args xs h) (λ ys i u n. number_there e args ys i u n) (same_argument e a) refl m

-- ---- At a row

-- a store at whose row variable this row stands, and in which arguments have these values
pub record AtRow (c : Frame) (g : Types) (x : List ℕ) (n : ℕ) (args : Arguments) (xs : List Scalar) (row : Row) (w : World) (s : Store) : Type 0 where
  pub world : IsWorld c w
  pub typed : IsTyped c.schema g s
  pub there : at_name s x ≡ Some (plainly (element row))
  pub is : IsRowOf n (columns_at c.schema n) row
  pub given : scalars_of (expressions args) w s ≡ Ok xs

module _ (c : Frame) (g : Types) (x : List ℕ) (n : ℕ) (args : Arguments) (xs : List Scalar) (row : Row) (w : World) (s : Store) (at_row : AtRow c g x n args xs row w s) where
  abbrev here : Combination
  here = (0, row) ∷ []

  -- an operand has this value here and at the row
  record Valued (ty : Ty) (o : Option Scalar) (e : Expression) : Type 0 where
    scalar : Scalar
    there : o ≡ Some scalar
    typed : HasTy ty scalar
    value : value_of e w s ≡ Ok (One scalar)

  whole_row : element row ≡ Whole row
  whole_row = ap (λ (z : Kind). element_in z row.cells row) at_row.is.0

  row_read : (at : Span) (y : List ℕ) → bytes_eq x y ≡ true → value_of (tree.Var at y) w s ≡ Ok (Whole row)
  row_read at y same =
      ap (λ o. found o >>= λ (held : Variable). (let r : Result Value Ending = Ok held.value in r)) (ap (at_name s) (sym (names_equal x y same)) ∙ at_row.there) ∙ ap (λ v. let r : Result Value Ending = Ok v in r) whole_row

  operand_valued : (ty : Ty) (e : Expression) (o : SqlOpnd) → OperandIs c g x n args ty e o → Valued ty (operand_of xs here o) e
  operand_valued _ _ _ (of_literal at y ty h) = record { scalar = y; there = refl; typed = h; value = refl }
  operand_valued _ _ _ (of_column at at' y f i column same number held) =
      let v = cell_there (columns_at c.schema n) row.cells i column at_row.is.1 held in
      let read : cell w.schema row f ≡ Some v.0 = ap (λ z. cell z row f) at_row.world.schema ∙ ap (λ (z : Kind). cell_at row.cells (column_number (columns_of c.schema z) f)) at_row.is.0 ∙ ap (cell_at row.cells) number ∙ v.1 in
      record {
        scalar = v.0;
        there = v.1;
        typed = v.2;
        value = ap (λ r. r >>= λ v. as_row v >>= λ row. found (cell w.schema row f) >>= λ y. (let r : Result Value Ending = Ok (One y) in r)) (row_read at' y same) ∙ ap (λ o. found o >>= λ y. (let r : Result Value Ending = Ok (One y) in r)) read;
      }
  operand_valued _ _ _ (of_argument ty e k t number) =
      let v = number_there w s e args xs k at_row.given number in
      record { scalar = v.0; there = v.1; typed = subst (Holds ⊥ (IsOf c.schema (Of (ScalarOf ty)))) v.2 (typed_value c g e (Of (ScalarOf ty)) t w s at_row.world at_row.typed); value = v.2 }

  compared_so : (a b e : Expression) (cmp : Cmp) (ty : Ty) (y z : Scalar) → ComparedBy a b cmp ty e → HasTy ty y → HasTy ty z → value_of a w s ≡ Ok (One y) → value_of b w s ≡ Ok (One z) → value_of e w s ≡ Ok (truth (holds cmp (Some y) (Some z)))
  compared_so a b _ _ _ y z (by_op at cmp ty may plain) i j h k =
      let run : value_of (tree.Binary at (op_of cmp) a b) w s ≡ or_else (settled (op_of cmp) y) (applied (op_of cmp) at y z) = simp (h, k) in
      run ∙ scalars_so at cmp ty y z i j may plain
  compared_so a b _ _ _ y z (by_equals at) i j h k =
      let run : value_of (tree.Equals at a b) w s ≡ (same_text y z >>= λ b. (let r : Result Value Ending = Ok (truth b) in r)) = simp (h, k) in
      run ∙ texts_so y z i j

  both_true : (at : Span) (a b : Expression) (p r : Bool) → value_of a w s ≡ Ok (truth p) → value_of b w s ≡ Ok (truth r) → value_of (tree.Binary at ops.And a b) w s ≡ Ok (truth (p && r))
  both_true at a b true r h k = simp (h, k)
  both_true at a b false r h k = simp (h, k)

  either_true : (at : Span) (a b : Expression) (p r : Bool) → value_of a w s ≡ Ok (truth p) → value_of b w s ≡ Ok (truth r) → value_of (tree.Binary at ops.Or a b) w s ≡ Ok (truth (p || r))
  either_true at a b true r h k = simp (h, k)
  either_true at a b false r h k = simp (h, k)

  not_true : (at : Span) (a : Expression) (p : Bool) → value_of a w s ≡ Ok (truth p) → value_of (tree.Not at a) w s ≡ Ok (truth (not p))
  not_true at a p h = simp h

  pub part_true : (e : Expression) (d : Condition) → PartIs c g x n args e d → value_of e w s ≡ Ok (truth (truth_of w.db xs d here))
  part_true _ _ (both_parts at a b d f p r) = both_true at a b (truth_of w.db xs d here) (truth_of w.db xs f here) (part_true a d p) (part_true b f r)
  part_true _ _ (either_part at a b d f p r) = either_true at a b (truth_of w.db xs d here) (truth_of w.db xs f here) (part_true a d p) (part_true b f r)
  part_true _ _ (not_part at a d p) = not_true at a (truth_of w.db xs d here) (part_true a d p)
  part_true _ _ (compared_part e a b cmp ty o p by first second one) =
      let u = operand_valued ty a o first in
      let v = operand_valued ty b p second in
      compared_so a b e cmp ty u.scalar v.scalar by u.typed v.typed u.value v.value
      ∙ ap (λ z. let r : Result Value Ending = Ok (truth (holds cmp z (Some v.scalar))) in r) (sym u.there)
      ∙ ap (λ z. let r : Result Value Ending = Ok (truth (holds cmp (operand_of xs here o) z)) in r) (sym v.there)
  part_true _ _ (true_part e col is) =
      let u = operand_valued tys.Bool e (opnds.Column col) is in
      u.value ∙ is_true_so u.scalar u.typed ∙ ap (λ z. let r : Result Value Ending = Ok (truth (holds tests.Eq z (Some (scalars.Bool true)))) in r) (sym u.there)
