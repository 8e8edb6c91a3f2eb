-- The condition of a select has, in the source language, the truth that it has at a row.
use Rattle.std.proofs.Common.{◌≡◌, ℕ, zero, suc, Bool, true, false, not, ◌||◌, ◌&&◌, List, [], ◌∷◌, Option, Some, None, Result, Ok, Err, refl, sym, ap, ◌∙◌, subst}
use Rattle.std.specs.Prelude.{slice_get}
use Rattle.qbs_base.specs.declared.columns.Column.{Column}
use Rattle.qbs_base.specs.declared.scalar.Kind.{Kind}
use Rattle.qbs_base.specs.declared.scalar.Row.{Row}
use Rattle.qbs_base.specs.declared.scalar.Scalar.{Scalar}
use Rattle.qbs_base.specs.declared.scalar.Scalar.TheVariants as scalars
use Rattle.qbs_base.specs.declared.scalar.Ty.{Ty}
use Rattle.qbs_base.specs.declared.scalar.Ty.TheVariants as tys
use Rattle.qbs_base.specs.declared.scalar.Value.{Value}
use Rattle.qbs_base.specs.declared.scalar.Value.TheVariants.{One, Whole, Many}
use Rattle.qbs_base.specs.declared.span.Span.{Span}
use Rattle.qbs_base.specs.Columns.{columns_at, column_number, same_ty}
use Rattle.qbs_base.specs.Named.{at_name}
use Rattle.qbs_base.specs.Values.{Schema, Database, HasTy, AreCells, AreOf, IsRowOf}
use Rattle.sql_ast.specs.declared.tree.Cmp.{Cmp}
use Rattle.sql_ast.specs.declared.tree.Cmp.TheVariants as tests
use Rattle.sql_ast.specs.declared.tree.SqlCol.{SqlCol}
use Rattle.sql_ast.specs.declared.tree.SqlColumn.{SqlColumn}
use Rattle.sql_ast.specs.declared.tree.SqlColumn.TheVariants as columns
use Rattle.sql_ast.specs.declared.tree.SqlOpnd.{SqlOpnd}
use Rattle.sql_ast.specs.declared.tree.SqlOpnd.TheVariants as opnds
use Rattle.sql_ast.specs.Canonical.{column_text}
use Rattle.sql_ast.specs.Meaning.{nth, cell_of, column_of, operand_of, holds, is_true, truth_of}
use Rattle.sql_ast.specs.Tree.{Condition, Both, Either, Not, Compare, Bare, Exists, Within, Filter, Everything, Where, PlainListing}
use Rattle.sql_ast.specs.Typing.{ty_of_scalar, orders, is_compared_by}
use Rattle.java_ast.specs.declared.tree.Op.TheVariants as ops
use Rattle.java_ast.specs.Tree as tree
use Rattle.java_ast.specs.Tree.{Expression, Expressions, NoMore, And}
use Rattle.java_mean.specs.declared.ending.Ending.{Ending}
use Rattle.java_mean.specs.Endings.{◌>>=◌, found}
use Rattle.java_mean.specs.Expression.{value_of, scalars_of, as_scalar, as_row, as_bool, truth, cell, cell_at, columns_of, element, element_in, settled, or_else, applied, same_text}
use Rattle.java_mean.specs.Statement.{test_of}
use Rattle.java_mean.specs.Store.{Store, Variable, plainly}
use Rattle.java_mean.specs.World.{World}
use Rattle.java_mean.proofs.Placing.{value_kept}
use Rattle.select_parts.specs.Selects.{is_text_operand}
use Rattle.spreads.specs.Conditions.{argument, argument_at, column_in, operand_in, op_of, compared_in, condition_in}
use Rattle.spreads.proofs.Chosen.{single}

-- ---- What is known of a condition

-- a column of the table with this number, of this type
pub record ColIs (schema : Schema) (n : ℕ) (ty : Ty) (col : SqlCol) : Type 0 where
  pub number : ℕ
  pub column : Column
  pub item : col.item ≡ 1
  pub named : col.column ≡ columns.Named (column_text col.column) number
  pub there : column_number (columns_at schema n) (column_text col.column) ≡ Some number
  pub held : slice_get (columns_at schema n) number ≡ Some column
  pub is : column.ty ≡ ty

abbrev pub OpndIs : Schema → ℕ → List Ty → Ty → SqlOpnd → Type 0
OpndIs schema n params ty (opnds.Column col) = ColIs schema n ty col
OpndIs schema n params ty (opnds.Lit x) = ty_of_scalar x ≡ ty
OpndIs schema n params ty (opnds.Param k) = nth params k ≡ Some ty

-- operands of one type, which is compared so
pub record ComparedIs (schema : Schema) (n : ℕ) (q : PlainListing) (cmp : Cmp) (a b : SqlOpnd) : Type 0 where
  pub ty : Ty
  pub first : OpndIs schema n q.params ty a
  pub second : OpndIs schema n q.params ty b
  pub may : is_compared_by cmp ty ≡ true
  pub text : is_text_operand schema q a ≡ same_ty ty tys.Text
  pub plain : (orders cmp && same_ty ty tys.Text) ≡ false

abbrev pub ConditionIs : Schema → ℕ → PlainListing → Condition → Type 0
ConditionIs schema n q (Both a b) = ConditionIs schema n q a × ConditionIs schema n q b
ConditionIs schema n q (Either a b) = ConditionIs schema n q a × ConditionIs schema n q b
ConditionIs schema n q (Not a) = ConditionIs schema n q a
ConditionIs schema n q (Compare cmp a b) = ComparedIs schema n q cmp a b
ConditionIs schema n q (Bare col) = ColIs schema n tys.Bool col
ConditionIs schema n q (Exists from filter_) = ⊥
ConditionIs schema n q (Within opnd negated col from filter_) = ⊥

abbrev pub FilterIs : Schema → ℕ → PlainListing → Filter → Type 0
FilterIs schema n q Everything = Unit {0}
FilterIs schema n q (Where c) = ConditionIs schema n q c

-- ---- Comparisons

-- what a comparison of two scalars comes to
abbrev run : Bool → Span → Cmp → Scalar → Scalar → Result Value Ending
run true at tests.Eq x y = same_text x y >>= λ b. Ok (truth b)
run true at tests.Ne x y = (same_text x y >>= λ b. Ok (truth b)) >>= λ v. as_scalar v >>= λ z. as_bool z >>= λ b. Ok (truth (not b))
run text at cmp x y = or_else (settled (op_of cmp) x) (applied (op_of cmp) at x y)

abbrev Comes : Ty → Span → Cmp → Scalar → Scalar → Type 0
Comes ty at cmp x y = run (same_ty ty tys.Text) at cmp x y ≡ Ok (truth (holds cmp (Some x) (Some y)))

longs_compared : (at : Span) (cmp : Cmp) (x y : _) → Comes tys.Long at cmp (scalars.Long x) (scalars.Long y)
longs_compared at tests.Eq x y = refl
longs_compared at tests.Ne x y = refl
longs_compared at tests.Lt x y = refl
longs_compared at tests.Le x y = refl
longs_compared at tests.Gt x y = refl
longs_compared at tests.Ge x y = refl

bools_compared : (at : Span) (cmp : Cmp) (x y : Bool) → is_compared_by cmp tys.Bool ≡ true → Comes tys.Bool at cmp (scalars.Bool x) (scalars.Bool y)
bools_compared at tests.Eq x y e = refl
bools_compared at tests.Ne x y e = refl
bools_compared at tests.Lt x y e = absurd cc
bools_compared at tests.Le x y e = absurd cc
bools_compared at tests.Gt x y e = absurd cc
bools_compared at tests.Ge x y e = absurd cc

texts_compared : (at : Span) (cmp : Cmp) (x y : List ℕ) → (orders cmp && same_ty tys.Text tys.Text) ≡ false → Comes tys.Text at cmp (scalars.Text x) (scalars.Text y)
texts_compared at tests.Eq x y e = refl
texts_compared at tests.Ne x y e = refl
texts_compared at tests.Lt x y e = absurd cc
texts_compared at tests.Le x y e = absurd cc
texts_compared at tests.Gt x y e = absurd cc
texts_compared at tests.Ge x y e = absurd cc

-- a scalar of a type
abbrev pub OfTy : Ty → Scalar → Type 0
OfTy tys.Long (scalars.Long n) = Unit {0}
OfTy tys.Bool (scalars.Bool b) = Unit {0}
OfTy tys.Text (scalars.Text t) = Unit {0}
OfTy _ _ = ⊥

of_itself : (x : Scalar) → OfTy (ty_of_scalar x) x
of_itself (scalars.Long n) = tt
of_itself (scalars.Bool b) = tt
of_itself (scalars.Text t) = tt

of_has : (ty : Ty) (x : Scalar) → HasTy ty x → OfTy ty x
of_has tys.Long (scalars.Long n) h = tt
of_has tys.Long (scalars.Bool b) h = absurd h
of_has tys.Long (scalars.Text t) h = absurd h
of_has tys.Bool (scalars.Long n) h = absurd h
of_has tys.Bool (scalars.Bool b) h = tt
of_has tys.Bool (scalars.Text t) h = absurd h
of_has tys.Text (scalars.Long n) h = absurd h
of_has tys.Text (scalars.Bool b) h = absurd h
of_has tys.Text (scalars.Text t) h = tt

compared_so : (at : Span) (cmp : Cmp) (ty : Ty) (x y : Scalar) → OfTy ty x → OfTy ty y → is_compared_by cmp ty ≡ true → (orders cmp && same_ty ty tys.Text) ≡ false → Comes ty at cmp x y
compared_so at cmp tys.Long (scalars.Long x) (scalars.Long y) h k e p = longs_compared at cmp x y
compared_so at cmp tys.Long (scalars.Long x) (scalars.Bool y) h k e p = absurd k
compared_so at cmp tys.Long (scalars.Long x) (scalars.Text y) h k e p = absurd k
compared_so at cmp tys.Long (scalars.Bool x) y h k e p = absurd h
compared_so at cmp tys.Long (scalars.Text x) y h k e p = absurd h
compared_so at cmp tys.Bool (scalars.Bool x) (scalars.Bool y) h k e p = bools_compared at cmp x y e
compared_so at cmp tys.Bool (scalars.Bool x) (scalars.Long y) h k e p = absurd k
compared_so at cmp tys.Bool (scalars.Bool x) (scalars.Text y) h k e p = absurd k
compared_so at cmp tys.Bool (scalars.Long x) y h k e p = absurd h
compared_so at cmp tys.Bool (scalars.Text x) y h k e p = absurd h
compared_so at cmp tys.Text (scalars.Text x) (scalars.Text y) h k e p = texts_compared at cmp x y p
compared_so at cmp tys.Text (scalars.Text x) (scalars.Long y) h k e p = absurd k
compared_so at cmp tys.Text (scalars.Text x) (scalars.Bool y) h k e p = absurd k
compared_so at cmp tys.Text (scalars.Long x) y h k e p = absurd h
compared_so at cmp tys.Text (scalars.Bool x) y h k e p = absurd h

-- ---- Results that are there

pub bind_ok : {A B : Type 0} (o : Result A Ending) (f : A → Result B Ending) (y : B) → (o >>= f) ≡ Ok y → (x : A) × (o ≡ Ok x) × (f x ≡ Ok y)
bind_ok (Ok x) f y e = (x, refl, e)
bind_ok (Err z) f y e = absurd cc

ok_is : {A : Type 0} (x y : A) → (let r : Result A Ending = Ok x in r) ≡ Ok y → x ≡ y
ok_is {A} x y e = ap (λ (r : Result A Ending). elim r as (λ _. A) [ Ok z ↦ z | Err z ↦ x ]) e

some_is : {A : Type 0} (x y : A) → (let o : Option A = Some x in o) ≡ Some y → x ≡ y
some_is {A} x y e = ap (λ (o : Option A). elim o as (λ _. A) [ Some z ↦ z | None ↦ x ]) e

one_is : (v : Value) (x : Scalar) → as_scalar v ≡ Ok x → v ≡ One x
one_is (One y) x e = ap One (ok_is y x e)
one_is (Whole row) x e = absurd cc
one_is (Many rows) x e = absurd cc

-- ---- Operands

cell_there : (held : List Column) (cells : List Scalar) (n : ℕ) (column : Column) → AreCells held cells → slice_get held n ≡ Some column → (x : Scalar) × (slice_get cells n ≡ Some x) × OfTy column.ty x
cell_there [] cells n column h e = absurd cc
cell_there (k ∷ ks) [] n column h e = absurd h
cell_there (k ∷ ks) (x ∷ xs) zero column h e = (x, refl, subst (λ (z : Column). OfTy z.ty x) (some_is k column e) (of_has k.ty x h.0))
cell_there (k ∷ ks) (x ∷ xs) (suc n) column h e = cell_there ks xs n column h.1 e

param_there : (params : List Ty) (xs : List Scalar) (n : ℕ) (ty : Ty) → AreOf params xs → nth params n ≡ Some ty → (x : Scalar) × (nth xs n ≡ Some x) × OfTy ty x
param_there params xs zero ty h e = absurd cc
param_there [] xs (suc n) ty h e = absurd cc
param_there (t ∷ ts) [] (suc n) ty h e = absurd h
param_there (t ∷ ts) (x ∷ xs) (suc zero) ty h e = (x, refl, subst (λ z. OfTy z x) (some_is t ty e) (of_has t x h.0))
param_there (t ∷ ts) (x ∷ xs) (suc (suc n)) ty h e = param_there ts xs (suc n) ty h.1 e

-- the value of the first argument, and those of the arguments behind it
record Given (w : World) (s : Store) (e : Expression) (es : Expressions) (xs : List Scalar) : Type 0 where
  pub first : Scalar
  pub rest : List Scalar
  pub value : value_of e w s ≡ Ok (One first)
  pub others : scalars_of es w s ≡ Ok rest
  pub is : first ∷ rest ≡ xs

given : (w : World) (s : Store) (e : Expression) (es : Expressions) (xs : List Scalar) → scalars_of (And e es) w s ≡ Ok xs → Given w s e es xs
given w s e es xs p =
    let a = bind_ok (value_of e w s) (λ v. as_scalar v >>= λ y. scalars_of es w s >>= λ ys. (let r : Result (List Scalar) Ending = Ok (y ∷ ys) in r)) xs p in
    let b = bind_ok (as_scalar a.0) (λ y. scalars_of es w s >>= λ ys. (let r : Result (List Scalar) Ending = Ok (y ∷ ys) in r)) xs a.2 in
    let d = bind_ok (scalars_of es w s) (λ ys. (let r : Result (List Scalar) Ending = Ok (b.0 ∷ ys) in r)) xs b.2 in
    record { first = b.0; rest = d.0; value = a.1 ∙ ap (λ v. let r : Result Value Ending = Ok v in r) (one_is a.0 b.0 b.1); others = d.1; is = ok_is (b.0 ∷ d.0) xs d.2 }

nothing_there : (n : ℕ) (x : Scalar) → nth (let ys : List Scalar = [] in ys) n ≡ Some x → ⊥
nothing_there zero x h = absurd cc
nothing_there (suc n) x h = absurd cc

argument_there : (at : Span) (w : World) (s : Store) (es : Expressions) (xs : List Scalar) (n : ℕ) (x : Scalar) → scalars_of es w s ≡ Ok xs → nth xs n ≡ Some x → value_of (argument_at at (argument es n)) w s ≡ Ok (One x)
argument_there at w s NoMore xs n x e h = absurd (nothing_there n x (ap (λ z. nth z n) (ok_is [] xs e) ∙ h))
argument_there at w s (And e es) xs zero x p h = absurd cc
argument_there at w s (And e es) xs (suc zero) x p h =
    let g = given w s e es xs p in
    let same : g.first ≡ x = some_is g.first x (ap (λ (z : List Scalar). nth z 1) g.is ∙ h) in
    value_kept at e w s (One g.first) g.value ∙ ap (λ y. let r : Result Value Ending = Ok (One y) in r) same
argument_there at w s (And e es) xs (suc (suc n)) x p h =
    let g = given w s e es xs p in
    argument_there at w s es g.rest (suc n) x g.others (ap (λ (z : List Scalar). nth z (suc (suc n))) g.is ∙ h)

-- ---- Conditions at a row

-- a store at whose row variable this row stands, and in which arguments have these values
pub record AtRow (schema : Schema) (n : ℕ) (x : List ℕ) (es : Expressions) (params : List Ty) (xs : List Scalar) (row : Row) (w : World) (s : Store) : Type 0 where
  pub schema_is : w.schema ≡ schema
  pub row_there : at_name s x ≡ Some (plainly (element row))
  pub row_is : IsRowOf n (columns_at schema n) row
  pub arguments : scalars_of es w s ≡ Ok xs
  pub typed : AreOf params xs

module _ (schema : Schema) (n : ℕ) (q : PlainListing) (at : Span) (x : List ℕ) (es : Expressions) (xs : List Scalar) (row : Row) (w : World) (s : Store) (is : AtRow schema n x es q.params xs row w s) where
  -- an operand has this value here and at the row
  record Valued (ty : Ty) (o : Option Scalar) (e : Expression) : Type 0 where
    pub scalar : Scalar
    pub there : o ≡ Some scalar
    pub typed : OfTy ty scalar
    pub value : value_of e w s ≡ Ok (One scalar)

  whole_row : element row ≡ Whole row
  whole_row = ap (λ (z : Kind). element_in z row.cells row) is.row_is.0

  row_read : value_of (tree.Var at x) w s ≡ Ok (Whole row)
  row_read = ap (λ o. found o >>= λ (held : Variable). (let r : Result Value Ending = Ok held.value in r)) is.row_there ∙ ap (λ v. let r : Result Value Ending = Ok v in r) whole_row

  column_there : (item : ℕ) (column : SqlColumn) (name : List ℕ) (number : ℕ) → item ≡ 1 → column ≡ columns.Named name number → column_of (single (0, row)) (record { item = item; column = column }) ≡ slice_get row.cells number
  column_there item column name number e k = ap (λ (z : ℕ). column_of (single (0, row)) (record { item = z; column = column })) e ∙ ap (cell_of (0, row)) k

  column_valued : (ty : Ty) (col : SqlCol) → ColIs schema n ty col → Valued ty (column_of (single (0, row)) col) (column_in at x col)
  column_valued ty col k =
      let c = cell_there (columns_at schema n) row.cells k.number k.column is.row_is.1 k.held in
      let name : List ℕ = column_text col.column in
      let here : cell w.schema row name ≡ Some c.0 = ap (λ z. cell z row name) is.schema_is ∙ ap (λ (z : Kind). cell_at row.cells (column_number (columns_of schema z) name)) is.row_is.0 ∙ ap (cell_at row.cells) k.there ∙ c.1 in
      record {
        scalar = c.0;
        there = column_there col.item col.column name k.number k.item k.named ∙ c.1;
        typed = subst (λ z. OfTy z c.0) k.is c.2;
        value = ap (λ r. r >>= λ v. as_row v >>= λ row. found (cell w.schema row name) >>= λ y. (let r : Result Value Ending = Ok (One y) in r)) row_read ∙ ap (λ o. found o >>= λ y. (let r : Result Value Ending = Ok (One y) in r)) here;
      }

  operand_valued : (ty : Ty) (o : SqlOpnd) → OpndIs schema n q.params ty o → Valued ty (operand_of xs (single (0, row)) o) (operand_in at x es o)
  operand_valued ty (opnds.Column col) k = column_valued ty col k
  operand_valued ty (opnds.Lit y) k = record { scalar = y; there = refl; typed = subst (λ z. OfTy z y) k (of_itself y); value = refl }
  operand_valued ty (opnds.Param i) k =
      let p = param_there q.params xs i ty is.typed k in
      record { scalar = p.0; there = p.1; typed = p.2; value = argument_there at w s es xs i p.0 is.arguments p.1 }

  to_run : (text : Bool) (cmp : Cmp) (a b : Expression) (y z : Scalar) → value_of a w s ≡ Ok (One y) → value_of b w s ≡ Ok (One z) → value_of (compared_in text at cmp a b) w s ≡ run text at cmp y z
  to_run true tests.Eq a b y z h k = simp (h, k)
  to_run true tests.Ne a b y z h k = simp (h, k)
  to_run true tests.Lt a b y z h k = simp (h, k)
  to_run true tests.Le a b y z h k = simp (h, k)
  to_run true tests.Gt a b y z h k = simp (h, k)
  to_run true tests.Ge a b y z h k = simp (h, k)
  to_run false tests.Eq a b y z h k = simp (h, k)
  to_run false tests.Ne a b y z h k = simp (h, k)
  to_run false tests.Lt a b y z h k = simp (h, k)
  to_run false tests.Le a b y z h k = simp (h, k)
  to_run false tests.Gt a b y z h k = simp (h, k)
  to_run false tests.Ge a b y z h k = simp (h, k)

  compared_true : (db : Database) (cmp : Cmp) (a b : SqlOpnd) → ComparedIs schema n q cmp a b → value_of (condition_in schema q at x es (Compare cmp a b)) w s ≡ Ok (truth (truth_of db xs (Compare cmp a b) (single (0, row))))
  compared_true db cmp a b k =
      let f = operand_valued k.ty a k.first in
      let g = operand_valued k.ty b k.second in
      ap (λ t. value_of (compared_in t at cmp (operand_in at x es a) (operand_in at x es b)) w s) k.text
      ∙ to_run (same_ty k.ty tys.Text) cmp (operand_in at x es a) (operand_in at x es b) f.scalar g.scalar f.value g.value
      ∙ compared_so at cmp k.ty f.scalar g.scalar f.typed g.typed k.may k.plain
      ∙ ap (λ o. let r : Result Value Ending = Ok (truth (holds cmp o (Some g.scalar))) in r) (sym f.there)
      ∙ ap (λ o. let r : Result Value Ending = Ok (truth (holds cmp (operand_of xs (single (0, row)) a) o)) in r) (sym g.there)

  bool_true : (o : Option Scalar) (y : Scalar) → o ≡ Some y → OfTy tys.Bool y → (let r : Result Value Ending = Ok (One y) in r) ≡ Ok (truth (is_true o))
  bool_true o (scalars.Bool b) e h = ap (λ z. let r : Result Value Ending = Ok (truth (is_true z)) in r) (sym e)
  bool_true o (scalars.Long m) e h = absurd h
  bool_true o (scalars.Text t) e h = absurd h

  both_true : (a b : Expression) (p r : Bool) → value_of a w s ≡ Ok (truth p) → value_of b w s ≡ Ok (truth r) → value_of (tree.Binary at ops.And a b) w s ≡ Ok (truth (p && r))
  both_true a b true r h k = simp (h, k)
  both_true a b false r h k = simp (h, k)

  either_true : (a b : Expression) (p r : Bool) → value_of a w s ≡ Ok (truth p) → value_of b w s ≡ Ok (truth r) → value_of (tree.Binary at ops.Or a b) w s ≡ Ok (truth (p || r))
  either_true a b true r h k = simp (h, k)
  either_true a b false r h k = simp (h, k)

  not_true : (a : Expression) (p : Bool) → value_of a w s ≡ Ok (truth p) → value_of (tree.Not at a) w s ≡ Ok (truth (not p))
  not_true a p h = simp h

  pub condition_true : (db : Database) (c : Condition) → ConditionIs schema n q c → value_of (condition_in schema q at x es c) w s ≡ Ok (truth (truth_of db xs c (single (0, row))))
  condition_true db (Both a b) k = both_true (condition_in schema q at x es a) (condition_in schema q at x es b) (truth_of db xs a (single (0, row))) (truth_of db xs b (single (0, row))) (condition_true db a k.0) (condition_true db b k.1)
  condition_true db (Either a b) k = either_true (condition_in schema q at x es a) (condition_in schema q at x es b) (truth_of db xs a (single (0, row))) (truth_of db xs b (single (0, row))) (condition_true db a k.0) (condition_true db b k.1)
  condition_true db (Not a) k = not_true (condition_in schema q at x es a) (truth_of db xs a (single (0, row))) (condition_true db a k)
  condition_true db (Compare cmp a b) k = compared_true db cmp a b k
  condition_true db (Bare col) k = let v = column_valued tys.Bool col k in v.value ∙ bool_true (column_of (single (0, row)) col) v.scalar v.there v.typed
  condition_true db (Exists from filter_) k = absurd k
  condition_true db (Within opnd negated col from filter_) k = absurd k

  -- its test
  pub test_true : (db : Database) (c : Condition) → ConditionIs schema n q c → test_of (condition_in schema q at x es c) w s ≡ Ok (truth_of db xs c (single (0, row)))
  test_true db c k = ap (λ v. v >>= as_scalar >>= as_bool) (condition_true db c k)
