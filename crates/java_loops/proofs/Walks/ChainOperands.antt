-- An operand has the same value in the program and in the fragment.
use Rattle.std.proofs.Common.{◌≡◌, ℕ, zero, suc, ℤ, Bool, true, List, [], ◌∷◌, Option, Some, None, Result, Ok, IsTrue, refl, sym, ap, ◌∙◌, subst}
use Rattle.std.specs.Prelude.{slice_get}
use Rattle.std.specs.List.{AllByRecursion}
use Rattle.qbs_base.specs.declared.columns.Column.{Column}
use Rattle.qbs_base.specs.declared.scalar.Kind.{Kind}
use Rattle.qbs_base.specs.declared.scalar.Kind.TheVariants as kinds
use Rattle.qbs_base.specs.declared.scalar.Row.{Row}
use Rattle.qbs_base.specs.declared.scalar.Scalar.{Scalar}
use Rattle.qbs_base.specs.declared.scalar.Scalar.TheVariants as scalars
use Rattle.qbs_base.specs.declared.scalar.Ty.{Ty}
use Rattle.qbs_base.specs.declared.scalar.Ty.TheVariants as tys
use Rattle.qbs_base.specs.declared.scalar.Value.{Value}
use Rattle.qbs_base.specs.declared.scalar.Value.TheVariants.{One, Whole}
use Rattle.qbs_base.specs.Named.{at_name}
use Rattle.qbs_base.specs.Values.{Schema, HasTy, AreCells, IsRowOf, fits_long}
use Rattle.qbs_base.specs.Columns.{column_number, columns_at}
use Rattle.java_ast.specs.Tree.{Expression}
use Rattle.java_mean.specs.declared.ending.Ending.{Ending}
use Rattle.java_mean.specs.Endings.{◌>>=◌, found}
use Rattle.java_mean.specs.Expression.{value_of, as_row, as_member, cell, cell_at, columns_of, element, element_in}
use Rattle.java_mean.specs.Rules.{ty_of}
use Rattle.java_mean.specs.Store.{Store, Variable}
use Rattle.java_mean.specs.World as java
use Rattle.tor_terms.specs.declared.term.Elem.{Elem}
use Rattle.tor_terms.specs.declared.term.Operand.{Operand}
use Rattle.tor_terms.specs.declared.term.Operand.TheVariants as operands
use Rattle.tor_terms.specs.Truth.{World, operand_at}
use Rattle.tor_terms.specs.Value.{plain_row, elem_at}
use Rattle.kernel_lang.specs.Fitting.{is_of}
use Rattle.java_loops.specs.Walks.Forms.{IsOperand, field, entry, entry_field, literal, IsElement, whole, of_column}
use Rattle.java_loops.specs.Walks.Matched.{HoldsRow, HoldsScalar, Matches}
use Rattle.java_loops.specs.Walks.Numbering.{Numbering, Flags}

-- ---- Cells

-- a scalar of the type is there
pub record HasCell (ty : Ty) (held : Option Scalar) : Type 0 where
  pub scalar : Scalar
  pub is : held ≡ Some scalar
  pub typed : HasTy ty scalar

pub cell_typed : (columns : List Column) (cells : List Scalar) (c : ℕ) (column : Column) → AreCells columns cells → slice_get columns c ≡ Some column → HasCell column.ty (slice_get cells c)
cell_typed [] cells c column h e = absurd cc
cell_typed (k ∷ ks) [] c column h e = absurd h
cell_typed (k ∷ ks) (x ∷ xs) zero column h e = let same : k ≡ column = cc in record { scalar = x; is = refl; typed = subst (λ (z : Column). HasTy z.ty x) same h.0 }
cell_typed (k ∷ ks) (x ∷ xs) (suc c) column h e =
    let rest : HasCell column.ty (slice_get xs c) = cell_typed ks xs c column h.1 e in
    record { scalar = rest.scalar; is = rest.is; typed = rest.typed }

row_value : (t : ℕ) (row : Row) → row.kind ≡ kinds.Table t → element row ≡ Whole row
row_value t row e = ap (λ (z : Kind). element_in z row.cells row) e

cell_of_row : (schema : Schema) (t : ℕ) (row : Row) (f : List ℕ) (c : ℕ) → row.kind ≡ kinds.Table t → column_number (columns_at schema t) f ≡ Some c → cell schema row f ≡ slice_get row.cells c
cell_of_row schema t row f c e named = ap (λ (z : Kind). cell_at row.cells (column_number (columns_of schema z) f)) e ∙ ap (cell_at row.cells) named

-- the cell of the row that a loop variable holds
pub loop_cell : (n : Numbering) (flags : Flags) (w : java.World) (k : World) (env : Store) (rows : ℕ → Row) (x : List ℕ) (j c : ℕ) (column : Column) → Matches n flags w k env rows → n.loops x ≡ Some j → slice_get (columns_at n.schema (n.tables j)) c ≡ Some column → HasCell column.ty (slice_get (rows j).cells c)
loop_cell n flags w k env rows x j c column m e there =
    let r : HoldsRow n j (rows j) (at_name env x) = m.loops x j e in
    cell_typed (columns_at n.schema (n.tables j)) (rows j).cells c column r.typed.1 there

-- ---- Operands

pub variant_of : (ty : Ty) (x : Scalar) → HasTy ty x → is_of ty (Some x) ≡ true
variant_of tys.Long (scalars.Long n) h = refl
variant_of tys.Long (scalars.Bool b) h = absurd h
variant_of tys.Long (scalars.Text t) h = absurd h
variant_of tys.Bool (scalars.Long n) h = absurd h
variant_of tys.Bool (scalars.Bool b) h = refl
variant_of tys.Bool (scalars.Text t) h = absurd h
variant_of tys.Text (scalars.Long n) h = absurd h
variant_of tys.Text (scalars.Bool b) h = absurd h
variant_of tys.Text (scalars.Text t) h = refl

pub own_variant : (x : Scalar) → is_of (ty_of x) (Some x) ≡ true
own_variant (scalars.Long n) = refl
own_variant (scalars.Bool b) = refl
own_variant (scalars.Text t) = refl

-- both are one scalar, of the type's variant
pub record OperandHolds (w : java.World) (k : World) (env : Store) (rows : ℕ → Row) (e : Expression) (o : Operand) (ty : Ty) : Type 0 where
  pub scalar : Scalar
  pub value : value_of e w env ≡ Ok (One scalar)
  pub at : operand_at k rows o ≡ Some scalar
  pub variant : is_of ty (Some scalar) ≡ true

abbrev held_value : Option Variable → Result Value Ending
held_value o = found o >>= λ held. Ok held.value

abbrev field_value : java.World → List ℕ → Result Value Ending → Result Value Ending
field_value w f r = r >>= λ v. as_row v >>= λ row. found (cell w.schema row f) >>= λ y. Ok (One y)

abbrev scalar_value : Option Scalar → Result Value Ending
scalar_value o = found o >>= λ y. Ok (One y)

field_of_row : (w : java.World) (n : Numbering) (j : ℕ) (row : Row) (held : Option Variable) (f : List ℕ) (c : ℕ) (x : Scalar) → w.schema ≡ n.schema → HoldsRow n j row held → column_number (columns_at n.schema (n.tables j)) f ≡ Some c → slice_get row.cells c ≡ Some x → field_value w f (held_value held) ≡ Ok (One x)
field_of_row w n j row held f c x same h named there =
    ap (λ o. field_value w f (held_value o)) h.is
    ∙ ap (λ v. field_value w f (Ok v)) (row_value (n.tables j) row h.typed.0)
    ∙ ap (λ (z : Schema). scalar_value (cell z row f)) same
    ∙ ap scalar_value (cell_of_row n.schema (n.tables j) row f c h.typed.0 named ∙ there)

pub operand_holds : (n : Numbering) (flags : Flags) (w : java.World) (k : World) (env : Store) (rows : ℕ → Row) (e : Expression) (o : Operand) (ty : Ty) → IsOperand n e o ty → Matches n flags w k env rows → OperandHolds w k env rows e o ty
operand_holds n flags w k env rows _ _ _ (field at at' x f j c column e named there) m =
    let h : HasCell column.ty (slice_get (rows j).cells c) = loop_cell n flags w k env rows x j c column m e there in
    record {
      scalar = h.scalar;
      value = field_of_row w n j (rows j) (at_name env x) f c h.scalar m.schema (m.loops x j e) named h.is;
      at = h.is;
      variant = variant_of column.ty h.scalar h.typed;
    }
operand_holds n flags w k env rows _ _ _ (entry at x i ty e t) m =
    let h : HoldsScalar ty (k.entries i) (held_value (at_name env x)) = m.entries x None i ty e t in
    record { scalar = h.scalar; value = h.is; at = h.at; variant = variant_of ty h.scalar h.typed }
operand_holds n flags w k env rows _ _ _ (entry_field at at' x f i ty e t) m =
    let h : HoldsScalar ty (k.entries i) (field_value w f (held_value (at_name env x))) = m.entries x (Some f) i ty e t in
    record { scalar = h.scalar; value = h.is; at = h.at; variant = variant_of ty h.scalar h.typed }
operand_holds n flags w k env rows _ _ _ (literal at x) m = record { scalar = x; value = refl; at = refl; variant = own_variant x }

-- ---- Numbers, truth values and elements

-- an operand that is a number
pub record NumberHolds (w : java.World) (k : World) (env : Store) (rows : ℕ → Row) (e : Expression) (o : Operand) : Type 0 where
  pub number : ℤ
  pub value : value_of e w env ≡ Ok (One (scalars.Long number))
  pub at : operand_at k rows o ≡ Some (scalars.Long number)

pub number_holds : (w : java.World) (k : World) (env : Store) (rows : ℕ → Row) (e : Expression) (o : Operand) → OperandHolds w k env rows e o tys.Long → NumberHolds w k env rows e o
number_holds w k env rows e o h = go h.scalar h.value h.at h.variant
  where
    go : (x : Scalar) → value_of e w env ≡ Ok (One x) → operand_at k rows o ≡ Some x → is_of tys.Long (Some x) ≡ true → NumberHolds w k env rows e o
    go (scalars.Long n) v a t = record { number = n; value = v; at = a }
    go (scalars.Bool b) v a t = absurd cc
    go (scalars.Text s) v a t = absurd cc

-- an operand that is a truth value
pub record TruthHolds (w : java.World) (k : World) (env : Store) (rows : ℕ → Row) (e : Expression) (o : Operand) : Type 0 where
  pub truth : Bool
  pub value : value_of e w env ≡ Ok (One (scalars.Bool truth))
  pub at : operand_at k rows o ≡ Some (scalars.Bool truth)

pub truth_holds : (w : java.World) (k : World) (env : Store) (rows : ℕ → Row) (e : Expression) (o : Operand) → OperandHolds w k env rows e o tys.Bool → TruthHolds w k env rows e o
truth_holds w k env rows e o h = go h.scalar h.value h.at h.variant
  where
    go : (x : Scalar) → value_of e w env ≡ Ok (One x) → operand_at k rows o ≡ Some x → is_of tys.Bool (Some x) ≡ true → TruthHolds w k env rows e o
    go (scalars.Long n) v a t = absurd cc
    go (scalars.Bool b) v a t = record { truth = b; value = v; at = a }
    go (scalars.Text s) v a t = absurd cc

abbrev member_value : Result Value Ending → Result Row Ending
member_value r = r >>= as_member

pub element_holds : (n : Numbering) (flags : Flags) (w : java.World) (k : World) (env : Store) (rows : ℕ → Row) (e : Expression) (x : Elem) → IsElement n e x → Matches n flags w k env rows → (value_of e w env >>= as_member) ≡ Ok (elem_at rows x)
element_holds n flags w k env rows _ _ (whole at x j e) m =
    let h : HoldsRow n j (rows j) (at_name env x) = m.loops x j e in
    ap (λ o. member_value (held_value o)) h.is ∙ ap (λ v. member_value (Ok v)) (row_value (n.tables j) (rows j) h.typed.0)
element_holds n flags w k env rows _ _ (of_column e j c ty i) m =
    let h : OperandHolds w k env rows e (operands.Field j c) ty = operand_holds n flags w k env rows e (operands.Field j c) ty i m in
    ap member_value h.value ∙ ap (λ o. Ok (plain_row o)) (sym h.at)

-- ---- Columns of numbers

abbrev HasColumn : (ℕ → Row) → Operand → Ty → Type 0
HasColumn rows (operands.Field j c) ty = HasCell ty (slice_get (rows j).cells c)
HasColumn rows (operands.Entry i) ty = Unit {0}
HasColumn rows (operands.Lit x) ty = Unit {0}

operand_column : (n : Numbering) (flags : Flags) (w : java.World) (k : World) (env : Store) (rows : ℕ → Row) (e : Expression) (o : Operand) (ty : Ty) → IsOperand n e o ty → Matches n flags w k env rows → HasColumn rows o ty
operand_column n flags w k env rows _ _ _ (field at at' x f j c column e named there) m = loop_cell n flags w k env rows x j c column m e there
operand_column n flags w k env rows _ _ _ (entry at x i ty e t) m = tt
operand_column n flags w k env rows _ _ _ (entry_field at at' x f i ty e t) m = tt
operand_column n flags w k env rows _ _ _ (literal at x) m = tt

-- the field is a number of 64 bits
pub record LongField (w : java.World) (k : World) (env : Store) (rows : ℕ → Row) (e : Expression) (j c : ℕ) : Type 0 where
  pub number : ℤ
  pub value : value_of e w env ≡ Ok (One (scalars.Long number))
  pub at : slice_get (rows j).cells c ≡ Some (scalars.Long number)
  pub fits : fits_long number ≡ true

pub long_field : (n : Numbering) (flags : Flags) (w : java.World) (k : World) (env : Store) (rows : ℕ → Row) (e : Expression) (j c : ℕ) → IsOperand n e (operands.Field j c) tys.Long → Matches n flags w k env rows → LongField w k env rows e j c
long_field n flags w k env rows e j c i m =
    let h : NumberHolds w k env rows e (operands.Field j c) = number_holds w k env rows e (operands.Field j c) (operand_holds n flags w k env rows e (operands.Field j c) tys.Long i m) in
    let t : HasCell tys.Long (slice_get (rows j).cells c) = operand_column n flags w k env rows e (operands.Field j c) tys.Long i m in
    let q : Some t.scalar ≡ Some (scalars.Long h.number) = sym t.is ∙ h.at in
    let s : t.scalar ≡ scalars.Long h.number = cc in
    record { number = h.number; value = h.value; at = h.at; fits = subst (HasTy tys.Long) s t.typed }

-- each row has a scalar of the column's variant
pub cells_of : (t : ℕ) (columns : List Column) (c : ℕ) (column : Column) → slice_get columns c ≡ Some column → (rows : List Row) → AllByRecursion (IsRowOf t columns) rows → AllByRecursion (λ (r : Row). IsTrue (is_of column.ty (slice_get r.cells c))) rows
cells_of t columns c column e [] h = tt
cells_of t columns c column e (r ∷ rows) h =
    let x : HasCell column.ty (slice_get r.cells c) = cell_typed columns r.cells c column h.0.1 e in
    (ap (is_of column.ty) x.is ∙ variant_of column.ty x.scalar x.typed, cells_of t columns c column e rows h.1)
