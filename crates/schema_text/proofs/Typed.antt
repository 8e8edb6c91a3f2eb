-- The rows that are read are rows of the table, and no more than a million.
use Rattle.std.proofs.Common.{◌≡◌, ℕ, suc, ◌+◌, ◌≤◌, Bool, true, false, ◌&&◌, cond, List, [], ◌∷◌, length, Option, Some, None, Result, Ok, Err, refl, sym, ap, subst, ◌∙◌, arith, eqb-true, inl, inr, ◌⊎◌, drop}
use Rattle.std.specs.Prelude.{ℤ, pos, neg_ℤ, nat_lt, nat_eq, IfOk, codes}
use Rattle.std.specs.List.{AllByRecursion}
use Rattle.std.specs.Str.{bytes_eq}
use Rattle.std.proofs.lemmas.Bool.Decides.{nat_tests}
use Rattle.qbs_base.specs.declared.memory.Fail.{Fail}
use Rattle.qbs_base.specs.declared.scalar.Scalar.{Scalar}
use Rattle.qbs_base.specs.declared.scalar.Scalar.TheVariants as scalars
use Rattle.qbs_base.specs.declared.scalar.Ty.{Ty}
use Rattle.qbs_base.specs.declared.scalar.Ty.TheVariants as tys
use Rattle.qbs_base.specs.declared.scalar.Kind.TheVariants as kinds
use Rattle.qbs_base.specs.declared.scalar.Row.{Row}
use Rattle.qbs_base.specs.declared.columns.Column.{Column}
use Rattle.qbs_base.specs.Values.{Schema, fits_long, HasTy, AreCells, IsRowOf}
use Rattle.schema.specs.declared.fault.DataRule.{DataRule}
use Rattle.schema.specs.declared.fault.DataRule.TheVariants.{Header, Width, BadBool, TooManyRows}
use Rattle.schema.specs.declared.fault.DataFault.{DataFault}
use Rattle.qbs_base.specs.Memory.{Answers}
use Rattle.schema.specs.Bytes.{begins_with}
use Rattle.schema.specs.Rows.{◌>>=◌, all_digits, number_from, long_with, long_of, text_of, long_cell, text_cell, cell_of, cells_of, row_of, most_rows, numbered_row, rows_from, is_header, rows_under, columns_of, records_of, table_rows}

by_test : (b : Bool) → (b ≡ true) ⊎ (b ≡ false)
by_test true = inl refl
by_test false = inr refl

both_true : (a b : Bool) → (a && b) ≡ true → (a ≡ true) × (b ≡ true)
both_true true true e = (refl, refl)
both_true true false e = absurd cc
both_true false b e = absurd cc

-- ---- cells

with_fits : (sign : ℤ → ℤ) (ds : List ℕ) (z : ℤ) → long_with sign ds ≡ Some z → fits_long z ≡ true
with_fits sign [] z e = absurd cc
with_fits sign (d ∷ ds) z e = by_tests (all_digits (d ∷ ds)) (fits_long (sign (pos (number_from 0 (d ∷ ds))))) refl e
  where
    by_tests : (a b : Bool) → fits_long (sign (pos (number_from 0 (d ∷ ds)))) ≡ b → cond (a && b) (Some (sign (pos (number_from 0 (d ∷ ds))))) None ≡ Some z → fits_long z ≡ true
    by_tests true true is f = let same : sign (pos (number_from 0 (d ∷ ds))) ≡ z = cc in ap fits_long (sym same) ∙ is
    by_tests true false is f = absurd cc
    by_tests false b is f = absurd cc

long_fits : (bs : List ℕ) (z : ℤ) → long_of bs ≡ Some z → fits_long z ≡ true
unfolding long_of
long_fits bs z e =
    elim (by_test (begins_with 43 bs)) [
      | inl plus ↦ with_fits (λ y. y) (drop 1 bs) z (rw plus at e)
      | inr unsigned ↦ elim (by_test (begins_with 45 bs)) [
        | inl minus ↦ with_fits neg_ℤ (drop 1 bs) z (rw (unsigned, minus) at e)
        | inr plain ↦ with_fits (λ y. y) bs z (rw (unsigned, plain) at e)
      ]
    ]

long_has : (bs : List ℕ) (o : Option ℤ) (x : Scalar) → long_of bs ≡ o → long_cell o ≡ Ok x → HasTy tys.Long x
long_has bs None x is e = absurd cc
long_has bs (Some z) x is e = let same : scalars.Long z ≡ x = cc in subst (HasTy tys.Long) same (long_fits bs z is)

truth_has : (a b : Bool) (x : Scalar) → cond a (Ok (scalars.Bool true)) (cond b (Ok (scalars.Bool false)) (Err BadBool)) ≡ Ok x → HasTy tys.Bool x
truth_has true b x e = let same : scalars.Bool true ≡ x = cc in subst (HasTy tys.Bool) same tt
truth_has false true x e = let same : scalars.Bool false ≡ x = cc in subst (HasTy tys.Bool) same tt
truth_has false false x e = absurd cc

text_has : (o : Option (List ℕ)) (x : Scalar) → text_cell o ≡ Ok x → HasTy tys.Text x
text_has None x e = absurd cc
text_has (Some t) x e = let same : scalars.Text t ≡ x = cc in subst (HasTy tys.Text) same tt

cell_has : (ty : Ty) (field : List ℕ) (x : Scalar) → cell_of ty field ≡ Ok x → HasTy ty x
unfolding cell_of
cell_has tys.Long field x e = long_has field (long_of field) x refl e
cell_has tys.Bool field x e = truth_has (bytes_eq field (codes "true")) (bytes_eq field (codes "false")) x e
cell_has tys.Text field x e = text_has (text_of field) x e

pub field_has : (ty : Ty) (field : List ℕ) (answer : Result Scalar (Fail DataRule)) → Answers answer (cell_of ty field) → IfOk answer (λ x. HasTy ty x)
field_has ty field (Ok x) e = cell_has ty field x e
field_has ty field (Err f) e = tt

bind_ok : {A B E : Type 0} (r : Result A E) (f : A → Result B E) (y : B) → (r >>= f) ≡ Ok y → (x : A) × (r ≡ Ok x) × (f x ≡ Ok y)
bind_ok (Ok x) f y e = (x, refl, e)
bind_ok (Err d) f y e = absurd cc

cells_have : (columns : List Column) (fields : List (List ℕ)) (cells : List Scalar) → length fields ≡ length columns → cells_of columns fields ≡ Ok cells → AreCells columns cells
unfolding cells_of
cells_have [] fields cells wide e = let none : [] ≡ cells = cc in subst (AreCells []) none tt
cells_have (c ∷ cs) [] cells wide e = absurd cc
cells_have (c ∷ cs) (f ∷ fs) cells wide e =
    let first = bind_ok (cell_of c.ty f) (λ x. cells_of cs fs >>= λ xs. Ok (x ∷ xs)) cells e in
    let others = bind_ok (cells_of cs fs) (λ xs. Ok (first.0 ∷ xs)) cells first.2 in
    let same : first.0 ∷ others.0 ≡ cells = let k = others.2 in cc in
    subst (AreCells (c ∷ cs)) same (cell_has c.ty f first.0 first.1, cells_have cs fs others.0 (omega arith) others.1)

-- ---- rows

abbrev narrow_row : Result Row DataRule
narrow_row = Err Width

row_is : (number : ℕ) (columns : List Column) (fields : List (List ℕ)) (row : Row) → row_of number columns fields ≡ Ok row → IsRowOf number columns row
unfolding row_of
row_is number columns fields row e =
    elim (by_test (nat_eq (length fields) (length columns))) [
      | inl wide ↦
          let cells = bind_ok (cells_of columns fields) (λ xs. Ok (record { kind = kinds.Table number; cells = xs })) row (rw wide at e) in
          let same : record { kind = kinds.Table number; cells = cells.0 } ≡ row = let k = cells.2 in cc in
          subst (IsRowOf number columns) same (refl, cells_have columns fields cells.0 (eqb-true (length fields) (length columns) wide) cells.1)
      | inr narrow ↦ let clash : narrow_row ≡ Ok row = rw narrow at e in absurd cc
    ]

-- a row with a number, or the rule and the number
abbrev at_number : ℕ → Result Row DataRule → Result Row DataFault
at_number k (Ok row) = Ok row
at_number k (Err rule) = Err (record { rule = rule; row = k })

at_number_ok : (k : ℕ) (read : Result Row DataRule) (row : Row) → at_number k read ≡ Ok row → read ≡ Ok row
at_number_ok k (Ok r) row e = let same : r ≡ row = cc in ap (λ (q : Row). Ok q) same
at_number_ok k (Err rule) row e = absurd cc

abbrev over : ℕ → Result Row DataFault
over k = Err (record { rule = TooManyRows; row = k })

numbered_is : (number : ℕ) (columns : List Column) (k : ℕ) (fields : List (List ℕ)) (row : Row) → numbered_row number columns k fields ≡ Ok row → (k ≤ most_rows) × IsRowOf number columns row
unfolding numbered_row
numbered_is number columns k fields row e =
    elim (by_test (nat_lt most_rows k)) [
      | inl more ↦ let clash : over k ≡ Ok row = rw more at e in absurd cc
      | inr within ↦
          let found : at_number k (row_of number columns fields) ≡ Ok row = rw within at e in
          (grind (arith, nat_tests, within), row_is number columns fields row (at_number_ok k (row_of number columns fields) row found))
    ]

rows_are : (number : ℕ) (columns : List Column) (k : ℕ) (records : List (List (List ℕ))) (rows : List Row) → rows_from number columns k records ≡ Ok rows → AllByRecursion (IsRowOf number columns) rows
unfolding rows_from
rows_are number columns k [] rows e = let none : [] ≡ rows = cc in subst (AllByRecursion (IsRowOf number columns)) none tt
rows_are number columns k (r ∷ rs) rows e =
    let first = bind_ok (numbered_row number columns k r) (λ x. rows_from number columns (suc k) rs >>= λ xs. Ok (x ∷ xs)) rows e in
    let others = bind_ok (rows_from number columns (suc k) rs) (λ xs. Ok (first.0 ∷ xs)) rows first.2 in
    let same : first.0 ∷ others.0 ≡ rows = let h = others.2 in cc in
    subst (AllByRecursion (IsRowOf number columns)) same ((numbered_is number columns k r first.0 first.1).1, rows_are number columns (suc k) rs others.0 others.1)

rows_few : (number : ℕ) (columns : List Column) (k : ℕ) (records : List (List (List ℕ))) (rows : List Row) → k ≤ most_rows + 1 → rows_from number columns k records ≡ Ok rows → length rows + k ≤ most_rows + 1
unfolding rows_from
rows_few number columns k [] rows le e = let none : [] ≡ rows = cc in omega (arith, ap length none)
rows_few number columns k (r ∷ rs) rows le e =
    let first = bind_ok (numbered_row number columns k r) (λ x. rows_from number columns (suc k) rs >>= λ xs. Ok (x ∷ xs)) rows e in
    let others = bind_ok (rows_from number columns (suc k) rs) (λ xs. Ok (first.0 ∷ xs)) rows first.2 in
    let same : first.0 ∷ others.0 ≡ rows = let h = others.2 in cc in
    let within = (numbered_is number columns k r first.0 first.1).0 in
    let rest = rows_few number columns (suc k) rs others.0 (omega (arith, within)) others.1 in
    omega (arith, rest, ap length same)

-- ---- tables

abbrev no_header : Result (List Row) DataFault
no_header = Err (record { rule = Header; row = 0 })

under_is : (number : ℕ) (columns : List Column) (records : List (List (List ℕ))) (rows : List Row) → rows_under number columns records ≡ Ok rows → (rs : List (List (List ℕ))) × (rows_from number columns 1 rs ≡ Ok rows)
unfolding rows_under
under_is number columns [] rows e = absurd cc
under_is number columns (r ∷ rs) rows e =
    elim (by_test (is_header columns r)) [
      | inl same ↦ (rs, rw same at e)
      | inr other ↦ let clash : no_header ≡ Ok rows = rw other at e in absurd cc
    ]

pub rows_of_table : (schema : Schema) (number : ℕ) (text : List ℕ) (rows : List Row) → table_rows schema number text ≡ Ok rows → AllByRecursion (IsRowOf number (columns_of schema number)) rows
unfolding table_rows
rows_of_table schema number text rows e =
    let under = under_is number (columns_of schema number) (records_of text) rows e in
    rows_are number (columns_of schema number) 1 under.0 rows under.1

pub few_rows : (schema : Schema) (number : ℕ) (text : List ℕ) (rows : List Row) → table_rows schema number text ≡ Ok rows → length rows ≤ most_rows
unfolding table_rows
few_rows schema number text rows e =
    let under = under_is number (columns_of schema number) (records_of text) rows e in
    let few = rows_few number (columns_of schema number) 1 under.0 rows (omega arith) under.1 in
    omega (arith, few)

pub answered_rows : (schema : Schema) (number : ℕ) (text : List ℕ) (result : Result (List Row) (Fail DataFault)) → Answers result (table_rows schema number text) → IfOk result (λ rows. AllByRecursion (IsRowOf number (columns_of schema number)) rows)
answered_rows schema number text (Ok rows) e = rows_of_table schema number text rows e
answered_rows schema number text (Err f) e = tt

pub answered_few : (schema : Schema) (number : ℕ) (text : List ℕ) (result : Result (List Row) (Fail DataFault)) → Answers result (table_rows schema number text) → IfOk result (λ rows. length rows ≤ most_rows)
answered_few schema number text (Ok rows) e = few_rows schema number text rows e
answered_few schema number text (Err f) e = tt
