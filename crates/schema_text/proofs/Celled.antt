-- One field after the other.
use Rattle.std.proofs.Common.{◌≡◌, ℕ, zero, suc, ◌+◌, ◌<◌, ◌≤◌, ◌≢◌, eqb-true, false-eqb, Bool, true, false, not, List, [], ◌∷◌, ◌++◌, length, get_or, drop, Some, None, Result, Ok, Err, refl, sym, ap, ◌∙◌, arith, add-one}
use Rattle.std.specs.Prelude.{nat_eq}
use Rattle.std.proofs.lemmas.List.{append-nil, drop_all}
use Rattle.std.specs.Str.{bytes_eq}
use Rattle.csv.specs.Records.{field_at}
use Rattle.qbs_base.specs.declared.memory.Fail.{Fail}
use Rattle.qbs_base.specs.declared.memory.Fail.TheVariants as fails
use Rattle.qbs_base.specs.declared.scalar.Scalar.{Scalar}
use Rattle.qbs_base.specs.declared.columns.Column.{Column}
use Rattle.schema.specs.declared.fault.DataRule.{DataRule}
use Rattle.schema.specs.declared.fault.DataRule.TheVariants.{Width}
use Rattle.qbs_base.specs.Memory.{FailsBy}
use Rattle.schema.specs.Rows.{cell_of, cells_of, is_header}
use Rattle.schema_text.proofs.Front.{with_front, regroup}

-- what stands from a place on
some_at : (fs : List (List ℕ)) (i : ℕ) (f : List ℕ) → field_at fs i ≡ Some f → drop i fs ≡ f ∷ drop (suc i) fs
unfolding field_at
some_at [] i f e = absurd cc
some_at (g ∷ fs) zero f e = let same : g ≡ f = cc in ap (λ (h : List ℕ). h ∷ fs) same
some_at (g ∷ fs) (suc i) f e = some_at fs i f e

pub drop_some : (fs : List (List ℕ)) (i : ℕ) (f : List ℕ) → field_at fs i ≡ Some f → drop i fs ≡ f ∷ drop (i + 1) fs
drop_some fs i f e = rw add-one (some_at fs i f e)

pub field_within : (fs : List (List ℕ)) (i : ℕ) (f : List ℕ) → field_at fs i ≡ Some f → i < length fs
unfolding field_at
field_within [] i f e = absurd cc
field_within (g ∷ fs) zero f e = omega arith
field_within (g ∷ fs) (suc i) f e = let lt = field_within fs i f e in omega arith

pub drop_none : (fs : List (List ℕ)) (i : ℕ) → field_at fs i ≡ None → drop i fs ≡ []
unfolding field_at
drop_none [] zero e = refl
drop_none [] (suc i) e = refl
drop_none (g ∷ fs) zero e = absurd cc
drop_none (g ∷ fs) (suc i) e = drop_none fs i e

item_at : {X : Type 0} (xs : List X) (i : ℕ) (x : X) → i < length xs → x ≡ get_or xs i x → drop i xs ≡ x ∷ drop (suc i) xs
item_at [] i x lt e = absurd (omega arith)
item_at (y ∷ xs) zero x lt e = ap (λ (z : _). z ∷ xs) (sym e)
item_at (y ∷ xs) (suc i) x lt e = item_at xs i x (omega arith) e

pub drop_item : {X : Type 0} (xs : List X) (i : ℕ) (x : X) → i < length xs → x ≡ get_or xs i x → drop i xs ≡ x ∷ drop (i + 1) xs
drop_item xs i x lt e = rw add-one (item_at xs i x lt e)

-- ---- headers

module _ (columns cs : List Column) (fields fs : List (List ℕ)) (c : Column) (total : Bool) (here : columns ≡ c ∷ cs) (so_far : is_header columns fields ≡ total) where
  pub header_goes_on : (f : List ℕ) → fields ≡ f ∷ fs → bytes_eq f c.name ≡ true → is_header cs fs ≡ total
  header_goes_on f field is =
      let one : is_header columns fields ≡ is_header cs fs = rw (here, field, is) refl in
      sym one ∙ so_far

  pub header_differs : (f : List ℕ) → fields ≡ f ∷ fs → bytes_eq f c.name ≡ false → false ≡ total
  header_differs f field is =
      let one : is_header columns fields ≡ false = rw (here, field, is) refl in
      sym one ∙ so_far

  pub header_no_field : fields ≡ [] → false ≡ total
  header_no_field field =
      let one : is_header columns fields ≡ false = rw (here, field) refl in
      sym one ∙ so_far

no_columns : (fs : List (List ℕ)) (n : ℕ) → length fs ≡ n → is_header [] (drop n fs) ≡ true
no_columns [] n e = rw (sym e) refl
no_columns (f ∷ fs) n e = rw (sym e) (no_columns fs (length fs) refl)

more_fields : (fs : List (List ℕ)) (n : ℕ) → n < length fs → is_header [] (drop n fs) ≡ false
more_fields [] n lt = absurd (omega arith)
more_fields (f ∷ fs) zero lt = refl
more_fields (f ∷ fs) (suc n) lt = more_fields fs n (omega arith)

fields_end : (fs : List (List ℕ)) (n : ℕ) → n ≤ length fs → is_header [] (drop n fs) ≡ nat_eq (length fs) n
fields_end fs n le = by_test (nat_eq (length fs) n) refl
  where
    by_test : (b : Bool) → nat_eq (length fs) n ≡ b → is_header [] (drop n fs) ≡ nat_eq (length fs) n
    by_test true e = no_columns fs n (eqb-true (length fs) n e) ∙ sym e
    by_test false e =
        let other : length fs ≢ n = false-eqb (length fs) n (sym e) in
        more_fields fs n (omega arith) ∙ sym e

pub header_ends : (columns : List Column) (fields : List (List ℕ)) (i : ℕ) (total : Bool) → i ≡ length columns → i ≤ length fields → is_header (drop i columns) (drop i fields) ≡ total → nat_eq (length fields) (length columns) ≡ total
header_ends columns fields i total same within so_far =
    let none : drop i columns ≡ [] = drop_all i columns (omega arith) in
    ap (λ (n : ℕ). nat_eq (length fields) n) (sym same) ∙ sym (fields_end fields i within) ∙ ap (λ (cs : List Column). is_header cs (drop i fields)) (sym none) ∙ so_far

pub not_true : (b : Bool) → not b ≡ true → b ≡ false
not_true true e = absurd cc
not_true false e = refl

pub not_false : (b : Bool) → not b ≡ false → b ≡ true
not_false true e = refl
not_false false e = absurd cc

-- ---- cells, behind those that were read before

module _ (front : List Scalar) (columns cs : List Column) (fields fs : List (List ℕ)) (c : Column) (total : Result (List Scalar) DataRule) (here : columns ≡ c ∷ cs) (so_far : with_front front (cells_of columns fields) ≡ total) where
  pub cell_goes_on : (f : List ℕ) (x : Scalar) → fields ≡ f ∷ fs → cell_of c.ty f ≡ Ok x → with_front (front ++ x ∷ []) (cells_of cs fs) ≡ total
  unfolding cells_of
  cell_goes_on f x field is =
      let one : with_front front (cells_of columns fields) ≡ with_front (front ++ x ∷ []) (cells_of cs fs) = rw (here, field, is) (regroup front x (cells_of cs fs)) in
      sym one ∙ so_far

  pub cell_fails : (f : List ℕ) (e : Fail DataRule) → fields ≡ f ∷ fs → FailsBy e (cell_of c.ty f) → FailsBy e total
  unfolding cells_of
  cell_fails f (fails.Fault rule) field is =
      let one : with_front front (cells_of columns fields) ≡ Err rule = rw (here, field, is) refl in
      sym so_far ∙ one
  cell_fails f fails.NoMemory field is = tt

  pub no_field : fields ≡ [] → total ≡ Err Width
  unfolding cells_of
  no_field field =
      let one : with_front front (cells_of columns fields) ≡ Err Width = rw (here, field) refl in
      sym so_far ∙ one

pub cells_end : (front : List Scalar) (columns : List Column) (fields : List (List ℕ)) (total : Result (List Scalar) DataRule) → columns ≡ [] → with_front front (cells_of columns fields) ≡ total → total ≡ Ok front
unfolding cells_of
cells_end front columns fields total none so_far =
    let one : with_front front (cells_of columns fields) ≡ Ok front = rw none (ap (λ (xs : List Scalar). Ok xs) (append-nil front)) in
    sym so_far ∙ one
