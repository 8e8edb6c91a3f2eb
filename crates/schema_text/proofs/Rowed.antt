-- One row after the other.
use Rattle.std.proofs.Common.{◌≡◌, ℕ, suc, ◌+◌, List, [], ◌∷◌, ◌++◌, length, Result, Ok, Err, refl, sym, ap, ◌∙◌, arith}
use Rattle.std.proofs.lemmas.List.{append-nil, length-append}
use Rattle.qbs_base.specs.declared.memory.Fail.{Fail}
use Rattle.qbs_base.specs.declared.memory.Fail.TheVariants as fails
use Rattle.qbs_base.specs.declared.scalar.Row.{Row}
use Rattle.qbs_base.specs.declared.columns.Column.{Column}
use Rattle.schema.specs.declared.fault.DataFault.{DataFault}
use Rattle.qbs_base.specs.Memory.{FailsBy}
use Rattle.schema.specs.Rows.{numbered_row, rows_from}
use Rattle.schema_text.proofs.Front.{with_front, regroup}

module _ (number : ℕ) (columns : List Column) (front : List Row) (records rs : List (List (List ℕ))) (r : List (List ℕ)) (total : Result (List Row) DataFault)
    (here : records ≡ r ∷ rs) (so_far : with_front front (rows_from number columns (length front + 1) records) ≡ total) where
  pub row_goes_on : (k : ℕ) (x : Row) → k ≡ length front + 1 → numbered_row number columns k r ≡ Ok x → with_front (front ++ x ∷ []) (rows_from number columns (length (front ++ x ∷ []) + 1) rs) ≡ total
  unfolding rows_from
  row_goes_on k x is_k is =
      let now : numbered_row number columns (length front + 1) r ≡ Ok x = ap (λ (n : ℕ). numbered_row number columns n r) (sym is_k) ∙ is in
      let next : suc (length front + 1) ≡ length (front ++ x ∷ []) + 1 = omega (arith, length-append front (x ∷ [])) in
      let one : with_front front (rows_from number columns (length front + 1) records) ≡ with_front (front ++ x ∷ []) (rows_from number columns (suc (length front + 1)) rs) = rw (here, now) (regroup front x (rows_from number columns (suc (length front + 1)) rs)) in
      ap (λ (n : ℕ). with_front (front ++ x ∷ []) (rows_from number columns n rs)) (sym next) ∙ sym one ∙ so_far

  pub row_fails : (k : ℕ) (e : Fail DataFault) → k ≡ length front + 1 → FailsBy e (numbered_row number columns k r) → FailsBy e total
  unfolding rows_from
  row_fails k (fails.Fault f) is_k is =
      let now : numbered_row number columns (length front + 1) r ≡ Err f = ap (λ (n : ℕ). numbered_row number columns n r) (sym is_k) ∙ is in
      let one : with_front front (rows_from number columns (length front + 1) records) ≡ Err f = rw (here, now) refl in
      sym so_far ∙ one
  row_fails k fails.NoMemory is_k is = tt

pub rows_end : (number : ℕ) (columns : List Column) (front : List Row) (k : ℕ) (records : List (List (List ℕ))) (total : Result (List Row) DataFault) → records ≡ [] → with_front front (rows_from number columns k records) ≡ total → total ≡ Ok front
unfolding rows_from
rows_end number columns front k records total none so_far =
    let one : with_front front (rows_from number columns k records) ≡ Ok front = rw none (ap (λ (xs : List Row). Ok xs) (append-nil front)) in
    sym so_far ∙ one
