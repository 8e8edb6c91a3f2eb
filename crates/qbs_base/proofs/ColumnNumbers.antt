-- Columns by number.
use Rattle.std.proofs.Common.{◌≡◌, ℕ, zero, suc, ◌<◌, ◌≤◌, List, [], ◌∷◌, length, refl, ap, get_or, arith}
use Rattle.qbs_base.specs.declared.columns.Table.{Table}
use Rattle.qbs_base.specs.Columns.{columns_at}
use Rattle.qbs_base.specs.Values.{Schema}

pub columns_some : (schema : Schema) (n : ℕ) (t d : Table) → n < length schema → t ≡ get_or schema n d → t.columns ≡ columns_at schema n
columns_some [] n t d below e = absurd (omega arith)
columns_some (u ∷ ts) zero t d below e = ap (λ (x : Table). x.columns) e
columns_some (u ∷ ts) (suc n) t d below e = columns_some ts n t d (omega arith) e

pub columns_none : (schema : Schema) (n : ℕ) → length schema ≤ n → [] ≡ columns_at schema n
columns_none [] n above = refl
columns_none (u ∷ ts) zero above = absurd (omega arith)
columns_none (u ∷ ts) (suc n) above = columns_none ts n (omega arith)
