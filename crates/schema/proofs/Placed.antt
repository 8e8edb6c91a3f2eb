-- Columns of a table by its number.
use Rattle.std.proofs.Common.{◌≡◌, ℕ, ◌<◌, ◌≤◌, List, length, get_or, None, sym, ap, ◌∙◌}
use Rattle.qbs_base.specs.declared.columns.Column.{Column}
use Rattle.qbs_base.specs.declared.columns.Table.{Table}
use Rattle.qbs_base.specs.Columns.{column_number}
use Rattle.qbs_base.specs.Values.{Schema}
use Rattle.qbs_base.proofs.ColumnNumbers.{columns_some, columns_none}
use Rattle.schema.specs.Numbers.{column_number_at}

pub number-within : (schema : Schema) (number : ℕ) (name : List ℕ) (t : Table) (columns : List Column) → number < length schema → t ≡ get_or schema number t → columns ≡ t.columns
    → column_number_at schema number name ≡ column_number columns name
number-within schema number name t columns lt is same = ap (λ (cs : List Column). column_number cs name) (sym (same ∙ columns_some schema number t t lt is))

pub number-outside : (schema : Schema) (number : ℕ) (name : List ℕ) → length schema ≤ number → None ≡ column_number_at schema number name
number-outside schema number name above = ap (λ (cs : List Column). column_number cs name) (columns_none schema number above)
