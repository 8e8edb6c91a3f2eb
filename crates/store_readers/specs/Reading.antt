-- Rows, entry values and known lists of a store, read from left to right.
use Rattle.std.specs.Prelude.{ℕ, zero, suc, List, [], ◌∷◌, Option, Some, None, Ok, codes}
use Rattle.readers.specs.Reading.{both, made}
use Rattle.qbs_base.specs.declared.columns.Column.{Column}
use Rattle.qbs_base.specs.declared.scalar.Kind.TheVariants as kinds
use Rattle.qbs_base.specs.declared.scalar.Row.{Row}
use Rattle.qbs_base.specs.declared.scalar.Scalar.{Scalar}
use Rattle.qbs_base.specs.declared.scalar.Ty.{Ty}
use Rattle.text_readers.specs.Bytes.{Reader, byte_at, word_at, number_at}
use Rattle.scalar_readers.specs.Choices.{and_then}
use Rattle.scalar_readers.specs.Scalars.{scalar_at, any_at, ty_of}

-- how many there are, up to 64
unfoldable pub count_at : Reader ℕ
count_at ts = number_at 65 ts

-- so many of one kind
unfoldable pub times : {A : Type 0} → ℕ → Reader A → Reader (List A)
times zero r ts = Ok ([], ts)
times (suc n) r ts = made (λ x. x.0 ∷ x.1) (both r (times n r)) ts

-- how many there are, the end of the line, and that many lines
unfoldable pub lines_at : {A : Type 0} → Reader A → Reader (List A)
lines_at r ts = made (λ x. x.1.1) (and_then count_at (λ n. both (byte_at 10) (times n r))) ts

-- ---- values behind spaces

-- of a type, or of any
unfoldable pub kind_at : Option Ty → Reader Scalar
kind_at None ts = any_at ts
kind_at (Some ty) ts = scalar_at ty ts

unfoldable pub spaced_at : Option Ty → Reader Scalar
spaced_at kind ts = made (λ x. x.1) (both (byte_at 32) (kind_at kind)) ts

-- ---- rows

-- a value of each column
unfoldable pub cells_at : List Column → Reader (List Scalar)
cells_at [] ts = Ok ([], ts)
cells_at (c ∷ cs) ts = made (λ x. x.0 ∷ x.1) (both (spaced_at (Some c.ty)) (cells_at cs)) ts

abbrev pub row_from : ℕ → Unit {0} × (List Scalar × Unit {0}) → Row
row_from number x = record { kind = kinds.Table number; cells = x.1.0 }

unfoldable pub row_at : ℕ → List Column → Reader Row
row_at number columns ts = made (row_from number) (both (word_at (codes "row")) (both (cells_at columns) (byte_at 10))) ts

-- the lines of a table
unfoldable pub rows_at : ℕ → List Column → Reader (List Row)
rows_at number columns ts = made (λ x. x.1) (both (word_at (codes "table ")) (lines_at (row_at number columns))) ts

-- ---- entry values and known lists

unfoldable pub entry_at : Reader (List Scalar)
entry_at ts = made (λ x. x.1.1.0) (both (word_at (codes "entry ")) (and_then count_at (λ n. both (times n (spaced_at None)) (byte_at 10)))) ts

-- so many members, of the first one's type
unfoldable pub members_at : ℕ → Reader (List Scalar)
members_at zero ts = Ok ([], ts)
members_at (suc n) ts = made (λ x. x.0 ∷ x.1) (and_then (spaced_at None) (λ x. times n (spaced_at (Some (ty_of x))))) ts

unfoldable pub list_at : Reader (List Scalar)
list_at ts = made (λ x. x.1.1.0) (both (word_at (codes "list ")) (and_then count_at (λ n. both (members_at n) (byte_at 10)))) ts

unfoldable pub known_at : Reader (List (List Scalar))
known_at ts = made (λ x. x.1) (both (word_at (codes "known ")) (lines_at list_at)) ts
