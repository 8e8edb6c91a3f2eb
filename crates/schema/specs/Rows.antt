-- The rows of a table, from the records that `csv` gives.
use Rattle.std.specs.Prelude.{ℕ, suc, ◌+◌, ◌-◌, ◌*◌, ◌&&◌, ◌==◌, nat_lt, Bool, true, false, ℤ, pos, neg_ℤ, List, [], ◌∷◌, length, drop, Option, Some, None, Result, Ok, Err, slice_get, codes, if◌then◌else◌}
use Rattle.std.specs.Str.{bytes_eq, is_utf8}
use Rattle.csv.specs.Reading.{records, default_config, strip_bom}
use Rattle.qbs_base.specs.declared.scalar.Scalar.{Scalar}
use Rattle.qbs_base.specs.declared.scalar.Scalar.TheVariants as scalars
use Rattle.qbs_base.specs.declared.scalar.Ty.{Ty}
use Rattle.qbs_base.specs.declared.scalar.Ty.TheVariants as tys
use Rattle.qbs_base.specs.declared.scalar.Kind.TheVariants as kinds
use Rattle.qbs_base.specs.declared.scalar.Row.{Row}
use Rattle.qbs_base.specs.declared.columns.Column.{Column}
use Rattle.qbs_base.specs.Values.{Schema, fits_long}
use Rattle.schema.specs.declared.fault.DataRule.{DataRule}
use Rattle.schema.specs.declared.fault.DataRule.TheVariants.{Header, Width, BadLong, BadBool, BadUtf8, TooManyRows}
use Rattle.schema.specs.declared.fault.DataFault.{DataFault}
use Rattle.schema.specs.Bytes.{begins_with}
use Rattle.qbs_base.specs.Bytes.{is_digit}

-- ---- whole numbers

abbrev pub all_digits : List ℕ → Bool
all_digits [] = true
all_digits (d ∷ ds) = is_digit d && all_digits ds

-- the number that digits write behind those of n
abbrev pub number_from : ℕ → List ℕ → ℕ
number_from n [] = n
number_from n (d ∷ ds) = number_from (n * 10 + (d - 48)) ds

-- digits behind a sign, in the range of 64 bits
abbrev pub long_with : (ℤ → ℤ) → List ℕ → Option ℤ
long_with sign [] = None
long_with sign (d ∷ ds) =
    if all_digits (d ∷ ds) && fits_long (sign (pos (number_from 0 (d ∷ ds)))) then Some (sign (pos (number_from 0 (d ∷ ds)))) else None

-- an optional `+` or `-` and decimal digits
unfoldable pub long_of : List ℕ → Option ℤ
long_of bs =
    if begins_with 43 bs then long_with (λ z. z) (drop 1 bs)
    else (if begins_with 45 bs then long_with neg_ℤ (drop 1 bs)
    else long_with (λ z. z) bs)

-- ---- fields and rows

infixl 10 ◌>>=◌
abbrev pub ◌>>=◌ : {A B E : Type 0} → Result A E → (A → Result B E) → Result B E
(Ok x) >>= f = f x
(Err e) >>= f = Err e

-- bytes that are UTF-8
abbrev pub text_of : List ℕ → Option (List ℕ)
text_of bs = if is_utf8 bs then Some bs else None

abbrev pub text_cell : Option (List ℕ) → Result Scalar DataRule
text_cell None = Err BadUtf8
text_cell (Some bs) = Ok (scalars.Text bs)

abbrev pub long_cell : Option ℤ → Result Scalar DataRule
long_cell None = Err BadLong
long_cell (Some z) = Ok (scalars.Long z)

-- what a field of a type stands for
unfoldable pub cell_of : Ty → List ℕ → Result Scalar DataRule
cell_of tys.Long field = long_cell (long_of field)
cell_of tys.Bool field =
    if bytes_eq field (codes "true") then Ok (scalars.Bool true)
    else (if bytes_eq field (codes "false") then Ok (scalars.Bool false) else Err BadBool)
cell_of tys.Text field = text_cell (text_of field)

-- the cells of the columns, or the rule that the first bad field breaks
unfoldable pub cells_of : List Column → List (List ℕ) → Result (List Scalar) DataRule
cells_of [] fields = Ok []
cells_of (c ∷ cs) [] = Err Width
cells_of (c ∷ cs) (f ∷ fs) = cell_of c.ty f >>= λ cell. cells_of cs fs >>= λ cells. Ok (cell ∷ cells)

-- a record is as wide as the table, before a field is looked at
unfoldable pub row_of : ℕ → List Column → List (List ℕ) → Result Row DataRule
row_of number columns fields =
    if length fields == length columns then (cells_of columns fields >>= λ cells. Ok (record { kind = kinds.Table number; cells = cells }))
    else Err Width

abbrev pub most_rows : ℕ
most_rows = 1000000

-- a row of this number, of which no more than a million are read
unfoldable pub numbered_row : ℕ → List Column → ℕ → List (List ℕ) → Result Row DataFault
numbered_row number columns k fields =
    if nat_lt most_rows k then Err (record { rule = TooManyRows; row = k })
    else (elim (row_of number columns fields) [ Ok row ↦ Ok row | Err rule ↦ Err (record { rule = rule; row = k }) ])

-- the rows of records, numbered from this number on
unfoldable pub rows_from : ℕ → List Column → ℕ → List (List (List ℕ)) → Result (List Row) DataFault
rows_from number columns k [] = Ok []
rows_from number columns k (r ∷ rs) = numbered_row number columns k r >>= λ row. rows_from number columns (suc k) rs >>= λ rows. Ok (row ∷ rows)

-- the fields are the names of the columns in order
abbrev pub is_header : List Column → List (List ℕ) → Bool
is_header [] [] = true
is_header (c ∷ cs) (f ∷ fs) = bytes_eq f c.name && is_header cs fs
is_header [] (f ∷ fs) = false
is_header (c ∷ cs) [] = false

-- the first record is the header, which is row 0
unfoldable pub rows_under : ℕ → List Column → List (List (List ℕ)) → Result (List Row) DataFault
rows_under number columns [] = Err (record { rule = Header; row = 0 })
rows_under number columns (r ∷ rs) = if is_header columns r then rows_from number columns 1 rs else Err (record { rule = Header; row = 0 })

abbrev pub columns_of : Schema → ℕ → List Column
columns_of schema number = elim (slice_get schema number) [ Some table ↦ table.columns | None ↦ [] ]

-- the records of a text, as `csv` gives them with no header and by its defaults
abbrev pub records_of : List ℕ → List (List (List ℕ))
records_of text = records default_config (strip_bom text)

-- the rows of the table of this number that a text has, or the first fault
unfoldable pub table_rows : Schema → ℕ → List ℕ → Result (List Row) DataFault
table_rows schema number text = rows_under number (columns_of schema number) (records_of text)
