-- What is read is put into something, one after another.
use Rattle.std.specs.Prelude.{ℕ, List, [], ◌∷◌, ◌++◌, Ok}
use Rattle.readers.specs.Reading.{◌>>=◌, Read}
use Rattle.qbs_base.specs.declared.scalar.Row.{Row}
use Rattle.qbs_base.specs.Tables.{with_row}
use Rattle.qbs_base.specs.Values.{Database}

abbrev pub into : {S A : Type 0} → (S → A → S) → S → List A → S
into put s [] = s
into put s (x ∷ xs) = into put (put s x) xs

-- with all that is read put into it
abbrev pub read_into : {S A : Type 0} → (S → A → S) → S → Read ℕ (List A) → Read ℕ S
read_into put s read = read >>= λ x. Ok (into put s x.0, x.1)

-- behind the others
abbrev pub pushed : {A : Type 0} → List A → A → List A
pushed xs x = xs ++ x ∷ []

-- at the end of the table with this number
abbrev pub row_put : ℕ → Database → Row → Database
row_put number db row = with_row db number row
