-- What is read behind a first column or a first name is all of a table's columns or of a key clause's names.
use Rattle.std.proofs.Common.{◌≡◌, ℕ, List, [], ◌∷◌, Ok, Err, refl}
use Rattle.readers.specs.Reading.{◌>>=◌, Read}
use Rattle.qbs_base.specs.declared.columns.Column.{Column}
use Rattle.schema.specs.declared.token.Kind.{Kind}
use Rattle.schema.specs.Reading.{name_at, next_names_at, names_behind, names_at, column_at, Columns, columns_at, columns_behind, body_at}

abbrev columns_from : Column → Read Kind Columns → Read Kind Columns
columns_from first read = read >>= λ x. Ok ((first ∷ x.0.0, x.0.1), x.1)

abbrev column_beside : Column → Read Kind Columns → Read Kind (Column × Columns)
column_beside first read = read >>= λ x. Ok ((first, x.0), x.1)

joined_columns : (first : Column) (read : Read Kind Columns) → columns_from first read ≡ (column_beside first read >>= λ x. Ok ((x.0.0 ∷ x.0.1.0, x.0.1.1), x.1))
joined_columns first (Ok xs) = refl
joined_columns first (Err e) = refl

pub columns_behind-one : (first : Column) (columns : List Column) (ts us : List Kind) → column_at ts ≡ Ok (first, us) → columns ≡ first ∷ [] → columns_behind columns us ≡ body_at ts
unfolding columns_behind body_at
columns_behind-one first columns ts us read one = rw (one, read) (joined_columns first (columns_at us))

abbrev names_from : List ℕ → Read Kind (List (List ℕ)) → Read Kind (List (List ℕ))
names_from first read = read >>= λ x. Ok (first ∷ x.0, x.1)

abbrev name_beside : List ℕ → Read Kind (List (List ℕ)) → Read Kind (List ℕ × List (List ℕ))
name_beside first read = read >>= λ x. Ok ((first, x.0), x.1)

joined_names : (first : List ℕ) (read : Read Kind (List (List ℕ))) → names_from first read ≡ (name_beside first read >>= λ x. Ok (x.0.0 ∷ x.0.1, x.1))
joined_names first (Ok xs) = refl
joined_names first (Err e) = refl

pub names_behind-one : (first : List ℕ) (names : List (List ℕ)) (ts us : List Kind) → name_at ts ≡ Ok (first, us) → names ≡ first ∷ [] → names_behind names us ≡ names_at ts
unfolding names_behind names_at
names_behind-one first names ts us read one = rw (one, read) (joined_names first (next_names_at us))
