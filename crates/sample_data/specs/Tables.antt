-- The tables that `make` fills.
use Rattle.std.specs.Prelude.{ℕ, ◌%◌, pos, false, nat_eq, List, [], ◌∷◌, ◌++◌, codes, map}
use Rattle.std.specs.Fmt.{decimal}
use Rattle.std.specs.List.{range_with_len}
use Rattle.qbs_base.specs.declared.columns.Column.{Column}
use Rattle.qbs_base.specs.declared.scalar.Kind.TheVariants as kinds
use Rattle.qbs_base.specs.declared.scalar.Row.{Row}
use Rattle.qbs_base.specs.declared.scalar.Scalar.{Scalar}
use Rattle.qbs_base.specs.declared.scalar.Scalar.TheVariants as scalars
use Rattle.qbs_base.specs.declared.scalar.Ty.{Ty}
use Rattle.qbs_base.specs.declared.scalar.Ty.TheVariants as tys
use Rattle.qbs_base.specs.Values.{Schema, Database}

abbrev pub User : List ℕ
User = codes "User"

abbrev pub Role : List ℕ
Role = codes "Role"

abbrev column : List ℕ → Ty → Column
column name ty = record { name = name; ty = ty; not_null = false; primary = false }

abbrev pub user_columns : List Column
user_columns =
    column (codes "id") tys.Long
    ∷ column (codes "name") tys.Text
    ∷ column (codes "roleId") tys.Long
    ∷ column (codes "age") tys.Long
    ∷ column (codes "active") tys.Bool
    ∷ []

abbrev pub role_columns : List Column
role_columns = column (codes "id") tys.Long ∷ column (codes "label") tys.Text ∷ []

-- CREATE TABLE User (id BIGINT, name TEXT, roleId BIGINT, age BIGINT, active BOOLEAN);
-- CREATE TABLE Role (id BIGINT, label TEXT);
unfoldable pub sample_schema : Schema
sample_schema = record { name = User; columns = user_columns } ∷ record { name = Role; columns = role_columns } ∷ []

-- its text
abbrev pub sample_text : List ℕ
sample_text = codes "CREATE TABLE User (id BIGINT, name TEXT, roleId BIGINT, age BIGINT, active BOOLEAN);CREATE TABLE Role (id BIGINT, label TEXT);"

abbrev long : ℕ → Scalar
long n = scalars.Long (pos n)

-- a letter and a number
abbrev text : List ℕ → ℕ → Scalar
text letter n = scalars.Text (letter ++ decimal n)

-- the user with the number i, who is active where it is even
abbrev pub user_row : ℕ → Row
user_row i =
    record {
      kind = kinds.Table 0;
      cells = long i ∷ text (codes "n") (i % 7) ∷ long (i % 5) ∷ long (i % 10) ∷ scalars.Bool (nat_eq (i % 2) 0) ∷ [];
    }

abbrev pub role_row : ℕ → Row
role_row j = record { kind = kinds.Table 1; cells = long j ∷ text (codes "r") j ∷ [] }

-- the users and the roles with the first numbers, in their order
abbrev pub users : ℕ → List Row
users n = map user_row (range_with_len 0 n)

abbrev pub roles : ℕ → List Row
roles n = map role_row (range_with_len 0 n)

-- n users, and five roles
unfoldable pub sample_rows : ℕ → Database
sample_rows n = (User, users n) ∷ (Role, roles 5) ∷ []
