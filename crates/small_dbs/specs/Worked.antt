-- A schema of users and roles, and small database 1 of a loop that adds the users of role 2.
use Rattle.std.specs.Prelude.{ℕ, List, [], ◌∷◌, true, false, codes}
use Rattle.qbs_base.specs.declared.columns.Column.{Column}
use Rattle.qbs_base.specs.declared.scalar.Ty.{Ty}
use Rattle.qbs_base.specs.declared.scalar.Ty.TheVariants as tys
use Rattle.qbs_base.specs.Values.{Schema}
use Rattle.kernel_lang.specs.Worked.{user, role, nothing}
use Rattle.small_dbs.specs.declared.small.SmallDb.{SmallDb}

abbrev pub column : List ℕ → Ty → Column
column name ty = record { name = name; ty = ty; not_null = false; primary = false }

abbrev pub users_and_roles : Schema
users_and_roles =
    record {
      name = codes "User";
      columns = column (codes "id") tys.Long ∷ column (codes "name") tys.Text ∷ column (codes "roleId") tys.Long ∷ column (codes "age") tys.Long ∷ column (codes "active") tys.Bool ∷ [];
    }
    ∷ record { name = codes "Role"; columns = column (codes "id") tys.Long ∷ column (codes "label") tys.Text ∷ [] }
    ∷ []

-- one user and one role
abbrev pub second_item : SmallDb
second_item =
    record {
      db = (codes "User", user 1 [] 3 0 true ∷ []) ∷ (codes "Role", role 0 (codes "a") ∷ []) ∷ [];
      entry = nothing;
    }
