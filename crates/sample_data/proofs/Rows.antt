-- Rows that are put one after the other.
use Rattle.std.proofs.Common.{◌≡◌, ℕ, ◌+◌, ◌<◌, ◌^◌, List, [], ◌∷◌, ◌++◌, length, map, sym, ap, subst, ◌∙◌, arith}
use Rattle.std.specs.List.{range_with_len}
use Rattle.std.proofs.lemmas.List.FromFn.{map-range_with_len_more}
use Rattle.qbs_base.specs.declared.scalar.Row.{Row}
use Rattle.qbs_base.specs.Tables.{NamedRows, with_row}
use Rattle.qbs_base.specs.Values.{Database, IsDatabaseOf}
use Rattle.sample_data.specs.Tables.{User, Role, user_row, role_row, users, roles, sample_schema, sample_rows}
use Rattle.sample_data.proofs.Fit.{are_tables}

further : (row : ℕ → Row) (n : ℕ) → map row (range_with_len 0 n) ++ row n ∷ [] ≡ map row (range_with_len 0 (n + 1))
further row n = let e : 0 + n ≡ n = omega arith in sym (map-range_with_len_more row 0 n n e)

-- ---- users

pub user_room : (db : Database) (rows : List Row) → db ≡ (User, rows) ∷ [] → 0 < length db
user_room db rows is = rw is (omega arith)

pub user_put : (old new : Database) (i : ℕ) (row : Row) → old ≡ (User, users i) ∷ [] → row ≡ user_row i → new ≡ with_row old 0 row → new ≡ (User, users (i + 1)) ∷ []
user_put old new i row is made put =
    put
    ∙ ap (λ (db : Database). with_row db 0 row) is
    ∙ ap (λ (r : Row). with_row ((User, users i) ∷ []) 0 r) made
    ∙ ap (λ (rows : List Row). (User, rows) ∷ []) (further user_row i)

-- ---- roles

pub role_room : (db : Database) (us : NamedRows) (rows : List Row) → db ≡ us ∷ (Role, rows) ∷ [] → 1 < length db
role_room db us rows is = rw is (omega arith)

pub role_put : (old new : Database) (us : NamedRows) (j : ℕ) (row : Row) → old ≡ us ∷ (Role, roles j) ∷ [] → row ≡ role_row j → new ≡ with_row old 1 row → new ≡ us ∷ (Role, roles (j + 1)) ∷ []
role_put old new us j row is made put =
    put
    ∙ ap (λ (db : Database). with_row db 1 row) is
    ∙ ap (λ (r : Row). with_row (us ∷ (Role, roles j) ∷ []) 1 r) made
    ∙ ap (λ (rows : List Row). us ∷ (Role, rows) ∷ []) (further role_row j)

-- ---- both

pub roles_next : (db old : Database) (name : List ℕ) (n : ℕ) → name ≡ Role → old ≡ (User, users n) ∷ [] → db ≡ old ++ (name, []) ∷ [] → db ≡ (User, users n) ∷ (Role, []) ∷ []
roles_next db old name n named is added =
    added
    ∙ ap (λ (b : Database). b ++ (name, []) ∷ []) is
    ∙ ap (λ (m : List ℕ). (User, users n) ∷ (m, []) ∷ []) named

pub filled : (db : Database) (n : ℕ) → db ≡ (User, users n) ∷ (Role, roles 5) ∷ [] → db ≡ sample_rows n
unfolding sample_rows
filled db n is = is

pub filled_database : (db : Database) (n : ℕ) → n < 2 ^ 63 → db ≡ sample_rows n → IsDatabaseOf sample_schema db
filled_database db n few is = subst (IsDatabaseOf sample_schema) (sym is) (are_tables n few)
