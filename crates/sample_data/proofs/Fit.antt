-- The rows are of their tables.
use Rattle.std.proofs.Common.{rules, ℕ, ◌+◌, ◌<◌, ◌≤◌, ◌^◌, ◌%◌, zero, suc, length, map, refl, arith}
use Rattle.std.specs.Prelude.{IsTrue, nat_lt}
use Rattle.std.specs.List.{range_with_len, AllByRecursion}
use Rattle.std.proofs.lemmas.List.FromFn.{length-map-range_with_len}
use Rattle.qbs_base.specs.Values.{AreCells, IsRowOf, IsDatabaseOf}
use Rattle.sample_data.specs.Tables.{user_columns, role_columns, user_row, role_row, sample_schema, sample_rows}

-- ---- Rows

users_fit : (a n : ℕ) → a + n ≤ 2 ^ 63 → AllByRecursion (IsRowOf 0 user_columns) (map user_row (range_with_len a n))
users_fit a zero few = tt
users_fit a (suc n) few =
    let here : a < 2 ^ 63 = omega arith in
    let rest : a + 1 + n ≤ 2 ^ 63 = omega arith in
    ((refl, row_fits a here), users_fit (a + 1) n rest)
  where
    row_fits : (i : ℕ) → i < 2 ^ 63 → AreCells user_columns (user_row i).cells
    row_fits i few =
        let id : IsTrue (nat_lt i (2 ^ 63)) = search rules in
        let role : IsTrue (nat_lt (i % 5) (2 ^ 63)) = let less : i % 5 < 2 ^ 63 = omega arith in search rules in
        let age : IsTrue (nat_lt (i % 10) (2 ^ 63)) = let less : i % 10 < 2 ^ 63 = omega arith in search rules in
        (id, (tt, (role, (age, (tt, tt)))))

roles_fit : (a n : ℕ) → a + n ≤ 2 ^ 63 → AllByRecursion (IsRowOf 1 role_columns) (map role_row (range_with_len a n))
roles_fit a zero few = tt
roles_fit a (suc n) few =
    let here : a < 2 ^ 63 = omega arith in
    let rest : a + 1 + n ≤ 2 ^ 63 = omega arith in
    let id : IsTrue (nat_lt a (2 ^ 63)) = search rules in
    ((refl, (id, (tt, tt))), roles_fit (a + 1) n rest)

-- ---- Tables

pub are_tables : (n : ℕ) → n < 2 ^ 63 → IsDatabaseOf sample_schema (sample_rows n)
unfolding sample_schema sample_rows
are_tables n few =
    let many : length (map user_row (range_with_len 0 n)) < 2 ^ 63 = rw (length-map-range_with_len user_row 0 n) few in
    let most : 0 + n ≤ 2 ^ 63 = omega arith in
    let five : 0 + 5 ≤ 2 ^ 63 = omega arith in
    let few_roles : length (map role_row (range_with_len 0 5)) < 2 ^ 63 = omega arith in
    (refl, many, users_fit 0 n most, (refl, few_roles, roles_fit 0 5 five, tt))
