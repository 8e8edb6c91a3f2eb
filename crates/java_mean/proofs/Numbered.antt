-- The rows of a table that the schema knows, in a database of the schema.
use Rattle.std.proofs.Common.{◌≡◌, ℕ, suc, ◌+◌, Bool, true, false, List, [], ◌∷◌, Some, None, length, refl, sym, ap, ◌∙◌, subst, cond, arith}
use Rattle.std.specs.Prelude.{bytes_eq, position, nat_lt, slice_get}
use Rattle.std.specs.List.{AllByRecursion, position_or_len}
use Rattle.std.proofs.lemmas.Bool.Decides.{nat_tests}
use Rattle.qbs_base.specs.declared.scalar.Row.{Row}
use Rattle.qbs_base.specs.declared.columns.Table.{Table}
use Rattle.qbs_base.specs.Named.{at_name}
use Rattle.qbs_base.specs.Tables.{NamedRows}
use Rattle.qbs_base.specs.Values.{Schema, Database, AreTables, IsRowOf}
use Rattle.qbs_base.specs.Columns.{table_number, columns_at}

-- where the first element passes, its place is 0; else the place is one more than that in the rest
pub data Found {X : Type 0} (test : X → Bool) (x : X) (xs : List X) (n : ℕ) : Type 0 where
  first : test x ≡ true → n ≡ 0 → Found test x xs n
  later : (m : ℕ) → test x ≡ false → n ≡ suc m → position test xs ≡ Some m → Found test x xs n

at_first : (l m n : ℕ) → cond (nat_lt 0 (suc m)) (Some 0) None ≡ Some n → n ≡ 0
at_first l m n e = grind (arith, nat_tests)

at_later : (l m n : ℕ) → cond (nat_lt (1 + l) (suc m)) (Some (1 + l)) None ≡ Some n → (n ≡ suc l) × (cond (nat_lt l m) (Some l) None ≡ Some l)
at_later l m n e = (grind (arith, nat_tests), grind (arith, nat_tests))

stepped : {X : Type 0} (test : X → Bool) (x : X) (xs : List X) (n : ℕ) (b : Bool) → test x ≡ b → position test (x ∷ xs) ≡ Some n → Found test x xs n
stepped test x xs n true t e =
    let k : cond (nat_lt 0 (suc (length xs))) (Some 0) None ≡ Some n = rw t at e in
    first t (at_first 0 (length xs) n k)
stepped test x xs n false t e =
    let k : cond (nat_lt (1 + position_or_len test xs) (suc (length xs))) (Some (1 + position_or_len test xs)) None ≡ Some n = rw t at e in
    let both = at_later (position_or_len test xs) (length xs) n k in
    later (position_or_len test xs) t both.0 both.1

pub position_step : {X : Type 0} (test : X → Bool) (x : X) (xs : List X) (n : ℕ) → position test (x ∷ xs) ≡ Some n → Found test x xs n
position_step test x xs n e = stepped test x xs n (test x) refl e

-- the rows of the table with this name and this number, and what is said of each
pub record HasRows (db : Database) (name : List ℕ) (number : ℕ) (p : Row → Type 0) : Type 0 where
  pub rows : List Row
  pub table : NamedRows
  pub there : at_name db name ≡ Some rows
  pub numbered : slice_get db number ≡ Some table
  pub rows_are : table.1 ≡ rows
  pub all : AllByRecursion p rows

rows_first : (start : ℕ) (t : Table) (schema : Schema) (held : NamedRows) (db : Database) (name : List ℕ) (n : ℕ) → AreTables start (t ∷ schema) (held ∷ db) → bytes_eq t.name name ≡ true → n ≡ 0 → HasRows (held ∷ db) name n (IsRowOf (start + n) (columns_at (t ∷ schema) n))
rows_first start t schema held db name n all e z =
    let same : bytes_eq held.0 name ≡ true = ap (λ x. bytes_eq x name) all.0 ∙ e in
    let P : ℕ → Row → Type 0 = λ k. IsRowOf (start + k) (columns_at (t ∷ schema) k) in
    let Q : ℕ → Row → Type 0 = λ k. IsRowOf k t.columns in
    let at : start ≡ start + 0 = omega arith in
    record {
      rows = held.1;
      table = held;
      there = rw same refl;
      numbered = ap (slice_get (held ∷ db)) z;
      rows_are = refl;
      all = subst (λ (k : ℕ). AllByRecursion (P k) held.1) (sym z) (subst (λ (k : ℕ). AllByRecursion (Q k) held.1) at all.2);
    }

rows_later : (start : ℕ) (t : Table) (schema : Schema) (held : NamedRows) (db : Database) (name : List ℕ) (n m : ℕ) → AreTables start (t ∷ schema) (held ∷ db) → bytes_eq t.name name ≡ false → n ≡ suc m → HasRows db name m (IsRowOf (suc start + m) (columns_at schema m)) → HasRows (held ∷ db) name n (IsRowOf (start + n) (columns_at (t ∷ schema) n))
rows_later start t schema held db name n m all e z h =
    let other : bytes_eq held.0 name ≡ false = ap (λ x. bytes_eq x name) all.0 ∙ e in
    let P : ℕ → Row → Type 0 = λ k. IsRowOf (start + k) (columns_at (t ∷ schema) k) in
    let Q : ℕ → Row → Type 0 = λ k. IsRowOf k (columns_at schema m) in
    let at : suc start + m ≡ start + suc m = omega arith in
    record {
      rows = h.rows;
      table = h.table;
      there = rw other h.there;
      numbered = ap (slice_get (held ∷ db)) z ∙ h.numbered;
      rows_are = h.rows_are;
      all = subst (λ (k : ℕ). AllByRecursion (P k) h.rows) (sym z) (subst (λ (k : ℕ). AllByRecursion (Q k) h.rows) at h.all);
    }

rows_found : (start : ℕ) (t : Table) (schema : Schema) (held : NamedRows) (db : Database) (name : List ℕ) (n : ℕ) → AreTables start (t ∷ schema) (held ∷ db) → Found (λ (u : Table). bytes_eq u.name name) t schema n → ((m : ℕ) → table_number schema name ≡ Some m → HasRows db name m (IsRowOf (suc start + m) (columns_at schema m))) → HasRows (held ∷ db) name n (IsRowOf (start + n) (columns_at (t ∷ schema) n))
rows_found start t schema held db name n all (first e z) rest = rows_first start t schema held db name n all e z
rows_found start t schema held db name n all (later m e z k) rest = rows_later start t schema held db name n m all e z (rest m k)

pub rows_of_table : (start : ℕ) (schema : Schema) (db : Database) (name : List ℕ) (n : ℕ) → AreTables start schema db → table_number schema name ≡ Some n → HasRows db name n (IsRowOf (start + n) (columns_at schema n))
rows_of_table start [] db name n all e = absurd cc
rows_of_table start (t ∷ schema) [] name n all e = absurd all
rows_of_table start (t ∷ schema) (held ∷ db) name n all e =
    rows_found start t schema held db name n all (position_step (λ (u : Table). bytes_eq u.name name) t schema n e) (λ m k. rows_of_table (suc start) schema db name m all.3 k)
