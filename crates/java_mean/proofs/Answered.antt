-- The answers of queries have their types.
use Rattle.std.proofs.Common.{◌≡◌, ℕ, zero, suc, ◌+◌, ◌<◌, ◌^◌, ℤ, pos, Bool, true, false, List, [], ◌∷◌, ◌++◌, map, take, length, Option, Some, None, refl, sym, ap, ◌∙◌, subst, cond, arith, lit<}
use Rattle.std.specs.Prelude.{slice_get}
use Rattle.std.specs.List.{flat_map, enumerate_from, AllByRecursion}
use Rattle.std.specs.Option.{option_map}
use Rattle.std.proofs.lemmas.Bool.Decides.{nat_tests}
use Rattle.qbs_base.specs.declared.scalar.Scalar.{Scalar}
use Rattle.qbs_base.specs.declared.scalar.Scalar.TheVariants as scalars
use Rattle.qbs_base.specs.declared.scalar.Ty.{Ty}
use Rattle.qbs_base.specs.declared.scalar.Ty.TheVariants as tys
use Rattle.qbs_base.specs.declared.scalar.Row.{Row}
use Rattle.qbs_base.specs.declared.columns.Column.{Column}
use Rattle.qbs_base.specs.declared.columns.Table.{Table}
use Rattle.qbs_base.specs.Values.{Schema, Database, HasTy, AreCells, AreTables, IsRowOf, IsDatabaseOf, fits_long}
use Rattle.sql_ast.specs.declared.tree.FromItem.{FromItem}
use Rattle.sql_ast.specs.declared.tree.SqlCol.{SqlCol}
use Rattle.sql_ast.specs.declared.tree.SqlColumn.{SqlColumn}
use Rattle.sql_ast.specs.declared.tree.SqlColumn.TheVariants as columns
use Rattle.sql_ast.specs.declared.tree.SqlItem.{SqlItem}
use Rattle.sql_ast.specs.declared.tree.SqlItem.TheVariants as items
use Rattle.qbs_base.specs.Sort.{stable_sort}
use Rattle.qbs_base.specs.Tables.{rows_of}
use Rattle.qbs_base.specs.Columns.{columns_at}
use Rattle.java_ast.specs.Tree.{PlainMethod}
use Rattle.sql_ast.specs.Grouped.{firsts, least_position, sooner, grouped}
use Rattle.sql_ast.specs.Meaning.{Place, Combination, places_of, product, nth, cell_of, column_of, row_of, item_of, cut, plain_row, passes, true_ones, before, ordered_rows, position_of, same_value, grouped_rows, rows_from, whole_number, Rows, One, TooLarge, query_answer}
use Rattle.sql_ast.specs.Names.{◌>>=◌}
use Rattle.sql_ast.specs.Tree.{Filter, PlainListing, PlainQuery, Listing, Number, Truth}
use Rattle.sql_ast.specs.Typing.{ty_of_column, ty_of_col}
use Rattle.sql_ast.specs.Valid.{params_in}
use Rattle.java_mean.specs.Asks.{item_type, element_type, answer_type, type_of_found, frame_of}
use Rattle.java_mean.specs.Outcome.{world_with}
use Rattle.java_mean.specs.Types.{Single, ScalarOf, RowOf, JavaType, Of, Listed, made_of, IsMember}
use Rattle.java_mean.specs.Typing.{QueryType, IsAnswer, IsWorld}
use Rattle.java_mean.proofs.Members.{all_filtered, all_firsts, all_sorted}

-- ---- Lists

all_append : {X : Type 0} (P : X → Type 0) (xs ys : List X) → AllByRecursion P xs → AllByRecursion P ys → AllByRecursion P (xs ++ ys)
all_append P [] ys h k = k
all_append P (x ∷ xs) ys h k = (h.0, all_append P xs ys h.1 k)

all_map : {X Y : Type 0} (P : X → Type 0) (Q : Y → Type 0) (f : X → Y) (xs : List X) → ((x : X) → P x → Q (f x)) → AllByRecursion P xs → AllByRecursion Q (map f xs)
all_map P Q f [] h k = tt
all_map P Q f (x ∷ xs) h k = (h x k.0, all_map P Q f xs h k.1)

all_flat : {X Y : Type 0} (P : X → Type 0) (Q : Y → Type 0) (f : X → List Y) (xs : List X) → ((x : X) → P x → AllByRecursion Q (f x)) → AllByRecursion P xs → AllByRecursion Q (flat_map f xs)
all_flat P Q f [] h k = tt
all_flat P Q f (x ∷ xs) h k = all_append Q (f x) (flat_map f xs) (h x k.0) (all_flat P Q f xs h k.1)

all_taken : {X : Type 0} (P : X → Type 0) (n : ℕ) (xs : List X) → AllByRecursion P xs → AllByRecursion P (take n xs)
all_taken P zero xs h = tt
all_taken P (suc n) [] h = tt
all_taken P (suc n) (x ∷ xs) h = (h.0, all_taken P n xs h.1)

all_cut : {X : Type 0} (P : X → Type 0) (limit : Option ℕ) (xs : List X) → AllByRecursion P xs → AllByRecursion P (cut limit xs)
all_cut P None xs h = h
all_cut P (Some n) xs h = all_taken P n xs h

-- ---- Places

-- a row of the table, at a position of 63 bits
abbrev Placed : Schema → ℕ → Place → Type 0
Placed schema n place = IsRowOf n (columns_at schema n) place.1 × (place.0 < 2 ^ 63)

places_from : (schema : Schema) (n k : ℕ) (rows : List Row) → AllByRecursion (IsRowOf n (columns_at schema n)) rows → k + length rows < 2 ^ 63 → AllByRecursion (Placed schema n) (enumerate_from k rows)
places_from schema n k [] h lt = tt
places_from schema n k (row ∷ rows) h lt = ((h.0, omega arith), places_from schema n (k + 1) rows h.1 (omega arith))

-- the rows of a table of the database, by its number from the first of these tables
pub record TableRows (number : ℕ) (columns : List Column) (rows : List Row) : Type 0 where
  pub few : length rows < 2 ^ 63
  pub all : AllByRecursion (IsRowOf number columns) rows

table_rows : (start : ℕ) (schema : Schema) (db : Database) (n : ℕ) → AreTables start schema db → TableRows (start + n) (columns_at schema n) (rows_of db n)
table_rows start [] [] n h = record { few = lit< tt; all = tt }
table_rows start [] (held ∷ db) n h = absurd h
table_rows start (t ∷ schema) [] n h = absurd h
table_rows start (t ∷ schema) (held ∷ db) zero h =
    let at : start ≡ start + 0 = omega arith in
    record { few = h.1; all = subst (λ (k : ℕ). AllByRecursion (IsRowOf k t.columns) held.1) at h.2 }
table_rows start (t ∷ schema) (held ∷ db) (suc n) h =
    let rest = table_rows (suc start) schema db n h.3 in
    let at : suc start + n ≡ start + suc n = omega arith in
    record { few = rest.few; all = subst (λ (k : ℕ). AllByRecursion (IsRowOf k (columns_at schema n)) (rows_of db n)) at rest.all }

places_placed : (schema : Schema) (db : Database) (from : FromItem) → IsDatabaseOf schema db → AllByRecursion (Placed schema from.table) (places_of db from)
places_placed schema db from h =
    let rows = table_rows 0 schema db from.table h in
    let at : 0 + from.table ≡ from.table = omega arith in
    places_from schema from.table 0 (rows_of db from.table) (subst (λ (k : ℕ). AllByRecursion (IsRowOf k (columns_at schema from.table)) (rows_of db from.table)) at rows.all) (omega (arith, rows.few))

-- a combination of places of these tables
abbrev Fits : Schema → List FromItem → Combination → Type 0
Fits schema [] [] = Unit {0}
Fits schema (from ∷ froms) (place ∷ places) = Placed schema from.table place × Fits schema froms places
Fits schema _ _ = ⊥

product_fits : (schema : Schema) (db : Database) (froms : List FromItem) → IsDatabaseOf schema db → AllByRecursion (Fits schema froms) (product db froms)
product_fits schema db [] h = (tt, tt)
product_fits schema db (from ∷ froms) h =
    all_flat (Placed schema from.table) (Fits schema (from ∷ froms)) (λ x. map (λ c. x ∷ c) (product db froms)) (places_of db from) (λ x hx. all_map (Fits schema froms) (Fits schema (from ∷ froms)) (λ c. x ∷ c) (product db froms) (λ c hc. (hx, hc)) (product_fits schema db froms h)) (places_placed schema db from h)

-- ---- Items

pub record PlaceAt (schema : Schema) (n : ℕ) (o : Option Place) : Type 0 where
  pub place : Place
  pub there : o ≡ Some place
  pub placed : Placed schema n place

place_at : (schema : Schema) (froms : List FromItem) (c : Combination) (i : ℕ) (from : FromItem) → Fits schema froms c → slice_get froms i ≡ Some from → PlaceAt schema from.table (slice_get c i)
place_at schema [] [] i from h e = absurd cc
place_at schema [] (p ∷ ps) i from h e = absurd h
place_at schema (f ∷ fs) [] i from h e = absurd h
place_at schema (f ∷ fs) (p ∷ ps) zero from h e = let same : f ≡ from = cc in record { place = p; there = refl; placed = subst (λ (z : FromItem). Placed schema z.table p) same h.0 }
place_at schema (f ∷ fs) (p ∷ ps) (suc i) from h e = place_at schema fs ps i from h.1 e

place_nth : (schema : Schema) (froms : List FromItem) (c : Combination) (i : ℕ) (from : FromItem) → Fits schema froms c → nth froms i ≡ Some from → PlaceAt schema from.table (nth c i)
place_nth schema froms c zero from h e = absurd cc
place_nth schema froms c (suc i) from h e = place_at schema froms c i from h e

-- a value of the type is there
abbrev IsThere : Ty → Option Scalar → Type 0
IsThere ty (Some x) = HasTy ty x
IsThere ty None = ⊥

cell_there : (held : List Column) (cells : List Scalar) (n : ℕ) (column : Column) → AreCells held cells → slice_get held n ≡ Some column → IsThere column.ty (slice_get cells n)
cell_there [] cells n column h e = absurd cc
cell_there (k ∷ ks) [] n column h e = absurd h
cell_there (k ∷ ks) (x ∷ xs) zero column h e = let same : k ≡ column = cc in subst (λ (z : Column). HasTy z.ty x) same h.0
cell_there (k ∷ ks) (x ∷ xs) (suc n) column h e = cell_there ks xs n column h.1 e

columns_known : (schema : Schema) (n : ℕ) (table : Table) → slice_get schema n ≡ Some table → columns_at schema n ≡ table.columns
columns_known [] n table e = absurd cc
columns_known (t ∷ ts) zero table e = let same : t ≡ table = cc in ap (λ (z : Table). z.columns) same
columns_known (t ∷ ts) (suc n) table e = columns_known ts n table e

small_fits : (n : ℕ) → n < 2 ^ 63 → fits_long (pos n) ≡ true
small_fits n h = grind (arith, nat_tests)

position_there : (place : Place) (ty : Ty) → place.0 < 2 ^ 63 → Some tys.Long ≡ Some ty → IsThere ty (Some (scalars.Long (pos place.0)))
position_there place ty h e = let same : tys.Long ≡ ty = cc in subst (λ z. HasTy z (scalars.Long (pos place.0))) same (small_fits place.0 h)

named_there : (held : List Column) (cells : List Scalar) (n : ℕ) (ty : Ty) (o : Option Column) → slice_get held n ≡ o → (o >>= λ column. Some column.ty) ≡ Some ty → AreCells held cells → IsThere ty (slice_get cells n)
named_there held cells n ty (Some column) e k h = let same : column.ty ≡ ty = cc in subst (λ z. IsThere z (slice_get cells n)) same (cell_there held cells n column h e)
named_there held cells n ty None e k h = absurd cc

column_there : (held : List Column) (place : Place) (column : SqlColumn) (ty : Ty) → AreCells held place.1.cells → place.0 < 2 ^ 63 → ty_of_column held column ≡ Some ty → IsThere ty (cell_of place column)
column_there held place columns.Pos ty h lt e = position_there place ty lt e
column_there held place (columns.Named name n) ty h lt e = named_there held place.1.cells n ty (slice_get held n) refl e h

table_there : (schema : Schema) (n : ℕ) (place : Place) (column : SqlColumn) (ty : Ty) (o : Option Table) → slice_get schema n ≡ o → (o >>= λ table. ty_of_column table.columns column) ≡ Some ty → Placed schema n place → IsThere ty (cell_of place column)
table_there schema n place column ty (Some table) e k h = column_there table.columns place column ty (subst (λ (z : List Column). AreCells z place.1.cells) (columns_known schema n table e) h.0.1) h.1 k
table_there schema n place column ty None e k h = absurd cc

abbrev cell_in : Option Place → SqlColumn → Option Scalar
cell_in o column = elim o [ Some place ↦ cell_of place column | None ↦ None ]

from_there : (schema : Schema) (froms : List FromItem) (c : Combination) (col : SqlCol) (ty : Ty) (o : Option FromItem) → Fits schema froms c → nth froms col.item ≡ o → (o >>= λ from. slice_get schema from.table >>= λ table. ty_of_column table.columns col.column) ≡ Some ty → IsThere ty (column_of c col)
from_there schema froms c col ty (Some from) h e k =
    let p = place_nth schema froms c col.item from h e in
    subst (λ z. IsThere ty (cell_in z col.column)) (sym p.there) (table_there schema from.table p.place col.column ty (slice_get schema from.table) refl k p.placed)
from_there schema froms c col ty None h e k = absurd cc

col_there : (schema : Schema) (froms : List FromItem) (c : Combination) (col : SqlCol) (ty : Ty) → Fits schema froms c → ty_of_col schema froms col ≡ Some ty → IsThere ty (column_of c col)
col_there schema froms c col ty h e = from_there schema froms c col ty (nth froms col.item) h refl e

plain_member : (schema : Schema) (ty : Ty) (o : Option Scalar) → IsThere ty o → IsMember schema (ScalarOf ty) (plain_row o)
plain_member schema ty (Some x) h = (refl, (h, tt))
plain_member schema ty None h = absurd h

-- what a query gives as an element
pub data ColumnIs (schema : Schema) (froms : List FromItem) (col : SqlCol) : Single → Type 0 where
  column_is : (ty : Ty) → ty_of_col schema froms col ≡ Some ty → ColumnIs schema froms col (ScalarOf ty)

column_known : (schema : Schema) (froms : List FromItem) (col : SqlCol) (a : Single) (o : Option Ty) → ty_of_col schema froms col ≡ o → option_map ScalarOf o ≡ Some a → ColumnIs schema froms col a
column_known schema froms col a (Some ty) e k = let same : ScalarOf ty ≡ a = cc in subst (ColumnIs schema froms col) same (column_is ty e)
column_known schema froms col a None e k = absurd cc

column_member : (schema : Schema) (froms : List FromItem) (col : SqlCol) (a : Single) (c : Combination) → ColumnIs schema froms col a → Fits schema froms c → IsMember schema a (plain_row (column_of c col))
column_member schema froms col _ c (column_is ty e) h = plain_member schema ty (column_of c col) (col_there schema froms c col ty h e)

abbrev row_in : Option Place → Row
row_in o = elim o [ Some place ↦ place.1 | None ↦ plain_row None ]

row_member : (schema : Schema) (froms : List FromItem) (item : ℕ) (a : Single) (c : Combination) (o : Option FromItem) → nth froms item ≡ o → option_map (λ (from : FromItem). RowOf from.table) o ≡ Some a → Fits schema froms c → IsMember schema a (row_of c item)
row_member schema froms item a c (Some from) e k h =
    let p = place_nth schema froms c item from h e in
    let same : RowOf from.table ≡ a = cc in
    subst (λ z. IsMember schema z (row_of c item)) same (subst (λ z. IsMember schema (RowOf from.table) (row_in z)) (sym p.there) p.placed.0)
row_member schema froms item a c None e k h = absurd cc

item_member : (schema : Schema) (froms : List FromItem) (item : SqlItem) (a : Single) (c : Combination) → item_type schema froms item ≡ Some a → Fits schema froms c → IsMember schema a (item_of item c)
item_member schema froms (items.Whole item) a c e h = row_member schema froms item a c (nth froms item) refl e h
item_member schema froms (items.Column col) a c e h = column_member schema froms col a c (column_known schema froms col a (ty_of_col schema froms col) refl e) h

-- ---- Answers

found_fits : (schema : Schema) (db : Database) (params : List Scalar) (froms : List FromItem) (where_ : Filter) → IsDatabaseOf schema db → AllByRecursion (Fits schema froms) (true_ones db params froms where_)
found_fits schema db params froms where_ h = all_filtered (Fits schema froms) (passes db params where_) (product db froms) (product_fits schema db froms h)

ordered_typed : (schema : Schema) (q : PlainListing) (a : Single) (found : List Combination) → item_type schema q.from q.item ≡ Some a → AllByRecursion (Fits schema q.from) found → AllByRecursion (IsMember schema a) (ordered_rows q found)
ordered_typed schema q a found e h =
    all_map (Fits schema q.from) (IsMember schema a) (item_of q.item) (cut q.limit (stable_sort (before q.keys) found)) (λ c hc. item_member schema q.from q.item a c e hc) (all_cut (Fits schema q.from) q.limit (stable_sort (before q.keys) found) (all_sorted (Fits schema q.from) (before q.keys) found h))

grouped_all : {V : Type 0} (P : V → Type 0) (same : V → V → Bool) (bs : List (ℕ × V)) → AllByRecursion P (map (λ b. b.1) bs) → AllByRecursion P (grouped same bs)
grouped_all P same bs h = all_sorted P (λ v u. sooner (least_position same bs v) (least_position same bs u)) (firsts same (map (λ b. b.1) bs)) (all_firsts P same (map (λ b. b.1) bs) h)

values_typed : (schema : Schema) (froms : List FromItem) (col : SqlCol) (ty : Ty) (found : List Combination) → ty_of_col schema froms col ≡ Some ty → AllByRecursion (Fits schema froms) found → AllByRecursion (IsThere ty) (map (λ (b : ℕ × Option Scalar). b.1) (map (λ c. (position_of c col.item, column_of c col)) found))
values_typed schema froms col ty [] e h = tt
values_typed schema froms col ty (c ∷ cs) e h = (col_there schema froms c col ty h.0 e, values_typed schema froms col ty cs e h.1)

grouped_typed : (schema : Schema) (froms : List FromItem) (col : SqlCol) (limit : Option ℕ) (a : Single) (found : List Combination) → ColumnIs schema froms col a → AllByRecursion (Fits schema froms) found → AllByRecursion (IsMember schema a) (grouped_rows col limit found)
grouped_typed schema froms col limit _ found (column_is ty e) h =
    all_map (IsThere ty) (IsMember schema (ScalarOf ty)) plain_row (cut limit (grouped same_value (map (λ c. (position_of c col.item, column_of c col)) found))) (λ o ho. plain_member schema ty o ho) (all_cut (IsThere ty) limit (grouped same_value (map (λ c. (position_of c col.item, column_of c col)) found)) (grouped_all (IsThere ty) same_value (map (λ c. (position_of c col.item, column_of c col)) found) (values_typed schema froms col ty found e h)))

rows_typed : (schema : Schema) (q : PlainListing) (group : Option SqlCol) (a : Single) (found : List Combination) → element_type schema q group ≡ Some a → AllByRecursion (Fits schema q.from) found → AllByRecursion (IsMember schema a) (rows_from q group found)
rows_typed schema q None a found e h = ordered_typed schema q a found e h
rows_typed schema q (Some col) a found e h = grouped_typed schema q.from col q.limit a found (column_known schema q.from col a (ty_of_col schema q.from col) refl e) h

number_typed : (schema : Schema) (n : ℤ) (b : Bool) → fits_long n ≡ b → IsAnswer schema (Of (ScalarOf tys.Long)) (Some (cond b (One (scalars.Long n)) TooLarge))
number_typed schema n true e = e
number_typed schema n false e = tt

listed_typed : (schema : Schema) (rows : List Row) (k : JavaType) (o : Option Single) → made_of Listed o ≡ Some k → ((a : Single) → o ≡ Some a → AllByRecursion (IsMember schema a) rows) → IsAnswer schema k (Some (Rows rows))
listed_typed schema rows k (Some a) e h = let same : Listed a ≡ k = cc in subst (λ z. IsAnswer schema z (Some (Rows rows))) same (h a refl)
listed_typed schema rows k None e h = absurd cc

query_typed : (schema : Schema) (db : Database) (params : List Scalar) (q : PlainQuery) (k : JavaType) → IsDatabaseOf schema db → answer_type schema q ≡ Some k → IsAnswer schema k (Some (query_answer db params q))
query_typed schema db params (Listing q) k h e = listed_typed schema (rows_from q q.group (true_ones db params q.from q.filter)) k (element_type schema q q.group) e (λ a i. rows_typed schema q q.group a (true_ones db params q.from q.filter) i (found_fits schema db params q.from q.filter h))
query_typed schema db params (Number q) k h e =
    let same : Of (ScalarOf tys.Long) ≡ k = cc in
    subst (λ z. IsAnswer schema z (Some (query_answer db params (Number q)))) same (number_typed schema (whole_number db params q) (fits_long (whole_number db params q)) refl)
query_typed schema db params (Truth q) k h e =
    let same : Of (ScalarOf tys.Bool) ≡ k = cc in
    subst (λ z. IsAnswer schema z (Some (query_answer db params (Truth q)))) same tt

abbrev query_type_with : PlainQuery → JavaType → QueryType
query_type_with q z = record { params = params_in q; answer = z }

answer_kept : (schema : Schema) (q : PlainQuery) (k : QueryType) (o : Option JavaType) → answer_type schema q ≡ o → option_map (λ z. query_type_with q z) o ≡ Some k → answer_type schema q ≡ Some k.answer
answer_kept schema q k (Some z) e h = let same : query_type_with q z ≡ k = cc in e ∙ ap (λ (y : QueryType). Some y.answer) same
answer_kept schema q k None e h = absurd cc

found_typed : (schema : Schema) (db : Database) (params : List Scalar) (o : Option PlainQuery) (k : QueryType) → IsDatabaseOf schema db → type_of_found schema o ≡ Some k → IsAnswer schema k.answer (option_map (query_answer db params) o)
found_typed schema db params (Some q) k h e = query_typed schema db params q k.answer h (answer_kept schema q k (answer_type schema q) refl e)
found_typed schema db params None k h e = absurd cc

-- what a program runs on has the schema and a database of it, and answers texts by their queries' types
pub worlds_are_typed : (schema : Schema) (read : List ℕ → Option PlainQuery) (db : Database) (m : PlainMethod) → IsDatabaseOf schema db → IsWorld (frame_of schema read m) (world_with schema read db)
worlds_are_typed schema read db m h = record { schema = refl; tables = h; asked = λ text args. refl; answers = λ text k args e typed. found_typed schema db args (read text) k h e }
