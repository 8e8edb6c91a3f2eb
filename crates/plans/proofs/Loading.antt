-- Tables that are loaded one after the other are those that the texts have.
use Rattle.std.proofs.Common.{◌≡◌, ℕ, zero, suc, ◌+◌, ◌<◌, ◌≤◌, ◌^◌, Bool, false, List, [], ◌∷◌, ◌++◌, length, map, take, drop, get_or, Option, Some, None, Result, Ok, Err, refl, sym, ap, subst, ◌∙◌, arith, append_assoc}
use Rattle.std.specs.Prelude.{slice_get, slice_set}
use Rattle.std.specs.List.{AllByRecursion, IsDistinct}
use Rattle.std.specs.Str.{bytes_eq}
use Rattle.std.proofs.lemmas.List.{append-nil}
use Rattle.std.proofs.lemmas.Option.{slice_get-get_or}
use Rattle.qbs_base.specs.declared.columns.Table.{Table}
use Rattle.qbs_base.specs.declared.scalar.Row.{Row}
use Rattle.qbs_base.specs.Named.{at_name}
use Rattle.qbs_base.specs.Tables.{NamedRows, with_row}
use Rattle.qbs_base.specs.Values.{Schema, Database, IsRowOf, AreTables, IsDatabaseOf}
use Rattle.schema.specs.declared.fault.DataFault.{DataFault}
use Rattle.schema.specs.Rows.{table_rows, columns_of, most_rows}
use Rattle.schema.specs.Rules.{IsSchema}
use Rattle.qbs_base.specs.declared.status.Status.{Status}
use Rattle.deliveries.specs.declared.plan.Plan.{Plan}
use Rattle.deliveries.specs.declared.fetch.Stop.{Stop}
use Rattle.deliveries.specs.Code.{StopsWith}
use Rattle.plans.specs.Lines.{data_text}
use Rattle.deliveries.specs.Plan.{refusal}
use Rattle.plans.specs.Tables.{TableFault, with_rows, loaded_from, loaded, with_rows_at, IsFresh, IsNext, IsNoNext, LoadsNext, Loads, data_refusal}

-- ---- rows that were put into the last table

last_held : {A : Type 0} (before : List A) (y : A) → slice_get (before ++ y ∷ []) (length before) ≡ Some y
last_held [] y = refl
last_held (x ∷ before) y = last_held before y

last_set : {A : Type 0} (before : List A) (y z : A) → slice_set (before ++ y ∷ []) (length before) z ≡ before ++ z ∷ []
last_set [] y z = refl
last_set (x ∷ before) y z = ap (λ rest. x ∷ rest) (last_set before y z)

row_put : (before : Database) (name : List ℕ) (rows : List Row) (row : Row) → with_row (before ++ (name, rows) ∷ []) (length before) row ≡ before ++ (name, rows ++ row ∷ []) ∷ []
row_put before name rows row = rw (with_row, last_held before (name, rows)) (last_set before (name, rows) (name, rows ++ row ∷ []))

pub rows_put : (before : Database) (name : List ℕ) (rows more : List Row) → with_rows_at (before ++ (name, rows) ∷ []) (length before) more ≡ before ++ (name, rows ++ more) ∷ []
rows_put before name rows [] = ap (λ held. before ++ (name, held) ∷ []) (sym (append-nil rows))
rows_put before name rows (row ∷ more) =
    ap (λ db. with_rows_at db (length before) more) (row_put before name rows row)
    ∙ rows_put before name (rows ++ row ∷ []) more
    ∙ ap (λ held. before ++ (name, held) ∷ []) (append_assoc rows (row ∷ []) more)

-- ---- the loop over the tables

abbrev pub joined : Database → Result Database TableFault → Result Database TableFault
joined db (Ok further) = Ok (db ++ further)
joined db (Err fault) = Err fault

abbrev held_as : Database → Result Database TableFault
held_as db = Ok db

joined_on : (db : Database) (name : List ℕ) (rows : List Row) (further : Result Database TableFault) → joined db (with_rows name (Ok rows) further) ≡ joined (db ++ (name, rows) ∷ []) further
joined_on db name rows (Ok further) = ap held_as (sym (append_assoc db ((name, rows) ∷ []) further))
joined_on db name rows (Err fault) = refl

pub drop_held : {A : Type 0} (xs : List A) (n : ℕ) (x : A) → slice_get xs n ≡ Some x → drop n xs ≡ x ∷ drop (suc n) xs
drop_held [] n x e = absurd cc
drop_held (y ∷ ys) zero x e = let same : y ≡ x = cc in ap (λ z. z ∷ ys) same
drop_held (y ∷ ys) (suc n) x e = drop_held ys n x e

take_held : {A : Type 0} (xs : List A) (n : ℕ) (x : A) → slice_get xs n ≡ Some x → take (suc n) xs ≡ take n xs ++ x ∷ []
take_held [] n x e = absurd cc
take_held (y ∷ ys) zero x e = let same : y ≡ x = cc in ap (λ z. z ∷ []) same
take_held (y ∷ ys) (suc n) x e = ap (λ zs. y ∷ zs) (take_held ys n x e)

loaded_at : (schema : Schema) (n : ℕ) (texts : List (List ℕ)) (table : Table) (text : List ℕ) → slice_get schema n ≡ Some table → slice_get texts n ≡ Some text →
    loaded_from schema n (drop n schema) (drop n texts) ≡ with_rows table.name (table_rows schema n text) (loaded_from schema (suc n) (drop (suc n) schema) (drop (suc n) texts))
unfolding loaded_from
loaded_at schema n texts table text is has = rw (drop_held schema n table is, drop_held texts n text has) refl

pub loaded_on : (schema : Schema) (n : ℕ) (texts : List (List ℕ)) (text : List ℕ) (old new : Database) → slice_get texts n ≡ Some text → IsNext schema n text old new →
    joined old (loaded_from schema n (drop n schema) (drop n texts)) ≡ loaded schema texts → joined new (loaded_from schema (suc n) (drop (suc n) schema) (drop (suc n) texts)) ≡ loaded schema texts
loaded_on schema n texts text old new has next e =
    ap (λ db. joined db (loaded_from schema (suc n) (drop (suc n) schema) (drop (suc n) texts))) next.added
    ∙ sym (joined_on old next.table.name next.rows (loaded_from schema (suc n) (drop (suc n) schema) (drop (suc n) texts)))
    ∙ ap (λ rows. joined old (with_rows next.table.name rows (loaded_from schema (suc n) (drop (suc n) schema) (drop (suc n) texts)))) (sym next.read)
    ∙ ap (joined old) (sym (loaded_at schema n texts next.table text next.held has))
    ∙ e

pub loaded_not : (schema : Schema) (n : ℕ) (texts : List (List ℕ)) (text : List ℕ) (old : Database) (plan : Plan) → slice_get texts n ≡ Some text → IsNoNext schema n text plan →
    joined old (loaded_from schema n (drop n schema) (drop n texts)) ≡ loaded schema texts → (fault : TableFault) × (loaded schema texts ≡ Err fault) × (plan ≡ data_refusal fault)
loaded_not schema n texts text old plan has stop e = (
  record { table = stop.table.name; fault = stop.fault },
  sym e ∙ ap (joined old) (loaded_at schema n texts stop.table text stop.held has ∙ ap (λ rows. with_rows stop.table.name rows (loaded_from schema (suc n) (drop (suc n) schema) (drop (suc n) texts))) stop.read),
  stop.due,
)

pub all_dropped : {A : Type 0} (xs : List A) (n : ℕ) → length xs ≡ n → drop n xs ≡ []
all_dropped [] zero e = refl
all_dropped [] (suc n) e = absurd cc
all_dropped (x ∷ xs) zero e = absurd cc
all_dropped (x ∷ xs) (suc n) e = let less : length xs ≡ n = omega arith in all_dropped xs n less

pub loaded_all : (schema : Schema) (texts : List (List ℕ)) (db : Database) → length texts ≡ length schema →
    joined db (loaded_from schema (length texts) (drop (length texts) schema) (drop (length texts) texts)) ≡ loaded schema texts → loaded schema texts ≡ Ok db
unfolding loaded_from
loaded_all schema texts db same e =
    let none : drop (length texts) schema ≡ [] = all_dropped schema (length texts) (sym same) in
    let ended : joined db (loaded_from schema (length texts) [] (drop (length texts) texts)) ≡ loaded schema texts = subst (λ tables. joined db (loaded_from schema (length texts) tables (drop (length texts) texts)) ≡ loaded schema texts) none e in
    sym ended ∙ ap held_as (append-nil db)

-- ---- the tables so far are those of the schema

tables_on : (k : ℕ) (tables : List Table) (db : Database) (table : Table) (rows : List Row) → AreTables k tables db → AllByRecursion (IsRowOf (k + length tables) table.columns) rows → length rows < 2 ^ 63 →
    AreTables k (tables ++ table ∷ []) (db ++ (table.name, rows) ∷ [])
tables_on k [] [] table rows h typed few = let here : k + 0 ≡ k = omega arith in (refl, few, subst (λ n. AllByRecursion (IsRowOf n table.columns) rows) here typed, tt)
tables_on k [] (held ∷ db) table rows h typed few = absurd h
tables_on k (t ∷ ts) [] table rows h typed few = absurd h
tables_on k (t ∷ ts) (held ∷ db) table rows h typed few =
    let later : k + suc (length ts) ≡ suc k + length ts = omega arith in
    (h.0, h.1, h.2, tables_on (suc k) ts db table rows h.3 (subst (λ n. AllByRecursion (IsRowOf n table.columns) rows) later typed) few)

taken : {A : Type 0} (xs : List A) (n : ℕ) (x : A) → slice_get xs n ≡ Some x → length (take n xs) ≡ n
taken [] n x e = absurd cc
taken (y ∷ ys) zero x e = refl
taken (y ∷ ys) (suc n) x e = ap suc (taken ys n x e)

pub tables_next : (schema : Schema) (n : ℕ) (text : List ℕ) (old new : Database) → IsNext schema n text old new → AreTables 0 (take n schema) old → AreTables 0 (take (suc n) schema) new
tables_next schema n text old new next h =
    rw (take_held schema n next.table next.held, next.added)
    (tables_on 0 (take n schema) old next.table next.rows h (let here : n ≡ 0 + length (take n schema) = (let k : length (take n schema) ≡ n = taken schema n next.table next.held in omega arith) in subst (λ k. AllByRecursion (IsRowOf k next.table.columns) next.rows) here next.typed) next.few)

tables_many : (k : ℕ) (tables : List Table) (db : Database) → AreTables k tables db → length db ≡ length tables
tables_many k [] [] h = refl
tables_many k [] (held ∷ db) h = absurd h
tables_many k (t ∷ ts) [] h = absurd h
tables_many k (t ∷ ts) (held ∷ db) h = ap suc (tables_many (suc k) ts db h.3)

pub number_next : (schema : Schema) (n : ℕ) (table : Table) (db : Database) → slice_get schema n ≡ Some table → AreTables 0 (take n schema) db → n ≡ length db
number_next schema n table db is h = sym (taken schema n table is) ∙ sym (tables_many 0 (take n schema) db h)

all_taken : {A : Type 0} (xs : List A) (n : ℕ) → length xs ≡ n → take n xs ≡ xs
all_taken [] zero e = refl
all_taken [] (suc n) e = absurd cc
all_taken (x ∷ xs) zero e = absurd cc
all_taken (x ∷ xs) (suc n) e = let less : length xs ≡ n = omega arith in ap (λ ys. x ∷ ys) (all_taken xs n less)

pub database : (schema : Schema) (n : ℕ) (db : Database) → n ≡ length schema → AreTables 0 (take n schema) db → IsDatabaseOf schema db
database schema n db e h = subst (λ tables. AreTables 0 tables db) (all_taken schema n (sym e)) h

-- ---- the next table's name is new

not_among : (e : List ℕ → List ℕ → Bool) (names : List (List ℕ)) (n : ℕ) (name : List ℕ) → IsDistinct e names → slice_get names n ≡ Some name → AllByRecursion (λ earlier. e earlier name ≡ false) (take n names)
unfolding IsDistinct
not_among e [] n name h is = absurd cc
not_among e (x ∷ xs) zero name h is = tt
not_among e (x ∷ xs) (suc n) name h is = (later x xs n name h.0 is, not_among e xs n name h.1 is)
  where
    later : (x : List ℕ) (xs : List (List ℕ)) (n : ℕ) (name : List ℕ) → AllByRecursion (λ y. e x y ≡ false) xs → slice_get xs n ≡ Some name → e x name ≡ false
    later x [] n name all is = absurd cc
    later x (y ∷ ys) zero name all is = let same : y ≡ name = cc in subst (λ z. e x z ≡ false) same all.0
    later x (y ∷ ys) (suc n) name all is = later x ys n name all.1 is

none_at : (k : ℕ) (tables : List Table) (db : Database) (name : List ℕ) → AreTables k tables db → AllByRecursion (λ earlier. bytes_eq earlier name ≡ false) (map (λ t. t.name) tables) → at_name db name ≡ None
none_at k [] [] name h all = refl
none_at k [] (held ∷ db) name h all = absurd h
none_at k (t ∷ ts) [] name h all = absurd h
none_at k (t ∷ ts) (held ∷ db) name h all =
    let other : bytes_eq held.0 name ≡ false = ap (λ earlier. bytes_eq earlier name) h.0 ∙ all.0 in
    rw other (none_at (suc k) ts db name h.3 all.1)

names_taken : (tables : List Table) (n : ℕ) → map (λ t. t.name) (take n tables) ≡ take n (map (λ t. t.name) tables)
names_taken [] zero = refl
names_taken [] (suc n) = refl
names_taken (t ∷ ts) zero = refl
names_taken (t ∷ ts) (suc n) = ap (λ names. t.name ∷ names) (names_taken ts n)

name_held : (tables : List Table) (n : ℕ) (table : Table) → slice_get tables n ≡ Some table → slice_get (map (λ t. t.name) tables) n ≡ Some table.name
name_held [] n table e = absurd cc
name_held (t ∷ ts) zero table e = let same : t ≡ table = cc in ap (λ (u : Table). Some u.name) same
name_held (t ∷ ts) (suc n) table e = name_held ts n table e

pub fresh_next : (schema : Schema) (n : ℕ) (db : Database) → IsSchema schema → AreTables 0 (take n schema) db → IsFresh schema n db
fresh_next schema n db sound h table is =
    none_at 0 (take n schema) db table.name h
    (subst (AllByRecursion (λ earlier. bytes_eq earlier table.name ≡ false)) (sym (names_taken schema n))
    (not_among bytes_eq (map (λ t. t.name) schema) n table.name sound.distinct (name_held schema n table is)))

-- ---- rows that are put keep the number of tables

set_keeps : {A : Type 0} (xs : List A) (n : ℕ) (x : A) → length (slice_set xs n x) ≡ length xs
set_keeps [] n x = refl
set_keeps (y ∷ ys) zero x = refl
set_keeps (y ∷ ys) (suc n) x = ap suc (set_keeps ys n x)

pub row_keeps : (db : Database) (n : ℕ) (row : Row) → length (with_row db n row) ≡ length db
row_keeps db n row = by (slice_get db n)
  where
    by : (o : Option NamedRows) → length {A = NamedRows} (elim o [ Some table ↦ slice_set db n (table.0, table.1 ++ row ∷ []) | None ↦ db ]) ≡ length db
    by (Some table) = set_keeps db n (table.0, table.1 ++ row ∷ [])
    by None = refl

-- ---- one table more

pub held_in : (tables schema : List Table) (n : ℕ) (table : Table) → tables ≡ schema → n < length schema → table ≡ get_or tables n table → slice_get schema n ≡ Some table
held_in tables schema n table same within is =
    subst (λ (ts : List Table). slice_get ts n ≡ Some table) same
    (slice_get-get_or tables n table (subst (λ (ts : List Table). n < length ts) (sym same) within) ∙ ap (λ (t : Table). Some t) (sym is))

pub columns_held : (schema : Schema) (n : ℕ) (table : Table) → slice_get schema n ≡ Some table → columns_of schema n ≡ table.columns
columns_held schema n table held = rw (columns_of, held) refl

pub next_loaded : (schema : Schema) (n : ℕ) (text : List ℕ) (old first new : Database) (table : Table) (rows : List Row) (name : List ℕ) (k : ℕ) →
    slice_get schema n ≡ Some table → table_rows schema n text ≡ Ok rows → AllByRecursion (IsRowOf n (columns_of schema n)) rows → length rows ≤ most_rows →
    name ≡ table.name → k ≡ length old → first ≡ old ++ (name, []) ∷ [] → new ≡ with_rows_at first k rows → IsNext schema n text old new
next_loaded schema n text old first new table rows name k held read typed few named number added put =
    record {
      table = table;
      rows = rows;
      held = held;
      read = read;
      added = put ∙ ap (λ db. with_rows_at db k rows) added ∙ ap (λ j. with_rows_at (old ++ (name, []) ∷ []) j rows) number ∙ rows_put old name [] rows ∙ ap (λ called. old ++ (called, rows) ∷ []) named;
      typed = subst (λ columns. AllByRecursion (IsRowOf n columns) rows) (columns_held schema n table held) typed;
      few = omega arith;
    }

pub next_refused : (A : Type 0) (schema : Schema) (n : ℕ) (text : List ℕ) (old new : Database) (table : Table) (fault : DataFault) (stop : Stop) →
    slice_get schema n ≡ Some table → table_rows schema n text ≡ Err fault → StopsWith (refusal Status.Data (data_text table.name fault)) stop → LoadsNext {A = A} schema n text old new (Err stop)
next_refused A schema n text old new table fault (Stop.Due plan) held read due = record { table = table; fault = fault; held = held; read = read; due = due }
next_refused A schema n text old new table fault Stop.Memory held read due = tt

pub not_loaded : (A : Type 0) (schema : Schema) (n : ℕ) (texts : List (List ℕ)) (text : List ℕ) (old new : Database) (stop : Stop) → slice_get texts n ≡ Some text → LoadsNext {A = A} schema n text old new (Err stop) →
    joined old (loaded_from schema n (drop n schema) (drop n texts)) ≡ loaded schema texts → Loads schema texts (Err stop)
not_loaded A schema n texts text old new (Stop.Due plan) has next e = loaded_not schema n texts text old plan has next e
not_loaded A schema n texts text old new Stop.Memory has next e = tt

taken_all : {A : Type 0} (xs : List A) (n : ℕ) → n ≤ length xs → length (take n xs) ≡ n
taken_all [] zero le = refl
taken_all [] (suc n) le = absurd (omega arith)
taken_all (x ∷ xs) zero le = refl
taken_all (x ∷ xs) (suc n) le = let less : n ≤ length xs = omega arith in ap suc (taken_all xs n less)

pub number_is : (schema : Schema) (n : ℕ) (db : Database) → n ≤ length schema → AreTables 0 (take n schema) db → n ≡ length db
number_is schema n db le h = sym (taken_all schema n le) ∙ sym (tables_many 0 (take n schema) db h)

-- ---- rows that are put one after the other

pub rows_on : (first db new : Database) (k : ℕ) (all left rest : List Row) (row : Row) → left ≡ row ∷ rest → new ≡ with_row db k row →
    (with_rows_at db k left ≡ with_rows_at first k all) × (k < length db) → (with_rows_at new k rest ≡ with_rows_at first k all) × (k < length new)
rows_on first db new k all left rest row is put h = (
  ap (λ d. with_rows_at d k rest) put ∙ sym (ap (with_rows_at db k) is) ∙ h.0,
  subst (λ (n : ℕ). k < n) (sym (ap (λ (d : Database). length d) put ∙ row_keeps db k row)) h.1,
)

-- ---- texts at their places, and the end

pub text_at : (texts : List (List ℕ)) (n : ℕ) (x y : List ℕ) → n < length texts → x ≡ get_or texts n x → y ≡ x → slice_get texts n ≡ Some y
text_at texts n x y within is read = slice_get-get_or texts n x within ∙ ap (λ (t : List ℕ). Some t) (sym is ∙ sym read)

pub loaded_end : (schema : Schema) (texts : List (List ℕ)) (db : Database) (n : ℕ) → length texts ≡ length schema → n ≡ length schema →
    joined db (loaded_from schema n (drop n schema) (drop n texts)) ≡ loaded schema texts → loaded schema texts ≡ Ok db
loaded_end schema texts db n same is e =
    loaded_all schema texts db same (subst (λ (k : ℕ). joined db (loaded_from schema k (drop k schema) (drop k texts)) ≡ loaded schema texts) (is ∙ sym same) e)

pub within_texts : (tables schema : List Table) (texts : List (List ℕ)) (n : ℕ) → tables ≡ schema → length texts ≡ length schema → n < length tables → (n < length schema) × (n < length texts)
within_texts tables schema texts n same many lt =
    let within : n < length schema = subst (λ (ts : List Table). n < length ts) same lt in
    (within, subst (λ (k : ℕ). n < k) (sym many) within)
