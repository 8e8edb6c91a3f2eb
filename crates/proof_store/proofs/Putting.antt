-- Tables and items that are put where they are read: a step of it.
use Rattle.std.proofs.Common.{◌≡◌, ℕ, suc, ◌+◌, ◌-◌, ◌<◌, Bool, false, List, [], ◌∷◌, ◌++◌, length, Ok, Err, refl, sym, ap, ap₂, subst, ◌∙◌, arith, inl, inr}
use Rattle.std.proofs.lemmas.List.{length-append}
use Rattle.readers.specs.declared.fault.ReadError.{ReadError}
use Rattle.readers.specs.declared.fault.ReadError.TheVariants as errors
use Rattle.readers.specs.Reading.{◌>>=◌, Read, Fails, is_over, up_to}
use Rattle.readers.proofs.Loops.{with_front, many_go_on, many_fail}
use Rattle.readers.proofs.Tools.{bind_ok, bind_err, ok_is}
use Rattle.qbs_base.specs.declared.columns.Column.{Column}
use Rattle.qbs_base.specs.declared.columns.Table.{Table}
use Rattle.qbs_base.specs.declared.scalar.Row.{Row}
use Rattle.qbs_base.specs.Values.{Database}
use Rattle.small_dbs.specs.Adding.{AreNew, names_in, with_rows}
use Rattle.small_dbs.specs.declared.small.SmallDb.{SmallDb}
use Rattle.small_dbs.proofs.Adding.{table_added, named_more}
use Rattle.text_readers.specs.Bytes.{Reader}
use Rattle.store_readers.specs.Into.{into, read_into, pushed, row_put}
use Rattle.store_readers.specs.Reading.{rows_at}
use Rattle.proof_store.specs.Reading.{tables_at, table_put, item_put}

-- ---- a table

into_rows : (db : Database) (k : ℕ) (rows : List Row) → into (row_put k) db rows ≡ with_rows db k rows
into_rows db k [] = refl
into_rows db k (r ∷ rows) = into_rows (row_put k db r) k rows

rows_put : (old first : Database) (name own : List ℕ) (k : ℕ) (read : Read ℕ (List Row)) → own ≡ name → k ≡ length old → first ≡ old ++ (own, []) ∷ [] → read_into (row_put k) first read ≡ table_put old name read
rows_put old first name own k (Ok x) named number added =
    ap (λ (db : Database). Ok (db, x.1)) (table_added old first (into (row_put k) first x.0) name own x.0 k named number added (into_rows first k x.0))
rows_put old first name own k (Err e) named number added = refl

pub table_is_put : (old first : Database) (name : List ℕ) (k : ℕ) (cs columns : List Column) (ts : List ℕ) → k ≡ length old → first ≡ old ++ (name, []) ∷ [] → cs ≡ columns → read_into (row_put k) first (rows_at k cs ts) ≡ table_put old name (rows_at (length old) columns ts)
table_is_put old first name k cs columns ts number added own =
    ap₂ (λ (n : ℕ) (c : List Column). read_into (row_put k) first (rows_at n c ts)) number own ∙ rows_put old first name name k (rows_at (length old) columns ts) refl number added

-- of what was put: its number, and the names of what may come
module _ (db new : Database) (name us : List ℕ) (read : Read ℕ (List Row)) (put : table_put db name read ≡ Ok (new, us)) where
  with_it : (rows : List Row) × (new ≡ db ++ (name, rows) ∷ [])
  with_it =
      let a = bind_ok read (λ x. Ok (db ++ (name, x.0) ∷ [], x.1)) (new, us) put in
      (a.0.0, sym (ap (λ (y : Database × List ℕ). y.0) (ok_is (db ++ (name, a.0.0) ∷ [], a.0.1) (new, us) a.2)))

  pub one_longer : length new ≡ suc (length db)
  one_longer = omega (arith, ap length with_it.1, length-append db ((name, with_it.0) ∷ []))

  pub new_behind : (rest : List Table) → AreNew (names_in db ++ name ∷ []) rest → AreNew (names_in new) rest
  new_behind rest h = named_more db new name with_it.0 rest with_it.1 h

-- ---- tables

abbrev paired : List ℕ → List Row → Read ℕ Database → Read ℕ (List Row × Database)
paired name rows read = read >>= λ y. Ok ((rows, y.0), y.1)

abbrev joined : List ℕ → Read ℕ (List Row × Database) → Read ℕ Database
joined name read = read >>= λ z. Ok ((name, z.0.0) ∷ z.0.1, z.1)

one_more : (db : Database) (name : List ℕ) (rows : List Row) (read : Read ℕ Database) → read_into pushed db (joined name (paired name rows read)) ≡ read_into pushed (db ++ (name, rows) ∷ []) read
one_more db name rows (Ok y) = refl
one_more db name rows (Err e) = refl

pub tables_none : (number : ℕ) (db : Database) (all : List Table) (ts : List ℕ) → length all ≡ 0 → read_into pushed db (tables_at number all ts) ≡ Ok (db, ts)
unfolding tables_at
tables_none number db [] ts none = refl
tables_none number db (t ∷ tables) ts none = let q : suc (length tables) ≡ 0 = none in absurd (omega (arith, q))

module _ (db : Database) (t : Table) (tables all : List Table) (ts : List ℕ) (is : all ≡ t ∷ tables) where
  tables_on : (rows : List Row) (us : List ℕ) → rows_at (length db) t.columns ts ≡ Ok (rows, us) → read_into pushed db (tables_at (length db) all ts) ≡ read_into pushed (db ++ (t.name, rows) ∷ []) (tables_at (suc (length db)) tables us)
  unfolding tables_at
  tables_on rows us read = ap (λ (l : List Table). read_into pushed db (tables_at (length db) l ts)) is ∙ rw read (one_more db t.name rows (tables_at (suc (length db)) tables us))

  pub tables_go_on : (new : Database) (us : List ℕ) → table_put db t.name (rows_at (length db) t.columns ts) ≡ Ok (new, us) → read_into pushed db (tables_at (length db) all ts) ≡ read_into pushed new (tables_at (length new) tables us)
  tables_go_on new us e =
      let a = bind_ok (rows_at (length db) t.columns ts) (λ x. Ok (db ++ (t.name, x.0) ∷ [], x.1)) (new, us) e in
      let p = ok_is (db ++ (t.name, a.0.0) ∷ [], a.0.1) (new, us) a.2 in
      let number : suc (length db) ≡ length (db ++ (t.name, a.0.0) ∷ []) = omega (arith, length-append db ((t.name, a.0.0) ∷ [])) in
      tables_on a.0.0 a.0.1 a.1
      ∙ ap (λ (n : ℕ). read_into pushed (db ++ (t.name, a.0.0) ∷ []) (tables_at n tables a.0.1)) number
      ∙ ap (λ (y : Database × List ℕ). read_into pushed y.0 (tables_at (length y.0) tables y.1)) p

  pub tables_fail : (e : ReadError) → Fails e (table_put db t.name (rows_at (length db) t.columns ts)) → Fails e (read_into pushed db (tables_at (length db) all ts))
  unfolding tables_at
  tables_fail errors.Memory h = tt
  tables_fail (errors.Fault f) h = elim (bind_err (rows_at (length db) t.columns ts) (λ x. Ok (db ++ (t.name, x.0) ∷ [], x.1)) f h) [
    | inl read ↦ ap (λ (l : List Table). read_into pushed db (tables_at (length db) l ts)) is ∙ rw read refl
    | inr k ↦ absurd cc
  ]

-- ---- items

module _ (stop : ℕ → Bool) (r : Reader SmallDb) (front : List SmallDb) (count i : ℕ) (ts : List ℕ) (total : Read ℕ (List SmallDb)) where
  pub items_go_on : (new : List SmallDb) (us : List ℕ) → i < count → is_over stop ts ≡ false → item_put front (r ts) ≡ Ok (new, us)
      → with_front front (up_to stop r (count - i) ts) ≡ total → with_front new (up_to stop r (count - (i + 1)) us) ≡ total
  items_go_on new us lt going e so_far =
      let a = bind_ok (r ts) (λ x. Ok (front ++ x.0 ∷ [], x.1)) (new, us) e in
      let p = ok_is (front ++ a.0.0 ∷ [], a.0.1) (new, us) a.2 in
      subst (λ (y : List SmallDb × List ℕ). with_front y.0 (up_to stop r (count - (i + 1)) y.1) ≡ total) p (many_go_on stop r front count i ts total a.0.0 a.0.1 lt going a.1 so_far)

  pub items_fail : (e : ReadError) → i < count → is_over stop ts ≡ false → Fails e (item_put front (r ts)) → with_front front (up_to stop r (count - i) ts) ≡ total → Fails e total
  items_fail errors.Memory lt going h so_far = tt
  items_fail (errors.Fault f) lt going h so_far = elim (bind_err (r ts) (λ x. Ok (front ++ x.0 ∷ [], x.1)) f h) [
    | inl read ↦ many_fail stop r front count i ts total (errors.Fault f) lt going read so_far
    | inr k ↦ absurd cc
  ]

pub items_begin : (stop : ℕ → Bool) (r : Reader SmallDb) (count : ℕ) (ts : List ℕ) → with_front [] (up_to stop r (count - 0) ts) ≡ up_to stop r count ts
items_begin stop r count ts = let k : count - 0 ≡ count = omega arith in ap (λ (n : ℕ). with_front [] (up_to stop r n ts)) k ∙ without (up_to stop r count ts)
  where
    without : (read : Read ℕ (List SmallDb)) → with_front [] read ≡ read
    without (Ok xs) = refl
    without (Err e) = refl
