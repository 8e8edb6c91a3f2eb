-- What is read is a store of the schema, and each store is read.
use Rattle.std.proofs.Common.{◌≡◌, ℕ, suc, true, ◌&&◌, List, [], ◌∷◌, ◌++◌, length, take, Result, Ok, Err, IfOk, IfErr, refl}
use Rattle.std.specs.List.{AllByRecursion, list_all}
use Rattle.std.proofs.lemmas.Bool.{and_parts, and_from}
use Rattle.qbs_base.specs.declared.columns.Table.{Table}
use Rattle.qbs_base.specs.declared.memory.Fail.{Fail}
use Rattle.qbs_base.specs.declared.memory.Fail.TheVariants as fails
use Rattle.qbs_base.specs.Values.{Schema, Database, AreTables}
use Rattle.small_dbs.specs.declared.small.SmallDb.{SmallDb}
use Rattle.text_readers.specs.Answers.{IsOnly, IsRightFault, AnswersAt}
use Rattle.text_readers.specs.Offsets.{Each, IsOffset}
use Rattle.text_readers.proofs.Exact.{IsText}
use Rattle.text_readers.proofs.Whole.{answer_found, answer_only, answer_fault}
use Rattle.store_parts.specs.Limits.{is_small_table, are_written, are_small_lists}
use Rattle.store_readers.proofs.Stored.{rows_are, rows_of, values_are, values_of, known_are, known_of}
use Rattle.proof_store.specs.Grammar.{IsItemOf, HasStore}
use Rattle.proof_store.specs.Limits.{is_within}
use Rattle.proof_store.specs.Readable.{AreReadTables, IsReadItem, AreReadItems}
use Rattle.proof_store.specs.Reading.{read_all}
use Rattle.proof_store.specs.Texts.{store_text}
use Rattle.proof_store.proofs.ExactStores.{exact_store}

tables_are : (number : ℕ) (tables : List Table) (db : Database) → AreReadTables number tables db → AreTables number tables db × (list_all is_small_table db ≡ true)
tables_are number [] [] h = (tt, refl)
tables_are number [] (held ∷ db) h = absurd h
tables_are number (t ∷ tables) [] h = absurd h
tables_are number (t ∷ tables) (held ∷ db) h =
    let one = rows_are number t.columns held.1 h.1 in
    let others = tables_are (suc number) tables db h.2 in
    ((h.0, one.0, one.1, others.0), and_from (is_small_table held) (list_all is_small_table db) one.2 others.1)

tables_of : (number : ℕ) (tables : List Table) (db : Database) → AreTables number tables db → list_all is_small_table db ≡ true → AreReadTables number tables db
tables_of number [] [] h w = tt
tables_of number [] (held ∷ db) h w = absurd h
tables_of number (t ∷ tables) [] h w = absurd h
tables_of number (t ∷ tables) (held ∷ db) h w =
    let p = and_parts (is_small_table held) (list_all is_small_table db) w in
    (h.0, rows_of number t.columns held.1 h.2 p.0, tables_of (suc number) tables db h.3 p.1)

item_is : (schema : Schema) (s : SmallDb) → IsReadItem schema s → IsItemOf schema s × (is_within s ≡ true)
item_is schema s h =
    let tables = tables_are 0 schema s.db h.0 in
    let known = known_are s.entry.known h.1.1 in (
      record { database = tables.0; known = known.0 },
      and_from (list_all is_small_table s.db) (are_written s.entry.values && are_small_lists s.entry.known) tables.1 (and_from (are_written s.entry.values) (are_small_lists s.entry.known) (values_are s.entry.values h.1.0) known.1),
    )

item_of : (schema : Schema) (s : SmallDb) → IsItemOf schema s → is_within s ≡ true → IsReadItem schema s
item_of schema s h w =
    let p = and_parts (list_all is_small_table s.db) (are_written s.entry.values && are_small_lists s.entry.known) w in
    let q = and_parts (are_written s.entry.values) (are_small_lists s.entry.known) p.1 in
    (tables_of 0 schema s.db h.database p.0, (values_of s.entry.values q.0, known_of s.entry.known h.known q.1))

items_are : (schema : Schema) (items : List SmallDb) → Each (IsReadItem schema) items → AllByRecursion (IsItemOf schema) items × (list_all is_within items ≡ true)
items_are schema [] h = (tt, refl)
items_are schema (s ∷ items) h =
    let one = item_is schema s h.0 in
    let others = items_are schema items h.1 in
    ((one.0, others.0), and_from (is_within s) (list_all is_within items) one.1 others.1)

items_of : (schema : Schema) (items : List SmallDb) → AllByRecursion (IsItemOf schema) items → list_all is_within items ≡ true → Each (IsReadItem schema) items
items_of schema [] h w = tt
items_of schema (s ∷ items) h w =
    let p = and_parts (is_within s) (list_all is_within items) w in
    (item_of schema s h.0 p.0, items_of schema items h.1 p.1)

abbrev IsReadText : Schema → List ℕ → List SmallDb → Type 0
IsReadText schema bytes items = IsText store_text (AreReadItems schema) bytes items

store_is : (schema : Schema) (bytes : List ℕ) (items : List SmallDb) → IsReadText schema bytes items → HasStore schema bytes items
store_is schema bytes items h =
    let each = items_are schema items h.1.1 in
    record { text = h.0; stored = record { few = h.1.0; within = each.1 }; items_of = each.0 }

pub store_of : (schema : Schema) (bytes : List ℕ) (items : List SmallDb) → HasStore schema bytes items → IsReadText schema bytes items
store_of schema bytes items h = (h.text, (h.stored.few, items_of schema items h.items_of h.stored.within))

-- ---- what is answered

module _ {A : Type 0} (P Q : List ℕ → A → Type 0) (turn : (ts : List ℕ) (x : A) → P ts x → Q ts x) (back : (ts : List ℕ) (x : A) → Q ts x → P ts x) where
  same_offset : (bytes : List ℕ) (offset : ℕ) → IsOffset P bytes offset → IsOffset Q bytes offset
  same_offset bytes offset h = record {
    within = h.within;
    begins = let b = h.begins in (b.0, b.1, turn (take offset bytes ++ b.0) b.1 b.2);
    longest = λ n more le b. h.longest n more le (b.0, b.1, back (take n bytes ++ b.0) b.1 b.2);
    no_member = λ x q. h.no_member x (back bytes x q);
  }

  module _ {X E : Type 0} (place : E → ℕ) (view : X → A) (bytes : List ℕ) where
    same_found : (a : Result X (Fail E)) → IfOk a (λ x. P bytes (view x)) → IfOk a (λ x. Q bytes (view x))
    same_found (Ok x) h = turn bytes (view x) h
    same_found (Err e) h = tt

    same_fault : (a : Result X (Fail E)) → IfErr a (IsRightFault place P bytes) → IfErr a (IsRightFault place Q bytes)
    same_fault (Ok x) h = tt
    same_fault (Err (fails.Fault fault)) h = same_offset bytes (place fault) h
    same_fault (Err fails.NoMemory) h = tt

module _ {X E : Type 0} (place : E → ℕ) (view : X → List SmallDb) (schema : Schema) (bytes : List ℕ) (a : Result X (Fail E)) where
  pub store_found : AnswersAt place view (length bytes) a (read_all schema bytes) → IfOk a (λ x. HasStore schema bytes (view x))
  unfolding read_all
  store_found is = same_found (IsReadText schema) (HasStore schema) (store_is schema) (store_of schema) place view bytes a (answer_found (exact_store schema) tt place view bytes a is)

  pub store_only : AnswersAt place view (length bytes) a (read_all schema bytes) → (items : List SmallDb) → HasStore schema bytes items → IsOnly view a items
  unfolding read_all
  store_only is items h = answer_only (exact_store schema) tt place view bytes a is items (store_of schema bytes items h)

  pub store_fault : AnswersAt place view (length bytes) a (read_all schema bytes) → IfErr a (IsRightFault place (HasStore schema) bytes)
  unfolding read_all
  store_fault is = same_fault (IsReadText schema) (HasStore schema) (store_is schema) (store_of schema) place view bytes a (answer_fault (exact_store schema) tt place view bytes a is)
