-- Tables, items and stores: the readers are exact.
use Rattle.std.proofs.Common.{◌≡◌, ℕ, suc, true, List, [], ◌∷◌, ◌++◌, refl, sym, ap}
use Rattle.std.specs.Prelude.{codes}
use Rattle.std.specs.List.{flat_map}
use Rattle.readers.specs.Reading.{is_over}
use Rattle.readers.proofs.Again.{Any}
use Rattle.qbs_base.specs.declared.columns.Table.{Table}
use Rattle.qbs_base.specs.declared.scalar.Row.{Row}
use Rattle.qbs_base.specs.Values.{Schema, Database}
use Rattle.kernel_lang.specs.declared.parts.Entry.{Entry}
use Rattle.text_readers.proofs.Exact.{Exact, exact_both, exact_made, exact_word}
use Rattle.store_parts.specs.Texts.{table_text, rows_text, entry_text, known_text}
use Rattle.store_readers.specs.Readable.{AreReadRows}
use Rattle.store_readers.proofs.ExactParts.{exact_done, exact_rows, exact_entry, exact_known}
use Rattle.proof_store.specs.Limits.{most_items}
use Rattle.proof_store.specs.Texts.{item_text, store_text}
use Rattle.proof_store.specs.Reading.{tables_at, entry_from, given_at, item_from, item_at, is_end, items_at, store_at}
use Rattle.proof_store.specs.Readable.{AreReadTables, IsReadEntry, IsReadItem, AreReadItems}
use Rattle.proof_store.proofs.UpTo.{exact_up_to}

exact_tables : (number : ℕ) (tables : List Table) → Exact (flat_map table_text) (AreReadTables number tables) Any (tables_at number tables)
unfolding tables_at
exact_tables number [] = exact_done (flat_map table_text) (AreReadTables number []) [] refl tt only
  where
    only : (db : Database) → AreReadTables number [] db → [] ≡ db
    only [] h = refl
    only (held ∷ db) h = absurd h
exact_tables number (t ∷ tables) =
    exact_made (flat_map table_text) (AreReadTables number (t ∷ tables)) (λ x. (t.name, x.0) ∷ x.1) (exact_both (exact_rows number t.columns) (exact_tables (suc number) tables) (λ db rest h g. tt)) (λ x h. (refl, (refl, h.0, h.1))) back
  where
    back : (db : Database) → AreReadTables number (t ∷ tables) db
        → (x : List Row × Database) × ((t.name, x.0) ∷ x.1 ≡ db) × (flat_map table_text db ≡ rows_text x.0 ++ flat_map table_text x.1) × (AreReadRows number t.columns x.0 × AreReadTables (suc number) tables x.1)
    back [] h = absurd h
    back (held ∷ db) h = ((held.1, db), ap (λ (name : List ℕ). (name, held.1) ∷ db) (sym h.0), refl, (h.1, h.2))

abbrev given_text : Entry → List ℕ
given_text e = entry_text e.values ++ known_text e.known

exact_given : Exact given_text IsReadEntry Any given_at
unfolding given_at
exact_given = exact_made given_text IsReadEntry entry_from (exact_both exact_entry exact_known (λ known rest h g. tt)) (λ x h. (refl, h)) (λ e h. ((e.values, e.known), refl, refl, h))

exact_item : (schema : Schema) → Exact item_text (IsReadItem schema) Any (item_at schema)
unfolding item_at
exact_item schema =
    exact_made item_text (IsReadItem schema) item_from (exact_both (exact_word (codes "base\n")) (exact_both (exact_tables 0 schema) exact_given (λ e rest h g. tt)) (λ x rest h g. tt))
    (λ x h. (refl, h.1)) (λ s h. ((tt, (s.db, s.entry)), refl, refl, (tt, h)))

exact_items : (schema : Schema) → Exact (flat_map item_text) (AreReadItems schema) (λ rest. is_over is_end rest ≡ true) (items_at schema)
unfolding items_at
exact_items schema = exact_up_to is_end (exact_item schema) (λ s h. (98, _, refl, refl)) most_items

pub exact_store : (schema : Schema) → Exact store_text (AreReadItems schema) Any (store_at schema)
unfolding store_at
exact_store schema =
    exact_made store_text (AreReadItems schema) (λ x. x.1.0) (exact_both (exact_word (codes "qbs store 1\n")) (exact_both (exact_items schema) (exact_word (codes "end\n")) (λ u rest h g. refl)) (λ x rest h g. tt))
    (λ x h. (refl, h.1.0)) (λ items h. ((tt, (items, tt)), refl, refl, (tt, (h, tt))))
