-- What is written of tables one after the other, and of a bank.
use Rattle.std.proofs.Common.{◌≡◌, ℕ, zero, suc, ◌+◌, ◌≤◌, List, [], ◌∷◌, ◌++◌, drop, length, refl, sym, ap, ◌∙◌, append_assoc, append-nil, arith}
use Rattle.std.specs.List.{AllByRecursion, flat_map}
use Rattle.qbs_base.specs.declared.columns.Table.{Table}
use Rattle.qbs_base.specs.Values.{Schema, Database, AreTables}
use Rattle.small_dbs.specs.declared.small.SmallDb.{SmallDb}
use Rattle.store_parts.specs.Texts.{table_text}
use Rattle.proof_store.specs.Grammar.{IsItemOf}
use Rattle.proof_store.specs.Printing.{text_at}

next_table : (db : Database) (n : ℕ) → flat_map table_text (drop n db) ≡ text_at db n ++ flat_map table_text (drop (suc n) db)
next_table [] zero = refl
next_table [] (suc n) = refl
next_table (t ∷ db) zero = refl
next_table (t ∷ db) (suc n) = next_table db n

past : (db : Database) (n : ℕ) → length db ≤ n → drop n db ≡ []
past [] zero le = refl
past [] (suc n) le = refl
past (t ∷ db) zero le = let q : suc (length db) ≤ 0 = le in absurd (omega (arith, q))
past (t ∷ db) (suc n) le = let q : suc (length db) ≤ suc n = le in past db n (omega (arith, q))

pub next_written : (out new total : List ℕ) (db : Database) (n : ℕ) → new ≡ out ++ text_at db n → out ++ flat_map table_text (drop n db) ≡ total → new ++ flat_map table_text (drop (n + 1) db) ≡ total
next_written out new total db n written so_far =
    let k : n + 1 ≡ suc n = omega arith in
    ap (λ (m : ℕ). new ++ flat_map table_text (drop m db)) k
    ∙ ap (λ (us : List ℕ). us ++ flat_map table_text (drop (suc n) db)) written
    ∙ append_assoc out (text_at db n) (flat_map table_text (drop (suc n) db))
    ∙ ap (λ (us : List ℕ). out ++ us) (sym (next_table db n))
    ∙ so_far

pub all_written : (out total : List ℕ) (db : Database) (n : ℕ) → length db ≤ n → out ++ flat_map table_text (drop n db) ≡ total → out ≡ total
all_written out total db n le so_far =
    sym (append-nil out) ∙ ap (λ (rest : Database). out ++ flat_map table_text rest) (sym (past db n le)) ∙ so_far

-- a database of a schema has as many tables
as_many : (number : ℕ) (tables : List Table) (db : Database) → AreTables number tables db → length db ≡ length tables
as_many number [] [] h = refl
as_many number [] (held ∷ db) h = absurd h
as_many number (t ∷ tables) [] h = absurd h
as_many number (t ∷ tables) (held ∷ db) h = ap (λ (n : ℕ). suc n) (as_many (suc number) tables db h.3)

pub have_few : (schema : Schema) (count : ℕ) (items : List SmallDb) → count ≡ length schema → AllByRecursion (IsItemOf schema) items → AllByRecursion (λ (s : SmallDb). length s.db ≤ count) items
have_few schema count [] is h = tt
have_few schema count (s ∷ items) is h = (omega (arith, is, as_many 0 schema s.db h.0.database), have_few schema count items is h.1)
